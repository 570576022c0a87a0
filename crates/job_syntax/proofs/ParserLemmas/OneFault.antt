-- Tokens have at most one fault, and none where they are derived and clean.
use Rattle.std.proofs.Common.{◌≡◌, ℕ, List, [], ◌∷◌, ◌++◌, sym, ap, ◌∙◌, append_assoc, append-nil, arith, subst, inl, inr}
use Rattle.job_syntax.specs.declared.lexer.word.WordOnLine.{WordOnLine}
use Rattle.job_syntax.specs.declared.fault.JobFault.{JobFault}
use Rattle.job_syntax.specs.declared.fault.JobFault.TheVariants as fault
use Rattle.job_syntax.specs.Grammar.{Items, Derives}
use Rattle.job_syntax.specs.Faults.{words_of, IsClean, AreClean, Faults, IsReadingFaultBehind}

clean_or_faulty : (before : List WordOnLine) (token : WordOnLine) (f : JobFault) → Faults before token f → IsClean before token → ⊥
clean_or_faulty before token (fault.Grammar line) found clean = found.1 clean.stands
clean_or_faulty before token (fault.Number line) found clean = let good = clean.numbers in let bad = found.2 in cc (good, bad)
clean_or_faulty before token (fault.Nesting line) found clean = let room = clean.nests found.3 in let none = found.4 in omega (arith, room, none)
clean_or_faulty before token (fault.Name line) found clean = found.4 (clean.known found.2 found.3)
clean_or_faulty before token (fault.Byte line) found clean = found
clean_or_faulty before token (fault.Leaves line) found clean = found
clean_or_faulty before token (fault.Argument line) found clean = found

one_fault : (before : List WordOnLine) (token : WordOnLine) (f g : JobFault) → Faults before token f → Faults before token g → f ≡ g
one_fault before token (fault.Grammar l) (fault.Grammar m) found also = ap (λ line. fault.Grammar line) (found.0 ∙ sym also.0)
one_fault before token (fault.Grammar l) (fault.Number m) found also = absurd (found.1 also.1)
one_fault before token (fault.Grammar l) (fault.Nesting m) found also = absurd (found.1 also.1)
one_fault before token (fault.Number l) (fault.Grammar m) found also = absurd (also.1 found.1)
one_fault before token (fault.Number l) (fault.Number m) found also = ap (λ line. fault.Number line) (found.0 ∙ sym also.0)
one_fault before token (fault.Number l) (fault.Nesting m) found also = let bad = found.2 in let good = also.2 in absurd (cc (bad, good))
one_fault before token (fault.Nesting l) (fault.Grammar m) found also = absurd (also.1 found.1)
one_fault before token (fault.Nesting l) (fault.Number m) found also = let good = found.2 in let bad = also.2 in absurd (cc (good, bad))
one_fault before token (fault.Nesting l) (fault.Nesting m) found also = ap (λ line. fault.Nesting line) (found.0 ∙ sym also.0)
one_fault before token (fault.Grammar l) (fault.Name m) found also = absurd (found.1 also.1)
one_fault before token (fault.Number l) (fault.Name m) found also = let bad = found.2 in let named = also.3.0 in absurd (cc (bad, named))
one_fault before token (fault.Nesting l) (fault.Name m) found also = let open_now = found.3 in let named = also.3.0 in absurd (cc (open_now, named))
one_fault before token (fault.Name l) (fault.Grammar m) found also = absurd (also.1 found.1)
one_fault before token (fault.Name l) (fault.Number m) found also = let named = found.3.0 in let bad = also.2 in absurd (cc (bad, named))
one_fault before token (fault.Name l) (fault.Nesting m) found also = let named = found.3.0 in let open_now = also.3 in absurd (cc (open_now, named))
one_fault before token (fault.Name l) (fault.Name m) found also = ap (λ line. fault.Name line) (found.0 ∙ sym also.0)
one_fault before token (fault.Byte l) g found also = absurd found
one_fault before token (fault.Leaves l) g found also = absurd found
one_fault before token (fault.Argument l) g found also = absurd found
one_fault before token f (fault.Byte l) found also = absurd also
one_fault before token f (fault.Leaves l) found also = absurd also
one_fault before token f (fault.Argument l) found also = absurd also

pub one_fault_behind : (last : ℕ) (tokens before : List WordOnLine) (f g : JobFault) → IsReadingFaultBehind last before tokens f → IsReadingFaultBehind last before tokens g → f ≡ g
one_fault_behind last [] before f g found also = found.0 ∙ sym also.0
one_fault_behind last (token ∷ tokens) before f g (inl found) (inl also) = one_fault before token f g found also
one_fault_behind last (token ∷ tokens) before f g (inl found) (inr also) = absurd (clean_or_faulty before token f found also.0)
one_fault_behind last (token ∷ tokens) before f g (inr found) (inl also) = absurd (clean_or_faulty before token g also found.0)
one_fault_behind last (token ∷ tokens) before f g (inr found) (inr also) = one_fault_behind last tokens (before ++ token ∷ []) f g found.1 also.1

pub derived_or_fault : (last : ℕ) (tokens before : List WordOnLine) (items : Items) (f : JobFault) → Derives (words_of (before ++ tokens)) items → AreClean before tokens → IsReadingFaultBehind last before tokens f → ⊥
derived_or_fault last [] before items f derives clean found = found.1 items (subst (λ all. Derives (words_of all) items) (append-nil before) derives)
derived_or_fault last (token ∷ tokens) before items f derives clean (inl found) = clean_or_faulty before token f found clean.0
derived_or_fault last (token ∷ tokens) before items f derives clean (inr found) =
    derived_or_fault last tokens (before ++ token ∷ []) items f (subst (λ all. Derives (words_of all) items) (sym (append_assoc before (token ∷ []) tokens)) derives) clean.1 found.1
