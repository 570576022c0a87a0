-- A list of words has items or one fault, and not both.
use Rattle.std.proofs.Common.{◌≡◌, ◌∙◌, false, ℕ, List, [], ◌++◌, Result, Ok, Err, inl, inr, ◌⊎◌, refl, sym, append-nil, arith, subst}
use Rattle.std.specs.Prelude.{IfOk}
use Rattle.job_syntax.specs.declared.lexer.word.WordOnLine.{WordOnLine}
use Rattle.job_syntax.specs.declared.fault.JobFault.{JobFault}
use Rattle.job_syntax.specs.Grammar.{Items, Derives, items_words}
use Rattle.job_syntax.specs.Faults.{words_of, AreClean, IsReadingFault}
use Rattle.job_syntax.specs.ItemsOf.{AreItemsOf}
use Rattle.job_syntax.specs.Code.Machine.{read_from, start}
use Rattle.job_syntax.specs.Code.Steps.{Gives}
use Rattle.job_syntax.specs.declared.error.JobErr.{JobErr}
use Rattle.job_syntax.specs.declared.error.JobErr.TheVariants.{Bad}
use Rattle.job_syntax.proofs.ParserLemmas.Runs.{one_derivation}
use Rattle.job_syntax.proofs.ParserLemmas.MachineAnswers.{AreAnswer, answer_on_all}
use Rattle.job_syntax.proofs.ParserLemmas.OneFault.{one_fault_behind, derived_or_fault}
use Rattle.job_syntax.proofs.ParserLemmas.Nestings.{AreNested, nesting_within, nested_within, good_when_clean, known_when_clean, nested_when_clean, clean_when_nested}

whole_words : (tokens : List WordOnLine) (items : Items) → Derives (words_of tokens) items → words_of tokens ≡ items_words items ++ []
whole_words tokens items derives = sym derives.writes ∙ sym (append-nil (items_words items))

-- Derived tokens without a fault have their items: they keep the limits of numbers and of nesting, and their names
-- are known.
pub items_when_clean : (tokens : List WordOnLine) (items : Items) → Derives (words_of tokens) items → AreClean [] tokens → AreItemsOf tokens items
items_when_clean tokens items derives clean = record {
  derives = derives;
  numbers = good_when_clean tokens [] clean;
  nests =
      let within_nesting = subst (AreNested 0) (whole_words tokens items derives) (nested_when_clean tokens [] clean) in
      let within = nesting_within false 0 items [] derives.fits (omega arith) within_nesting in
      omega (arith, within.0);
  known = known_when_clean tokens [] clean;
}

-- In a list of words that has items, no token has a fault.
pub clean_when_items : (tokens : List WordOnLine) (items : Items) → AreItemsOf tokens items → AreClean [] tokens
clean_when_items tokens items read =
    let within_nesting = nested_within false 0 items [] read.derives.fits (omega (arith, read.nests)) tt in
    clean_when_nested tokens [] items read.derives read.numbers (subst (AreNested 0) (sym (whole_words tokens items read.derives)) within_nesting) read.known

-- A list of words has at most one list of items.
pub one_items : (tokens : List WordOnLine) (a b : Items) → AreItemsOf tokens a → AreItemsOf tokens b → a ≡ b
one_items tokens a b read also = one_derivation read.derives also.derives

-- A list of words has at most one fault.
pub one_reading_fault : (last : ℕ) (tokens : List WordOnLine) (f g : JobFault) → IsReadingFault last tokens f → IsReadingFault last tokens g → f ≡ g
one_reading_fault last tokens f g found also = one_fault_behind last tokens [] f g found also

-- A list of words that has items has no fault.
pub items_or_fault : (last : ℕ) (tokens : List WordOnLine) (items : Items) (f : JobFault) → AreItemsOf tokens items → IsReadingFault last tokens f → ⊥
items_or_fault last tokens items f read found = derived_or_fault last tokens [] items f read.derives (clean_when_items tokens items read) found

-- the machine's answer is the items, or the fault
items_read : (last : ℕ) (tokens : List WordOnLine) (items : Items) → read_from last start tokens ≡ Ok items → AreItemsOf tokens items
items_read last tokens items e =
    let answer = subst (AreAnswer last [] tokens) e (answer_on_all last tokens) in
    items_when_clean tokens items answer.0 answer.1

fault_read : (last : ℕ) (tokens : List WordOnLine) (f : JobFault) → read_from last start tokens ≡ Err f → IsReadingFault last tokens f
fault_read last tokens f e = subst (AreAnswer last [] tokens) e (answer_on_all last tokens)

either : (last : ℕ) (tokens : List WordOnLine) (answer : Result Items JobFault) → read_from last start tokens ≡ answer →
    ((items : Items) × AreItemsOf tokens items) ⊎ ((f : JobFault) × IsReadingFault last tokens f)
either last tokens (Ok items) e = inl (items, items_read last tokens items e)
either last tokens (Err f) e = inr (f, fault_read last tokens f e)

-- Every list of words has items or a fault.
pub items_or_reading_fault : (last : ℕ) (tokens : List WordOnLine) → ((items : Items) × AreItemsOf tokens items) ⊎ ((f : JobFault) × IsReadingFault last tokens f)
items_or_reading_fault last tokens = either last tokens (read_from last start tokens) refl

-- a result that agrees with the machine is the items, or the fault
pub given_items : {X : Type 0} (last : ℕ) (tokens : List WordOnLine) (view : X → Items) (result : Result X JobErr) → Gives view result (read_from last start tokens) →
    IfOk result (λ read. AreItemsOf tokens (view read))
given_items last tokens view (Ok read) gives = items_read last tokens (view read) gives
given_items last tokens view (Err e) gives = tt

pub given_fault : {X : Type 0} (last : ℕ) (tokens : List WordOnLine) (view : X → Items) (result : Result X JobErr) → Gives view result (read_from last start tokens) →
    (f : JobFault) → result ≡ Err (Bad f) → IsReadingFault last tokens f
given_fault last tokens view result gives f e = fault_read last tokens f (subst (λ r. Gives view r (read_from last start tokens)) e gives)
