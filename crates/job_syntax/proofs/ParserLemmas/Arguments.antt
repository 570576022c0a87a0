-- The machine's steps over the argument of an operation.
use Rattle.std.proofs.Common.{◌≡◌, ℕ, List, [], ◌∷◌, Bool, true, false, Option, Result, Ok, Err, refl, sym, ap, ◌∙◌, arith}
use Rattle.std.specs.Prelude.{if◌then◌else◌}
use Rattle.job_names.specs.declared.name.Name.{Name}
use Rattle.job_syntax.specs.declared.lexer.word.Word.{Word}
use Rattle.job_syntax.specs.declared.lexer.word.Word.TheVariants.{Open, Named}
use Rattle.job_syntax.specs.declared.lexer.word.WordOnLine.{WordOnLine}
use Rattle.job_syntax.specs.declared.fault.JobFault.{JobFault}
use Rattle.job_syntax.specs.declared.fault.JobFault.TheVariants as fault
use Rattle.job_syntax.specs.declared.parser.call.Operator.{Operator}
use Rattle.job_syntax.specs.Grammar.{Items}
use Rattle.job_syntax.specs.Faults.{has_good_numbers}
use Rattle.job_syntax.specs.Code.Cursors.{argument_at, is_known_word}
use Rattle.job_syntax.specs.Code.Machine.{OpenBlock, State, at, an_argument, are_looped, takes, with_operand, given_leaf, with_leaf, checked_word, on_state, read_from}
use Rattle.job_syntax.proofs.ParserLemmas.MachineAnswers.{depth_taken}

-- what an answer holds
abbrev held : {X : Type 0} → X → Result X JobFault → X
held other (Ok x) = x
held other (Err found) = other

-- an answer behind three checks of a token
abbrev checks : {X : Type 0} → WordOnLine → Bool → Bool → Bool → Result X JobFault → Result X JobFault
checks token b1 b2 b3 answer = if b1 then (if b2 then (if b3 then answer else Err (fault.Name token.line)) else Err (fault.Number token.line)) else Err (fault.Grammar token.line)

module _ (last : ℕ) (blocks : List OpenBlock) (items : Items) (given : Option Name) (op : Operator) where
  checked_is : (spelled : Word) (to : State) (line : ℕ) → takes op (are_looped blocks) spelled ≡ true →
      checked_word line (at blocks items (an_argument given op)) spelled to ≡ (if is_known_word blocks items spelled then Ok to else Err (fault.Name line))
  checked_is Open to line e = let flat = depth_taken op (are_looped blocks) Open 0 e in absurd (omega (arith, flat))
  checked_is (Named name) to line e = refl
  checked_is _ to line e = refl

  module _ (token : WordOnLine) (tokens : List WordOnLine) where
    on_known : (b : Bool) → is_known_word blocks items token.word ≡ b →
        on_state (λ next. read_from last next tokens) (if is_known_word blocks items token.word then Ok (with_leaf blocks items (given_leaf given (with_operand op token.word))) else Err (fault.Name token.line))
        ≡ (if b then read_from last (with_leaf blocks items (given_leaf given (with_operand op token.word))) tokens else Err (fault.Name token.line))
    on_known true e = rw e refl
    on_known false e = rw e refl

    outcome : (b1 b2 b3 : Bool) → takes op (are_looped blocks) token.word ≡ b1 → has_good_numbers token.word ≡ b2 → is_known_word blocks items token.word ≡ b3 →
        read_from last (at blocks items (an_argument given op)) (token ∷ tokens)
        ≡ checks token b1 b2 b3 (read_from last (with_leaf blocks items (given_leaf given (with_operand op token.word))) tokens)
    outcome false b2 b3 e1 e2 e3 = rw e1 refl
    outcome true false b3 e1 e2 e3 = rw (e1, e2) refl
    outcome true true b3 e1 e2 e3 =
        rw (e1, e2) (ap (on_state (λ next. read_from last next tokens)) (checked_is token.word (with_leaf blocks items (given_leaf given (with_operand op token.word))) token.line e1) ∙ on_known b3 e3)

    taken : (b1 b2 b3 : Bool) → takes op (are_looped blocks) token.word ≡ b1 → has_good_numbers token.word ≡ b2 → is_known_word blocks items token.word ≡ b3 →
        argument_at last blocks items op (token ∷ tokens)
        ≡ checks {X = Word × List WordOnLine} token b1 b2 b3 (Ok (token.word, tokens))
    taken false b2 b3 e1 e2 e3 = rw e1 refl
    taken true false b3 e1 e2 e3 = rw (e1, e2) refl
    taken true true true e1 e2 e3 = rw (e1, e2, e3) refl
    taken true true false e1 e2 e3 = rw (e1, e2, e3) refl

    ok_from : (b1 b2 b3 : Bool) (spelled : Word) (rest : List WordOnLine) → checks {X = Word × List WordOnLine} token b1 b2 b3 (Ok (token.word, tokens)) ≡ Ok (spelled, rest) →
        checks token b1 b2 b3 (read_from last (with_leaf blocks items (given_leaf given (with_operand op token.word))) tokens)
        ≡ read_from last (with_leaf blocks items (given_leaf given (with_operand op spelled))) rest
    ok_from true true true spelled rest h =
        let both = ap (held (token.word, tokens)) h in
        let first : token.word ≡ spelled = ap (λ (p : Word × List WordOnLine). p.0) both in
        let left : tokens ≡ rest = ap (λ (p : Word × List WordOnLine). p.1) both in
        ap (λ w. read_from last (with_leaf blocks items (given_leaf given (with_operand op w))) tokens) first
        ∙ ap (read_from last (with_leaf blocks items (given_leaf given (with_operand op spelled)))) left
    ok_from true true false spelled rest h = cc
    ok_from true false b3 spelled rest h = cc
    ok_from false b2 b3 spelled rest h = cc

    err_from : (b1 b2 b3 : Bool) (found : JobFault) → checks {X = Word × List WordOnLine} token b1 b2 b3 (Ok (token.word, tokens)) ≡ Err found →
        checks token b1 b2 b3 (read_from last (with_leaf blocks items (given_leaf given (with_operand op token.word))) tokens) ≡ Err found
    err_from true true true found h = cc
    err_from true true false found h = let same : fault.Name token.line ≡ found = cc in ap Err same
    err_from true false b3 found h = let same : fault.Number token.line ≡ found = cc in ap Err same
    err_from false b2 b3 found h = let same : fault.Grammar token.line ≡ found = cc in ap Err same

  -- where an argument is taken, the machine goes on behind its leaf
  pub argument_reads : (tokens : List WordOnLine) (spelled : Word) (rest : List WordOnLine) → argument_at last blocks items op tokens ≡ Ok (spelled, rest) →
      read_from last (at blocks items (an_argument given op)) tokens ≡ read_from last (with_leaf blocks items (given_leaf given (with_operand op spelled))) rest
  argument_reads [] spelled rest h = cc
  argument_reads (token ∷ tokens) spelled rest h =
      outcome token tokens (takes op (are_looped blocks) token.word) (has_good_numbers token.word) (is_known_word blocks items token.word) refl refl refl ∙ ok_from token tokens (takes op (are_looped blocks) token.word) (has_good_numbers token.word) (is_known_word blocks items token.word) spelled rest (sym (taken token tokens (takes op (are_looped blocks) token.word) (has_good_numbers token.word) (is_known_word blocks items token.word) refl refl refl) ∙ h)

  -- where it is refused, the machine finds the same fault
  pub argument_fails : (tokens : List WordOnLine) (found : JobFault) → argument_at last blocks items op tokens ≡ Err found →
      read_from last (at blocks items (an_argument given op)) tokens ≡ Err found
  argument_fails [] found h = let same : fault.Grammar last ≡ found = cc in ap Err same
  argument_fails (token ∷ tokens) found h =
      outcome token tokens (takes op (are_looped blocks) token.word) (has_good_numbers token.word) (is_known_word blocks items token.word) refl refl refl ∙ err_from token tokens (takes op (are_looped blocks) token.word) (has_good_numbers token.word) (is_known_word blocks items token.word) found (sym (taken token tokens (takes op (are_looped blocks) token.word) (has_good_numbers token.word) (is_known_word blocks items token.word) refl refl refl) ∙ h)
