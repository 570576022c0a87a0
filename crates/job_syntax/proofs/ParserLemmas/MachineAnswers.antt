-- The machine's answer is the derivation or the first fault.
use Rattle.std.proofs.Common.{◌≡◌, ℕ, ◌+◌, ◌-◌, ◌<◌, List, [], ◌∷◌, ◌++◌, length, Bool, true, false, Option, Some, None, Result, Ok, Err, refl, sym, ap, ◌∙◌, append_assoc, append-nil, arith, subst, inl, inr}
use Rattle.std.proofs.lemmas.List.{map-append}
use Rattle.std.proofs.lemmas.Bool.{leb-true, leb-false}
use Rattle.std.specs.Prelude.{IsTrue, if◌then◌else◌, IfSome, MatchResult, nat_le}
use Rattle.limits.specs.declared.TheConstants.{MOST_OPEN_BLOCKS}
use Rattle.job_syntax.specs.declared.lexer.word.Word.{Word}
use Rattle.job_syntax.specs.declared.lexer.word.Word.TheVariants.{Open, Close, Work, Seq, Par, For, Pfor, Let, Equals, Number, Named}
use Rattle.job_syntax.specs.declared.lexer.word.Word.TheVariants as word
use Rattle.job_syntax.specs.declared.lexer.word.WordOnLine.{WordOnLine}
use Rattle.job_syntax.specs.declared.fault.JobFault.{JobFault}
use Rattle.job_syntax.specs.declared.fault.JobFault.TheVariants as fault
use Rattle.job_names.specs.declared.name.Name.{Name}
use Rattle.job_syntax.specs.declared.parser.call.Operator.{Operator}
use Rattle.seq_objects.specs.declared.verb.Verb.{Verb}
use Rattle.seq_objects.specs.Verbs.{takes_argument, verb_by}
use Rattle.job_syntax.specs.Grammar.{Items, Derives, CanGoOn}
use Rattle.job_syntax.specs.Visibility.{Sees, IsKnown}
use Rattle.job_syntax.specs.Faults.{words_of, has_good_numbers, open_behind, IsClean, AreClean, IsReadingFaultBehind}
use Rattle.job_syntax.specs.Code.Machine.{OpenBlock, takes, call_step, Place, an_item, a_let_name, an_equals, a_let_object, an_argument, a_call, for_copies, pfor_copies, a_brace, State, at, start, are_looped, item_step, step_at, step, run, is_known, checked_word, checked_step, end_at, on_state, read_from}
use Rattle.job_syntax.proofs.ParserLemmas.Plain.{is_plain, plain_taken}
use Rattle.job_syntax.proofs.ParserLemmas.Runs.{run-append, run_derived, dead}
use Rattle.job_syntax.proofs.ParserLemmas.Reached.{IsReached, start_reached, reach}
use Rattle.job_syntax.proofs.ParserLemmas.Completions.{goes_on}
use Rattle.job_syntax.proofs.ParserLemmas.Shown.{known_sees, unknown_sees_none}

-- the number of open blocks after a step
depth_item : (blocks : List OpenBlock) (items : Items) (word : Word) → IfSome (item_step blocks items word) (λ state. length state.blocks ≡ open_behind (length blocks) (word ∷ []))
depth_item [] items Close = tt
depth_item (block ∷ blocks) items Close = omega arith
depth_item blocks items Work = refl
depth_item blocks items (word.Object kind name) = refl
depth_item blocks items Let = refl
depth_item blocks items Seq = refl
depth_item blocks items Par = refl
depth_item blocks items For = refl
depth_item blocks items Pfor = refl
depth_item blocks items _ = tt

depth_plain : (word : Word) (n : ℕ) → IsTrue (is_plain word) → open_behind n (word ∷ []) ≡ n
depth_plain Open n e = cc
depth_plain Close n e = cc
depth_plain _ n e = refl

pub depth_taken : (op : Operator) (looped : Bool) (word : Word) (n : ℕ) → takes op looped word ≡ true → open_behind n (word ∷ []) ≡ n
depth_taken op looped word n e = depth_plain word n (plain_taken op looped word e)

depth_when : (blocks : List OpenBlock) (spelled : Word) (b : Bool) (new : State) → new.blocks ≡ blocks → (b ≡ true → open_behind (length blocks) (spelled ∷ []) ≡ length blocks) →
    IfSome (if b then Some new else None) (λ state. length state.blocks ≡ open_behind (length blocks) (spelled ∷ []))
depth_when blocks spelled false new e flat = tt
depth_when blocks spelled true new e flat = ap length e ∙ sym (flat refl)

depth_verb : (blocks : List OpenBlock) (takes : Bool) (argument whole : State) → argument.blocks ≡ blocks → whole.blocks ≡ blocks → length (if takes then argument else whole).blocks ≡ length blocks
depth_verb blocks true argument whole e f = ap length e
depth_verb blocks false argument whole e f = ap length f

depth_call : (blocks : List OpenBlock) (items : Items) (given object : Option Name) (found : Option Verb) →
    IfSome (call_step blocks items given object found) (λ state. length state.blocks ≡ length blocks)
depth_call blocks items given object None = tt
depth_call blocks items given object (Some verb) = depth_verb blocks (takes_argument verb) _ _ refl refl

depth : (blocks : List OpenBlock) (items : Items) (place : Place) (word : Word) → IfSome (step_at blocks items place word) (λ state. length state.blocks ≡ open_behind (length blocks) (word ∷ []))
depth blocks items an_item word = depth_item blocks items word
depth blocks items a_let_name (Named name) = refl
depth blocks items a_let_name _ = tt
depth blocks items (an_equals name) Equals = refl
depth blocks items (an_equals name) _ = tt
depth blocks items (a_let_object given) (word.Object kind name) = refl
depth blocks items (a_let_object given) _ = tt
depth blocks items (an_argument given op) word = depth_when blocks word (takes op (are_looped blocks) word) _ refl (depth_taken op (are_looped blocks) word (length blocks))
depth blocks items (a_call given of) (word.Verb spelled) = depth_call blocks items given of.name (verb_by of.kind spelled)
depth blocks items (a_call given of) _ = tt
depth blocks items for_copies (Number number) = refl
depth blocks items for_copies _ = tt
depth blocks items pfor_copies (Number number) = refl
depth blocks items pfor_copies _ = tt
depth blocks items (a_brace kind) Open = omega arith
depth blocks items (a_brace kind) _ = tt

pub open_behind-append : (n : ℕ) (a b : List Word) → open_behind n (a ++ b) ≡ open_behind (open_behind n a) b
open_behind-append n [] b = refl
open_behind-append n (Open ∷ a) b = open_behind-append (n + 1) a b
open_behind-append n (Close ∷ a) b = open_behind-append (n - 1) a b
open_behind-append n (_ ∷ a) b = open_behind-append n a b

-- the state is the one after the tokens
record Stands (before : List WordOnLine) (state : State) : Type 0 where
  pub runs : run (Some start) (words_of before) ≡ Some state
  pub reached : IsReached (words_of before) state
  pub open_now : length state.blocks ≡ open_behind 0 (words_of before)

-- the answer is the items of all tokens, where none of those after `before` has a fault, or else their fault
abbrev pub AreAnswer : ℕ → List WordOnLine → List WordOnLine → Result Items JobFault → Type 0
AreAnswer last before tokens answer =
    MatchResult answer (λ items. Derives (words_of (before ++ tokens)) items × AreClean before tokens) (IsReadingFaultBehind last before tokens)

words_of-push : (before : List WordOnLine) (token : WordOnLine) → words_of (before ++ token ∷ []) ≡ words_of before ++ token.word ∷ []
words_of-push before token = map-append (λ (token : WordOnLine). token.word) before (token ∷ [])

not_derived : (before : List WordOnLine) (state : State) → run (Some start) (words_of before) ≡ Some state → ((items : Items) → state ≡ at [] items an_item → ⊥) →
    (items : Items) → Derives (words_of before) items → ⊥
not_derived before state runs other items derives =
    let ends = run_derived derives in
    let same : state ≡ at [] items an_item = cc (runs, ends) in
    other items same

no_place : (before : List WordOnLine) (blocks : List OpenBlock) (items : Items) (place : Place) → run (Some start) (words_of before) ≡ Some (at blocks items place) → (place ≡ an_item → ⊥) →
    (whole : Items) → Derives (words_of before) whole → ⊥
no_place before blocks items place runs other = not_derived before (at blocks items place) runs (λ whole same. other (ap (λ (state : State). state.place) same))

no_blocks : (before : List WordOnLine) (blocks : List OpenBlock) (items : Items) (place : Place) → run (Some start) (words_of before) ≡ Some (at blocks items place) → (blocks ≡ [] → ⊥) →
    (whole : Items) → Derives (words_of before) whole → ⊥
no_blocks before blocks items place runs other = not_derived before (at blocks items place) runs (λ whole same. other (ap (λ (state : State). state.blocks) same))

at_end : (last : ℕ) (before : List WordOnLine) (blocks : List OpenBlock) (items : Items) (place : Place) → Stands before (at blocks items place) → AreAnswer last before [] (end_at last place blocks items)
at_end last before [] items an_item stands =
    (record { writes = simp append-nil at stands.reached.writes ∙ ap words_of (sym (append-nil before)); fits = stands.reached.items }, tt)
at_end last before (block ∷ blocks) items an_item stands = (refl, no_blocks before (block ∷ blocks) items an_item stands.runs (λ e. cc))
at_end last before blocks items place stands = (refl, no_place before blocks items place stands.runs (λ e. cc))

-- the run over one more token
run-push : (before : List WordOnLine) (state : State) (token : WordOnLine) (to : Option State) → run (Some start) (words_of before) ≡ Some state → step state token.word ≡ to →
    run (Some start) (words_of (before ++ token ∷ [])) ≡ to
run-push before state token to runs e =
    ap (run (Some start)) (words_of-push before token)
    ∙ run-append (Some start) (words_of before) (token.word ∷ [])
    ∙ ap (λ from. run from (token.word ∷ [])) runs
    ∙ e

pub open_behind-push : (before : List WordOnLine) (token : WordOnLine) → open_behind 0 (words_of (before ++ token ∷ [])) ≡ open_behind (open_behind 0 (words_of before)) (token.word ∷ [])
open_behind-push before token = ap (open_behind 0) (words_of-push before token) ∙ open_behind-append 0 (words_of before) (token.word ∷ [])

stands-push : (before : List WordOnLine) (state new : State) (token : WordOnLine) → Stands before state → step state token.word ≡ Some new → Stands (before ++ token ∷ []) new
stands-push before state new token stands e =
    let r = subst (λ to. IfSome to (IsReached (words_of before ++ token.word ∷ []))) e (reach (words_of before) state.blocks state.items state.place token.word stands.reached) in
    let d = subst (λ to. IfSome to (λ (next : State). length next.blocks ≡ open_behind (length state.blocks) (token.word ∷ []))) e (depth state.blocks state.items state.place token.word) in
    record {
      runs = run-push before state token (Some new) stands.runs e;
      reached = subst (λ words. IsReached words new) (sym (words_of-push before token)) r;
      open_now = d ∙ ap (λ n. open_behind n (token.word ∷ [])) stands.open_now ∙ sym (open_behind-push before token);
    }

goes_on_now : (before : List WordOnLine) (state : State) → Stands before state → CanGoOn (words_of before)
goes_on_now before state stands = goes_on (words_of before) state.blocks state.items state.place stands.reached

later : (last : ℕ) (before : List WordOnLine) (token : WordOnLine) (tokens : List WordOnLine) (answer : Result Items JobFault) → IsClean before token → AreAnswer last (before ++ token ∷ []) tokens answer → AreAnswer last before (token ∷ tokens) answer
later last before token tokens (Ok items) clean answers =
    (subst (λ all. Derives (words_of all) items) (append_assoc before (token ∷ []) tokens) answers.0, (clean, answers.1))
later last before token tokens (Err found) clean answers = inr (clean, answers)

module _ (last : ℕ) (token : WordOnLine) (tokens before : List WordOnLine) (state new : State) (stands : Stands before state) (e : step state token.word ≡ Some new) (rest : (front : List WordOnLine) (next : State) → Stands front next → AreAnswer last front tokens (read_from last next tokens)) where
  go_on : IsTrue (has_good_numbers token.word) → (token.word ≡ Open → length state.blocks < MOST_OPEN_BLOCKS) → IsKnown (words_of before) token.word →
      AreAnswer last before (token ∷ tokens) (read_from last new tokens)
  go_on good room known =
      let next = stands-push before state new token stands e in
      later last before token tokens (read_from last new tokens)
      (record { stands = goes_on_now _ new next; numbers = good; nests = (λ h. let r = room h in omega (arith, r, stands.open_now)); known = known })
      (rest (before ++ token ∷ []) new next)

  at_open : IsTrue (has_good_numbers token.word) → token.word ≡ Open → (b : Bool) → nat_le MOST_OPEN_BLOCKS (length state.blocks) ≡ b →
      AreAnswer last before (token ∷ tokens) (on_state (λ next. read_from last next tokens) (if b then Err (fault.Nesting token.line) else Ok new))
  at_open good o true h =
      let deep = leb-true MOST_OPEN_BLOCKS (length state.blocks) h in
      inl (refl, goes_on_now _ new (stands-push before state new token stands e), good, o, omega (arith, deep, stands.open_now))
  at_open good o false h = go_on good (λ _. leb-false MOST_OPEN_BLOCKS (length state.blocks) h) (λ name used. absurd (let n = used.0 in cc (n, o)))

  at_name : IsTrue (has_good_numbers token.word) → (name : Name) → token.word ≡ Named name → (b : Bool) → is_known state.place state.blocks state.items name ≡ b →
      AreAnswer last before (token ∷ tokens) (on_state (λ next. read_from last next tokens) (if b then Ok new else Err (fault.Name token.line)))
  at_name good name o true h =
      let steps : step_at state.blocks state.items state.place (Named name) ≡ Some new = ap (step_at state.blocks state.items state.place) (sym o) ∙ e in
      go_on good (λ h. absurd (cc (h, o)))
      (λ other used.
      let same : name ≡ other = (let n = used.0 in cc (n, o)) in
      subst (Sees (words_of before)) same (known_sees (words_of before) state.blocks state.items state.place name new stands.reached steps h used.1))
  at_name good name o false h =
      let steps : step_at state.blocks state.items state.place (Named name) ≡ Some new = ap (step_at state.blocks state.items state.place) (sym o) ∙ e in
      let not_known = unknown_sees_none (words_of before) state.blocks state.items state.place name stands.reached h in
      inl (refl, goes_on_now _ new (stands-push before state new token stands e), name, (o, not_known.0), not_known.1)

  at_word : IsTrue (has_good_numbers token.word) → (word : Word) → token.word ≡ word →
      AreAnswer last before (token ∷ tokens) (on_state (λ next. read_from last next tokens) (checked_word token.line state word new))
  at_word good Open o = at_open good o _ refl
  at_word good (Named name) o = at_name good name o _ refl
  at_word good _ o = go_on good (λ h. absurd (cc (h, o))) (λ name used. absurd (let n = used.0 in cc (n, o)))

  at_good : (b : Bool) → has_good_numbers token.word ≡ b →
      AreAnswer last before (token ∷ tokens) (on_state (λ next. read_from last next tokens) (if b then checked_word token.line state token.word new else Err (fault.Number token.line)))
  at_good true good = at_word good token.word refl
  at_good false bad = inl (refl, goes_on_now _ new (stands-push before state new token stands e), bad)

at_step : (last : ℕ) (token : WordOnLine) (tokens before : List WordOnLine) (state : State) → Stands before state →
    ((front : List WordOnLine) (next : State) → Stands front next → AreAnswer last front tokens (read_from last next tokens)) →
    (to : Option State) → step state token.word ≡ to → AreAnswer last before (token ∷ tokens) (on_state (λ next. read_from last next tokens) (checked_step state token to))
at_step last token tokens before state stands rest None e = inl (refl, dead _ (run-push before state token None stands.runs e))
at_step last token tokens before state stands rest (Some new) e = at_good last token tokens before state new stands e rest _ refl

answer_behind : (last : ℕ) (tokens before : List WordOnLine) (state : State) → Stands before state → AreAnswer last before tokens (read_from last state tokens)
answer_behind last [] before state stands = at_end last before state.blocks state.items state.place stands
answer_behind last (token ∷ tokens) before state stands =
    at_step last token tokens before state stands (λ front next h. answer_behind last tokens front next h) _ refl

-- The machine's answer on all tokens is their items or their fault.
pub answer_on_all : (last : ℕ) (tokens : List WordOnLine) → AreAnswer last [] tokens (read_from last start tokens)
answer_on_all last tokens = answer_behind last tokens [] start (record { runs = refl; reached = start_reached; open_now = refl })
