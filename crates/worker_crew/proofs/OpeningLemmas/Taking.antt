-- A list whose first element is taken, time after time.
use Rattle.std.proofs.Common.{◌≡◌, ℕ, ◌+◌, List, ◌++◌, take, drop, get_or, ap, ◌∙◌, arith}
use Rattle.std.proofs.lemmas.List.{drop-drop, get_or-drop}

module _ {X : Type 0} where
  pub left_then : (all left rest : List X) (k : ℕ) → left ≡ drop k all → rest ≡ take 0 left ++ drop (0 + 1) left → rest ≡ drop (k + 1) all
  left_then all left rest k is taken = taken ∙ ap (λ l. drop 1 l) is ∙ drop-drop 1 k all ∙ ap (λ (j : ℕ). drop j all) (omega arith)

  pub next_of : (all left : List X) (k : ℕ) (x : X) → left ≡ drop k all → x ≡ get_or left 0 x → x ≡ get_or all k x
  next_of all left k x is at = at ∙ ap (λ l. get_or l 0 x) is ∙ get_or-drop k all 0 x ∙ ap (λ (j : ℕ). get_or all j x) (omega arith)
