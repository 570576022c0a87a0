-- The slots of a closed table that hold a value, once the last one that did is taken.
use Rattle.std.proofs.Common.{ℕ, zero, suc, ◌≡◌, ◌≤◌, ◌<◌, ◌+◌, Bool, true, false, List, [], ◌∷◌, get_or, set, arith, refl, ◌∙◌, get_or-set_other}
use Rattle.core_table.specs.Code.Rows.{HasSlotsBelow}

cleared : (filled : List Bool) (at : ℕ) → get_or (set filled at false) at false ≡ false
cleared [] at = refl
cleared (x ∷ xs) zero = refl
cleared (x ∷ xs) (suc at) = cleared xs at

pub last_taken : (filled new : List Bool) (at total : ℕ) → new ≡ set filled at false → total ≡ at + 1 → ((k : ℕ) → 0 ≤ k → k < total → get_or filled k false ≡ true) → HasSlotsBelow new total at
last_taken filled new at total is long full = (
  λ k low. rw is (get_or-set_other filled at k false false (λ e. omega (arith, low, e)) ∙ full k (omega arith) (omega (arith, low, long))),
  λ k high low. let same : k ≡ at = omega (arith, high, low, long) in rw (is, same) (cleared filled at),
)
