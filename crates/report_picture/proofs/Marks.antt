-- The ticks that are numbered.
use Rattle.std.proofs.Common.{ℕ, ◌≡◌, ◌+◌, ◌*◌, ◌/◌, ◌<◌, Bool, true, false, List, [], ◌∷◌, map, refl}
use Rattle.std.specs.Prelude.{nat_lt, if◌then◌else◌}
use Rattle.std.specs.List.{filter, range_with_len, AllByRecursion}
use Rattle.std.proofs.lemmas.Bool.{ltb-true}
use Rattle.report_picture.specs.Boxes.{span_of}
use Rattle.report_picture.specs.Meaning.{NumbersTicks, NumbersFirstTicks}

-- what a test keeps of a list passes it
module _ (at : ℕ → ℕ) (ticks : ℕ) where
  abbrev AreBelow : List ℕ → Type 0
  AreBelow numbers = AllByRecursion (λ number. at number < ticks) numbers

  one_below : (number : ℕ) (below : Bool) (numbers : List ℕ) → nat_lt (at number) ticks ≡ below → AreBelow numbers → AreBelow (if below then number ∷ numbers else numbers)
  one_below number true numbers is are = (ltb-true (at number) ticks is, are)
  one_below number false numbers is are = are

  pub all_below : (numbers : List ℕ) → AreBelow (filter (λ number. nat_lt (at number) ticks) numbers)
  all_below [] = tt
  all_below (number ∷ numbers) =
      one_below number (nat_lt (at number) ticks) (filter (λ number. nat_lt (at number) ticks) numbers) refl (all_below numbers)

pub ticks_numbered : (leaves : ℕ) → NumbersTicks leaves
ticks_numbered leaves = all_below (λ tick. tick) (2 * leaves) (map (λ mark. mark * (span_of leaves / 8 + 1)) (range_with_len 0 8))

pub first_ticks_numbered : (width leaves : ℕ) → NumbersFirstTicks width leaves
first_ticks_numbered width leaves = all_below (λ column. column * width) (2 * leaves) (map (λ mark. 15 * mark) (range_with_len 0 8))
