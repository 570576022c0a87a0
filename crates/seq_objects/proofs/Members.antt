-- The set and the bag stay sorted, and what a bag contains.
use Rattle.std.proofs.Common.{◌≡◌, ℕ, ◌+◌, ◌<◌, ◌≤◌, List, [], ◌∷◌, Bool, true, false, ◌==◌, Some, refl, arith}
use Rattle.std.specs.List.{AllByRecursion}
use Rattle.std.proofs.lemmas.Bool.Decides.{nat_tests}
use Rattle.seq_objects.specs.declared.op.Op.{Op}
use Rattle.seq_objects.specs.declared.op.Op.TheVariants.{TreeInsert, TreeRemove, TreeFind, TreeNext, PqInsert, PqTake}
use Rattle.seq_objects.specs.Objects.{Objects, after, least, without_least}
use Rattle.seq_objects.specs.Orders.{Ascends, AreInOrder, copies, one_if, IsLeast}
use Rattle.seq_objects.proofs.Bags.{ascends_with as item_ascends, some_here}
use Rattle.key_sets.proofs.KeyLemmas.Ascending.{ascends_with, ascends_without}

-- the set and the bag stay sorted
rest_ascends : (bag : List ℕ) → Ascends bag → Ascends (without_least bag)
rest_ascends [] up = tt
rest_ascends (x ∷ bag) up = up.1

pub stay_in_order : (objects : Objects) (op : Op) → AreInOrder objects → AreInOrder (after objects op)
stay_in_order objects (TreeInsert number key) h = record { set = ascends_with key objects.set h.set; bag = h.bag }
stay_in_order objects (TreeRemove number key) h = record { set = ascends_without key objects.set h.set; bag = h.bag }
stay_in_order objects (TreeFind number key) h = h
stay_in_order objects (TreeNext number key) h = h
stay_in_order objects (PqInsert number item) h = record { set = h.set; bag = item_ascends item objects.bag h.bag }
stay_in_order objects (PqTake number) h = record { set = h.set; bag = rest_ascends objects.bag h.bag }
stay_in_order objects _ h = record { set = h.set; bag = h.bag }

-- the copies and the least number of a bag
pub copies_taken : (item n : ℕ) (bag : List ℕ) → least bag ≡ Some item → copies n bag ≡ one_if (n == item) + copies n (without_least bag)
copies_taken item n [] is = absurd cc
copies_taken item n (x ∷ bag) is = let one : x ≡ item = cc in rw one refl

in_bag : (P : ℕ → Type 0) (n : ℕ) (bag : List ℕ) → AllByRecursion P bag → 0 < copies n bag → P n
in_bag P n [] each some = absurd (omega (arith, some))
in_bag P n (x ∷ bag) each some = step (n == x) refl some (in_bag P n bag each.1) where
  step : (b : Bool) → (n == x) ≡ b → 0 < one_if b + copies n bag → (0 < copies n bag → P n) → P n
  step true is some rest = let one : n ≡ x = grind (arith, nat_tests) in rw one each.0
  step false is some rest = rest (omega (arith, some))

pub least_is_least : (bag : List ℕ) → Ascends bag → IsLeast bag (least bag)
least_is_least [] up = refl
least_is_least (x ∷ bag) up = (some_here x bag, λ n some. in_bag (λ y. x ≤ y) n (x ∷ bag) (omega arith, up.0) some)
