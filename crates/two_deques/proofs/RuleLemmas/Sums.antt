-- What is stolen after one part is replaced by another.
use Rattle.std.proofs.Common.{◌≡◌, ℕ, zero, suc, ◌+◌, true, false, List, [], ◌∷◌, ◌++◌, set, refl, ap, ◌∙◌, sym, arith}
use Rattle.std.specs.List.{sum_by}
use Rattle.std.proofs.lemmas.List.Sums.{sum_by-cons, sum_by-append}
use mathlib.Core.Option.{some, some-ne-none, some-injective}
use lib.ListN.{get_elem?}
use Rattle.two_deques.specs.declared.rule.Part.{Part}
use Rattle.two_deques.specs.Rule.{stolen_by, AreStolen}

sum_set : {X : Type 0} (f : X → ℕ) (xs : List X) (i : ℕ) (x y : X) → get_elem? xs i ≡ some x
    → sum_by f (set xs i y) + f x ≡ sum_by f xs + f y
sum_set f [] i x y at = absurd (some-ne-none x (sym at))
sum_set f (z ∷ xs) zero x y at =
    let same : f z ≡ f x = ap f (some-injective z x at) in
    omega (arith, sum_by-cons f z xs, sum_by-cons f y xs, same)
sum_set f (z ∷ xs) (suc i) x y at =
    omega (arith, sum_by-cons f z xs, sum_by-cons f z (set xs i y), sum_set f xs i x y at)

-- the weight of the tasks that a part stole
abbrev share : {T : Type 0} → (T → ℕ) → Part T → ℕ
share weight p = sum_by weight (stolen_by p)

owner_share : {T : Type 0} (weight : T → ℕ) (p : Part T) → p.owns ≡ true → share weight p ≡ 0
owner_share weight p is = rw is refl

thief_share : {T : Type 0} (weight : T → ℕ) (p : Part T) → p.owns ≡ false → share weight p ≡ sum_by weight p.tasks
thief_share weight p is = rw is refl

-- replacing an owner's part by another owner's part
pub still_stolen : {T : Type 0} (stolen : List T) (parts : List (Part T)) (port : ℕ) (v w : Part T)
    → get_elem? parts port ≡ some v → v.owns ≡ true → w.owns ≡ true → AreStolen stolen parts
    → AreStolen stolen (set parts port w)
still_stolen stolen parts port v w at old new shared weight =
    omega (arith, shared weight, sum_set (share weight) parts port v w at, owner_share weight v old, owner_share weight w new)

-- a thief steals more tasks
pub more_stolen : {T : Type 0} (stolen xs : List T) (parts : List (Part T)) (port : ℕ) (v w : Part T)
    → get_elem? parts port ≡ some v → v.owns ≡ false → w.owns ≡ false → w.tasks ≡ v.tasks ++ xs
    → AreStolen stolen parts → AreStolen (stolen ++ xs) (set parts port w)
more_stolen stolen xs parts port v w at old new more shared weight =
    let grown : sum_by weight w.tasks ≡ sum_by weight v.tasks + sum_by weight xs =
    ap (sum_by weight) more ∙ sum_by-append weight v.tasks xs in
    omega (
      arith,
      shared weight,
      sum_set (share weight) parts port v w at,
      thief_share weight v old,
      thief_share weight w new,
      sum_by-append weight stolen xs,
      grown,
    )

-- a thief without tasks joins
pub stolen_with_guest : {T : Type 0} (stolen : List T) (parts : List (Part T)) (p : Part T) → p.owns ≡ false
    → p.tasks ≡ [] → AreStolen stolen parts → AreStolen stolen (parts ++ p ∷ [])
stolen_with_guest {T} stolen parts p thief none shared weight =
    let nothing : share weight p ≡ 0 = thief_share weight p thief ∙ ap (sum_by weight) none in
    omega (arith, shared weight, sum_by-append (share weight) parts (p ∷ []), nothing)
