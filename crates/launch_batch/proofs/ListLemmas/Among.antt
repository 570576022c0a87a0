-- Membership in a list, and in a permutation of it.
use Rattle.std.proofs.Common.{◌≡◌, ◌⊎◌, inl, inr, List, [], ◌∷◌, ◌++◌, refl, sym, subst}
use Rattle.launch_batch.proofs.Words.{AllByRecursion, ArePermutations}
use Rattle.seq_objects.proofs.Elements.{each_so}
use Rattle.launch_batch.proofs.ListLemmas.Same.{each_same}

abbrev pub Among : {X : Type 0} → X → List X → Type 0
Among x [] = ⊥
Among x (y ∷ ys) = (x ≡ y) ⊎ Among x ys

pub each_among : {X : Type 0} (P : X → Type 0) (xs : List X) (x : X) → AllByRecursion P xs → Among x xs → P x
each_among P [] x all there = absurd there
each_among P (y ∷ xs) x all there = elim there [
  | inl is ↦ subst P (sym is) all.0
  | inr later ↦ each_among P xs x all.1 later
]

-- each element is a member
pub all_among : {X : Type 0} (xs : List X) → AllByRecursion (λ x. Among x xs) xs
all_among [] = tt
all_among (y ∷ xs) = (inl refl, each_so (λ x. Among x xs) (λ x. Among x (y ∷ xs)) (λ x there. inr there) xs (all_among xs))

among_back : {X : Type 0} (x : X) (before later : List X) → Among x later → Among x (before ++ later)
among_back x [] later there = there
among_back x (y ∷ before) later there = inr (among_back x before later there)

among_between : {X : Type 0} (x y : X) (before later : List X) → Among x (before ++ later) → Among x (before ++ y ∷ later)
among_between x y [] later there = inr there
among_between x y (z ∷ before) later there = elim there [
  | inl is ↦ inl is
  | inr more ↦ inr (among_between x y before later more)
]

-- a member of a list is a member of each permutation of it
pub among_same : {X : Type 0} (xs others : List X) → ArePermutations xs others → (x : X) → Among x xs → Among x others
among_same [] others same x there = absurd there
among_same (y ∷ xs) others same x there =
    let before = same.0 in
    let later = same.1 in
    subst (Among x) (sym same.2) (elim there [
      | inl is ↦ among_back x before (y ∷ later) (inl is)
      | inr more ↦ among_between x y before later (among_same xs (before ++ later) same.3 x more)
    ])

-- the converse
pub same_among : {X : Type 0} (xs others : List X) → ArePermutations xs others → (x : X) → Among x others → Among x xs
same_among xs others same x there = each_among (λ y. Among y xs) others x (each_same (λ y. Among y xs) xs others same (all_among xs)) there
