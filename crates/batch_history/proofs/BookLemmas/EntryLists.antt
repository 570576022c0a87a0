-- Lists of entries and of numbers.
use Rattle.std.proofs.Common.{ℕ, ◌≡◌, ◌≢◌, false, List, [], ◌∷◌, map, arith, subst}
use Rattle.std.specs.List.{AllByRecursion, IsDistinct}
use Rattle.std.proofs.Math.Dec.{eqb}
use Rattle.std.proofs.lemmas.Bool.Decides.{nat_tests}
use Rattle.batch_history.specs.declared.batch.Entry.{Entry}
use Rattle.seq_objects.specs.Pairs.{AreDistinct}
use Rattle.seq_objects.proofs.Elements.{each_so}

-- numbers that are distinct are so by their test
pub distinct_tests : (xs : List ℕ) → AreDistinct xs → IsDistinct eqb xs
unfolding IsDistinct
distinct_tests [] distinct = tt
distinct_tests (x ∷ xs) distinct =
    (each_so (λ y. x ≢ y) (λ y. eqb x y ≡ false) (λ y apart. grind (arith, nat_tests)) xs distinct.0, distinct_tests xs distinct.1)

-- numbers of which one thing holds are not numbers of which it does not
pub apart_by : (P : ℕ → Type 0) (xs ys : List ℕ) → AllByRecursion P xs → AllByRecursion (λ y. P y → ⊥) ys → AllByRecursion (λ x. AllByRecursion (λ y. x ≢ y) ys) xs
apart_by P xs ys h g = each_so P (λ x. AllByRecursion (λ y. x ≢ y) ys) (λ x p. each_so (λ y. P y → ⊥) (λ y. x ≢ y) (λ y not e. not (subst P e p)) ys g) xs h

-- where equal leaves have equal workers, distinct workers have distinct leaves
other_leaves : (P : Entry → Type 0) → ((a b : Entry) → P a → P b → a.leaf ≡ b.leaf → a.worker ≡ b.worker)
    → (a : Entry) → P a → (es : List Entry) → AllByRecursion P es → AllByRecursion (λ w. a.worker ≢ w) (map (λ (e : Entry). e.worker) es)
    → AllByRecursion (λ l. a.leaf ≢ l) (map (λ (e : Entry). e.leaf) es)
other_leaves P same a p [] h g = tt
other_leaves P same a p (e ∷ es) h g = ((λ q. g.0 (same a e p h.0 q)), other_leaves P same a p es h.1 g.1)

-- so all leaves are distinct
pub distinct_leaves : (P : Entry → Type 0) → ((a b : Entry) → P a → P b → a.leaf ≡ b.leaf → a.worker ≡ b.worker)
    → (es : List Entry) → AllByRecursion P es → AreDistinct (map (λ (e : Entry). e.worker) es) → AreDistinct (map (λ (e : Entry). e.leaf) es)
distinct_leaves P same [] h g = tt
distinct_leaves P same (e ∷ es) h g = (other_leaves P same e h.0 es h.1 g.0, distinct_leaves P same es h.1 g.1)
