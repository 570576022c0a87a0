-- A property of each element of a list holds of each element of its parts, and of lists concatenated from such lists.
use Rattle.std.proofs.Common.{ℕ, zero, suc, ◌+◌, List, [], ◌∷◌, take, drop, sym, subst}
use Rattle.std.proofs.Math.Seq.{take-add}
use Rattle.std.specs.List.{AllByRecursion}
use Rattle.seq_objects.proofs.Elements.{each_append}

pub each_of_first : {X : Type 0} (P : X → Type 0) (n : ℕ) (xs : List X) → AllByRecursion P xs → AllByRecursion P (take n xs)
each_of_first P zero xs each = tt
each_of_first P (suc n) [] each = tt
each_of_first P (suc n) (x ∷ xs) each = (each.0, each_of_first P n xs each.1)

pub each_of_rest : {X : Type 0} (P : X → Type 0) (n : ℕ) (xs : List X) → AllByRecursion P xs → AllByRecursion P (drop n xs)
each_of_rest P zero xs each = each
each_of_rest P (suc n) [] each = tt
each_of_rest P (suc n) (x ∷ xs) each = each_of_rest P n xs each.1

pub each_of_both : {X : Type 0} (P : X → Type 0) (n m : ℕ) (xs : List X) → AllByRecursion P (take n xs) → AllByRecursion P (take m (drop n xs)) → AllByRecursion P (take (n + m) xs)
each_of_both P n m xs front back = subst (AllByRecursion P) (sym (take-add n m xs)) (each_append P (take n xs) (take m (drop n xs)) front back)
