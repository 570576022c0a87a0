-- A list of equal items, as a function of the index, is constant.
use Rattle.std.proofs.Common.{ℕ, ◌≡◌, List, replicate, arith}
use Rattle.std.proofs.lemmas.Grind.{common_steps}
use Rattle.ready_lists.specs.Places.{at}

same_at : {A : Type 0} (n : ℕ) (x : A) (m : ℕ) → at (replicate n x) x m ≡ x
same_at n x m = grind (arith, common_steps)

pub at_copies : {A : Type 0} (n : ℕ) (x : A) → at (replicate n x) x ≡ (λ m. x)
at_copies n x = λ i m. same_at n x m i

pub copied : {A : Type 0} (xs : List A) (n : ℕ) (x : A) → xs ≡ replicate n x → at xs x ≡ (λ m. x)
copied xs n x e = rw e (at_copies n x)
