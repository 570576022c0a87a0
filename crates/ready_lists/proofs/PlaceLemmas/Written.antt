-- How writing an item of a list changes the function of its places.
use Rattle.std.proofs.Common.{ℕ, ◌≡◌, ◌<◌, List, length, arith, slice_set}
use Rattle.std.proofs.lemmas.Grind.{common_steps}
use Rattle.std.proofs.lemmas.Bool.Decides.{nat_tests}
use Rattle.core_model.specs.State.{put}
use Rattle.ready_lists.specs.Places.{at}

at_set : {A : Type 0} (xs : List A) (n : ℕ) (x d : A) (m : ℕ) → n < length xs → at (slice_set xs n x) d m ≡ put (at xs d) n x m
at_set xs n x d m below = grind (arith, nat_tests, common_steps)

pub at_written : {A : Type 0} (xs : List A) (n : ℕ) (x d : A) → n < length xs → at (slice_set xs n x) d ≡ put (at xs d) n x
at_written xs n x d below = λ i m. at_set xs n x d m below i
