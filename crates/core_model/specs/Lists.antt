-- The workers' lists of ready nodes, oldest first.
use Rattle.core_model.specs.State.{put}
use Rattle.core_model.specs.Words.{Event, Claim, OpenParLeft, OpenParRight, OpenSeqLeft, OpenSeqRight}
use Rattle.std.specs.Prelude.{List, [], if◌then◌else◌, ℕ, ◌++◌, ◌+◌, ◌==◌, ◌∷◌}

-- the list without any occurrence of this number
abbrev pub without : ℕ → List ℕ → List ℕ
without n [] = []
without n (x ∷ xs) = if x == n then without n xs else x ∷ without n xs

-- the number of occurrences in the list
abbrev pub times : ℕ → List ℕ → ℕ
times n [] = 0
times n (x ∷ xs) = (if x == n then 1 else 0) + times n xs

-- The lists after an event of worker `w`. A node that `w` opens is appended to `w`'s list as the newest; a claimed node
-- is removed from every list.
abbrev pub ready_after : ℕ → Event → (ℕ → List ℕ) → ℕ → List ℕ
ready_after w (Claim n) ready = λ v. without n (ready v)
ready_after w (OpenParRight p l r) ready = put ready w (ready w ++ r ∷ [])
ready_after w (OpenParLeft p l r) ready = put ready w (ready w ++ l ∷ [])
ready_after w (OpenSeqLeft p l r) ready = put ready w (ready w ++ l ∷ [])
ready_after w (OpenSeqRight p l r) ready = put ready w (ready w ++ r ∷ [])
ready_after w event ready = ready
