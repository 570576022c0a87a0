-- Which reaches give access to which deques.
use Rattle.std.specs.Prelude.{ℕ, ◌≡◌, ◌<◌, List, length, slice_index_or}
use Rattle.std.specs.declared.alloc.Global.{Global}
use Rattle.crossbeam_deque.specs.Handles.{IsPassOf, stealer_deque}
use Rattle.crossbeam_deque.specs.declared.handles.Stealer.{Stealer}
use Rattle.two_deques.specs.declared.rule.Part.{Part}
use Rattle.two_deques.specs.declared.rule.DequeRule.{DequeRule}
use Rattle.two_deques.specs.declared.ends.Reach.{Reach}

abbrev pub Thief : Type 0 → Type 0
Thief T = Stealer T Global (Part T) DequeRule

-- there are `n` reaches, and each of them gives access to the deque of the thief at its index
pub record ReachUpTo {T : Type 0} (n : ℕ) (thieves : List (Thief T)) (reaches : List (Reach T))
    : Type 0 where
  pub count : length reaches ≡ n
  pub each : (i : ℕ) (t : Thief T) (r : Reach T) → i < n → t ≡ slice_index_or thieves i t
      → r ≡ slice_index_or reaches i r → IsPassOf (stealer_deque t) r.pass

-- one reach into the deque of each thief, in their order
abbrev pub ReachEach : {T : Type 0} → List (Thief T) → List (Reach T) → Type 0
ReachEach thieves reaches = ReachUpTo (length thieves) thieves reaches
