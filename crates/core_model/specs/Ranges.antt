-- The ranges of the numbers in events and leaves.
use Rattle.core_model.specs.Words.{Event, Answer, ArriveFirst, ArriveSecond, Claim, End, FinishLeaf, FinishPar, FinishSeq, Keep, Leave, OpenParLeft, OpenParRight, OpenSeqLeft, OpenSeqRight, Post, Publish, Release, Start, Take, Win}
use Rattle.core_model.specs.Words.{Kind, LeafNode, ParNode, SeqNode}
use Rattle.std.specs.Prelude.{None, Option, Some, ℕ, ◌<◌}

-- a block and its two sides are below the number of nodes
abbrev pub AreNodes : ℕ → ℕ → ℕ → ℕ → Type 0
AreNodes nodes p l r = (p < nodes) × (l < nodes) × (r < nodes)

-- the nodes in an event are below `nodes`, the workers below `workers`
abbrev pub IsInRange : ℕ → ℕ → Event → Type 0
IsInRange nodes workers (Claim n) = n < nodes
IsInRange nodes workers (Start n) = n < nodes
IsInRange nodes workers (OpenParRight p l r) = AreNodes nodes p l r
IsInRange nodes workers (OpenParLeft p l r) = AreNodes nodes p l r
IsInRange nodes workers (OpenSeqLeft p l r) = AreNodes nodes p l r
IsInRange nodes workers (OpenSeqRight p l r) = AreNodes nodes p l r
IsInRange nodes workers (Post n start) = n < nodes
IsInRange nodes workers Win = Unit {0}
IsInRange nodes workers (Take u) = u < workers
IsInRange nodes workers Publish = Unit {0}
IsInRange nodes workers (Answer u receipt) = u < workers
IsInRange nodes workers Release = Unit {0}
IsInRange nodes workers (Leave receipt) = Unit {0}
IsInRange nodes workers (Keep n start value) = n < nodes
IsInRange nodes workers (End n start) = n < nodes
IsInRange nodes workers (FinishLeaf n start end) = n < nodes
IsInRange nodes workers (FinishSeq p l r) = AreNodes nodes p l r
IsInRange nodes workers (FinishPar p l r) = AreNodes nodes p l r
IsInRange nodes workers (ArriveFirst p l r n) = AreNodes nodes p l r × (n < nodes)
IsInRange nodes workers (ArriveSecond p l r n) = AreNodes nodes p l r × (n < nodes)

-- the leaf at a node, if it has one, has a number below `leaves`
abbrev pub LeafIn : ℕ → Option Kind → Type 0
LeafIn leaves None = Unit {0}
LeafIn leaves (Some (LeafNode u)) = u < leaves
LeafIn leaves (Some (SeqNode l r)) = Unit {0}
LeafIn leaves (Some (ParNode l r)) = Unit {0}
