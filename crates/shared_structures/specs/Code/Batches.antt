-- The calls of a batch that a shared structure serves.
use Rattle.std.specs.Prelude.{◌≡◌, ◌≢◌, ℕ, ◌+◌, ◌<◌, ◌^◌, List, [], ◌∷◌, IsPermutation}
use Rattle.std.specs.List.{AllByRecursion}
use Rattle.shared_calls.specs.Serial.{SerialObject}
use Rattle.seq_objects.specs.declared.op.Op.{Op}
use Rattle.seq_objects.specs.declared.op.Op.TheVariants.{Push, Pop, TreeInsert, TreeRemove, TreeFind, TreeNext, PqInsert, PqTake}
use Rattle.seq_objects.specs.declared.call.Call.{Call}
use Rattle.seq_objects.specs.declared.reply.Reply.{Reply}
use Rattle.seq_objects.specs.declared.reply.Reply.TheVariants as reply
use Rattle.seq_objects.specs.Objects.{Objects, opening, after, reply_to}
use Rattle.seq_objects.specs.Pairs.{AllPairsByRecursion}
use Rattle.seq_objects.specs.Batches.{AreInBatchOrder}

-- the serial objects of one number, as one object
abbrev pub objects : SerialObject Op Reply
objects = record { State = Objects; opening = opening; after = λ s op. after s op; reply = λ s op. reply_to s op }

-- a call for each operation, whose worker is the index of the operation, from i on
abbrev pub numbered : ℕ → List Op → List Call
numbered i [] = []
numbered i (op ∷ ops) = record { worker = i; leaf = 0; op = op } ∷ numbered (i + 1) ops

-- these calls in batch order
pub record AreCallsOf (ops : List Op) (calls : List Call) : Type 0 where
  pub order : AreInBatchOrder calls
  pub apart : AllPairsByRecursion (λ (a b : Call). a.worker ≢ b.worker) calls
  pub mixed : IsPermutation (numbered 0 ops) calls

-- numbers of 32 bits
abbrev pub AreSmall : List ℕ → Type 0
AreSmall numbers = AllByRecursion (λ n. n < 2 ^ 32) numbers

-- the items and keys of the objects have 32 bits
pub record HaveSmallNumbers (objects : Objects) : Type 0 where
  pub stack : AreSmall objects.stack
  pub set : AreSmall objects.set
  pub bag : AreSmall objects.bag

-- an operation that may be served in a batch of a shared structure: it is one of a stack, of a tree or of a queue, of
-- number 0, and its item or key has 32 bits
abbrev pub IsAsked : Op → Type 0
IsAsked (Push number item) = (number ≡ 0) × (item < 2 ^ 32)
IsAsked (Pop number) = number ≡ 0
IsAsked (TreeInsert number key) = (number ≡ 0) × (key < 2 ^ 32)
IsAsked (TreeRemove number key) = (number ≡ 0) × (key < 2 ^ 32)
IsAsked (TreeFind number key) = (number ≡ 0) × (key < 2 ^ 32)
IsAsked (TreeNext number key) = (number ≡ 0) × (key < 2 ^ 32)
IsAsked (PqInsert number item) = (number ≡ 0) × (item < 2 ^ 32)
IsAsked (PqTake number) = number ≡ 0
IsAsked _ = ⊥

-- a reply whose number, if it has one, has 32 bits
abbrev pub IsSmallReply : Reply → Type 0
IsSmallReply (reply.Number number) = number < 2 ^ 32
IsSmallReply _ = Unit {0}
