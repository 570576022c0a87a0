-- A shared set as the set of the shared objects.
use Rattle.std.proofs.Common.{◌≡◌, ℕ, Bool, true, false, not, List, [], ◌∷◌, map, Some, None, refl, sym, subst}
use Rattle.std.specs.declared.option.Option.{Option}
use Rattle.std.specs.List.{AllByRecursion}
use Rattle.seq_objects.specs.declared.op.Op.{Op}
use Rattle.seq_objects.specs.declared.reply.Reply.{Reply}
use Rattle.seq_objects.specs.Objects.{Objects, after, reply_to, has, least_above, yes_or_no, number_or_empty}
use Rattle.seq_objects.specs.declared.kind.Kind.TheVariants.{Tree}
use Rattle.seq_objects.specs.Batches.{kind_of}
use Rattle.seq_objects.specs.Serial.{of_set}
use Rattle.shared_calls.specs.Serial.{IsServedInSomeOrder}
use Rattle.shared_structures.specs.declared.set.SetOp.{SetOp}
use Rattle.shared_structures.specs.declared.set.SetOp.TheVariants.{Insert, Remove, Find, NextAbove}
use Rattle.shared_structures.specs.declared.set.SetReply.{SetReply}
use Rattle.shared_structures.specs.declared.set.SetReply.TheVariants.{Answer, Key}
use Rattle.shared_structures.specs.Sets.{set, set_after, set_reply}
use Rattle.shared_structures.specs.Code.Batches.{objects}
use Rattle.shared_structures.specs.Code.Sets.{op_of, answer_of}
use Rattle.shared_structures.proofs.Carrying.{carried}

pub are_of_set : (ops : List SetOp) → AllByRecursion (λ (op : Op). kind_of op ≡ Tree) (map op_of ops)
are_of_set [] = tt
are_of_set (Insert key ∷ ops) = (refl, are_of_set ops)
are_of_set (Remove key ∷ ops) = (refl, are_of_set ops)
are_of_set (Find key ∷ ops) = (refl, are_of_set ops)
are_of_set (NextAbove key ∷ ops) = (refl, are_of_set ops)

steps : (keys : List ℕ) (op : SetOp) → after (of_set keys) (op_of op) ≡ of_set (set_after keys op)
steps keys (Insert key) = refl
steps keys (Remove key) = refl
steps keys (Find key) = refl
steps keys (NextAbove key) = refl

answered : (yes : Bool) → answer_of (yes_or_no yes) ≡ Answer yes
answered true = refl
answered false = refl

next : (key : Option ℕ) → answer_of (number_or_empty key) ≡ Key key
next None = refl
next (Some key) = refl

replies : (keys : List ℕ) (op : SetOp) → answer_of (reply_to (of_set keys) (op_of op)) ≡ set_reply keys op
replies keys (Insert key) = answered (not (has key keys))
replies keys (Remove key) = answered (has key keys)
replies keys (Find key) = answered (has key keys)
replies keys (NextAbove key) = next (least_above key keys)

pub set_served : (before : List ℕ) (ops : List SetOp) (rs : List Reply) (given : List SetReply) (now : List ℕ) → given ≡ map answer_of rs
    → IsServedInSomeOrder objects (of_set before) (map op_of ops) rs (of_set now) → IsServedInSomeOrder set before ops given now
set_served before ops rs given now are is =
    subst (λ l. IsServedInSomeOrder set before ops l now) (sym are)
    (carried set objects op_of answer_of of_set (λ (o : Objects). o.set) (λ s. refl) steps replies before ops rs (of_set now) is)
