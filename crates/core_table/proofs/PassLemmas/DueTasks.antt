-- After which move of the plan an open is the next act of a task that is whole.
use Rattle.std.proofs.Common.{ℕ, ◌≡◌, Option, None, Some, refl}
use Rattle.sp_order.specs.declared.node.Kind.{Kind}
use Rattle.sp_order.specs.declared.node.Kind.TheVariants.{LeafNode, SeqNode, ParNode}
use Rattle.sp_order.specs.declared.node.Move.{Move}
use Rattle.sp_order.specs.declared.node.Move.TheVariants.{Root, OpenSecond, FinishParent, Arrive}
use Rattle.sp_order.specs.Plans.{Nodes}
use Rattle.core_model.specs.Next.{act_of_parent, act_of_arrive, act_of_whole}
use Rattle.table_rule.specs.DueActs.{IsOpenDue}

parent_open : (kind : Option Kind) (p : ℕ) → IsOpenDue (act_of_parent kind p) → ⊥
parent_open None p due = due
parent_open (Some (LeafNode u)) p due = due
parent_open (Some (SeqNode l r)) p due = due
parent_open (Some (ParNode l r)) p due = due

arrive_open : (kind : Option Kind) (p n : ℕ) → IsOpenDue (act_of_arrive kind p n) → ⊥
arrive_open None p n due = due
arrive_open (Some (LeafNode u)) p n due = due
arrive_open (Some (SeqNode l r)) p n due = due
arrive_open (Some (ParNode l r)) p n due = due

pub whole_opens : (plan : Nodes) (n : ℕ) (move : Move) → IsOpenDue (act_of_whole plan move n) → (p : ℕ) × (move ≡ OpenSecond p)
whole_opens plan n Root due = absurd due
whole_opens plan n (OpenSecond p) due = (p, refl)
whole_opens plan n (FinishParent p) due = absurd (parent_open (plan.kind p) p due)
whole_opens plan n (Arrive p) due = absurd (arrive_open (plan.kind p) p n due)
