-- The move after a node says which side it is.
use Rattle.std.proofs.Common.{ℕ, ◌≡◌, Option, Some, None, inl, inr, refl, sym, ◌∙◌, ap}
use Rattle.core_model.proofs.Words.{Kind, LeafNode, SeqNode, ParNode, OpenSecond, FinishParent, Arrive, Nodes, IsPlan, IsSide, HasSide, parent_of}

module _ (plan : Nodes) (n p : ℕ) (laws : IsPlan plan) where
  -- by what the parent is
  second_of : (kind : Option Kind) → plan.kind p ≡ kind → plan.after n ≡ OpenSecond p → HasSide kind n → (r : ℕ) × (plan.kind p ≡ Some (SeqNode n r))
  second_of None is after side = absurd side
  second_of (Some (LeafNode u)) is after side = absurd side
  second_of (Some (SeqNode l r)) is after (inl e) = (r, rw e is)
  second_of (Some (SeqNode l r)) is after (inr e) = let f = sym after ∙ ap plan.after e ∙ laws.right_of_seq p l r is in cc
  second_of (Some (ParNode l r)) is after (inl e) = let f = sym after ∙ ap plan.after e ∙ laws.left_of_par p l r is in cc
  second_of (Some (ParNode l r)) is after (inr e) = let f = sym after ∙ ap plan.after e ∙ laws.right_of_par p l r is in cc

  pub second_side : plan.after n ≡ OpenSecond p → (r : ℕ) × (plan.kind p ≡ Some (SeqNode n r))
  second_side after = second_of (plan.kind p) refl after (laws.has_side p n (ap parent_of after))

  parent_by : (kind : Option Kind) → plan.kind p ≡ kind → plan.after n ≡ FinishParent p → HasSide kind n → (l : ℕ) × (plan.kind p ≡ Some (SeqNode l n))
  parent_by None is after side = absurd side
  parent_by (Some (LeafNode u)) is after side = absurd side
  parent_by (Some (SeqNode l r)) is after (inl e) = let f = sym after ∙ ap plan.after e ∙ laws.left_of_seq p l r is in cc
  parent_by (Some (SeqNode l r)) is after (inr e) = (l, rw e is)
  parent_by (Some (ParNode l r)) is after (inl e) = let f = sym after ∙ ap plan.after e ∙ laws.left_of_par p l r is in cc
  parent_by (Some (ParNode l r)) is after (inr e) = let f = sym after ∙ ap plan.after e ∙ laws.right_of_par p l r is in cc

  pub right_side : plan.after n ≡ FinishParent p → (l : ℕ) × (plan.kind p ≡ Some (SeqNode l n))
  right_side after = parent_by (plan.kind p) refl after (laws.has_side p n (ap parent_of after))

  arrive_at : (kind : Option Kind) → plan.kind p ≡ kind → plan.after n ≡ Arrive p → HasSide kind n → (l : ℕ) × (r : ℕ) × (plan.kind p ≡ Some (ParNode l r)) × IsSide plan p n
  arrive_at None is after side = absurd side
  arrive_at (Some (LeafNode u)) is after side = absurd side
  arrive_at (Some (SeqNode l r)) is after (inl e) = let f = sym after ∙ ap plan.after e ∙ laws.left_of_seq p l r is in cc
  arrive_at (Some (SeqNode l r)) is after (inr e) = let f = sym after ∙ ap plan.after e ∙ laws.right_of_seq p l r is in cc
  arrive_at (Some (ParNode l r)) is after side = (l, r, is, ap parent_of after)

  pub either_side : plan.after n ≡ Arrive p → (l : ℕ) × (r : ℕ) × (plan.kind p ≡ Some (ParNode l r)) × IsSide plan p n
  either_side after = arrive_at (plan.kind p) refl after (laws.has_side p n (ap parent_of after))
