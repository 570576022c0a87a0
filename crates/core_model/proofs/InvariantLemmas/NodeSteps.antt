-- The nodes, as one of them changes.
use Rattle.std.proofs.Common.{ℕ, ◌≡◌, ◌≢◌, true, Some, arith, inl, inr, sym, ◌∙◌}
use Rattle.std.proofs.lemmas.Bool.Decides.{nat_tests}
use Rattle.std.proofs.lemmas.Bool.{cases_eq}
use Rattle.core_model.proofs.Words.{LeafNode, SeqNode, Nodes, IsPlan, IsSide, Progress, Waiting, Ready, Taken, Done, Ran, put, is_done}
use Rattle.core_model.specs.Operations.{IsLeaf}
use Rattle.core_model.proofs.Inductive.Nodes.{InductiveNodes}
use Rattle.core_model.proofs.InvariantLemmas.Puts.{put_at, put_other}

-- a ready node is taken
pub claim_nodes : (plan : Nodes) (node : ℕ → Progress) (n : ℕ) → IsPlan plan → InductiveNodes plan node → node n ≡ Ready → InductiveNodes plan (put node n Taken)
claim_nodes plan node n laws h ready = record {
  root = grind (arith, nat_tests);
  below_waiting = grind (arith, nat_tests);
  below_ready = grind (arith, nat_tests);
  second = λ p l r k. grind (arith, nat_tests, h.second p l r k);
  below_done = λ p m side d. grind (arith, nat_tests, h.below_done p m side);
  outside = λ m out. grind (arith, nat_tests, h.outside m out);
  leaf_ran = λ m u k. grind (arith, nat_tests, h.leaf_ran m u k);
  ran_leaf = λ m w s e k. h.ran_leaf m w s e (grind (arith, nat_tests));
}

-- a waiting node becomes ready, where its parent is taken and, if it is the right of a Seq, the left is done
pub open_nodes : (plan : Nodes) (node : ℕ → Progress) (p n : ℕ) → IsPlan plan → InductiveNodes plan node
    → IsSide plan p n → node p ≡ Taken → node n ≡ Waiting
    → ((l : ℕ) → plan.kind p ≡ Some (SeqNode l n) → is_done (node l) ≡ true)
    → InductiveNodes plan (put node n Ready)
open_nodes plan node p n laws h side taken waits left = record {
  root = grind (arith, nat_tests);
  below_waiting = λ q m s w. grind (arith, nat_tests, h.below_waiting q m s);
  below_ready = λ q m s w. grind (arith, nat_tests, h.below_waiting q m s, h.below_ready q m s, laws.deeper q m s);
  second = λ q l r k. grind (arith, nat_tests, h.second q l r k, laws.right_of_seq q l r k);
  below_done = λ q m s d. grind (arith, nat_tests, h.below_done q m s);
  outside = λ m out. grind (arith, nat_tests, h.outside m out, laws.inside p n side);
  leaf_ran = λ m u k. grind (arith, nat_tests, h.leaf_ran m u k);
  ran_leaf = λ m w s e k. h.ran_leaf m w s e (grind (arith, nat_tests));
}

-- a taken node whose sides are done is done
pub finish_nodes : (plan : Nodes) (node : ℕ → Progress) (n : ℕ) (x : Progress) → IsPlan plan → InductiveNodes plan node
    → node n ≡ Taken → is_done x ≡ true
    → ((m : ℕ) → IsSide plan n m → is_done (node m) ≡ true)
    → ((m u : ℕ) → plan.kind m ≡ Some (LeafNode u) → m ≡ n → x ≢ Done)
    → ((w s e : ℕ) → x ≡ Ran w s e → IsLeaf (plan.kind n))
    → InductiveNodes plan (put node n x)
finish_nodes plan node n x laws h taken done sides leaf ran = record {
  root = grind (arith, nat_tests);
  below_waiting = λ q m s w. grind (arith, nat_tests, h.below_waiting q m s);
  below_ready = λ q m s w. grind (arith, nat_tests, h.below_ready q m s);
  second = λ q l r k. grind (arith, nat_tests, h.second q l r k);
  below_done = λ q m s d. grind (arith, nat_tests, h.below_done q m s, sides m);
  outside = λ m out. grind (arith, nat_tests, h.outside m out);
  leaf_ran = λ m u k. grind (arith, nat_tests, h.leaf_ran m u k, leaf m u k);
  ran_leaf = λ m w s e k. elim (cases_eq m n) [
    | inl q ↦ rw q (ran w s e (sym (put_at node n m x q) ∙ k))
    | inr q ↦ h.ran_leaf m w s e (sym (put_other node n m x q) ∙ k)
  ];
}
