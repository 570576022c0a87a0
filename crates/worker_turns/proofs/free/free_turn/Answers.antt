use Rattle.std.proofs.Common.{rules, subst, inr}
use Rattle.worker_turns.specs.declared.attempts.PieceAttempt.{PieceAttempt}
use Rattle.worker_turns.specs.declared.attempts.NodeAttempt.TheVariants.{NoNode}
use Rattle.worker_turns.specs.declared.attempts.StealAttempt.TheVariants.{Node}
use Rattle.table_rule.specs.declared.view.PassView.{PassView}
use Rattle.worker_crew.specs.Workers.{me_seen}
use Rattle.worker_turns.specs.Pieces.{IsOwnPiece}
use Rattle.worker_turns.specs.Free.{IsOwnNode}
use Rattle.worker_turns.proofs.HoldLemmas.Passes.{own_of}
use Rattle.worker_turns.proofs.free.free_turn.Goals as goal

pub returns-in_ok-run_to_idle-in-Node-Claimed-clause-path :
    goal.returns-in_ok-run_to_idle-in-Node-Claimed-clause-path
returns-in_ok-run_to_idle-in-Node-Claimed-clause-path g c =
    let old = me_seen c.args.me.now in
    let popped = me_seen c.pop_own_node.new.me in
    let tried = me_seen c.pop_own_piece.new.me in inr (
      c.in-Node-Claimed.field-0-0,
      popped,
      tried,
      me_seen c.steal_once.new.me,
      subst (λ (p : PassView). IsOwnNode NoNode (record old { pass = p }) popped) (own_of _ _ (c.stopped.ensures.unset c.if-stopped.false).2) c.in-NoNode.ensures.path,
      subst (λ (t : PieceAttempt). IsOwnPiece t popped tried) c.in-Empty.is c.in_ok-pop_own_piece.ensures.path,
      search rules,
      c.in_ok-run_to_idle-in-Node-Claimed.ensures.carried,
    )

pub returns-in_default-clause-path : goal.returns-in_default-clause-path
returns-in_default-clause-path g c =
    let old = me_seen c.args.me.now in
    let popped = me_seen c.pop_own_node.new.me in
    let tried = me_seen c.pop_own_piece.new.me in
    inr (inr (
      Node c.in_default.field-0,
      popped,
      tried,
      search rules,
      subst (λ (p : PassView). IsOwnNode NoNode (record old { pass = p }) popped) (own_of _ _ (c.stopped.ensures.unset c.if-stopped.false).2) c.in-NoNode.ensures.path,
      subst (λ (t : PieceAttempt). IsOwnPiece t popped tried) c.in-Empty.is c.in_ok-pop_own_piece.ensures.path,
      search rules,
    ))
