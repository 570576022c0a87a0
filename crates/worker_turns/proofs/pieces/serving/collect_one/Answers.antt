use Rattle.std.proofs.Common.{rules, ◌≡◌, refl, ap, ◌∙◌}
use Rattle.piece_board.specs.Boards.{desk_view}
use Rattle.piece_board.specs.Desks.{after_empty_collect}
use Rattle.core_table.specs.Passes.{pass_view}
use Rattle.worker_turns.proofs.HoldLemmas.Passes.{own_of}
use Rattle.worker_turns.proofs.PieceLemmas.Looks.{looked_none, looked_more}
use Rattle.worker_turns.proofs.PieceLemmas.Working.{works_none, works_more, works_empty, other_works, other_core}
use Rattle.worker_crew.specs.Workers.{me_seen}
use Rattle.worker_turns.specs.Pieces.{Desk}
use Rattle.table_rule.specs.declared.view.PassView.{PassView}
use Rattle.worker_turns.proofs.PieceLemmas.Handing.{stole_none, stole_then, other_steals, waits_none, waits_more, other_waits}
use Rattle.worker_turns.proofs.pieces.serving.collect_one.Goals as goal

pub loop-init : goal.loop-init
loop-init g c = record { me = c.requires.me; core = refl; stole = stole_none _; waits = waits_none (me_seen c.args.me.now); seen = looked_none _; desk = works_none _ }

pub loop-preserved : goal.loop-preserved
loop-preserved g c =
    let i = c.loop.invariant in
    let path = c.in_ok-other.ensures.path in
    let empty : desk_view c.collect.new.desk ≡ after_empty_collect (desk_view c.loop.me.desk) = search rules in record {
      me = c.in_ok-other.ensures.me;
      core = other_core _ _ _ path ∙ i.core;
      stole = stole_then _ _ _ i.stole (other_steals _ _ _ path);
      waits = other_waits c.in_ok-other.other (me_seen c.args.me.now) (record (me_seen c.loop.me) { pass = pass_view c.stopped.new.pass; desk = desk_view c.collect.new.desk }) (me_seen c.steal_other_piece.new.me) path (waits_more (me_seen c.args.me.now) (me_seen c.loop.me) (record (me_seen c.loop.me) { pass = pass_view c.stopped.new.pass; desk = desk_view c.collect.new.desk }) i.waits (ap (λ (d : Desk). d.empty_collects) empty) (ap (λ (p : PassView). p.stop_looks) (own_of _ _ (c.stopped.ensures.unset c.if-stopped.false).2)));
      seen = looked_more _ _ _ _ i.seen (own_of _ _ (c.stopped.ensures.unset c.if-stopped.false).2) (ap pass_view c.steal_other_piece.ensures.pass);
      desk = works_more 0 0 _ _ _ (works_more 0 0 _ _ _ i.desk (works_empty _ _ empty) 0 refl) (other_works _ _ _ path) 0 refl;
    }
