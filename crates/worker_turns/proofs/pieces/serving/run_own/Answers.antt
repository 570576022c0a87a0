use Rattle.std.proofs.Common.{refl, ◌∙◌}
use Rattle.worker_turns.proofs.PieceLemmas.Working.{works_none, works_more, own_works, own_core}
use Rattle.worker_crew.specs.Workers.{me_seen}
use Rattle.worker_turns.proofs.PieceLemmas.Handing.{pops_none, pops_more, waits_none, own_waits}
use Rattle.worker_turns.proofs.pieces.serving.run_own.Goals as goal

pub loop-init : goal.loop-init
loop-init g c = record { me = c.requires.me; core = refl; waits = waits_none (me_seen c.args.me.now); pops = pops_none _; pass = refl; desk = works_none _ }

pub loop-preserved : goal.loop-preserved
loop-preserved g c =
    let i = c.loop.invariant in
    let path = c.in_ok-pop_own_piece.ensures.path in record {
      me = c.in_ok-pop_own_piece.ensures.me;
      core = own_core _ _ _ path ∙ i.core;
      waits = own_waits c.in_ok-pop_own_piece.field-0 (me_seen c.args.me.now) (me_seen c.loop.me) (me_seen c.pop_own_piece.new.me) path i.waits;
      pops = pops_more c.in_ok-pop_own_piece.field-0 _ (me_seen c.loop.me) (me_seen c.pop_own_piece.new.me) path c.in_default.not-Empty i.pops;
      pass = c.pop_own_piece.ensures.pass ∙ i.pass;
      desk = works_more 0 0 _ _ _ i.desk (own_works _ _ _ path) 0 refl;
    }
