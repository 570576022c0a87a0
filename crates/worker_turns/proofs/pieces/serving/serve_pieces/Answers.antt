use Rattle.std.proofs.Common.{◌≡◌, map, sym, ap, ◌∙◌}
use Rattle.two_deques.specs.Hands.{held}
use Rattle.piece_board.specs.Boards.{desk_view}
use Rattle.launch_batch.specs.Pieces.{place_of}
use Rattle.core_table.specs.declared.table.Pass.{Pass}
use Rattle.core_table.specs.Passes.{pass_view}
use Rattle.worker_turns.specs.Pieces.{Desk}
use Rattle.worker_turns.specs.Launches.{spots_of}
use Rattle.worker_turns.specs.Code.Popping.{after_pushes}
use Rattle.worker_turns.proofs.PieceLemmas.Served.{if_serves}
use Rattle.worker_crew.specs.Workers.{me_seen}
use Rattle.worker_turns.proofs.PieceLemmas.Handing.{if_hands_out, if_waits, waits_same, waits_none, waits_then}
use Rattle.worker_turns.proofs.pieces.serving.serve_pieces.Goals as goal

pub returns-clause-handed : goal.returns-clause-handed
returns-clause-handed g c =
    let old = (held c.args.me.now.hand).batch in
    let spots = spots_of (desk_view c.args.me.now.desk).row (map place_of c.args.ins.items) in
    let pushed : (held c.post_all.new.me.hand).batch ≡ after_pushes spots old =
    c.in_ok-places.ensures.pushed ∙ (λ i. after_pushes (spots_of (sym c.requires.me.row i) (c.in_ok-places.ensures.places i)) old) in
    if_hands_out c.collect_all.result spots old (held c.post_all.new.me.hand).batch (held c.run_own.new.me.hand).batch (held c.collect_all.new.me.hand).batch pushed c.in_ok-run_own.ensures.emptied c.collect_all.ensures.stole

pub returns-clause-waits : goal.returns-clause-waits
returns-clause-waits g c =
    let old = me_seen c.args.me.now in
    let posted = waits_same old old (me_seen c.post_all.new.me) (waits_none old) (ap (λ (d : Desk). d.empty_collects) c.in_ok-places.ensures.desk) (ap (λ (p : Pass). (pass_view p).stop_looks) c.post_all.ensures.pass) in
    if_waits c.collect_all.result old (me_seen c.run_own.new.me) (me_seen c.collect_all.new.me) (waits_then old (me_seen c.post_all.new.me) (me_seen c.run_own.new.me) posted c.in_ok-run_own.ensures.waits) c.collect_all.ensures.waits

pub returns-clause-desk : goal.returns-clause-desk
returns-clause-desk g c =
    if_serves c.collect_all.result _ _ _ _ c.args.ins.items _ c.in_ok-places.ensures.desk c.in_ok-run_own.ensures.desk c.collect_all.ensures.desk
    (c.as_slice.ensures.value ∙ c.in_ok-places.ensures.places)
