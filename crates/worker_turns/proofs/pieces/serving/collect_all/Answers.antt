use Rattle.std.proofs.Common.{[], List, refl, sym, ap, ◌∙◌, subst, arith}
use Rattle.limits.specs.declared.TheConstants.{PLACES}
use Rattle.seq_objects.specs.Pieces.{AllMeet}
use Rattle.launch_batch.specs.declared.piece.PieceOut.{PieceOut}
use Rattle.launch_batch.specs.Pieces.{place_of, Meets}
use Rattle.worker_turns.specs.Pieces.{Desk}
use Rattle.worker_turns.proofs.PieceLemmas.Posting.{at_below}
use Rattle.worker_turns.proofs.PieceLemmas.Looks.{looked_none, looked_then}
use Rattle.worker_turns.proofs.PieceLemmas.Working.{works_none, works_more}
use Rattle.worker_turns.proofs.PieceLemmas.Collecting.{next_posted, next_place, named_for}
use Rattle.worker_turns.proofs.PieceLemmas.Met.{meets_push}
use Rattle.worker_crew.specs.Workers.{me_seen}
use Rattle.worker_turns.proofs.PieceLemmas.Handing.{stole_none, stole_then, waits_none, waits_then}
use Rattle.worker_turns.proofs.pieces.serving.collect_all.Goals as goal

pub loop-k-init : goal.loop-k-init
loop-k-init g c = record {
  me = c.requires.me;
  core = refl;
  stole = stole_none _;
  waits = waits_none (me_seen c.args.me.now);
  seen = looked_none _;
  desk = works_none _;
  meet = λ ins is. subst (λ (outs : List PieceOut). AllMeet Meets [] outs) (sym c.requires.empty) tt;
  inside = omega arith;
}

pub collect_one-requires-clause-place : goal.collect_one-requires-clause-place
collect_one-requires-clause-place g c =
    let r = c.requires.posted in
    let i = c.loop-k.invariant in
    let p = next_posted place_of c.args.places.now _ _ r.0 c.loop-k.k r.1 r.2 (ap (λ (d : Desk). d.posted) i.desk.is) c.loop-k-test.true in
    let below = at_below place_of PLACES r.0 c.loop-k.k p.0 r.3 p.5 (sym (p.4 p.0)) in
    let here = next_place place_of c.args.places.now r.0 c.loop-k.k p.0 r.1 p.5 (p.4 p.0) in
    omega (arith, below, here)

pub collect_one-requires-clause-first : goal.collect_one-requires-clause-first
collect_one-requires-clause-first g c =
    let r = c.requires.posted in
    let i = c.loop-k.invariant in
    let p = next_posted place_of c.args.places.now _ _ r.0 c.loop-k.k r.1 r.2 (ap (λ (d : Desk). d.posted) i.desk.is) c.loop-k-test.true in
    (p.0, p.1, p.2)

pub loop-k-preserved : goal.loop-k-preserved
loop-k-preserved g c =
    let r = c.requires.posted in
    let i = c.loop-k.invariant in
    let e = c.in_ok-out.ensures in
    let inside = c.loop-k-test.true in record {
      me = e.me;
      core = e.core ∙ i.core;
      stole = stole_then _ _ _ i.stole e.stole;
      waits = waits_then (me_seen c.args.me.now) (me_seen c.loop-k.me) (me_seen c.collect_one.new.me) i.waits e.waits;
      seen = looked_then _ _ _ i.seen e.seen;
      desk = works_more c.loop-k.k 1 _ _ _ i.desk e.desk _ refl;
      meet = λ ins is.
          let p = next_posted place_of c.args.places.now _ _ ins c.loop-k.k (named_for place_of c.args.places.now _ r.0 ins r.1 r.2 is) is (ap (λ (d : Desk). d.posted) i.desk.is) inside in
          meets_push ins c.loop-k.outs.items _ c.loop-k.k p.0 _ p.3 (i.meet ins is) (e.meets p.0 p.1 p.2) c.in_ok-push.ensures.items;
      inside = omega (arith, inside);
    }
