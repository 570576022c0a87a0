use Rattle.std.proofs.Common.{vec_len, vec_capacity, ◌≡◌, ℕ, ◌+◌, suc, length, drop, ap, sym, ◌∙◌, subst, arith}
use Rattle.piece_board.specs.Boards.{desk_view}
use Rattle.shared_pieces.specs.Batches.{AllMeet}
use Rattle.shared_pieces.specs.Rows.{placed_from}
use Rattle.shared_pieces.proofs.Places.{at_number, placed_same, placed_long, all_dropped, all_taken, met_next}
use Rattle.shared_pieces.proofs.rows.collect_all.Goals.{in-Some, in-None}
use Rattle.shared_pieces.proofs.rows.collect_all.Goals as goal

pub collect_one-requires-clause-first : goal.collect_one-requires-clause-first
collect_one-requires-clause-first g c κs within =
    let r = c.requires.posted in
    let count = r.2 in
    let test = c.loop-place-test.true in
    let p = at_number r.0 c.loop-place.place (omega (arith, count, test)) in
    (p.0, _, c.loop-place.invariant.left ∙ (ap (drop c.loop-place.place) r.1 ∙ p.1))

pub loop-place-preserved : goal.loop-place-preserved
loop-place-preserved g c =
    let r = c.requires.posted in
    let i = c.loop-place.invariant in
    let e = c.collect_one.ensures in
    let k = c.loop-place.place in
    let count = r.2 in
    let test = c.loop-place-test.true in
    let few = i.room.0 in
    let enough = i.room.1 in
    let next : suc k ≡ k + 1 = omega arith in
    let p = at_number r.0 k (omega (arith, count, test)) in
    let first = i.left ∙ (ap (drop k) r.1 ∙ p.1) in record {
      desk = e.desk;
      inside = omega (arith, test);
      left = e.free p.0 _ first ∙ (ap (drop (suc k)) (sym r.1) ∙ ap (λ (n : ℕ). drop n (desk_view c.args.desk.now).posted) next);
      met = λ ins is fed.
          let long = ap (λ l. length l) (placed_same 0 r.0 ins (sym r.1 ∙ is)) in
          let q = at_number ins k (omega (arith, count, test, long)) in
          let there = i.left ∙ (ap (drop k) is ∙ q.1) in
          elim c.match-collect_one.branch [
            | in-Some w ↦ met_next g.T.InPieces.meets ins k q.0 c.loop-place.outs.items _ w.in-Some.out q.2 (i.met ins is (sym w.starved-is ∙ fed)) (w.in-Some.ensures.met q.0 _ there)
                (ap (λ v. v.items) w.outs-is ∙ w.push_reserved.ensures.items)
            | in-None w ↦ let both = sym w.starved-is ∙ fed in absurd (cc)
          ];
      starved = λ ins is hungry.
          let long = ap (λ l. length l) (placed_same 0 r.0 ins (sym r.1 ∙ is)) in
          let q = at_number ins k (omega (arith, count, test, long)) in
          let there = i.left ∙ (ap (drop k) is ∙ q.1) in
          elim c.match-collect_one.branch [
            | in-Some w ↦ let s = i.starved ins is (sym w.starved-is ∙ hungry) in let before = s.2 in (s.0, s.1, omega (arith, before), s.3, s.4)
            | in-None w ↦ (k, q.0, omega arith, q.3, w.in-None.ensures.met q.0 _ there)
          ];
      room = elim c.match-collect_one.branch [
        | in-Some w ↦ let l = ap (λ v. vec_len v) w.outs-is in let m = w.push_reserved.ensures.len in
            let n = ap (λ v. vec_capacity v) w.outs-is in let o = w.push_reserved.ensures.capacity in (omega (arith, l, m, few), omega (arith, n, o, enough))
        | in-None w ↦ let l = ap (λ v. vec_len v) w.outs-is in let n = ap (λ v. vec_capacity v) w.outs-is in (omega (arith, l, few), omega (arith, n, enough))
      ];
    }

pub returns-then-starved-clause-free : goal.returns-then-starved-clause-free
returns-then-starved-clause-free g c =
    let r = c.requires.posted in
    let i = c.loop-place.invariant in
    let count = r.2 in
    let test = c.loop-place-test.false in
    let long = placed_long 0 r.0 in
    i.left ∙ (ap (drop c.loop-place.place) r.1 ∙ all_dropped (placed_from 0 r.0) c.loop-place.place (omega (arith, count, test, long)))

pub returns-then-starved-clause-starved : goal.returns-then-starved-clause-starved
returns-then-starved-clause-starved g c ins is =
    let r = c.requires.posted in
    let i = c.loop-place.invariant in
    let count = r.2 in
    let inside = i.inside in
    let same = ap (λ l. length l) (placed_same 0 r.0 ins (sym r.1 ∙ is)) in
    let s = i.starved ins is c.if-starved.true in
    let within = s.2 in
    (s.0, s.1, omega (arith, count, inside, same, within), s.3, s.4)

pub returns-else-starved-clause-free : goal.returns-else-starved-clause-free
returns-else-starved-clause-free g c =
    let r = c.requires.posted in
    let i = c.loop-place.invariant in
    let count = r.2 in
    let test = c.loop-place-test.false in
    let long = placed_long 0 r.0 in
    i.left ∙ (ap (drop c.loop-place.place) r.1 ∙ all_dropped (placed_from 0 r.0) c.loop-place.place (omega (arith, count, test, long)))

pub returns-else-starved-clause-met : goal.returns-else-starved-clause-met
returns-else-starved-clause-met g c ins is =
    let r = c.requires.posted in
    let i = c.loop-place.invariant in
    let count = r.2 in
    let test = c.loop-place-test.false in
    let same = ap (λ l. length l) (placed_same 0 r.0 ins (sym r.1 ∙ is)) in
    subst (λ l. AllMeet g.T.InPieces.meets l c.loop-place.outs.items) (all_taken ins c.loop-place.place (omega (arith, count, test, same))) (i.met ins is c.if-starved.false)
