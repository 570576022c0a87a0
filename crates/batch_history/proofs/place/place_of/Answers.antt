use Rattle.std.proofs.Common.{◌≡◌, ◌<◌, ◌+◌, ◌-◌, length, arith, ap, sym, ◌∙◌}
use Rattle.std.proofs.Math.Seq.{take-length}
use Rattle.batch_history.proofs.BookLemmas.Search.{batch_short, place_none, found_back, passed_back, distinct_back}
use Rattle.batch_history.proofs.place.place_of.Goals as goal

pub place_in-found-requires : goal.place_in-found-requires
place_in-found-requires c =
    let n = c.loop-number.number - 1 in
    let below : n < length c.args.batches.now = omega (arith, c.loop-number.invariant.within) in
    let short = batch_short c.args.batches.now n c.index-batches-number.result below in
    record { few = omega (arith, short, c.requires.few_entries, ap length c.entries.ensures, ap length c.index-batches-number.is) }

pub loop-number-init : goal.loop-number-init
loop-number-init c = let all = take-length c.args.batches.now in record { within = omega arith; same = rw all; distinct = rw all c.requires.distinct }

pub returns-then-is_some : goal.returns-then-is_some
returns-then-is_some c =
    let n = c.loop-number.number - 1 in
    let below : n < length c.args.batches.now = omega (arith, c.loop-number.invariant.within) in
    let up : c.loop-number.number ≡ n + 1 = omega arith in
    let e = rw c.entries.ensures at c.place_in-found.ensures in
    found_back c.args.batches.now c.args.leaf n c.index-batches-number.result below c.index-batches-number.is c.place_in-found.result
    (rw up at c.loop-number.invariant.distinct)
    e (sym c.is_some.ensures ∙ c.if-is_some.true)
    ∙ sym (rw up at c.loop-number.invariant.same)

pub returns : goal.returns
returns c =
    let none : c.loop-number.number ≡ 0 = omega (arith, c.loop-number-test.false) in
    sym (rw none at c.loop-number.invariant.same ∙ place_none c.args.leaf)

pub loop-number-preserved : goal.loop-number-preserved
loop-number-preserved c =
    let n = c.loop-number.number - 1 in
    let below : n < length c.args.batches.now = omega (arith, c.loop-number.invariant.within) in
    let up : c.loop-number.number ≡ n + 1 = omega arith in
    let e = rw c.entries.ensures at c.place_in-found.ensures in
    record {
      within = omega (arith, below);
      same = (rw up at c.loop-number.invariant.same)
          ∙ passed_back c.args.batches.now c.args.leaf n c.index-batches-number.result below c.index-batches-number.is c.place_in-found.result
          e (sym c.is_some.ensures ∙ c.if-is_some.false);
      distinct = distinct_back c.args.batches.now c.args.leaf n c.index-batches-number.result below c.index-batches-number.is
          (rw up at c.loop-number.invariant.distinct);
    }
