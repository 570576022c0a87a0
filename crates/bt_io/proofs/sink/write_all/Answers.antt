use Rattle.std.proofs.Common.{arith, take, drop, sym, ◌≡◌, ◌+◌, ◌++◌}
use Rattle.std.proofs.lemmas.List.{take-append-drop, take_rest}
use Rattle.std.proofs.Math.Seq.{take-add}
use Rattle.std.proofs.KnownBytes.{Appends-trans, Appends-kept}
use Rattle.bt_io.proofs.sink.write_all.Goals as goal

pub returns-in_err-at-clause-front : goal.returns-in_err-at-clause-front
returns-in_err-at-clause-front g c = (
  take c.loop-at.at c.args.bytes.now,
  drop c.loop-at.at c.args.bytes.now,
  sym (take-append-drop c.loop-at.at c.args.bytes.now),
  Appends-kept _ _ _ _ c.loop-at.invariant.told c.in_err-at.ensures.bytes,
)

pub loop-at-preserved : goal.loop-at-preserved
loop-at-preserved g c =
    let at = c.loop-at.at in
    let bytes = c.args.bytes.now in
    let count = c.in_ok-at.field-0 in
    record {
      within = omega (arith, c.in_ok-at.ensures.bound);
      told = let joined : take (at + count) bytes ≡ take at bytes ++ take count (drop at bytes) = take-add at count bytes in rw joined (Appends-trans _ _ _ _ _ c.loop-at.invariant.told (rw (take_rest bytes at) at c.in_ok-at.ensures.bytes));
      later = omega (arith, c.write.ensures.cause.later);
      room_left = omega (arith, c.in_ok-at.ensures.room_left);
    }
