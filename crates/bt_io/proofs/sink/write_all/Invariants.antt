use Rattle.std.proofs.Common.{length, ◌-◌, ◌+◌, ◌≤◌, take}
use Rattle.std.specs.Io.KnownBytes.{Appends}
use Rattle.bt_io.proofs.sink.write_all.Given as goal

abbrev pub invariant-loop-at : goal.invariant-loop-at
invariant-loop-at g l =
    let sink = g.O.Sink in
    record {
      within : l.at ≤ length l.bytes;
      told : Appends (sink.taken l.fn.sink) (sink.taken l.sink) (take l.at l.bytes);
      later : sink.faults l.fn.sink ≤ sink.faults l.sink;
      room_left : sink.room_left l.fn.sink ≤ sink.room_left l.sink + l.at;
    }

abbrev pub decreases-loop-at : goal.decreases-loop-at
decreases-loop-at g l = length l.bytes - l.at
