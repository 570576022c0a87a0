use Rattle.std.proofs.Common.{◌≡◌, ◌≤◌, ◌*◌, ◌^◌, take}
use Rattle.report_shares.specs.Shares.{ticks_in}
use Rattle.report_shares.proofs.ticks.ticks_in.Given as goal

abbrev pub invariant-loop-row : goal.invariant-loop-row
invariant-loop-row l = record {
  counted : l.ticks ≡ ticks_in l.from l.to (take l.row-index l.rows);
  few : l.ticks ≤ l.row-index * 2 ^ 31;
}
