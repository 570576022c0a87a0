use Rattle.std.proofs.Common.{◌≡◌, ◌++◌, drop}
use Rattle.batched_counter.specs.Calls.{addends}
use Rattle.batched_counter.proofs.begin.addends_of.Given as goal

-- the addends so far, followed by those of the remaining calls, are all addends
abbrev pub invariant-loop-call : goal.invariant-loop-call
invariant-loop-call l = l.all.items ++ addends (drop l.call-index l.calls) ≡ addends l.calls
