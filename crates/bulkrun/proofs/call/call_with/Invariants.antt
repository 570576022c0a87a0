use Rattle.std.proofs.Common.{◌≡◌, drop, length}
use Rattle.bulkrun.specs.Calls.{keys_named}
use Rattle.bulkrun.proofs.CallLemmas.{behind}
use Rattle.bulkrun.proofs.call.call_with.Given as goal

abbrev pub invariant-loop-word : goal.invariant-loop-word
invariant-loop-word l = record {
  kind : l.call.kind ≡ l.fn.kind;
  keys : behind l.call.keys (keys_named (drop l.word-index l.words)) ≡ keys_named l.words;
  count : length l.call.keys ≡ l.word-index;
}
