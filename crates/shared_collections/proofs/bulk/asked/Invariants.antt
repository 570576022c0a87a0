use Rattle.std.proofs.Common.{◌≡◌, take}
use Rattle.shared_collections.specs.Bulks.{asked}
use Rattle.shared_collections.proofs.bulk.asked.Given as goal

abbrev pub invariant-loop-key : goal.invariant-loop-key
invariant-loop-key l = l.op ≡ asked l.fn.kind (take l.key-index l.keys)
