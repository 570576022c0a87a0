use Rattle.std.proofs.Common.{◌<◌, length, ◌∙◌, arith}
use Rattle.std.proofs.lemmas.Grind.{common_steps}
use Rattle.bulk_calls.proofs.BatchLemmas.{starts_ascend}
use Rattle.bulk_calls.proofs.begin.starts_of.Goals as goal

pub returns-clause-ascend : goal.returns-clause-ascend
returns-clause-ascend c =
    let keys = c.deref.result.now in
    let some : 0 < length keys = grind (arith, common_steps, c.if-is_empty.ensures, c.deref.ensures.value) in
    starts_ascend c.args.operations.now keys c.find_starts.new.starts.items (c.deref.ensures.value ∙ c.in_ok-keys.ensures) some c.in_ok-find_starts.ensures.groups
