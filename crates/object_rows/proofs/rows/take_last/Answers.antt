use Rattle.std.proofs.Common.{arith}
use Rattle.object_rows.proofs.Taking.{taken_there, left_there, taken_beyond, left_beyond}
use Rattle.object_rows.proofs.rows.take_last.Goals as goal

pub returns-then-place-len-clause-taken : goal.returns-then-place-len-clause-taken
returns-then-place-len-clause-taken g c =
    taken_there c.pop_member.result c.index_mut-row.result.now c.pop_member.new.members c.pop_member.ensures.taken c.pop_member.ensures.left c.args.rows.now.items c.args.place
    (let len = c.len.ensures in let all = c.args.rows.now.ok.0 in omega (arith, c.if-place-len.true, len, all)) c.index_mut-row.ensures.value

pub returns-then-place-len-clause-left : goal.returns-then-place-len-clause-left
returns-then-place-len-clause-left g c =
    left_there c.pop_member.result c.index_mut-row.result.now c.pop_member.new.members c.pop_member.ensures.taken c.pop_member.ensures.left c.args.rows.now.items c.args.place
    (let len = c.len.ensures in let all = c.args.rows.now.ok.0 in omega (arith, c.if-place-len.true, len, all)) c.index_mut-row.ensures.value

pub returns-else-place-len-clause-taken : goal.returns-else-place-len-clause-taken
returns-else-place-len-clause-taken g c = taken_beyond c.args.rows.now.items c.args.place (let len = c.len.ensures in let all = c.args.rows.now.ok.0 in omega (arith, c.if-place-len.false, len, all))

pub returns-else-place-len-clause-left : goal.returns-else-place-len-clause-left
returns-else-place-len-clause-left g c = left_beyond c.args.rows.now.items c.args.place (let len = c.len.ensures in let all = c.args.rows.now.ok.0 in omega (arith, c.if-place-len.false, len, all))
