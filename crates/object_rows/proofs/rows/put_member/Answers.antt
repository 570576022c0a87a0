use Rattle.std.proofs.Common.{refl, arith}
use Rattle.object_rows.proofs.Adding.{put_there, put_behind}
use Rattle.object_rows.proofs.rows.put_member.Goals as goal

pub returns-in_ok-push_member : goal.returns-in_ok-push_member
returns-in_ok-push_member g c =
    put_there c.args.rows.now.items c.args.place c.index_mut-row.result.now c.push_member.new.members c.args.member
    (let len = c.len.ensures in let all = c.args.rows.now.ok.0 in omega (arith, c.if-place-len.true, len, all)) c.index_mut-row.ensures.value c.in_ok-push_member.ensures

pub returns-in_ok-push : goal.returns-in_ok-push
returns-in_ok-push g c =
    rw c.in_ok-push.ensures.items
    (put_behind c.args.rows.now.items c.args.place _ c.args.member
    (let len = c.len.ensures in let all = c.args.rows.now.ok.0 in omega (arith, c.if-place-len.false, len, all, c.requires)) refl)
