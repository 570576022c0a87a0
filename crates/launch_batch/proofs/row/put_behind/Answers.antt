use Rattle.std.proofs.Common.{◌≡◌, [], refl, arith}
use Rattle.std.proofs.lemmas.Bool.Decides.{nat_tests}
use Rattle.object_rows.proofs.ListLemmas.{no_members}
use Rattle.launch_batch.proofs.row.put_behind.Goals as goal

pub returns-then-is_empty : goal.returns-then-is_empty
returns-then-is_empty c =
    let empty : c.args.replies.now.items ≡ [] =
    no_members c.args.replies.now.items (λ some. let all = c.args.replies.now.ok.0 in let e = c.is_empty.ensures in let is = c.if-is_empty.true in grind (arith, nat_tests)) in
    rw empty refl
