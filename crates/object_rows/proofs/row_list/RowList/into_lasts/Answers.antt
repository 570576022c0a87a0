use Rattle.std.proofs.Common.{◌≡◌, [], length, subst, arith}
use Rattle.std.proofs.lemmas.Bool.Decides.{nat_tests}
use Rattle.object_rows.specs.Rows.{RowListView, members}
use Rattle.object_rows.specs.Code.Lasts.{lasts}
use Rattle.object_rows.proofs.ListLemmas.{no_members}
use Rattle.object_rows.proofs.RowLists.{lasts_of_ones}
use Rattle.object_rows.proofs.row_list.RowList.into_lasts.Goals as goal

pub returns-then-len-count : goal.returns-then-len-count
returns-then-len-count g c =
    let ones = c.self.inside.ones in
    let others = c.self.inside.others in
    let none : others.items ≡ [] = no_members others.items (λ some. let all = others.ok.0 in let empty = c.is_empty.ensures in let is = c.if-is_empty.true in grind (arith, nat_tests)) in
    let count : c.args.count ≡ length ones.items = let all = ones.ok.0 in let len = c.len.ensures in let is = c.if-len-count.true in omega (arith, all, len, is) in
    subst (λ (v : RowListView _). ones.items ≡ lasts c.args.count (members v.items)) c.self.view_is (lasts_of_ones ones.items others.items c.args.count none count)
