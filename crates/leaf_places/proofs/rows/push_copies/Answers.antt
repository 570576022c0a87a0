use Rattle.std.proofs.Common.{rules, ◌≡◌, ◌++◌, get_or, codes}
use Rattle.std.specs.Prelude.{string_bytes}
use Rattle.std.specs.Fmt.{decimal}
use Rattle.leaf_places.proofs.Writing.{copies_written}
use Rattle.leaf_places.proofs.rows.push_copies.Goals as goal

pub loop-copy-preserved : goal.loop-copy-preserved
loop-copy-preserved c =
    let one : string_bytes c.write.new.self ≡ string_bytes c.loop-copy.text ++ (codes " copy " ++ decimal (get_or c.args.copies.now c.loop-copy.copy-index 0)) = search rules in
    copies_written c.args.copies.now c.loop-copy.copy-index (string_bytes c.args.text.now) (string_bytes c.loop-copy.text) (string_bytes c.write.new.self) c.loop-copy-test.true c.loop-copy.invariant one
