use Rattle.std.proofs.Common.{◌≡◌, ◌++◌, take}
use Rattle.report_picture.specs.Code.Texts.{shares_text}
use Rattle.report_picture.proofs.columns.push_shares.Given as goal

abbrev pub invariant-loop-share : goal.invariant-loop-share
invariant-loop-share l = l.text.items ≡ l.fn.text.items ++ shares_text l.width (take l.share-index l.shares)
