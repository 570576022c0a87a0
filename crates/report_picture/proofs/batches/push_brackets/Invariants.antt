use Rattle.std.proofs.Common.{◌≡◌, ◌+◌, ◌++◌, drop, length, map}
use Rattle.job_names.specs.Names.{spelling}
use Rattle.batch_history.specs.Book.{flat}
use Rattle.report_picture.specs.Boxes.{brackets_from}
use Rattle.report_picture.specs.Code.Texts.{brackets_text}
use Rattle.report_picture.proofs.batches.push_brackets.Given as goal

abbrev pub invariant-loop-number : goal.invariant-loop-number
invariant-loop-number l = record {
  counted : l.first + length (flat (drop l.number l.book)) ≡ length (flat l.book);
  written : l.text.items ++ brackets_text (map spelling l.names) l.strip.scale l.strip.foot (brackets_from l.number l.first (drop l.number l.book))
      ≡ l.fn.text.items ++ brackets_text (map spelling l.names) l.strip.scale l.strip.foot (brackets_from 0 0 l.book);
}
