use Rattle.std.proofs.Common.{Err, ap, ◌∙◌, refl}
use Rattle.job_syntax.specs.Words.{words_on_lines}
use Rattle.job_syntax.specs.Text.{last_line}
use Rattle.leaf_places.proofs.Reading.{no_fault}
use Rattle.leaf_places.proofs.reader.items_in.Goals as goal

pub unreachable-requires : goal.unreachable-requires
unreachable-requires c =
    let text = c.args.text.now in
    no_fault text (last_line text) (words_on_lines text) c.in-Err-Bad.field-0-0 refl c.requires.accepted
    (c.read_items.ensures.fault c.in-Err-Bad.field-0-0 (c.in-Err-Bad.is ∙ ap (λ e. Err e) c.in-Err-Bad.field-0-is))
