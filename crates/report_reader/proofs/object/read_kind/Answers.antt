use Rattle.std.proofs.Common.{sym}
use Rattle.std.specs.Char.{is_ascii_lowercase}
use Rattle.seq_objects.specs.Verbs.{kind_text, kind_by_text}
use Rattle.seq_objects.proofs.Verbs.{kind_letters, kind_found, kind_has_text}
use Rattle.decimals.proofs.Runs.{run_within}
use Rattle.report_reader.proofs.Letters.{no_word, word_read}
use Rattle.report_reader.proofs.object.read_kind.Goals as goal

pub split_at-requires : goal.split_at-requires
split_at-requires c = run_within is_ascii_lowercase c.letter_run.result c.args.text.now c.letter_run.ensures

pub returns-in_err-kind-clause-none : goal.returns-in_err-kind-clause-none
returns-in_err-kind-clause-none c =
    rw c.from_residual.ensures (no_word (λ kind. kind_text kind) (λ text. kind_by_text text) kind_letters kind_found c.letter_run.result c.args.text.now c.split_at.result.0.now c.letter_run.ensures c.split_at.ensures.front
    (sym c.in_err-kind.ensures))

pub returns-clause-some : goal.returns-clause-some
returns-clause-some c =
    word_read c.letter_run.result c.args.text.now c.split_at.result.0.now c.split_at.result.1.now (kind_text c.in_ok-kind.kind) c.letter_run.ensures c.split_at.ensures.front c.split_at.ensures.back
    (kind_has_text c.split_at.result.0.now c.in_ok-kind.kind (sym c.in_ok-kind.ensures))
