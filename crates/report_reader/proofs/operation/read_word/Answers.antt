use Rattle.std.proofs.Common.{sym}
use Rattle.std.specs.Char.{is_ascii_lowercase}
use Rattle.seq_objects.specs.Verbs.{word_text, word_by_text}
use Rattle.seq_objects.proofs.Verbs.{word_letters, word_found, word_has_text}
use Rattle.decimals.proofs.Runs.{run_within}
use Rattle.report_reader.proofs.Letters.{no_word, word_read}
use Rattle.report_reader.proofs.operation.read_word.Goals as goal

pub split_at-requires : goal.split_at-requires
split_at-requires c = run_within is_ascii_lowercase c.letter_run.result c.args.text.now c.letter_run.ensures

pub returns-in_err-word-clause-none : goal.returns-in_err-word-clause-none
returns-in_err-word-clause-none c =
    rw c.from_residual.ensures (no_word (λ word. word_text word) (λ text. word_by_text text) word_letters word_found c.letter_run.result c.args.text.now c.split_at.result.0.now c.letter_run.ensures c.split_at.ensures.front
    (sym c.in_err-word.ensures))

pub returns-clause-some : goal.returns-clause-some
returns-clause-some c =
    word_read c.letter_run.result c.args.text.now c.split_at.result.0.now c.split_at.result.1.now (word_text c.in_ok-word.word) c.letter_run.ensures c.split_at.ensures.front c.split_at.ensures.back
    (word_has_text c.split_at.result.0.now c.in_ok-word.word (sym c.in_ok-word.ensures))
