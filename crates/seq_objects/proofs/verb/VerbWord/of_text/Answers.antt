use Rattle.std.proofs.Common.{rules, ap, arith, codes, sym}
use Rattle.std.proofs.lemmas.Slice.Eq.{text_from_reads}
use Rattle.seq_objects.specs.Verbs.{word_by_text}
use Rattle.seq_objects.proofs.verb.VerbWord.of_text.Goals as goal

pub returns-in-insert : goal.returns-in-insert
returns-in-insert c = sym (ap (λ text. word_by_text text) (text_from_reads c.args.text.now (codes "insert") (omega (arith, c.in-insert.len_at_least, c.in-insert.len_below)) (search rules)))

pub returns-in-remove : goal.returns-in-remove
returns-in-remove c = sym (ap (λ text. word_by_text text) (text_from_reads c.args.text.now (codes "remove") (omega (arith, c.in-remove.len_at_least, c.in-remove.len_below)) (search rules)))
