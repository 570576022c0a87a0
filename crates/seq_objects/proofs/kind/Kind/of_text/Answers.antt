use Rattle.std.proofs.Common.{rules, ap, arith, codes, sym}
use Rattle.std.proofs.lemmas.Slice.Eq.{text_from_reads}
use Rattle.seq_objects.specs.Verbs.{kind_by_text}
use Rattle.seq_objects.proofs.kind.Kind.of_text.Goals as goal

pub returns-in-counter : goal.returns-in-counter
returns-in-counter c = sym (ap (λ text. kind_by_text text) (text_from_reads c.args.text.now (codes "counter") (omega (arith, c.in-counter.len_at_least, c.in-counter.len_below)) (search rules)))
