use Rattle.std.proofs.Common.{◌≤◌, ◌<◌, ◌-◌, ◌∙◌, List, ℕ, length, get_or, ap, sym, subst, arith}
use Rattle.std.proofs.lemmas.List.{length-map}
use Rattle.job_names.specs.Names.{spelling}
use Rattle.report_reader.proofs.Growing.{spelled_short}
use Rattle.report_reader.proofs.Noting.{spelled_item}
use Rattle.report_reader.proofs.table.Table.note.Goals as goal

pub name_of-name-requires : goal.name_of-name-requires
name_of-name-requires c =
    let names = c.args.self.now.names.items in
    let i = c.number-number.result - 1 in
    let low : i < length names = omega (arith, c.requires.within, c.if-number-eq0.false, c.number-number.ensures, length-map names spelling) in
    subst (λ (t : List ℕ). length t ≤ 32) (sym (c.bytes.ensures ∙ ap spelling c.index.ensures))
    (spelled_short (spelling (get_or names i c.index.result.now)) (spelled_item names i c.index.result.now c.requires.spelled low))
