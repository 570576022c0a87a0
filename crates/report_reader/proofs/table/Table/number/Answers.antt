use Rattle.std.proofs.Common.{ap, sym, ◌∙◌}
use Rattle.job_names.specs.declared.name.Name.{Name}
use Rattle.report_reader.specs.Code.Objects.{number_in}
use Rattle.report_reader.proofs.Growing.{adds_name, kept_more, extends_more, mark_name}
use Rattle.report_reader.proofs.table.Table.number.Goals as goal

pub returns-in_ok-add-in-None-clause-kept : goal.returns-in_ok-add-in-None-clause-kept
returns-in_ok-add-in-None-clause-kept c =
    let name = c.in-Some.spelled.now in
    let grown = c.in_ok-add-in-None.ensures in
    let adds = adds_name c.args.self.now c.add.new.self c.args.kind name c.in_ok-add-in-None.field-0 c.name_of-name.result c.name_of-name.ensures grown.names grown.number grown.grows grown.own grown.others in
    kept_more c.args.self.now c.add.new.self c.args.kind name c.in_ok-add-in-None.field-0 (mark_name c.args.mark.now _ name c.in-Some.ensures.cases.0 c.requires.mark) adds c.requires.kept

pub returns-in_ok-add-in-None-clause-extends : goal.returns-in_ok-add-in-None-clause-extends
returns-in_ok-add-in-None-clause-extends c =
    let name = c.in-Some.spelled.now in
    let grown = c.in_ok-add-in-None.ensures in
    let adds = adds_name c.args.self.now c.add.new.self c.args.kind name c.in_ok-add-in-None.field-0 c.name_of-name.result c.name_of-name.ensures grown.names grown.number grown.grows grown.own grown.others in
    extends_more c.args.self.now c.add.new.self c.args.kind name c.in_ok-add-in-None.field-0 (mark_name c.args.mark.now _ name c.in-Some.ensures.cases.0 c.requires.mark) adds c.if-self.true
    (ap (λ (n : Name). number_in c.args.self.now c.args.kind n) (sym c.name_of-name.ensures) ∙ sym c.get.ensures ∙ c.in-None.is)
