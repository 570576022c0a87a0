use Rattle.std.proofs.Common.{List, ℕ, sym, ap, subst, ◌∙◌}
use Rattle.report_reader.specs.Code.Objects.{found, IsKnown}
use Rattle.seq_objects.specs.Verbs.{kind_of_verb}
use Rattle.report_reader.specs.declared.call.Line.{Line}
use Rattle.report_reader.proofs.CallLines.{one_line}
use Rattle.report_reader.proofs.Calls.{call_read, unknown}
use Rattle.report_reader.proofs.call.read_call.Goals as goal

pub returns-in-Some-2-clause-some : goal.returns-in-Some-2-clause-some
returns-in-Some-2-clause-some c =
    rw c.with_number.ensures (call_read c.number.new.self c.args.text.now c.in-Some.line c.in-Some.mark.now c.in-Some.rest.now c.in-Some-2.number c.in_ok-number.ensures.kept c.in-Some.ensures.some
    (ap (λ k. found c.number.new.self k c.in-Some.mark.now) (sym c.kind.ensures) ∙ sym c.in_ok-number.ensures.found ∙ c.in-Some-2.is))

pub returns-in-None-clause-none : goal.returns-in-None-clause-none
returns-in-None-clause-none c line mark rest is known =
    let same = one_line c.args.text.now line c.in-Some.line mark c.in-Some.mark.now rest c.in-Some.rest.now is c.in-Some.ensures.some in
    let own : IsKnown c.number.new.self (kind_of_verb c.in-Some.line.spoken.verb) c.in-Some.mark.now =
    subst (λ (l : Line). IsKnown c.number.new.self (kind_of_verb l.spoken.verb) c.in-Some.mark.now) same.0 (subst (λ (m : List ℕ). IsKnown c.number.new.self (kind_of_verb line.spoken.verb) m) same.1 known) in
    let closed = c.in_ok-number.ensures.extends.grows ∙ (rw c.in-None.is at c.in_ok-number.ensures.none) in
    unknown c.number.new.self (kind_of_verb c.in-Some.line.spoken.verb) c.in-Some.mark.now closed
    (ap (λ k. found c.number.new.self k c.in-Some.mark.now) (sym c.kind.ensures) ∙ sym c.in_ok-number.ensures.found ∙ c.in-None.is) own
