use Rattle.bt_io.specs.Causes.{Rose}
use Rattle.jobview.specs.Words.{Asked}
use Rattle.jobview.specs.Outcomes.{Completes, IsAssured}
use Rattle.jobview.specs.Code.{asked_in}
use Rattle.jobview.proofs.Outcomes.{Laws, completes, assured, asked}
use Rattle.jobview.proofs.program.jobview.Goals as goal

pub returns-in-Some-clause-completes : goal.returns-in-Some-clause-completes
returns-in-Some-clause-completes g c =
    let jobs = c.texts_have_one_job_or_fault.ensures in
    let laws : Laws = record {
      one_job = jobs.one_job;
      one_fault = jobs.one_fault;
      not_both = jobs.not_both;
      one_view = c.texts_have_one_view.ensures;
    } in
    let run = c.show_file.ensures in
    let view = c.in-Some.view in
    let held = g.I.Shelf.held c.args.shelf.now in
    let R = Rose (g.I.Shelf.faults c.args.shelf.now) (g.I.Shelf.faults c.show_file.new.shelf) in
    let W = Rose (g.O.Sink.faults c.args.out.now) (g.O.Sink.faults c.show_file.new.out) in
    asked _ (asked_in view) (λ (one : Asked). Completes one.form (held one.file) c.show_file.result R W) c.in-Some.ensures
    (completes laws view.form (held view.file.now) R W _ _ c.show_file.result run.cause run.prints)

pub returns-in-Some-clause-assured : goal.returns-in-Some-clause-assured
returns-in-Some-clause-assured g c =
    let jobs = c.texts_have_one_job_or_fault.ensures in
    let laws : Laws = record {
      one_job = jobs.one_job;
      one_fault = jobs.one_fault;
      not_both = jobs.not_both;
      one_view = c.texts_have_one_view.ensures;
    } in
    let run = c.show_file.ensures in
    let view = c.in-Some.view in
    let held = g.I.Shelf.held c.args.shelf.now in
    let R = Rose (g.I.Shelf.faults c.args.shelf.now) (g.I.Shelf.faults c.show_file.new.shelf) in
    let W = Rose (g.O.Sink.faults c.args.out.now) (g.O.Sink.faults c.show_file.new.out) in
    let never = g.I.Shelf.never_fails c.args.shelf.now in
    let room = g.O.Sink.room_left c.args.out.now in
    asked _ (asked_in view) (λ (one : Asked). IsAssured one.form (held one.file) c.show_file.result never room) c.in-Some.ensures
    (assured laws view.form (held view.file.now) R W _ _ c.show_file.result never room run.cause run.prints run.reads run.writes)
