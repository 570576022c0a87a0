use Rattle.bt_io.specs.Causes.{Rose}
use Rattle.batchcheck.specs.Outcomes.{Completes, IsAssured}
use Rattle.batchcheck.specs.Code.{files_in}
use Rattle.batchcheck.proofs.OutcomeLemmas.{Laws, completes, assured, named}
use Rattle.batchcheck.proofs.program.batchcheck.Goals as goal

pub returns-in-Some-clause-completes : goal.returns-in-Some-clause-completes
returns-in-Some-clause-completes g c =
    let jobs = c.texts_have_one_job_or_fault.ensures in
    let laws : Laws = record {
      one_job = jobs.one_job;
      one_fault = jobs.one_fault;
      not_both = jobs.not_both;
      one_flaw = c.accepted_jobs_have_one_flaw.ensures;
      no_flaw = c.lawful_texts_have_no_flaw.ensures;
    } in
    let run = c.check_files.ensures in
    let held = g.I.Shelf.held c.args.shelf.now in
    let R = Rose (g.I.Shelf.faults c.args.shelf.now) (g.I.Shelf.faults c.check_files.new.shelf) in
    let W = Rose (g.O.Sink.faults c.args.out.now) (g.O.Sink.faults c.check_files.new.out) in
    named _ (files_in c.in-Some.check) (λ files. Completes files held c.check_files.result R W) c.in-Some.ensures
    (completes laws _ held R W _ _ c.check_files.result run.cause run.prints)

pub returns-in-Some-clause-assured : goal.returns-in-Some-clause-assured
returns-in-Some-clause-assured g c =
    let jobs = c.texts_have_one_job_or_fault.ensures in
    let laws : Laws = record {
      one_job = jobs.one_job;
      one_fault = jobs.one_fault;
      not_both = jobs.not_both;
      one_flaw = c.accepted_jobs_have_one_flaw.ensures;
      no_flaw = c.lawful_texts_have_no_flaw.ensures;
    } in
    let run = c.check_files.ensures in
    let held = g.I.Shelf.held c.args.shelf.now in
    let R = Rose (g.I.Shelf.faults c.args.shelf.now) (g.I.Shelf.faults c.check_files.new.shelf) in
    let W = Rose (g.O.Sink.faults c.args.out.now) (g.O.Sink.faults c.check_files.new.out) in
    let never = g.I.Shelf.never_fails c.args.shelf.now in
    let room = g.O.Sink.room_left c.args.out.now in
    named _ (files_in c.in-Some.check) (λ files. IsAssured files held c.check_files.result never room) c.in-Some.ensures
    (assured laws _ held R W _ _ c.check_files.result never room run.cause run.prints run.reads run.writes)
