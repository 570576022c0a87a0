use Rattle.std.proofs.Common.{◌++◌, ◌≤◌, ℕ, List, length, map, ap, sym, subst, ◌∙◌, arith}
use Rattle.job_names.specs.Names.{spelling}
use Rattle.job_names.specs.declared.name.Name.{Name}
use Rattle.seq_objects.specs.Objects.{number_of}
use Rattle.seq_objects.specs.declared.act.Act.{Act}
use Rattle.report_reader.proofs.Noting.{Noted, noted_none, act_within, step_call, step_work, table_of, take_all}
use Rattle.report_reader.proofs.table.Table.of.Goals.{in-Call+in_ok-note, in_default}
use Rattle.report_reader.proofs.table.Table.of.Goals as goal

pub loop-act-init : goal.loop-act-init
loop-act-init c =
    noted_none c.args.job.now _
    (ap (λ (ns : List Name). map spelling ns) c.in_ok-extend_from_slice.ensures.items ∙ ap (λ (ns : List Name). map spelling (ns ++ c.names.result.now)) c.new-table.ensures.names ∙ c.names.ensures.names)
    c.new-table.ensures.grows c.new-table.ensures.empty

pub note-requires-clause-within : goal.note-requires-clause-within
note-requires-clause-within c =
    let is = rw c.acts-act-items.ensures.acts at c.in-Call.is in
    let low = rw c.acts-act-items.ensures.acts at c.loop-act-test.true in
    subst (λ (names : List (List ℕ)). number_of c.in-Call.op ≤ length names) (sym c.loop-act.invariant.names)
    (act_within c.args.job.now c.loop-act.act-index c.in-Call.op c.acts-act-items.ensures.job (omega (arith, low)) is)

pub loop-act-preserved : goal.loop-act-preserved
loop-act-preserved c =
    let low = rw c.acts-act-items.ensures.acts at c.loop-act-test.true in
    elim c.match-act.branch [
      | in-Call+in_ok-note w ↦
          let is = rw c.acts-act-items.ensures.acts at w.in-Call.is in
          rw w.table-is (step_call c.args.job.now c.loop-act.table w.note.new.self c.loop-act.act-index w.in-Call.op (omega (arith, low)) is w.in_ok-note.ensures.unnamed w.in_ok-note.ensures.named c.loop-act.invariant)
      | in_default w ↦
          rw w.table-is (step_work c.args.job.now c.loop-act.table c.loop-act.act-index (omega (arith, low)) (λ op is. w.in_default.not-Call op (rw c.acts-act-items.ensures.acts is)) c.loop-act.invariant)
    ]

pub returns : goal.returns
returns c =
    let all = rw c.acts-act-items.ensures.acts at c.loop-act-test.false in
    table_of c.args.job.now c.loop-act.table c.acts-act-items.ensures.job
    (subst (λ (acts : List Act). Noted c.args.job.now c.loop-act.table acts) (take_all c.args.job.now.acts c.loop-act.act-index (omega (arith, all))) c.loop-act.invariant)
