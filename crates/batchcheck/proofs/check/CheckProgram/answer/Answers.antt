use Rattle.std.proofs.Common.{rules, ◌≡◌, ℕ, List, Option, Err, IsSome, inl, inr, sym, subst}
use Rattle.program_io.specs.declared.program.Stop.TheVariants.{ReadFault}
use Rattle.batchcheck.proofs.OutcomeLemmas.{not_refused_job}
use Rattle.batchcheck.proofs.check.CheckProgram.answer.Goals as goal

pub returns-in_err-text-clause-sure : goal.returns-in_err-text-clause-sure
returns-in_err-text-clause-sure g c = λ never held is.
    let same : c.read_text_of.result ≡ Err ReadFault = search rules in
    elim held [
      | inl refused ↦ not_refused_job c.texts_have_one_job_or_fault.ensures.not_both _ c.in_ok-job.job c.in_ok-job.ensures.ok refused
      | inr both ↦ c.read_text_of.ensures.sure (c.in_ok-job.ensures.never_fails never)
          (subst (λ (h : List ℕ → Option (List ℕ)). IsSome (h c.args.self.now.report.now)) (sym c.in_ok-job.ensures.held) both.1) same
    ]
