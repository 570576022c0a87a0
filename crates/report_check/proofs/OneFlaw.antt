-- A text has one flaw, or none.
use Rattle.std.proofs.Common.{◌≡◌, ℕ, ◌⊎◌, inl, inr, List, Option, None, Some, refl, sym, ap, subst, ◌∙◌}
use Rattle.std.proofs.lemmas.Bool.{cases_order}
use Rattle.sp_order.specs.Jobs.{JobValue}
use Rattle.batch_history.specs.declared.report.Report.{Report}
use Rattle.report_reader.specs.Texts.{HasText}
use Rattle.report_check.specs.declared.flaw.Flaw.{Flaw}
use Rattle.report_check.specs.declared.flaw.Flaw.TheVariants.{Text, Rows, Order, Calls, Replies, Ticks, Batches, Values}
use Rattle.report_check.specs.Flaws.{Part, rank, FailsFirst, IsFlawOf}
use Rattle.report_check.proofs.Parts.{same_flaw, lawful_part}

-- two flaws of which each is the first are one
one_first : (job : JobValue) (report : Report) (flaw other : Flaw) → FailsFirst job report flaw → FailsFirst job report other → flaw ≡ other
one_first job report flaw other first first' = elim (cases_order (rank flaw) (rank other)) [
  | inl same ↦ same_flaw flaw other same
  | inr apart ↦ elim apart [
    | inl below ↦ absurd (first.failed (first'.earlier flaw below))
    | inr above ↦ absurd (first'.failed (first.earlier other above))
  ]
]

module _ (job : JobValue) (text : List ℕ) (one : (report report' : Report) → HasText job text report → HasText job text report' → report ≡ report') where
  abbrev Found : Flaw → Type 0
  Found flaw = ((flaw ≡ Text) × ((report : Report) → HasText job text report → ⊥)) ⊎ ((report : Report) × HasText job text report × FailsFirst job report flaw)

  -- the flaw is that there is no report, or the first one of a report
  found : (flaw : Flaw) → IsFlawOf job text (Some flaw) → Found flaw
  found Text is = inl (refl, is)
  found Rows is = inr is
  found Order is = inr is
  found Calls is = inr is
  found Replies is = inr is
  found Ticks is = inr is
  found Batches is = inr is
  found Values is = inr is

  some_none : (flaw : Flaw) → Found flaw → IsFlawOf job text None → ⊥
  some_none flaw (inl unread) lawful = unread.1 lawful.0 lawful.1
  some_none flaw (inr first) lawful =
      first.2.failed (subst (λ (r : Report). Part job r flaw) (one lawful.0 first.0 lawful.1 first.1) (lawful_part job lawful.0 lawful.2 flaw))

  two : (flaw other : Flaw) → Found flaw → Found other → flaw ≡ other
  two flaw other (inl unread) (inl unread') = unread.0 ∙ sym unread'.0
  two flaw other (inl unread) (inr first') = absurd (unread.1 first'.0 first'.1)
  two flaw other (inr first) (inl unread') = absurd (unread'.1 first.0 first.1)
  two flaw other (inr first) (inr first') =
      one_first job first'.0 flaw other (subst (λ (r : Report). FailsFirst job r flaw) (one first.0 first'.0 first.1 first'.1) first.2) first'.2

  pub one_flaw : (flaw other : Option Flaw) → IsFlawOf job text flaw → IsFlawOf job text other → flaw ≡ other
  one_flaw None None is is' = refl
  one_flaw None (Some other) is is' = absurd (some_none other (found other is') is)
  one_flaw (Some flaw) None is is' = absurd (some_none flaw (found flaw is) is')
  one_flaw (Some flaw) (Some other) is is' = ap Some (two flaw other (found flaw is) (found other is'))
