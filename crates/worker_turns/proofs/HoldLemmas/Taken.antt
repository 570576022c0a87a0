-- The calls that a hold has taken, and the workers that it has answered.
use Rattle.std.proofs.Common.{ℕ, ◌≡◌, ◌≢◌, true, false, Some, List, [], ◌∷◌, map, sym, ap, ◌∙◌, inl, inr, refl}
use Rattle.std.specs.List.{AllByRecursion}
use Rattle.std.proofs.lemmas.Bool.{cases_eq}
use Rattle.seq_objects.specs.declared.call.Call.{Call}
use Rattle.seq_objects.specs.Pairs.{AreDistinct}
use Rattle.seq_objects.proofs.Elements.{each_unmapped}
use Rattle.table_rule.specs.Passes.{record_of}
use Rattle.table_rule.specs.Shows.{took_in, record_in, among}
use Rattle.launch_batch.proofs.ListLemmas.Among.{Among, each_among}
use Rattle.core_model.proofs.BookLemmas.OwnEntries.{if_other, if_same}

abbrev pub worker_of : Call → ℕ
worker_of call = call.worker

-- where no worker stands twice, a call that was taken is the one that was taken of its worker
pub record_taken : (taken : List Call) (call : Call) → AreDistinct (map worker_of taken) → Among call taken → record_in taken call.worker ≡ Some (record_of call)
record_taken [] call distinct there = absurd there
record_taken (t ∷ taken) call distinct there = elim there [
  | inl is ↦ if_same call.worker t.worker (Some (record_of t)) (record_in taken call.worker) (ap worker_of is) ∙ ap (λ (c : Call). Some (record_of c)) (sym is)
  | inr later ↦
      let apart : t.worker ≢ call.worker = each_among (λ (c : Call). t.worker ≢ c.worker) taken call (each_unmapped worker_of (λ n. t.worker ≢ n) taken distinct.0) later in
      if_other call.worker t.worker (Some (record_of t)) (record_in taken call.worker) (λ e. apart (sym e)) ∙ record_taken taken call distinct.1 later
]

-- a worker whose call was taken has a call among those that were
pub took_taken : (taken : List Call) (u : ℕ) → took_in taken u ≡ true → (call : Call) × Among call taken × (call.worker ≡ u)
took_taken [] u e = absurd (cc)
took_taken (t ∷ taken) u e = elim (cases_eq u t.worker) [
  | inl is ↦ (t, inl refl, sym is)
  | inr other ↦ let more = took_taken taken u (sym (if_other u t.worker true (took_in taken u) other) ∙ e) in (more.0, inr more.1, more.2)
]

-- and the other way round
pub taken_took : (taken : List Call) (call : Call) → Among call taken → took_in taken call.worker ≡ true
taken_took [] call there = absurd there
taken_took (t ∷ taken) call there = elim (cases_eq call.worker t.worker) [
  | inl is ↦ if_same call.worker t.worker true (took_in taken call.worker) is
  | inr other ↦ if_other call.worker t.worker true (took_in taken call.worker) other ∙ (elim there [
    | inl is ↦ absurd (other (ap worker_of is))
    | inr later ↦ taken_took taken call later
  ])
]

pub among_there : (ns : List ℕ) (n : ℕ) → Among n ns → among ns n ≡ true
among_there [] n there = absurd there
among_there (m ∷ ns) n there = elim (cases_eq n m) [
  | inl is ↦ if_same n m true (among ns n) is
  | inr other ↦ if_other n m true (among ns n) other ∙ (elim there [ inl is ↦ absurd (other is) | inr later ↦ among_there ns n later ])
]

-- and a number that is none of them is not
pub not_among : (ns : List ℕ) (n : ℕ) → AllByRecursion (λ m. m ≢ n) ns → among ns n ≡ false
not_among [] n apart = refl
not_among (m ∷ ns) n apart = if_other n m true (among ns n) (λ e. apart.0 (sym e)) ∙ not_among ns n apart.1
