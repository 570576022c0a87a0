-- Jobs without sources: a call is that of its leaf's act, and a leaf of work has the value of its own number.
use Rattle.std.proofs.Common.{◌≡◌, ℕ, zero, suc, List, [], ◌∷◌, Option, None, Some, refl, sym, ap, ◌∙◌}
use Rattle.std.specs.Prelude.{slice_get, slice_index_or}
use Rattle.std.specs.List.{AllByRecursion}
use Rattle.seq_objects.specs.declared.act.Act.TheVariants.{Work, Call}
use Rattle.seq_objects.proofs.Elements.{each_so}
use Rattle.sp_order.specs.Jobs.{JobValue}
use Rattle.sp_order.specs.Phases.{HasNoSources}
use Rattle.batch_history.specs.declared.batch.Entry.{Entry}
use Rattle.serial_runs.specs.SerialRuns.{HasValue, IsAsked, IsSerialRunWith}

none_at : (sources : List (Option ℕ)) (leaf : ℕ) → AllByRecursion (λ source. source ≡ None) sources → slice_index_or sources leaf None ≡ None
none_at [] leaf all = refl
none_at (source ∷ sources) zero all = all.0
none_at (source ∷ sources) (suc leaf) all = none_at sources leaf all.1

abbrev pub IsOwn : JobValue → Entry → Type 0
IsOwn job call = slice_get job.acts call.leaf ≡ Some (Call call.op)

module _ (work : ℕ → ℕ) (job : JobValue) (calls : List Entry) where
  pub each_own : HasNoSources job → IsSerialRunWith work job calls → AllByRecursion (IsOwn job) calls
  each_own plain run = each_so (IsAsked work job calls) (IsOwn job)
      (λ call asked. asked.act ∙ ap (λ op. Some (Call op)) (sym (asked.plain (none_at job.sources call.leaf plain)))) calls run.asked

  pub own_value : (leaf value number : ℕ) → HasNoSources job → slice_get job.acts leaf ≡ Some (Work number) → HasValue work job calls leaf value → value ≡ work number
  own_value leaf value number plain act has =
      let works = has.works number act in
      works.2 ∙ ap work (works.1.plain (none_at job.sources leaf plain))
