-- Where leaves take replies alone, the value of a source is its reply, and no leaf of work has a source.
use Rattle.std.proofs.Common.{◌≡◌, ℕ, zero, suc, List, [], ◌∷◌, get_or, Option, None, Some, refl, sym, ap, ◌∙◌}
use Rattle.std.specs.Prelude.{slice_get}
use Rattle.std.specs.Option.{ForSome}
use Rattle.std.proofs.lemmas.Option.{get_or_from_slice_get}
use Rattle.seq_objects.specs.Spin.{spin_of}
use Rattle.seq_objects.specs.declared.act.Act.TheVariants.{Work, Call}
use Rattle.sp_order.specs.Jobs.{JobValue}
use Rattle.sp_order.specs.Sources.{IsCallLeaf, TakeReplies}
use Rattle.batch_history.specs.Operations.{source_of, reply_at, value_from, value_under}
use Rattle.batch_history.specs.Places.{place_of}
use Rattle.batch_history.specs.declared.batch.Entry.{Entry}
use Rattle.batch_history.specs.declared.row.Row.{Row}

-- the source of a leaf that has one stands in the list
source_there : (sources : List (Option ℕ)) (leaf source : ℕ) → get_or sources leaf None ≡ Some source → slice_get sources leaf ≡ Some (Some source)
source_there [] leaf source is = cc
source_there (first ∷ sources) zero source is = ap (λ found. Some found) is
source_there (first ∷ sources) (suc leaf) source is = source_there sources leaf source is

-- the value of a leaf that calls is that of its reply
call_value : (meaning : ℕ → ℕ) (job : JobValue) (book : List (List Entry)) (leaf : ℕ) → IsCallLeaf job.acts leaf → value_under meaning job book leaf ≡ reply_at (place_of book leaf)
call_value meaning job book leaf (op, at) =
    ap (λ act. value_from meaning book act (source_of job leaf) leaf) (get_or_from_slice_get job.acts leaf (Call op) (Work 0) at)

module _ (job : JobValue) (take : TakeReplies job.acts job.sources) where
  -- the value of a source is that of its reply
  pub source_value : (meaning : ℕ → ℕ) (book : List (List Entry)) (leaf source : ℕ) → source_of job leaf ≡ Some source → value_under meaning job book source ≡ reply_at (place_of book source)
  source_value meaning book leaf source is = call_value meaning job book source (take leaf source (source_there job.sources leaf source is)).1

  -- a leaf of work has no source
  alone : (leaf steps : ℕ) (source : Option ℕ) → slice_get job.acts leaf ≡ Some (Work steps) → source_of job leaf ≡ source → source ≡ None
  alone leaf steps None at is = refl
  alone leaf steps (Some source) at is =
      let call = (take leaf source (source_there job.sources leaf source is)).0 in
      let wrong : Some (Work steps) ≡ Some (Call call.0) = sym at ∙ call.1 in
      absurd (cc wrong)

  pub work_alone : (leaf steps : ℕ) → slice_get job.acts leaf ≡ Some (Work steps) → source_of job leaf ≡ None
  work_alone leaf steps at = alone leaf steps (source_of job leaf) at refl

  -- the value of work is that of its own number
  work_value : (book : List (List Entry)) (leaf steps : ℕ) → slice_get job.acts leaf ≡ Some (Work steps) → value_from spin_of book (Work steps) (source_of job leaf) leaf ≡ Some (spin_of steps)
  work_value book leaf steps at = ap (λ source. value_from spin_of book (Work steps) source leaf) (work_alone leaf steps at)

  -- rows have the values of work under a book exactly where they have those of its own numbers
  pub work_of_steps : (book : List (List Entry)) (rows : List Row)
      → ((leaf steps : ℕ) → slice_get job.acts leaf ≡ Some (Work steps) → ForSome (slice_get rows leaf) (λ row. row.value ≡ spin_of steps))
      → (leaf steps : ℕ) → slice_get job.acts leaf ≡ Some (Work steps) → ForSome (slice_get rows leaf) (λ row. value_from spin_of book (Work steps) (source_of job leaf) leaf ≡ Some row.value)
  work_of_steps book rows all leaf steps at row is = work_value book leaf steps at ∙ ap (λ value. Some value) (sym (all leaf steps at row is))

  pub steps_of_work : (book : List (List Entry)) (rows : List Row)
      → ((leaf steps : ℕ) → slice_get job.acts leaf ≡ Some (Work steps) → ForSome (slice_get rows leaf) (λ row. value_from spin_of book (Work steps) (source_of job leaf) leaf ≡ Some row.value))
      → (leaf steps : ℕ) → slice_get job.acts leaf ≡ Some (Work steps) → ForSome (slice_get rows leaf) (λ row. row.value ≡ spin_of steps)
  steps_of_work book rows all leaf steps at row is = some_same row.value (spin_of steps) (sym (all leaf steps at row is) ∙ work_value book leaf steps at)
    where
      some_same : (x y : ℕ) → Some x ≡ Some y → x ≡ y
      some_same x y e = cc
