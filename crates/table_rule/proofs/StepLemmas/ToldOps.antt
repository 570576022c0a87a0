-- What was told of the source of a leaf is its value under the book; so the operation of a call, and the value of a leaf
-- of work, are by what was told as they are under the book.
use Rattle.std.proofs.Common.{ℕ, ◌≡◌, ◌⊎◌, Option as Maybe, None, Some, List, inl, inr, refl, sym, ap, ◌∙◌}
use Rattle.std.specs.Option.{option_map}
use Rattle.seq_objects.specs.declared.act.Act.{Act}
use Rattle.seq_objects.specs.declared.op.Op.{Op}
use Rattle.sp_order.specs.Sources.{low_bits}
use Rattle.sp_order.specs.declared.node.Kind.TheVariants.{LeafNode}
use Rattle.batch_history.specs.declared.batch.Entry.{Entry}
use Rattle.core_model.specs.declared.status.CallState.{CallState}
use Rattle.core_model.specs.declared.task.Task.{Task}
use Rattle.core_model.specs.declared.task.Task.TheVariants.{Started}
use Rattle.core_model.specs.State.{CoreJob, State}
use Rattle.core_model.specs.Events.{value_in}
use Rattle.core_model.specs.LeafSources.{HasSources}
use Rattle.core_model.specs.Operations.{leaf_of, number_from, op_from, op_in, value_from, value_under, IsCall}
use Rattle.core_model.proofs.BookLemmas.Operations.{reply_of}
use Rattle.table_rule.specs.DueActs.{number_told, op_told}
use Rattle.table_rule.specs.Shows.{IsTold}
use Rattle.table_rule.proofs.StepLemmas.NextActs.{MayKeep, WorksOn}

-- what was told is the value of the source
pub told_value : (job : CoreJob) (s : State) (told : Maybe ℕ) (task : Task) (n start leaf : ℕ) → task ≡ Started n start → job.plan.kind n ≡ Some (LeafNode leaf) → ((value : ℕ) → told ≡ Some value → IsTold job s task value)
    → (value source : ℕ) → told ≡ Some value → job.source leaf ≡ Some source → value_under job s.book source ≡ Some value
told_value job s told task n start leaf started kind known value source is from =
    let (node, since, u, r, there, kind', from', has, value_is) = known value is in
    let both : Started n start ≡ Started node since = sym started ∙ there in
    let at : n ≡ node = cc in
    let kinds : Some (LeafNode leaf) ≡ Some (LeafNode u) = sym kind ∙ (ap job.plan.kind at ∙ kind') in
    let same : leaf ≡ u = cc in
    let sources : Some source ≡ Some r = sym from ∙ (ap job.source same ∙ from') in
    let one : source ≡ r = cc in
    ap (value_under job s.book) one ∙ (has.under ∙ ap Some (sym value_is))

-- so the operation with it is the one under the book
pub told_op : (value : ℕ → Maybe ℕ) (told source : Maybe ℕ) (own op : Op) → op_told own source told ≡ Some op
    → ((v r : ℕ) → told ≡ Some v → source ≡ Some r → value r ≡ Some v) → op_from value (Some own) source ≡ Some op
told_op value told None own op is known = is
told_op value None (Some r) own op is known = absurd (cc)
told_op value (Some v) (Some r) own op is known = rw (known v r refl refl) is

-- the number of a leaf of work is by what was told as it is under the book
told_number : (job : CoreJob) (book : List (List Entry)) (told source : Maybe ℕ) (steps number : ℕ) → number_told steps source told ≡ Some number
    → ((v r : ℕ) → told ≡ Some v → source ≡ Some r → IsCall job r × (value_under job book r ≡ Some v)) → number_from book steps source ≡ Some number
told_number job book told None steps number is known = is
told_number job book None (Some r) steps number is known = absurd (cc)
told_number job book (Some v) (Some r) steps number is known =
    let at = known v r refl refl in
    ap (option_map low_bits) (reply_of job book r v at.0 at.1) ∙ is

-- so the value that is kept is the one that the leaf has
pub told_keep : (job : CoreJob) (s : State) (told : Maybe ℕ) (task : Task) (call : CallState) (value : ℕ) → HasSources job → ((v : ℕ) → told ≡ Some v → IsTold job s task v)
    → (may : MayKeep job told task call value)
    → value_in (job.act (leaf_of (job.plan.kind may.0))) (value_under job s.book (leaf_of (job.plan.kind may.0))) call ≡ Some value
told_keep job s told task call value sources known may = by_case may.3 where
  by_case : ((worked : Maybe ℕ) → value_in (job.act (leaf_of (job.plan.kind may.0))) worked call ≡ Some value) ⊎ WorksOn job told may.0 value
      → value_in (job.act (leaf_of (job.plan.kind may.0))) (value_under job s.book (leaf_of (job.plan.kind may.0))) call ≡ Some value
  by_case (inl is) = is (value_under job s.book (leaf_of (job.plan.kind may.0)))
  by_case (inr on) =
      let leaf_is : leaf_of (job.plan.kind may.0) ≡ on.leaf = ap leaf_of on.kind in
      let number = told_number job s.book told (job.source on.leaf) on.steps on.number on.by_told (λ v r is from. (
        (sources may.0 on.leaf r on.kind from).calls (ap op_in on.act),
        told_value job s told task may.0 may.1 on.leaf may.2 on.kind known v r is from,
      )) in
      let under : value_under job s.book on.leaf ≡ Some value =
      ap (λ (a : Act). value_from job.work s.book a (job.source on.leaf) on.leaf) on.act ∙ (ap (option_map job.work) number ∙ ap Some (sym on.is)) in
      ap (λ (u : ℕ). value_in (job.act u) (value_under job s.book u) call) leaf_is ∙ (ap (λ (a : Act). value_in a (value_under job s.book on.leaf) call) on.act ∙ under)
