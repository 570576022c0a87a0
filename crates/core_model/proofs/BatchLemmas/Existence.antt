-- The calls that are taken make a batch: they are gathered, one worker after another, and each is put at its place in
-- batch order.
use Rattle.std.proofs.Common.{ℕ, zero, suc, ◌≡◌, ◌≢◌, ◌<◌, ◌⊎◌, Bool, true, false, Option, Some, List, [], ◌∷◌, ◌++◌, arith, refl, inl, inr, subst, sym, ap}
use Rattle.std.specs.List.{AllByRecursion}
use Rattle.std.proofs.lemmas.Bool.{cases_eq, cases_lt, cases_Bool}
use Rattle.seq_objects.specs.Batches.{AreInBatchOrder}
use Rattle.seq_objects.specs.declared.call.Call.{Call}
use Rattle.core_model.proofs.Words.{Op, Kind, LeafNode, Entry, Publish, Task, Started, CoreJob, State}
use Rattle.core_model.specs.LeafSources.{HasSources}
use Rattle.core_model.specs.Operations.{IsCall, IsLeaf, leaf_of, value_under}
use Rattle.core_model.proofs.BookLemmas.Operations.{some_op}
use Rattle.core_model.proofs.BookLemmas.Sources.{source_valued}
use Rattle.core_model.specs.Events.{Needs, IsBatchOf}
use Rattle.core_model.specs.Invariant.Statuses.{IsAtCall}
use Rattle.core_model.specs.Invariant.Tasks.{TaskFits}
use Rattle.core_model.specs.Batches.{IsCallOf, AreTakenCalls}
use Rattle.core_model.proofs.Inductive.Parts.{InductiveParts}
use Rattle.seq_objects.specs.BatchOrder.{ComesFirst, RanksLower, class_of, key_of}
use Rattle.seq_objects.specs.Objects.{number_of}
use Rattle.seq_objects.proofs.CallOrder.{IsFirst, first_through, first_or_second}
use Rattle.core_model.proofs.BatchLemmas.TakenCalls.{at_call_started, TakenOf, one_among}
use Rattle.core_model.proofs.BatchLemmas.Replied.{replied, replied_are, replied_legal}
use Rattle.core_model.proofs.BatchLemmas.Made.{taken_at_call, batch_made}
use Rattle.seq_objects.proofs.Elements.{each_append, each_front, each_so}

-- the lower of two numbers comes before the other, and of two equal numbers what comes before by the rest
abbrev Lower : (m n : ℕ) → Type 0 → Type 0
Lower m n Rest = (m < n) ⊎ ((m ≡ n) × Rest)

-- that can be decided, where the rest can be
lower_or_not : (m n : ℕ) (Rest : Type 0) → Rest ⊎ (Rest → ⊥) → Lower m n Rest ⊎ (Lower m n Rest → ⊥)
lower_or_not m n Rest rest = elim (cases_lt m n) [
  | inl less ↦ inl (inl less)
  | inr le ↦ elim (cases_eq m n) [
    | inr other ↦ inr (λ h. grind arith)
    | inl same ↦ elim rest [
      | inl is ↦ inl (inr (same, is))
      | inr not ↦ inr (λ h. grind arith)
    ]
  ]
]

less_or_not : (m n : ℕ) → (m < n) ⊎ ((m < n) → ⊥)
less_or_not m n = elim (cases_lt m n) [ inl less ↦ inl less | inr le ↦ inr (λ h. grind arith) ]

-- a call is served before another one, or it is not
first_or_not : (a b : Op) (v w : ℕ) → ComesFirst a v b w ⊎ (ComesFirst a v b w → ⊥)
first_or_not a b v w =
    let keys = lower_or_not (key_of a) (key_of b) (v < w) (less_or_not v w) in
    let ranks = lower_or_not (number_of a) (number_of b) (Lower (key_of a) (key_of b) (v < w)) keys in
    lower_or_not (class_of a) (class_of b) (RanksLower a v b w) ranks

-- two parts of a list of calls, between which a call stands in batch order
record Places (call : Call) (calls : List Call) : Type 0 where
  before : List Call
  later : List Call
  whole : calls ≡ before ++ later
  order : AreInBatchOrder (before ++ call ∷ later)

-- each call has its place among those of other workers
place : (call : Call) (calls : List Call) → AllByRecursion (λ (other : Call). other.worker ≢ call.worker) calls → AreInBatchOrder calls → Places call calls
place call [] apart order = record { before = []; later = []; whole = refl; order = (tt, tt) }
place call (y ∷ ys) apart order = elim (first_or_not call.op y.op call.worker y.worker) [
  | inl first ↦ record {
    before = [];
    later = y ∷ ys;
    whole = refl;
    order = ((first, each_so (IsFirst y) (IsFirst call) (λ z is. first_through call.op y.op z.op call.worker y.worker z.worker first is) ys order.0), order);
  }
  | inr not ↦
      let rest = place call ys apart.1 order.1 in
      let second : IsFirst y call = first_or_second call.op y.op call.worker y.worker (λ e. apart.0 (sym e)) not in
      let sides = each_front (IsFirst y) rest.before rest.later (subst (AllByRecursion (IsFirst y)) rest.whole order.0) in
      record {
        before = y ∷ rest.before;
        later = rest.later;
        whole = ap (λ l. y ∷ l) rest.whole;
        order = (each_append (IsFirst y) rest.before (call ∷ rest.later) sides.0 (second, sides.1), rest.order);
      }
]

-- a worker that is at a call has a call, where the leaf's source has a value
call_at : (job : CoreJob) (book : List (List Entry)) (task : Task) (w : ℕ) → IsAtCall job task → ((n start : ℕ) → task ≡ Started n start → IsLeaf (job.plan.kind n))
    → ((n start leaf source : ℕ) → task ≡ Started n start → job.plan.kind n ≡ Some (LeafNode leaf) → job.source leaf ≡ Some source → (v : ℕ) × (value_under job book source ≡ Some v))
    → (call : Call) × (call.worker ≡ w) × IsCallOf job book task call
call_at job book task w at_call at_leaf there =
    let started = at_call_started job task at_call in
    let leaf = at_leaf started.0 started.1 started.2 in
    let calls : IsAtCall job (Started started.0 started.1) = subst (IsAtCall job) started.2 at_call in
    let calls_leaf : IsCall job leaf.0 = subst (λ (kind : Option Kind). IsCall job (leaf_of kind)) leaf.1 calls in
    let op = some_op job book leaf.0 calls_leaf (λ source is. there started.0 started.1 leaf.0 source started.2 leaf.1 is) in
    (record { worker = w; leaf = leaf.0; op = op.0 }, refl, (started.0, started.1, leaf.1, started.2, op.1))

-- a task that is started names a leaf
started_leaf : (job : CoreJob) (s : State) → InductiveParts job s → (w n start : ℕ) → s.task w ≡ Started n start → IsLeaf (job.plan.kind n)
started_leaf job s h w n start is =
    let fits : TaskFits job.plan s.node s.mark (Started n start) = subst (TaskFits job.plan s.node s.mark) is (h.tasks.fits w) in
    fits.0

-- the calls of the workers below a number, in batch order
record TakenUpTo (job : CoreJob) (book : List (List Entry)) (task : ℕ → Task) (taken : ℕ → Bool) (bound : ℕ) : Type 0 where
  calls : List Call
  are : TakenOf job book task taken bound calls
  order : AreInBatchOrder calls

module _ (job : CoreJob) (book : List (List Entry)) (task : ℕ → Task) (taken : ℕ → Bool) where
  -- one more worker is taken
  with_call : (bound : ℕ) → TakenUpTo job book task taken bound → (call : Call) → call.worker ≡ bound → IsCallOf job book (task bound) call → taken bound ≡ true
      → TakenUpTo job book task taken (suc bound)
  with_call bound h call at is took =
      let apart = each_so (λ (other : Call). other.worker < bound) (λ (other : Call). other.worker ≢ call.worker) (λ other less same. absurd (omega (arith, less, same, at))) h.calls h.are.below in
      let parts = place call h.calls apart h.order in
      let more = one_among job book task taken bound parts.before parts.later call at is took (subst (TakenOf job book task taken bound) parts.whole h.are) in
      record {
        calls = parts.before ++ call ∷ parts.later;
        are = subst (λ (n : ℕ). TakenOf job book task taken n (parts.before ++ call ∷ parts.later)) (omega arith) more;
        order = parts.order;
      }

  without_call : (bound : ℕ) → TakenUpTo job book task taken bound → taken bound ≡ false → TakenUpTo job book task taken (suc bound)
  without_call bound h not = record {
    calls = h.calls;
    are = record {
      taken = record {
        distinct = h.are.taken.distinct;
        only = h.are.taken.only;
        each = λ w below took. elim (cases_eq w bound) [
          | inl same ↦ (let e = ap taken same in absurd cc)
          | inr other ↦ h.are.taken.each w (omega (arith, below, other)) took
        ];
      };
      below = each_so (λ (a : Call). a.worker < bound) (λ (a : Call). a.worker < suc bound) (λ a less. omega (arith, less)) h.calls h.are.below;
    };
    order = h.order;
  }

  -- they can be found one after another
  taken_up_to : ((w : ℕ) → taken w ≡ true → (call : Call) × (call.worker ≡ w) × IsCallOf job book (task w) call) → (bound : ℕ) → TakenUpTo job book task taken bound
  taken_up_to has zero = record {
    calls = [];
    are = record { taken = record { distinct = tt; only = tt; each = λ w below took. absurd (omega (arith, below)) }; below = tt };
    order = tt;
  }
  taken_up_to has (suc bound) = elim (cases_Bool (taken bound)) [
    | inl took ↦ (let found = has bound took in with_call bound (taken_up_to has bound) found.0 found.1 found.2 took)
    | inr not ↦ without_call bound (taken_up_to has bound) not
  ]

-- so there is a batch for a publish to serve
pub batch_exists : (job : CoreJob) (s : State) (w : ℕ) → HasSources job → InductiveParts job s → Needs job s w Publish → (batch : List Entry) × IsBatchOf job s batch
batch_exists job s w sources h needs =
    let all = taken_up_to job s.book s.task needs.0.taken
    (λ v took. call_at job s.book (s.task v) v (taken_at_call job s needs.0 h needs.1.0 needs.4 v took) (started_leaf job s h v)
    (λ n start leaf source is kind of. let value = source_valued job s sources h v n start leaf source is kind of in (value.value, value.under))) job.workers in
    let entries = replied s.objects all.calls in
    let are = sym (replied_are s.objects all.calls) in (
      entries,
      batch_made job s needs.0 h needs.1.0 entries needs.3 (subst (AreTakenCalls job s.book s.task needs.0.taken) are all.are.taken)
          (subst AreInBatchOrder are all.order) (replied_legal s.objects all.calls),
    )
