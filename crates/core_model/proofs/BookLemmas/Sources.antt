-- The source of a started leaf has its value, which is the argument of the leaf's call or the number of its work.
use Rattle.std.proofs.Common.{ℕ, ◌≡◌, Some, refl, inr, sym, ◌∙◌, ap}
use Rattle.sp_order.specs.Sources.{with_value}
use Rattle.batch_history.proofs.BookLemmas.Books.{found_in_book}
use Rattle.core_model.proofs.Words.{Work, Call, Op, LeafNode, Entry, Progress, Ran, Started, CoreJob, State}
use Rattle.core_model.specs.Invariant.{Parts}
use Rattle.core_model.specs.LeafSources.{HasItsValue, HasSources, IsSourceAt}
use Rattle.core_model.specs.Operations.{op_in, op_of, value_under, Place, place_of}
use Rattle.core_model.proofs.Inductive.Book.{valued_by}
use Rattle.core_model.proofs.Inductive.Parts.{InductiveParts}
use Rattle.core_model.proofs.Inductive.Stamps.{stamped}
use Rattle.core_model.proofs.Inductive.Ticks.{RanBefore}
use Rattle.core_model.proofs.BookLemmas.Operations.{of_source, work_value}

-- what ran before a tick ran
ran_of : (x : Progress) (tick : ℕ) → RanBefore x tick → (w : ℕ) × (a : ℕ) × (e : ℕ) × (x ≡ Ran w a e)
ran_of (Ran w a e) tick h = (w, a, e, refl)
ran_of _ tick h = absurd h

-- the source of a started leaf has its value
pub source_valued : (job : CoreJob) (s : State) → HasSources job → InductiveParts job s → (w n start leaf source : ℕ) → s.task w ≡ Started n start
    → job.plan.kind n ≡ Some (LeafNode leaf) → job.source leaf ≡ Some source → HasItsValue job s source
source_valued job s sources h w n start leaf source is kind of =
    let at : IsSourceAt job n leaf source = sources n leaf source kind of in
    let m = job.plan.node_of source in
    let started = stamped job.plan s.node s.mark s.task h.holder h.tasks n w start (inr (rw is (refl, refl))) in
    let ran = ran_of (s.node m) start (h.ticks.in_order m n w start started.0 (source, at.stands, at.before) started.1) in
    let valued = ap (λ x. valued_by x (h.holder m) s.task) ran.3 in
    let value = h.values m source at.stands valued in
    record {
      worker = ran.0;
      start = ran.1;
      end = ran.2;
      ran = ran.3;
      value = value.0;
      kept = value.1;
      under = value.2;
    }

-- a started leaf of work has a value
pub work_valued : (job : CoreJob) (s : State) → HasSources job → InductiveParts job s → (w n start leaf steps : ℕ) → s.task w ≡ Started n start
    → job.plan.kind n ≡ Some (LeafNode leaf) → job.act leaf ≡ Work steps → (v : ℕ) × (value_under job s.book leaf ≡ Some v)
work_valued job s sources h w n start leaf steps is kind act =
    work_value job s.book leaf steps act (λ source of.
    let at = sources n leaf source kind of in
    let value = source_valued job s sources h w n start leaf source is kind of in
    (at.calls (ap op_in act), (value.value, value.under)))

-- the entry of a leaf with a source has the value of the source as its argument
pub source_argument : (job : CoreJob) (s : State) (leaf source : ℕ) (later : Place) → Parts job s → job.source leaf ≡ Some source → place_of s.book leaf ≡ Some later
    → (v : ℕ) × (value_under job s.book source ≡ Some v) × (op : Op) × (job.act leaf ≡ Call op) × (later.entry.op ≡ with_value op v)
source_argument job s leaf source later parts of at =
    let entry = found_in_book (λ (e : Entry). op_of job s.book e.leaf ≡ Some e.op) s.book leaf later parts.book.operations at in
    of_source job s.book leaf source later.entry.op (ap (op_of job s.book) (sym entry.1) ∙ entry.0) of
