-- The walks over the calls: what is noted of them, and the operations that follow from it.
use Rattle.std.proofs.Common.{◌≡◌, ◌≢◌, ℕ, zero, suc, ◌+◌, ◌<◌, inl, inr, List, [], ◌∷◌, ◌++◌, length, get_or, map, Option, Some, None, refl, sym, ap, subst, ◌∙◌, arith}
use Rattle.std.specs.Prelude.{set, replicate, slice_get, Contains}
use Rattle.std.specs.Option.{ForSome, option_map}
use Rattle.std.specs.List.{AllByRecursion}
use Rattle.std.proofs.lemmas.Bool.{cases_lt, cases_eq, eq-eqb, ne_eqb}
use Rattle.std.proofs.lemmas.List.{get_or-set_other, get_or-set_same, length-set, get_or-replicate, length-replicate, get_or_default, get_or_past}
use Rattle.std.proofs.lemmas.Option.{slice_get_within}
use Rattle.seq_objects.specs.Objects.{value_of}
use Rattle.seq_objects.specs.Pairs.{AreDistinct, IsEnumerationOf}
use Rattle.seq_objects.specs.Spin.{spin_of}
use Rattle.seq_objects.specs.declared.act.Act.{Act}
use Rattle.seq_objects.specs.declared.act.Act.TheVariants.{Work, Call}
use Rattle.seq_objects.specs.declared.op.Op.{Op}
use Rattle.seq_objects.proofs.Elements.{each_so, each_both}
use Rattle.sp_order.specs.Jobs.{JobValue}
use Rattle.sp_order.specs.Sources.{IsCallLeaf, TakeReplies, with_value}
use Rattle.batch_history.specs.Book.{flat}
use Rattle.batch_history.specs.Lawful.{HasCalls}
use Rattle.batch_history.specs.Operations.{act_of, op_in, source_of, reply_at, value_under, op_with, op_from, op_of}
use Rattle.batch_history.specs.Places.{place_in, or_else, place_from, place_of}
use Rattle.batch_history.specs.declared.batch.Entry.{Entry}
use Rattle.batch_history.specs.declared.place.Place.{Place}
use Rattle.batch_history.specs.declared.row.Row.{Row}
use Rattle.report_walks.specs.Parts.{of_calls}
use Rattle.report_walks.proofs.TakenReplies.{source_value}
use Rattle.report_walks.specs.Code.Calls.{noted, all_noted, CanNoteAll, value_in, HaveValues, op_valued, op_by, IsServed, AreValuesOf}

abbrev pub leaves_in : List Entry → List ℕ
leaves_in entries = map (λ (entry : Entry). entry.leaf) entries

-- noting two lists of entries is noting one and then the other
pub noted_append : (values : List (Option ℕ)) (xs ys : List Entry) → all_noted values (xs ++ ys) ≡ all_noted (all_noted values xs) ys
noted_append values [] ys = refl
noted_append values (x ∷ xs) ys = noted_append (noted values x) xs ys

pub noted_long : (values : List (Option ℕ)) (xs : List Entry) → length (all_noted values xs) ≡ length values
noted_long values [] = refl
noted_long values (x ∷ xs) = noted_long (noted values x) xs ∙ length-set values x.leaf (Some (value_of x.reply))

pub can_both : (acts : List Act) (values : List (Option ℕ)) (xs ys : List Entry) → CanNoteAll acts values xs → CanNoteAll acts (all_noted values xs) ys → CanNoteAll acts values (xs ++ ys)
can_both acts values [] ys can more = more
can_both acts values (x ∷ xs) ys can more = (can.0, can_both acts (noted values x) xs ys can.1 more)

pub can_first : (acts : List Act) (values : List (Option ℕ)) (xs ys : List Entry) → CanNoteAll acts values (xs ++ ys) → CanNoteAll acts values xs × CanNoteAll acts (all_noted values xs) ys
can_first acts values [] ys can = (tt, can)
can_first acts values (x ∷ xs) ys can = let more = can_first acts (noted values x) xs ys can.1 in ((can.0, more.0), more.1)

pub call_within : (acts : List Act) (leaf : ℕ) → IsCallLeaf acts leaf → leaf < length acts
call_within acts leaf (op, is) = slice_get_within acts leaf (Call op) is

-- a leaf without a value after another one was noted had none before, and is not that one
unseen_before : (values : List (Option ℕ)) (leaf value u : ℕ) → leaf < length values → get_or (set values leaf (Some value)) u None ≡ None → (get_or values u None ≡ None) × (leaf ≢ u)
unseen_before values leaf value u low none =
    let other : leaf ≢ u = λ same. (let is : get_or (set values leaf (Some value)) u None ≡ Some value = subst (λ (v : ℕ). get_or (set values leaf (Some value)) v None ≡ Some value) same (get_or-set_same values leaf (Some value) None low) in let wrong : Some value ≡ None = sym is ∙ none in cc (wrong)) in
    (sym (get_or-set_other values leaf u (Some value) None (λ same. other (sym same))) ∙ none, other)

unseen_after : (values : List (Option ℕ)) (leaf value u : ℕ) → get_or values u None ≡ None → leaf ≢ u → get_or (set values leaf (Some value)) u None ≡ None
unseen_after values leaf value u none other = get_or-set_other values leaf u (Some value) None (λ same. other (sym same)) ∙ none

-- entries of leaves that call, each once, of which none has a value yet
record AreNew (acts : List Act) (values : List (Option ℕ)) (entries : List Entry) : Type 0 where
  distinct : AreDistinct (leaves_in entries)
  calls : AllByRecursion (IsCallLeaf acts) (leaves_in entries)
  unseen : AllByRecursion (λ leaf. get_or values leaf None ≡ None) (leaves_in entries)

new_of_can : (acts : List Act) (values : List (Option ℕ)) (entries : List Entry) → length values ≡ length acts → CanNoteAll acts values entries → AreNew acts values entries
new_of_can acts values [] long can = record { distinct = tt; calls = tt; unseen = tt }
new_of_can acts values (entry ∷ entries) long can =
    let value = value_of entry.reply in
    let low : entry.leaf < length values = omega (arith, long, call_within acts entry.leaf can.0.calls) in
    let more = new_of_can acts (noted values entry) entries (length-set values entry.leaf (Some value) ∙ long) can.1 in
    record {
      distinct = (each_so (λ u. get_or (noted values entry) u None ≡ None) (λ u. entry.leaf ≢ u) (λ u none. (unseen_before values entry.leaf value u low none).1) (leaves_in entries) more.unseen, more.distinct);
      calls = (can.0.calls, more.calls);
      unseen = (can.0.unseen, each_so (λ u. get_or (noted values entry) u None ≡ None) (λ u. get_or values u None ≡ None) (λ u none. (unseen_before values entry.leaf value u low none).0) (leaves_in entries) more.unseen);
    }

can_of_new : (acts : List Act) (values : List (Option ℕ)) (entries : List Entry) → AreNew acts values entries → CanNoteAll acts values entries
can_of_new acts values [] new = tt
can_of_new acts values (entry ∷ entries) new = (
  record { calls = new.calls.0; unseen = new.unseen.0 },
  can_of_new acts (noted values entry) entries (record {
    distinct = new.distinct.1;
    calls = new.calls.1;
    unseen = each_so (λ u. (get_or values u None ≡ None) × (entry.leaf ≢ u)) (λ u. get_or (noted values entry) u None ≡ None) (λ u is. unseen_after values entry.leaf (value_of entry.reply) u is.0 is.1) (leaves_in entries)
        (each_both (λ u. get_or values u None ≡ None) (λ u. entry.leaf ≢ u) (leaves_in entries) new.unseen.1 new.distinct.0);
  }),
)

-- one value, or else another
abbrev or_old : Option ℕ → Option ℕ → Option ℕ
or_old (Some value) old = Some value
or_old None old = old

or_none : (o : Option ℕ) → or_old o None ≡ o
or_none None = refl
or_none (Some value) = refl

value_here : (entry : Entry) (entries : List Entry) (leaf : ℕ) → entry.leaf ≡ leaf → value_in (entry ∷ entries) leaf ≡ Some (value_of entry.reply)
value_here entry entries leaf same = rw (eq-eqb entry.leaf leaf same) refl

value_later : (entry : Entry) (entries : List Entry) (leaf : ℕ) → (entry.leaf ≡ leaf → ⊥) → value_in (entry ∷ entries) leaf ≡ value_in entries leaf
value_later entry entries leaf other = rw (ne_eqb entry.leaf leaf other) refl

-- a leaf that no entry has, has no value
no_value : (entries : List Entry) (leaf : ℕ) → AllByRecursion (λ u. leaf ≢ u) (leaves_in entries) → value_in entries leaf ≡ None
no_value [] leaf apart = refl
no_value (entry ∷ entries) leaf apart = value_later entry entries leaf (λ same. apart.0 (sym same)) ∙ no_value entries leaf apart.1

value_after : (acts : List Act) (values : List (Option ℕ)) (entries : List Entry) (leaf : ℕ) → length values ≡ length acts → CanNoteAll acts values entries
    → get_or (all_noted values entries) leaf None ≡ or_old (value_in entries leaf) (get_or values leaf None)
value_after acts values [] leaf long can = refl
value_after acts values (entry ∷ entries) leaf long can =
    let value = value_of entry.reply in
    let low : entry.leaf < length values = omega (arith, long, call_within acts entry.leaf can.0.calls) in
    let long' : length (noted values entry) ≡ length acts = length-set values entry.leaf (Some value) ∙ long in
    let more = value_after acts (noted values entry) entries leaf long' can.1 in
    elim (cases_eq entry.leaf leaf) [
      | inl same ↦ (
          let new = new_of_can acts (noted values entry) entries long' can.1 in
          let none : value_in entries leaf ≡ None = no_value entries leaf (each_so (λ u. get_or (noted values entry) u None ≡ None) (λ u. leaf ≢ u) (λ u unseen at. (unseen_before values entry.leaf value u low unseen).1 (same ∙ at)) (leaves_in entries) new.unseen) in
          let set_here : get_or (noted values entry) leaf None ≡ Some value = subst (λ (v : ℕ). get_or (set values entry.leaf (Some value)) v None ≡ Some value) same (get_or-set_same values entry.leaf (Some value) None low) in
          more ∙ ap (λ o. or_old o (get_or (noted values entry) leaf None)) none ∙ set_here
          ∙ ap (λ o. or_old o (get_or values leaf None)) (sym (value_here entry entries leaf same)))
      | inr other ↦ (
          let kept : get_or (noted values entry) leaf None ≡ get_or values leaf None = get_or-set_other values entry.leaf leaf (Some value) None (λ same. other (sym same)) in
          more ∙ ap (or_old (value_in entries leaf)) kept ∙ ap (λ o. or_old o (get_or values leaf None)) (sym (value_later entry entries leaf other)))
    ]

-- a leaf has a value exactly where an entry has it
value_contained : (entries : List Entry) (leaf : ℕ) → value_in entries leaf ≢ None → Contains (leaves_in entries) leaf
value_contained [] leaf some = absurd (some refl)
value_contained (entry ∷ entries) leaf some = elim (cases_eq entry.leaf leaf) [
  | inl same ↦ (0, omega arith, same)
  | inr other ↦ (let more = value_contained entries leaf (λ none. some (value_later entry entries leaf other ∙ none)) in (suc more.0, omega (arith, more.1), more.2))
]

contained_value : (entries : List Entry) (leaf : ℕ) → Contains (leaves_in entries) leaf → value_in entries leaf ≢ None
contained_value [] leaf has = absurd (omega (arith, has.1))
contained_value (entry ∷ entries) leaf has = elim (cases_eq entry.leaf leaf) [
  | inl same ↦ λ none. (let wrong : Some (value_of entry.reply) ≡ None = sym (value_here entry entries leaf same) ∙ none in cc (wrong))
  | inr other ↦ λ none. later has other (λ in_rest. contained_value entries leaf in_rest (sym (value_later entry entries leaf other) ∙ none))
] where
  later : Contains (leaves_in (entry ∷ entries)) leaf → (entry.leaf ≡ leaf → ⊥) → (Contains (leaves_in entries) leaf → ⊥) → ⊥
  later (zero, low, is) other never = other is
  later (suc k, low, is) other never = never (k, omega (arith, low), is)

module _ (acts : List Act) (entries : List Entry) where
  abbrev pub no_values : List (Option ℕ)
  no_values = replicate (length acts) None

  nones_long : length no_values ≡ length acts
  nones_long = length-replicate (length acts) None

  none_at : (leaf : ℕ) → get_or no_values leaf None ≡ None
  none_at leaf = elim (cases_lt leaf (length acts)) [
    | inl low ↦ get_or-replicate (length acts) leaf None None low
    | inr far ↦ get_or_past no_values leaf None (omega (arith, far, nones_long))
  ]

  value_at : CanNoteAll acts no_values entries → (leaf : ℕ) → get_or (all_noted no_values entries) leaf None ≡ value_in entries leaf
  value_at can leaf = value_after acts no_values entries leaf nones_long can ∙ ap (or_old (value_in entries leaf)) (none_at leaf) ∙ or_none (value_in entries leaf)

  -- where all entries were noted and each leaf that calls has a value, the leaves that call have an entry each
  pub values_of_noted : (values : List (Option ℕ)) → CanNoteAll acts no_values entries → values ≡ all_noted no_values entries → HaveValues acts values → AreValuesOf acts entries values
  values_of_noted values can is have =
      let new = new_of_can acts no_values entries nones_long can in
      let at : (leaf : ℕ) → get_or values leaf None ≡ value_in entries leaf = λ leaf. ap (λ (vs : List (Option ℕ)). get_or vs leaf None) is ∙ value_at can leaf in
      record {
        as_many = ap length is ∙ noted_long no_values entries ∙ nones_long;
        once = record {
          distinct = new.distinct;
          only = new.calls;
          each = λ leaf calls. value_contained entries leaf (λ none. have leaf calls (at leaf ∙ none));
        };
        each = at;
      }

  -- where they have an entry each, all can be noted, and then each has a value
  pub can_of_once : IsEnumerationOf (IsCallLeaf acts) (leaves_in entries) → CanNoteAll acts no_values entries
  can_of_once once = can_of_new acts no_values entries (record { distinct = once.distinct; calls = once.only; unseen = each_so (IsCallLeaf acts) (λ leaf. get_or no_values leaf None ≡ None) (λ leaf calls. none_at leaf) (leaves_in entries) once.only })

  pub have_of_once : (values : List (Option ℕ)) → values ≡ all_noted no_values entries → IsEnumerationOf (IsCallLeaf acts) (leaves_in entries) → HaveValues acts values
  have_of_once values is once leaf calls none =
      contained_value entries leaf (once.each leaf calls) (sym (ap (λ (vs : List (Option ℕ)). get_or vs leaf None) is ∙ value_at (can_of_once once) leaf) ∙ none)

value_in_batch : (k i : ℕ) (entries : List Entry) (leaf : ℕ) → reply_at (place_in k i entries leaf) ≡ value_in entries leaf
value_in_batch k i [] leaf = refl
value_in_batch k i (entry ∷ entries) leaf = elim (cases_eq entry.leaf leaf) [
  | inl same ↦ rw (eq-eqb entry.leaf leaf same) refl
  | inr other ↦ rw (ne_eqb entry.leaf leaf other) (value_in_batch k (i + 1) entries leaf)
]

value_append : (xs ys : List Entry) (leaf : ℕ) → value_in (xs ++ ys) leaf ≡ or_old (value_in xs leaf) (value_in ys leaf)
value_append [] ys leaf = refl
value_append (x ∷ xs) ys leaf = elim (cases_eq x.leaf leaf) [
  | inl same ↦ value_here x (xs ++ ys) leaf same ∙ ap (λ o. or_old o (value_in ys leaf)) (sym (value_here x xs leaf same))
  | inr other ↦ value_later x (xs ++ ys) leaf other ∙ value_append xs ys leaf ∙ ap (λ o. or_old o (value_in ys leaf)) (sym (value_later x xs leaf other))
]

value_or_else : (p q : Option Place) → reply_at (or_else p q) ≡ or_old (reply_at p) (reply_at q)
value_or_else None q = refl
value_or_else (Some p) q = refl

value_placed_from : (k : ℕ) (book : List (List Entry)) (leaf : ℕ) → reply_at (place_from k book leaf) ≡ value_in (flat book) leaf
value_placed_from k [] leaf = refl
value_placed_from k (batch ∷ book) leaf =
    value_or_else (place_in k 0 batch leaf) (place_from (k + 1) book leaf)
    ∙ ap (λ o. or_old o (reply_at (place_from (k + 1) book leaf))) (value_in_batch k 0 batch leaf)
    ∙ ap (or_old (value_in batch leaf)) (value_placed_from (k + 1) book leaf)
    ∙ sym (value_append batch (flat book) leaf)

value_placed : (book : List (List Entry)) (leaf : ℕ) → reply_at (place_of book leaf) ≡ value_in (flat book) leaf
unfolding place_of
value_placed book leaf = value_placed_from 0 book leaf

op_with_value : (op : Op) (value : Option ℕ) → option_map (with_value op) value ≡ op_with (Some op) value
op_with_value op None = refl
op_with_value op (Some value) = refl

-- an operation by the values is that under the book, where the value of its source is that of the reply
op_same : (job : JobValue) (book : List (List Entry)) (values : List (Option ℕ)) → ((leaf : ℕ) → get_or values leaf None ≡ value_in (flat book) leaf)
    → (op : Option Op) (source : Option ℕ) → ((s : ℕ) → source ≡ Some s → value_under spin_of job book s ≡ reply_at (place_of book s)) → op_valued op source values ≡ op_from (value_under spin_of job book) op source
op_same job book values at op None replies = refl
op_same job book values at None (Some source) replies = refl
op_same job book values at (Some op) (Some source) replies =
    ap (option_map (with_value op)) (at source ∙ sym (value_placed book source)) ∙ op_with_value op (reply_at (place_of book source)) ∙ ap (op_with (Some op)) (sym (replies source refl))

pub op_by_values : (job : JobValue) (book : List (List Entry)) (values : List (Option ℕ)) → TakeReplies job.acts job.sources → AreValuesOf job.acts (flat book) values → (leaf : ℕ) → op_by job values leaf ≡ op_of spin_of job book leaf
op_by_values job book values take are leaf = op_same job book values are.each (op_in (act_of job.acts leaf)) (source_of job leaf) (λ source is. source_value job take spin_of book leaf source is)

-- what holds of what each element is mapped to
pub each_of_mapped : (P : ℕ → Type 0) (entries : List Entry) → AllByRecursion P (leaves_in entries) → AllByRecursion (λ (entry : Entry). P entry.leaf) entries
each_of_mapped P [] all = tt
each_of_mapped P (entry ∷ entries) all = (all.0, each_of_mapped P entries all.1)

pub leaves_within : (acts : List Act) (entries : List Entry) → IsEnumerationOf (IsCallLeaf acts) (leaves_in entries) → AllByRecursion (λ (entry : Entry). entry.leaf < length acts) entries
leaves_within acts entries once = each_so (λ (entry : Entry). IsCallLeaf acts entry.leaf) (λ (entry : Entry). entry.leaf < length acts) (λ entry calls. call_within acts entry.leaf calls) entries (each_of_mapped (IsCallLeaf acts) entries once.only)

-- the calls of a report are those of a job exactly where all its entries are served
module _ (job : JobValue) (book : List (List Entry)) (rows : List Row) (values : List (Option ℕ)) (take : TakeReplies job.acts job.sources) (are : AreValuesOf job.acts (flat book) values) where
  pub calls_of_served : AllByRecursion (IsServed job values rows) (flat book) → HasCalls job (of_calls book rows)
  calls_of_served served = record {
    leaves = are.once;
    operations = each_so (IsServed job values rows) (λ (entry : Entry). op_of spin_of job book entry.leaf ≡ Some entry.op) (λ entry is. sym (op_by_values job book values take are entry.leaf) ∙ is.operation) (flat book) served;
    workers = each_so (IsServed job values rows) (λ (entry : Entry). ForSome (slice_get rows entry.leaf) (λ row. row.worker ≡ entry.worker)) (λ entry is. is.worker) (flat book) served;
  }

  pub served_of_calls : HasCalls job (of_calls book rows) → AllByRecursion (IsServed job values rows) (flat book)
  served_of_calls has = each_so (λ (entry : Entry). (op_of spin_of job book entry.leaf ≡ Some entry.op) × ForSome (slice_get rows entry.leaf) (λ row. row.worker ≡ entry.worker)) (IsServed job values rows)
      (λ entry is. record { operation = op_by_values job book values take are entry.leaf ∙ is.0; worker = is.1 }) (flat book)
      (each_both (λ (entry : Entry). op_of spin_of job book entry.leaf ≡ Some entry.op) (λ (entry : Entry). ForSome (slice_get rows entry.leaf) (λ row. row.worker ≡ entry.worker)) (flat book) has.operations has.workers)

-- an operation that the code reads
module _ (acts : List Act) (leaf : ℕ) (d : Act) (op : Op) (low : leaf < length acts) (is : get_or acts leaf d ≡ Call op) where
  pub act_is : act_of acts leaf ≡ Call op
  act_is = get_or_default acts leaf (Work 0) d low ∙ is

pub op_plain : (act : Act) (source : Option ℕ) (values : List (Option ℕ)) (op : Op) → act ≡ Call op → source ≡ None → Some op ≡ op_valued (op_in act) source values
op_plain act source values op is none = rw (is, none) refl

pub op_sourced : (act : Act) (source : Option ℕ) (values : List (Option ℕ)) (op : Op) (s : ℕ) (value : Option ℕ) → act ≡ Call op → source ≡ Some s → get_or values s None ≡ value
    → option_map (with_value op) value ≡ op_valued (op_in act) source values
op_sourced act source values op s value is some at = rw (is, some, at) refl
