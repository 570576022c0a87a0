-- The acts of leaves whose operations are known, and their operations in a longer book.
use Rattle.std.proofs.Common.{◌≡◌, ◌≢◌, ℕ, zero, suc, ◌<◌, ◌^◌, ◌⊎◌, List, [], ◌∷◌, ◌++◌, length, Option, None, Some, inl, inr, refl, sym, ap, subst, ◌∙◌, arith}
use Rattle.std.specs.Prelude.{slice_get, slice_index_or}
use Rattle.std.specs.List.{AllByRecursion}
use Rattle.std.specs.Option.{option_map}
use Rattle.seq_objects.specs.Objects.{argument_of}
use Rattle.seq_objects.specs.declared.act.Act.{Act}
use Rattle.seq_objects.specs.declared.act.Act.TheVariants.{Work, Call}
use Rattle.seq_objects.specs.declared.op.Op.{Op}
use Rattle.seq_objects.specs.declared.op.Op.TheVariants.{CounterAdd}
use Rattle.sp_order.specs.Jobs.{JobValue}
use Rattle.sp_order.specs.Objects.{number_in, AreUnnamed}
use Rattle.sp_order.specs.Phases.{HasNoSources}
use Rattle.sp_order.specs.Sources.{low_bits, with_value}
use Rattle.batch_history.specs.Operations.{act_of, source_of, op_in, reply_at, number_from, value_from, value_under, op_with, op_from, op_of}
use Rattle.batch_history.specs.Places.{place_in, or_else, place_of}
use Rattle.batch_history.specs.Serving.{acts_in}
use Rattle.batch_history.specs.declared.batch.Entry.{Entry}
use Rattle.batch_history.specs.declared.place.Place.{Place}
use Rattle.batch_history.proofs.BookLemmas.Books.{place_append}

-- the act of a leaf that calls
pub act_at : (acts : List Act) (leaf : ℕ) (op : Op) → op_in (act_of acts leaf) ≡ Some op → slice_get acts leaf ≡ Some (Call op)
act_at [] leaf op is = cc
act_at (Work steps ∷ acts) zero op is = cc
act_at (Call other ∷ acts) zero op is = let same : other ≡ op = cc in ap (λ o. Some (Call o)) same
act_at (act ∷ acts) (suc leaf) op is = act_at acts leaf op is

-- what holds of all acts holds of the call of a leaf
pub at_leaf : (P : Act → Type 0) (acts : List Act) (leaf : ℕ) (op : Op) → AllByRecursion P acts → slice_get acts leaf ≡ Some (Call op) → P (Call op)
at_leaf P [] leaf op all is = cc
at_leaf P (act ∷ acts) zero op all is = let same : act ≡ Call op = cc in subst P same all.0
at_leaf P (act ∷ acts) (suc leaf) op all is = at_leaf P acts leaf op all.1 is

-- calls of unnamed acts are unnamed
pub unnamed_at : (acts : List Act) (entries : List Entry) → AreUnnamed acts
    → AllByRecursion (λ entry. slice_get acts entry.leaf ≡ Some (Call entry.op)) entries → AreUnnamed (acts_in entries)
unnamed_at acts [] unnamed all = tt
unnamed_at acts (entry ∷ entries) unnamed all =
    (at_leaf (λ act. number_in act ≡ 0) acts entry.leaf entry.op unnamed all.0, unnamed_at acts entries unnamed all.1)

-- no source where no leaf has one
none_at : (sources : List (Option ℕ)) (leaf : ℕ) → AllByRecursion (λ source. source ≡ None) sources → slice_index_or sources leaf None ≡ None
none_at [] leaf all = refl
none_at (source ∷ sources) zero all = all.0
none_at (source ∷ sources) (suc leaf) all = none_at sources leaf all.1

-- without a source the operation is the act's
plain : (work : ℕ → ℕ) (job : JobValue) (book : List (List Entry)) (leaf : ℕ) (op : Op) → HasNoSources job → op_of work job book leaf ≡ Some op → slice_get job.acts leaf ≡ Some (Call op)
plain work job book leaf op none is =
    let source : source_of job leaf ≡ None = none_at job.sources leaf none in
    act_at job.acts leaf op (ap (op_from (value_under work job book) (op_in (act_of job.acts leaf))) (sym source) ∙ is)

-- the acts of the leaves of entries, in a job without sources
pub acts_at : (work : ℕ → ℕ) (job : JobValue) (book : List (List Entry)) (entries : List Entry) → HasNoSources job
    → AllByRecursion (λ entry. op_of work job book entry.leaf ≡ Some entry.op) entries
    → AllByRecursion (λ entry. slice_get job.acts entry.leaf ≡ Some (Call entry.op)) entries
acts_at work job book [] none all = tt
acts_at work job book (entry ∷ entries) none all =
    (plain work job book entry.leaf entry.op none all.0, acts_at work job book entries none all.1)

-- an operation is the act's, but for its argument, which has 32 bits where it is another
abbrev pub IsGiven : Op → Op → Type 0
IsGiven op given = (op ≡ given) ⊎ ((value : ℕ) × (op ≡ with_value given value))

-- what is called under a book stands in the act, but for the argument
with_given : (given : Option Op) (value : Option ℕ) (op : Op) → op_with given value ≡ Some op → (call : Op) × ((given ≡ Some call) × IsGiven op call)
with_given None value op is = absurd cc
with_given (Some call) None op is = absurd cc
with_given (Some call) (Some value) op is = (call, (refl, inr (value, cc)))

pub from_given : (value : ℕ → Option ℕ) (given : Option Op) (source : Option ℕ) (op : Op) → op_from value given source ≡ Some op
    → (call : Op) × ((given ≡ Some call) × IsGiven op call)
from_given value given None op is = (op, (is, inl refl))
from_given value given (Some source) op is = with_given given (value source) op is

-- the act of a leaf whose operation is known under a book
pub called_as : (work : ℕ → ℕ) (job : JobValue) (book : List (List Entry)) (leaf : ℕ) (op : Op) → op_of work job book leaf ≡ Some op
    → (call : Op) × ((slice_get job.acts leaf ≡ Some (Call call)) × IsGiven op call)
called_as work job book leaf op is =
    let given = from_given (value_under work job book) (op_in (act_of job.acts leaf)) (source_of job leaf) op is in
    (given.0, (act_at job.acts leaf given.0 given.1.0, given.1.1))

-- an argument that is the low bits of a value has 32 bits
pub narrow : (op : Op) (value : ℕ) → argument_of (with_value op value) < 2 ^ 32
narrow (CounterAdd number _) value = omega arith
narrow _ value = omega arith

-- a reply at a first place is as before
reply_kept : (p q : Option Place) (value : ℕ) → reply_at p ≡ Some value → reply_at (or_else p q) ≡ Some value
reply_kept None q value is = cc
reply_kept (Some p) q value is = is

-- a leaf's reply stays in a longer book
reply_stays : (book : List (List Entry)) (batch : List Entry) (leaf value : ℕ) → reply_at (place_of book leaf) ≡ Some value
    → reply_at (place_of (book ++ batch ∷ []) leaf) ≡ Some value
reply_stays book batch leaf value is =
    rw (place_append book batch leaf) (reply_kept (place_of book leaf) (place_in (length book) 0 batch leaf) value is)

-- what is there has an image
image : (f : ℕ → ℕ) (x : Option ℕ) (y : ℕ) → option_map f x ≡ Some y → (z : ℕ) × ((x ≡ Some z) × (f z ≡ y))
image f None y is = absurd cc
image f (Some z) y is = (z, (refl, cc))

number_stays : (book : List (List Entry)) (batch : List Entry) (steps number : ℕ) (source : Option ℕ) → number_from book steps source ≡ Some number
    → number_from (book ++ batch ∷ []) steps source ≡ Some number
number_stays book batch steps number None is = is
number_stays book batch steps number (Some source) is =
    let of = image low_bits (reply_at (place_of book source)) number is in
    ap (option_map low_bits) (reply_stays book batch source of.0 of.1.0) ∙ ap Some of.1.1

-- a leaf's value stays in a longer book
pub value_stays : (work : ℕ → ℕ) (book : List (List Entry)) (batch : List Entry) (act : Act) (source : Option ℕ) (leaf value : ℕ)
    → value_from work book act source leaf ≡ Some value → value_from work (book ++ batch ∷ []) act source leaf ≡ Some value
value_stays work book batch (Work steps) source leaf value is =
    let of = image work (number_from book steps source) value is in
    ap (option_map work) (number_stays book batch steps of.0 source of.1.0) ∙ ap Some of.1.1
value_stays work book batch (Call op) source leaf value is = reply_stays book batch leaf value is

-- there is an operation only where there is a value
pub has_value : (given : Option Op) (value : Option ℕ) (op : Op) → op_with given value ≡ Some op → (v : ℕ) × (value ≡ Some v)
has_value None value op is = absurd cc
has_value (Some call) None op is = absurd cc
has_value (Some call) (Some v) op is = (v, refl)

-- what a leaf calls stays where the values stay
pub from_kept : (value later : ℕ → Option ℕ) (given : Option Op) (source : Option ℕ) (op : Op)
    → ((leaf v : ℕ) → value leaf ≡ Some v → later leaf ≡ Some v) → op_from value given source ≡ Some op → op_from later given source ≡ Some op
from_kept value later given None op keeps is = is
from_kept value later given (Some source) op keeps is =
    let there = has_value given (value source) op is in
    ap (op_with given) (keeps source there.0 there.1 ∙ sym there.1) ∙ is

-- the source of what a leaf calls has a value
pub from_source : (value : ℕ → Option ℕ) (given : Option Op) (source : ℕ) (op : Op) → op_from value given (Some source) ≡ Some op
    → (v : ℕ) × (value source ≡ Some v)
from_source value given source op is = has_value given (value source) op is

-- what is called stands in a call
pub from_calls : (value : ℕ → Option ℕ) (given : Option Op) (source : Option ℕ) (op : Op) → op_from value given source ≡ Some op → given ≢ None
from_calls value None None op is none = cc
from_calls value None (Some source) op is none = cc
from_calls value (Some call) source op is none = cc
