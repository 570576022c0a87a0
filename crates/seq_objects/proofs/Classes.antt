-- In batch order the calls of lower classes come before those of higher ones, and so do the calls of one kind before
-- those of the next.
use Rattle.std.proofs.Common.{◌≡◌, ℕ, ◌≤◌, inl, inr, Bool, true, false, not, cond, List, [], ◌∷◌, ◌++◌, filter, refl, ap, arith}
use Rattle.std.specs.List.{AllByRecursion, position_or_len}
use Rattle.std.specs.Prelude.{nat_lt}
use Rattle.std.proofs.lemmas.Bool.{ltb-false, le-ltb}
use Rattle.seq_objects.specs.declared.op.Op.{Op}
use Rattle.seq_objects.specs.declared.op.Op.TheVariants.{CounterAdd}
use Rattle.seq_objects.specs.declared.verb.Verb.TheVariants.{TreeInsert}
use Rattle.seq_objects.specs.declared.call.Call.{Call}
use Rattle.seq_objects.specs.BatchOrder.{ComesFirst, class_of}
use Rattle.seq_objects.specs.Batches.{AreInBatchOrder, Kind, kind_of, same_kind}
use Rattle.seq_objects.specs.Verbs.{kinds, row_of}

-- the class never falls
pub class_grows : (first second : Op) (worker other : ℕ) → ComesFirst first worker second other → class_of first ≤ class_of second
class_grows first second worker other before = elim before [ inl less ↦ omega (arith, less) | inr same ↦ omega (arith, same.0) ]

-- the place of a kind among all kinds, which is the place of its calls in a batch
abbrev pub turn_of : Kind → ℕ
turn_of kind = position_or_len (same_kind kind) kinds

pub turn_grows : (first second : Op) → class_of first ≤ class_of second → turn_of (kind_of first) ≤ turn_of (kind_of second)
turn_grows (CounterAdd number addend) second up = omega arith
turn_grows first second up = later second up where
  later : (second : Op) → class_of first ≤ class_of second → turn_of (kind_of first) ≤ turn_of (kind_of second)
  later (CounterAdd number addend) up = omega (arith, up)
  later _ up = omega (arith, up)

-- the class of a tree's updates, above that of its queries
abbrev pub update_class : ℕ
update_class = (row_of TreeInsert).class

abbrev is_below : ℕ → Call → Bool
is_below class call = nat_lt (class_of call.op) class

no_lower : (class : ℕ) (op : Op) (worker : ℕ) (calls : List Call) → class ≤ class_of op → AllByRecursion (λ later. ComesFirst op worker later.op later.worker) calls → (filter (is_below class) calls ≡ []) × (filter (λ call. not (is_below class call)) calls ≡ calls)
no_lower class op worker [] high later = (refl, refl)
no_lower class op worker (call ∷ calls) high later =
    let above : class ≤ class_of call.op = omega (arith, high, class_grows op call.op worker call.worker later.0) in
    let rest = no_lower class op worker calls high later.1 in
    rw (le-ltb (class_of call.op) class above) (rest.0, ap (λ xs. call ∷ xs) rest.1)

-- a list in batch order is its calls of classes below `class`, followed by the others
pub lower_first : (class : ℕ) (calls : List Call) → AreInBatchOrder calls → calls ≡ filter (is_below class) calls ++ filter (λ call. not (is_below class call)) calls
lower_first class [] order = refl
lower_first class (call ∷ calls) order =
    elim (nat_lt (class_of call.op) class) as (λ b. nat_lt (class_of call.op) class ≡ b → call ∷ calls ≡ cond b (call ∷ filter (is_below class) calls) (filter (is_below class) calls) ++ cond (not b) (call ∷ filter (λ call. not (is_below class call)) calls) (filter (λ call. not (is_below class call)) calls)) [
      | true ↦ λ low. ap (λ xs. call ∷ xs) (lower_first class calls order.1)
      | false ↦ λ high. let none = no_lower class call.op call.worker calls (ltb-false (class_of call.op) class high) order.0 in rw (none.0, none.1) refl
    ] refl
