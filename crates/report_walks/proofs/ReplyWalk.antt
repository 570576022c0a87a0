-- Legal entries, in two parts, and the room that counters have left.
use Rattle.std.proofs.Common.{◌≡◌, ℕ, ◌+◌, ◌*◌, ◌<◌, ◌≤◌, ◌^◌, Bool, true, false, List, [], ◌∷◌, ◌++◌, refl, subst, arith}
use Rattle.std.specs.Prelude.{◌==◌, if◌then◌else◌}
use Rattle.std.proofs.lemmas.Bool.Decides.{nat_tests}
use Rattle.seq_objects.specs.Objects.{Objects, after, number_of}
use Rattle.seq_objects.specs.Stores.{Store, store_after}
use Rattle.seq_objects.specs.declared.op.Op.{Op}
use Rattle.seq_objects.specs.declared.op.Op.TheVariants.{CounterAdd}
use Rattle.batch_history.specs.Book.{IsLegalFrom}
use Rattle.batch_history.specs.Serving.{served}
use Rattle.batch_history.specs.declared.batch.Entry.{Entry}
use Rattle.report_walks.specs.Code.Rooms.{GrowsWithin}

pub legal_parts : (store : Store) (xs ys : List Entry) → IsLegalFrom store (xs ++ ys) → IsLegalFrom store xs × IsLegalFrom (served store xs) ys
legal_parts store [] ys legal = (tt, legal)
legal_parts store (x ∷ xs) ys legal = let more = legal_parts (store_after store x.op) xs ys legal.1 in ((legal.0, more.0), more.1)

-- an operation other than an add leaves the counter
abbrev AddsWithin : Op → Type 0
AddsWithin (CounterAdd number addend) = addend < 2 ^ 32
AddsWithin op = Unit {0}

counter_after : (objects : Objects) (op : Op) → AddsWithin op → (after objects op).counter ≤ objects.counter + 2 ^ 32
counter_after objects (CounterAdd number addend) small = omega (arith, small)
counter_after objects _ small = omega arith

counter_if : (is : Bool) (new old : Objects) (most : ℕ) → (is ≡ true → new.counter ≤ most) → old.counter ≤ most → (if is then new else old).counter ≤ most
counter_if true new old most one other = one refl
counter_if false new old most one other = other

-- one operation is one add at most
pub grows_one : (store : Store) (op : Op) → AddsWithin op → GrowsWithin store (store_after store op) 1
grows_one store op small number =
    counter_if (number == number_of op) (after (store (number_of op)) op) (store number) ((store number).counter + 1 * 2 ^ 32)
    (λ same. (
    let is : number ≡ number_of op = grind (arith, nat_tests) in
    let most : (after (store number) op).counter ≤ (store number).counter + 2 ^ 32 = counter_after (store number) op small in
    subst (λ (n : ℕ). (after (store n) op).counter ≤ (store number).counter + 1 * 2 ^ 32) is (omega (arith, most))))
    (omega arith)
