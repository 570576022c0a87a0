-- How much an operation adds to the counters of a store.
use Rattle.std.proofs.Common.{◌≡◌, ℕ, ◌+◌, ◌<◌, ◌≤◌, ◌^◌, ◌==◌, Bool, true, false, if◌then◌else◌, refl, arith}
use Rattle.std.proofs.lemmas.Bool.Decides.{nat_tests}
use Rattle.seq_objects.specs.declared.op.Op.{Op}
use Rattle.seq_objects.specs.declared.op.Op.TheVariants.{CounterAdd}
use Rattle.seq_objects.specs.Objects.{Objects, after, number_of}
use Rattle.seq_objects.specs.Stores.{Store, store_after}
use Rattle.sp_order.specs.Totals.{added}

own : (objects : Objects) (op : Op) → added op < 2 ^ 32 → (after objects op).counter ≤ objects.counter + 2 ^ 32
own objects (CounterAdd number addend) less = omega (arith, less)
own objects _ less = omega arith

-- each counter grows by at most 2^32
pub grown : (store : Store) (op : Op) → added op < 2 ^ 32 → (number : ℕ) → (store_after store op number).counter ≤ (store number).counter + 2 ^ 32
grown store op less number = step (number == number_of op) refl where
  step : (b : Bool) → (number == number_of op) ≡ b
      → (if b then after (store (number_of op)) op else store number).counter ≤ (store number).counter + 2 ^ 32
  step true is = let same : number ≡ number_of op = grind (arith, nat_tests) in rw same (own (store (number_of op)) op less)
  step false is = omega arith
