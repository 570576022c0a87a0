-- The store that one thread keeps, and what becomes of it where a part changes.
use Rattle.std.proofs.Common.{ℕ, inl, inr, ◌≡◌, ◌≢◌, ◌==◌, Bool, true, false, cond, Some, None, refl, ap, sym, ◌∙◌, arith}
use Rattle.std.specs.BTreeMap.{BTreeMap, get, is_at}
use Rattle.std.specs.Ordering.{nat_cmp}
use Rattle.std.specs.Option.{unwrap_or}
use Rattle.std.proofs.lemmas.Bool.Decides.{nat_tests}
use Rattle.seq_objects.specs.declared.op.Op.{Op}
use Rattle.seq_objects.specs.declared.op.Op.TheVariants.{CounterAdd, Push, TreeInsert, PqInsert}
use Rattle.seq_objects.specs.declared.plain.Plain.{Plain}
use Rattle.seq_objects.specs.Objects.{Objects, opening, after, number_of}
use Rattle.seq_objects.specs.Stores.{Store, store_after, TakesNoMemory}
use Rattle.seq_objects.specs.Code.Inserting.{InsertsNothing}
use Rattle.seq_objects.specs.Kept.{store_in}

pub opening_stays : (op : Op) → InsertsNothing op → after opening op ≡ opening
opening_stays (CounterAdd number addend) nothing = absurd nothing
opening_stays (Push number item) nothing = absurd nothing
opening_stays (TreeInsert number key) nothing = absurd nothing
opening_stays (PqInsert number item) nothing = absurd nothing
opening_stays _ nothing = refl

-- an operation that inserts something into the opening objects may allocate
pub may_allocate : (store : Store) (op : Op) → store (number_of op) ≡ opening → number_of op ≢ 0 → (InsertsNothing op → ⊥) → TakesNoMemory store op → ⊥
may_allocate store (CounterAdd number addend) is above some (inl zero) = above zero
may_allocate store (CounterAdd number addend) is above some (inr more) = omega (arith, ap (λ (o : Objects). o.counter) is, more)
may_allocate store (Push number item) is above some none = none
may_allocate store (TreeInsert number key) is above some none = none
may_allocate store (PqInsert number item) is above some none = none
may_allocate store _ is above some none = some tt

pub first_kept : (plain : Plain) (number : ℕ) → number ≡ 0 → store_in plain number ≡ plain.first
unfolding store_in
first_kept plain number is = rw is refl

module _ (plain : Plain) (asked number : ℕ) (above : asked ≢ 0) (is : asked ≡ number) where
  other_kept : store_in plain number ≡ unwrap_or (get nat_cmp plain.others asked) opening
  unfolding store_in
  other_kept = grind (arith, nat_tests)

  pub some_kept : (objects : Objects) → Some objects ≡ get nat_cmp plain.others asked → store_in plain number ≡ objects
  some_kept objects found = other_kept ∙ ap (λ kept. unwrap_or kept opening) (sym found)

  pub none_kept : get nat_cmp plain.others asked ≡ None → store_in plain number ≡ opening
  none_kept none = other_kept ∙ ap (λ kept. unwrap_or kept opening) none

-- each number has what it had
pub all_stay : (plain plain' : Plain) → plain'.first ≡ plain.first → ((number : ℕ) → get nat_cmp plain'.others number ≡ get nat_cmp plain.others number)
    → store_in plain' ≡ store_in plain
unfolding store_in
all_stay plain plain' first others = λ i number. cond (number == 0) (first i) (unwrap_or (others number i) opening)

-- the objects of a number are kept, and written as they were
pub same_written : (plain : Plain) (others : BTreeMap ℕ Objects) (asked : ℕ) (objects now : Objects) → Some objects ≡ get nat_cmp plain.others asked → now ≡ objects
    → ((number : ℕ) → get nat_cmp others number ≡ cond (is_at (nat_cmp asked) number) (Some now) (get nat_cmp plain.others number))
    → (number : ℕ) → get nat_cmp others number ≡ get nat_cmp plain.others number
same_written plain others asked objects now found same written number = step (is_at (nat_cmp asked) number) refl (written number) where
  step : (b : Bool) → is_at (nat_cmp asked) number ≡ b → get nat_cmp others number ≡ cond b (Some now) (get nat_cmp plain.others number) → get nat_cmp others number ≡ get nat_cmp plain.others number
  step true is now_is = let one : asked ≡ number = grind (arith, nat_tests) in now_is ∙ ap Some same ∙ found ∙ ap (get nat_cmp plain.others) one
  step false is now_is = now_is

module _ (plain plain' : Plain) (op : Op) where
  -- an operation on objects of number 0
  pub first_served : number_of op ≡ 0 → plain'.first ≡ after plain.first op → ((number : ℕ) → get nat_cmp plain'.others number ≡ get nat_cmp plain.others number)
      → store_in plain' ≡ store_after (store_in plain) op
  unfolding store_in
  first_served zero first others = λ i number. at number i where
    at : (number : ℕ) → store_in plain' number ≡ store_after (store_in plain) op number
    at number = let same = others number in grind (arith, nat_tests)

  -- an operation on objects of another number, which are kept from then on
  pub other_served : (asked : ℕ) → asked ≢ 0 → asked ≡ number_of op → plain'.first ≡ plain.first
      → ((number : ℕ) → get nat_cmp plain'.others number ≡ cond (is_at (nat_cmp asked) number) (Some (after (store_in plain (number_of op)) op)) (get nat_cmp plain.others number))
      → store_in plain' ≡ store_after (store_in plain) op
  unfolding store_in
  other_served asked above is first others = λ i number. at number i where
    at : (number : ℕ) → store_in plain' number ≡ store_after (store_in plain) op number
    at number = let now = others number in grind (arith, nat_tests)

  -- an operation that leaves its objects as they are
  pub none_served : after (store_in plain (number_of op)) op ≡ store_in plain (number_of op) → store_in plain' ≡ store_in plain → store_in plain' ≡ store_after (store_in plain) op
  none_served same stay = stay ∙ (λ i number. at number i) where
    at : (number : ℕ) → store_in plain number ≡ store_after (store_in plain) op number
    at number = step (number == number_of op) refl where
      step : (b : Bool) → (number == number_of op) ≡ b → store_in plain number ≡ cond b (after (store_in plain (number_of op)) op) (store_in plain number)
      step true is = let one : number ≡ number_of op = grind (arith, nat_tests) in ap (store_in plain) one ∙ sym same
      step false is = refl
