-- The keys that acts insert into the tree.
use Rattle.std.proofs.Common.{◌≡◌, ℕ, zero, suc, ◌+◌, ◌<◌, ◌≤◌, ◌||◌, ◌==◌, ◌⊎◌, ◌↔◌, Bool, true, false, List, [], ◌∷◌, length, get_or, inl, inr, refl, sym, ap, ◌∙◌, arith}
use Rattle.std.specs.Prelude.{nat_lt, Contains}
use Rattle.std.proofs.lemmas.Bool.Decides.{nat_tests}
use Rattle.std.proofs.lemmas.List.Elements.{Contains-append_right}
use Rattle.key_sets.proofs.KeyLemmas.Ascending.{ascends_with}
use Rattle.key_sets.proofs.KeyLemmas.Members.{has_with, same_set}
use Rattle.seq_objects.specs.declared.op.Op.{Op}
use Rattle.seq_objects.specs.declared.op.Op.TheVariants.{TreeInsert}
use Rattle.seq_objects.specs.declared.act.Act.{Act}
use Rattle.seq_objects.specs.declared.act.Act.TheVariants.{Work, Call}
use Rattle.seq_objects.specs.Objects.{has}
use Rattle.seq_objects.specs.Orders.{StrictlyAscends, one_if}
use Rattle.sp_order.specs.Totals.{with_key_of, keys_inserted, count_of_act, total}

-- 1 for an insert of this key
abbrev pub inserts_key : ℕ → Op → ℕ
inserts_key q (TreeInsert number key) = one_if (q == key)
inserts_key q _ = 0

pub or_none : (b : Bool) → b ≡ (b || nat_lt 0 0)
or_none true = refl
or_none false = refl

or_one : (b c : Bool) → (c || b) ≡ (b || nat_lt 0 (one_if c))
or_one true true = refl
or_one true false = refl
or_one false true = refl
or_one false false = refl

-- a set with the key of an operation
pub ascends_step : (op : Op) (set : List ℕ) → StrictlyAscends set → StrictlyAscends (with_key_of (Call op) set)
ascends_step (TreeInsert number key) set up = ascends_with key set up
ascends_step _ set up = up

pub has_step : (q : ℕ) (op : Op) (set : List ℕ) → has q (with_key_of (Call op) set) ≡ (has q set || nat_lt 0 (inserts_key q op))
has_step q (TreeInsert number key) set = has_with key q set ∙ or_one (has q set) (q == key)
has_step q _ set = or_none (has q set)

-- the keys that are inserted
pub inserted_ascend : (acts : List Act) → StrictlyAscends (keys_inserted acts)
inserted_ascend [] = tt
inserted_ascend (act ∷ acts) = step act (inserted_ascend acts) where
  step : (a : Act) → StrictlyAscends (keys_inserted acts) → StrictlyAscends (with_key_of a (keys_inserted acts))
  step (Work steps) up = up
  step (Call op) up = ascends_step op (keys_inserted acts) up

turned : (m n : ℕ) → (nat_lt 0 m || nat_lt 0 n) ≡ nat_lt 0 (n + m)
turned m n = grind (arith, nat_tests)

none_and : (n : ℕ) → n ≡ 0 + n
none_and n = omega arith

pub has_inserted : (q : ℕ) (acts : List Act) → has q (keys_inserted acts) ≡ nat_lt 0 (total (inserts_key q) acts)
has_inserted q [] = refl
has_inserted q (act ∷ acts) = step act (has_inserted q acts) where
  step : (a : Act) → has q (keys_inserted acts) ≡ nat_lt 0 (total (inserts_key q) acts)
      → has q (with_key_of a (keys_inserted acts)) ≡ nat_lt 0 (count_of_act (inserts_key q) a + total (inserts_key q) acts)
  step (Work steps) rest = rest ∙ ap (nat_lt 0) (none_and (total (inserts_key q) acts))
  step (Call op) rest = has_step q op (keys_inserted acts) ∙ ap (λ b. b || nat_lt 0 (inserts_key q op)) rest ∙ turned (total (inserts_key q) acts) (inserts_key q op)

-- acts with the same number of inserts of each key have the same inserted keys
pub same_keys : (acts others : List Act) → ((q : ℕ) → total (inserts_key q) acts ≡ total (inserts_key q) others) → keys_inserted acts ≡ keys_inserted others
same_keys acts others same = same_set (keys_inserted acts) (keys_inserted others) (inserted_ascend acts) (inserted_ascend others)
    (λ q. has_inserted q acts ∙ ap (nat_lt 0) (same q) ∙ sym (has_inserted q others))

-- they are those of the acts that insert one
is_here : (q : ℕ) (act : Act) → 1 ≤ count_of_act (inserts_key q) act → (number : ℕ) × (act ≡ Call (TreeInsert number q))
is_here q (Work steps) counts = absurd (omega (arith, counts))
is_here q (Call (TreeInsert number key)) counts = (number, step (q == key) refl counts) where
  step : (b : Bool) → (q == key) ≡ b → 1 ≤ one_if b → Call (TreeInsert number key) ≡ Call (TreeInsert number q)
  step true is some = let same : key ≡ q = grind (arith, nat_tests) in ap (λ k. Call (TreeInsert number k)) same
  step false is some = absurd (omega (arith, some))
is_here q (Call _) counts = absurd (omega (arith, counts))

none_or_some : (n : ℕ) → (n ≡ 0) ⊎ (1 ≤ n)
none_or_some zero = inl refl
none_or_some (suc n) = inr (omega arith)

is_there : (q : ℕ) (acts : List Act) → 1 ≤ total (inserts_key q) acts → (number : ℕ) × Contains acts (Call (TreeInsert number q))
is_there q [] counts = absurd (omega (arith, counts))
is_there q (act ∷ acts) counts = elim (none_or_some (count_of_act (inserts_key q) act)) [
  | inl none ↦
      let there = is_there q acts (omega (arith, none, counts)) in
      (there.0, Contains-append_right (act ∷ []) acts (Call (TreeInsert there.0 q)) there.1)
  | inr some ↦ let here = is_here q act some in (here.0, (0, omega arith, here.1))
]

one_here : (q number : ℕ) (act : Act) → act ≡ Call (TreeInsert number q) → 1 ≤ count_of_act (inserts_key q) act
one_here q number act is = rw is (step (q == q) (grind (arith, nat_tests))) where
  step : (b : Bool) → b ≡ true → 1 ≤ one_if b
  step true same = omega arith
  step false same = cc

some_there : (q number : ℕ) (acts : List Act) (k : ℕ) (d : Act) → k < length acts → get_or acts k d ≡ Call (TreeInsert number q) → 1 ≤ total (inserts_key q) acts
some_there q number [] k d within is = absurd (omega (arith, within))
some_there q number (act ∷ acts) zero d within is = omega (arith, one_here q number act is)
some_there q number (act ∷ acts) (suc k) d within is = omega (arith, some_there q number acts k d (omega (arith, within)) is)

pub inserted_are : (q : ℕ) (acts : List Act) → (has q (keys_inserted acts) ≡ true) ↔ ((number : ℕ) × Contains acts (Call (TreeInsert number q)))
inserted_are q acts = (
  λ has_one. is_there q acts (positive (total (inserts_key q) acts) (sym (has_inserted q acts) ∙ has_one)),
  λ there. has_inserted q acts ∙ tested (total (inserts_key q) acts) (some_there q there.0 acts there.1.0 (Call (TreeInsert there.0 q)) there.1.1 there.1.2),
) where
  positive : (n : ℕ) → nat_lt 0 n ≡ true → 1 ≤ n
  positive n has_one = grind (arith, nat_tests)

  tested : (n : ℕ) → 1 ≤ n → nat_lt 0 n ≡ true
  tested n some = grind (arith, nat_tests)
