-- Serving calls on a set is serving them on the two sides of a key separately.
use Rattle.std.proofs.Common.{◌≡◌, ℕ, ◌<◌, ◌≤◌, ◌⊎◌, inl, inr, true, false, not, nat_lt, if◌then◌else◌, List, [], ◌∷◌, ◌++◌, get_or, drop, slice_get, Some, Bool, refl, ap, sym, subst, ◌∙◌, arith}
use Rattle.std.specs.declared.option.Option.{Option}
use Rattle.std.specs.List.{AllByRecursion}
use Rattle.std.proofs.lemmas.Bool.Decides.{nat_tests}
use Rattle.key_sets.proofs.KeyLemmas.Ascending.{all_with, all_without}
use Rattle.key_sets.proofs.KeyLemmas.Beside.{has_low, has_high, with_low, with_high, without_low, without_high, next_high}
use Rattle.std.proofs.lemmas.Bool.{cases_lt}
use Rattle.seq_objects.specs.declared.op.Op.{Op}
use Rattle.seq_objects.specs.declared.op.Op.TheVariants.{TreeInsert, TreeRemove, TreeFind, TreeNext}
use Rattle.seq_objects.specs.declared.call.Call.{Call}
use Rattle.seq_objects.specs.declared.reply.Reply.{Reply}
use Rattle.seq_objects.specs.declared.reply.Reply.TheVariants.{Empty}
use Rattle.seq_objects.specs.Objects.{Objects, after, reply_to, argument_of, with_key, without_key, least_above, yes_or_no, number_or_empty}
use Rattle.seq_objects.specs.BatchOrder.{ComesFirst, class_of}
use Rattle.seq_objects.specs.declared.kind.Kind.TheVariants.{Tree}
use Rattle.seq_objects.specs.Batches.{AreInBatchOrder, AreOf, kind_of}
use Rattle.seq_objects.specs.Serial.{of_set, after_all, replies_to_all}
use Rattle.seq_objects.proofs.Classes.{class_grows, update_class}
use Rattle.batched_tree.specs.Calls.{key_of}
use Rattle.batched_tree.specs.Code.Sides.{calls_below, calls_from}
use Rattle.batched_tree.specs.Replies.{or_beyond, reply_within, replies_within}

-- the replies of both sides, in the order of the calls
abbrev pub shared : ℕ → List Call → List Reply → List Reply → List Reply
shared b [] lows highs = []
shared b (call ∷ calls) lows highs = if nat_lt (key_of call) b then get_or lows 0 Empty ∷ shared b calls (drop 1 lows) highs else get_or highs 0 Empty ∷ shared b calls lows (drop 1 highs)

-- the effect of an operation of the tree on a set
abbrev pub changed : Op → List ℕ → List ℕ
changed (TreeInsert number key) set = with_key key set
changed (TreeRemove number key) set = without_key key set
changed _ set = set

pub changes : (op : Op) (set : List ℕ) → kind_of op ≡ Tree
    → after (of_set set) op ≡ of_set (changed op set)
changes (TreeInsert number key) set is = refl
changes (TreeRemove number key) set is = refl
changes (TreeFind number key) set is = refl
changes (TreeNext number key) set is = refl
changes _ set is = absurd cc

keeps : (P : ℕ → Type 0) (op : Op) (set : List ℕ) → P (argument_of op) → AllByRecursion P set
    → AllByRecursion P (changed op set)
keeps P (TreeInsert number key) set here each = all_with P key set here each
keeps P (TreeRemove number key) set here each = all_without P key set each
keeps P _ set here each = each

-- an operation whose key is on the lower side
pub record IsLow (beyond : Option ℕ) (low high : List ℕ) (op : Op) (new : List ℕ) : Type 0 where
  pub reply : reply_to (of_set (low ++ high)) op ≡ reply_within beyond op (reply_to (of_set low) op)
  pub whole : after (of_set (low ++ high)) op ≡ of_set (new ++ high)

abbrev IsBeyond : Option ℕ → List ℕ → Op → Type 0
IsBeyond beyond high op = (beyond ≡ slice_get high 0) ⊎ (update_class ≤ class_of op)

-- the next key: that of the lower part, or the first of the upper part
next_low : (key b : ℕ) (low high : List ℕ) → key < b → AllByRecursion (λ k. b ≤ k) high
    → number_or_empty (least_above key (low ++ high)) ≡ or_beyond (number_or_empty (least_above key low)) (slice_get high 0)
next_low key b [] [] less up = refl
next_low key b [] (y ∷ high) less up = step (nat_lt key y) (grind (arith, nat_tests, less, up.0)) where
  step : (more : Bool) → more ≡ true
      → number_or_empty (if more then Some y else least_above key high) ≡ number_or_empty (Some y)
  step true is = refl
  step false is = cc
next_low key b (x ∷ low) high less up = step (nat_lt key x) (next_low key b low high less up) where
  step : (more : Bool)
      → number_or_empty (least_above key (low ++ high)) ≡ or_beyond (number_or_empty (least_above key low)) (slice_get high 0)
      → number_or_empty (if more then Some x else least_above key (low ++ high)) ≡ or_beyond (number_or_empty (if more then Some x else least_above key low)) (slice_get high 0)
  step true rest = refl
  step false rest = rest

low_next : (beyond : Option ℕ) (number key b : ℕ) (low high : List ℕ) → key < b
    → AllByRecursion (λ k. b ≤ k) high → IsBeyond beyond high (TreeNext number key)
    → reply_to (of_set (low ++ high)) (TreeNext number key) ≡ reply_within beyond (TreeNext number key) (reply_to (of_set low) (TreeNext number key))
low_next beyond number key b low high less up (inl is) = rw is (next_low key b low high less up)
low_next beyond number key b low high less up (inr update) = absurd (omega arith)

low_step : (beyond : Option ℕ) (b : ℕ) (low high : List ℕ) (op : Op) → kind_of op ≡ Tree
    → argument_of op < b → AllByRecursion (λ k. b ≤ k) high → IsBeyond beyond high op
    → IsLow beyond low high op (changed op low)
low_step beyond b low high (TreeInsert number key) is less up known = record { reply = ap (λ t. yes_or_no (not t)) (has_low key b low high less up); whole = ap of_set (with_low key b low high less up) }
low_step beyond b low high (TreeRemove number key) is less up known = record { reply = ap yes_or_no (has_low key b low high less up); whole = ap of_set (without_low key b low high less up) }
low_step beyond b low high (TreeFind number key) is less up known = record { reply = ap yes_or_no (has_low key b low high less up); whole = refl }
low_step beyond b low high (TreeNext number key) is less up known = record { reply = low_next beyond number key b low high less up known; whole = refl }
low_step beyond b low high _ is less up known = absurd cc

-- an operation whose key is on the upper side
pub record IsHigh (low high : List ℕ) (op : Op) (new : List ℕ) : Type 0 where
  pub reply : reply_to (of_set (low ++ high)) op ≡ reply_to (of_set high) op
  pub whole : after (of_set (low ++ high)) op ≡ of_set (low ++ new)

high_step : (b : ℕ) (low high : List ℕ) (op : Op) → kind_of op ≡ Tree → b ≤ argument_of op
    → AllByRecursion (λ k. k < b) low
    → IsHigh low high op (changed op high)
high_step b low high (TreeInsert number key) is le down = record { reply = ap (λ t. yes_or_no (not t)) (has_high key b low high le down); whole = ap of_set (with_high key b low high le down) }
high_step b low high (TreeRemove number key) is le down = record { reply = ap yes_or_no (has_high key b low high le down); whole = ap of_set (without_high key b low high le down) }
high_step b low high (TreeFind number key) is le down = record { reply = ap yes_or_no (has_high key b low high le down); whole = refl }
high_step b low high (TreeNext number key) is le down = record { reply = ap number_or_empty (next_high key b low high le down); whole = refl }
high_step b low high _ is le down = absurd cc

-- a query leaves the set as it is
query_or_update : (op : Op) (set : List ℕ) → kind_of op ≡ Tree
    → (changed op set ≡ set) ⊎ (update_class ≤ class_of op)
query_or_update (TreeInsert number key) set is = inr (omega arith)
query_or_update (TreeRemove number key) set is = inr (omega arith)
query_or_update (TreeFind number key) set is = inl refl
query_or_update (TreeNext number key) set is = inl refl
query_or_update _ set is = absurd cc

abbrev pub AreUpdates : List Call → Type 0
AreUpdates calls = AllByRecursion (λ call. update_class ≤ class_of call.op) calls

-- in batch order, only updates follow an update
updates_last : (op : Op) (worker : ℕ) (calls : List Call) → update_class ≤ class_of op
    → AllByRecursion (λ later. ComesFirst op worker later.op later.worker) calls → AreUpdates calls
updates_last op worker [] update later = tt
updates_last op worker (call ∷ calls) update later =
    let here : update_class ≤ class_of call.op = omega (arith, update, class_grows op call.op worker call.worker later.0) in
    (here, updates_last op worker calls update later.1)

-- the key beyond the lower side is the first of the upper side, or only updates remain
abbrev Knows : Option ℕ → List ℕ → List Call → Type 0
Knows beyond high calls = (beyond ≡ slice_get high 0) ⊎ AreUpdates calls

knows_here : (beyond : Option ℕ) (high : List ℕ) (call : Call) (calls : List Call)
    → Knows beyond high (call ∷ calls) → IsBeyond beyond high call.op
knows_here beyond high call calls (inl is) = inl is
knows_here beyond high call calls (inr updates) = inr updates.0

knows_low : (beyond : Option ℕ) (high : List ℕ) (call : Call) (calls : List Call)
    → Knows beyond high (call ∷ calls) → Knows beyond high calls
knows_low beyond high call calls (inl is) = inl is
knows_low beyond high call calls (inr updates) = inr updates.1

knows_high : (beyond : Option ℕ) (high new : List ℕ) (op : Op) (worker : ℕ) (calls : List Call)
    → (new ≡ high) ⊎ (update_class ≤ class_of op)
    → AllByRecursion (λ later. ComesFirst op worker later.op later.worker) calls
    → (beyond ≡ slice_get high 0) ⊎ ((update_class ≤ class_of op) × AreUpdates calls) → Knows beyond new calls
knows_high beyond high new op worker calls change later (inr updates) = inr updates.1
knows_high beyond high new op worker calls (inr update) later (inl is) = inr (updates_last op worker calls update later)
knows_high beyond high new op worker calls (inl same) later (inl is) = inl (rw same is)

pub halves_replies : (b : ℕ) (calls : List Call) (low high : List ℕ) (beyond : Option ℕ)
    → AreOf Tree calls → AreInBatchOrder calls
    → AllByRecursion (λ k. k < b) low → AllByRecursion (λ k. b ≤ k) high → Knows beyond high calls
    → replies_to_all (of_set (low ++ high)) calls ≡ shared b calls (replies_within beyond (of_set low) (calls_below b calls)) (replies_to_all (of_set high) (calls_from b calls))
halves_replies b [] low high beyond tree order down up known = refl
halves_replies b (call ∷ calls) low high beyond tree order down up known = elim (cases_lt (key_of call) b) [
  | inl less ↦
      let test : nat_lt (argument_of call.op) b ≡ true = grind (arith, nat_tests) in
      let is = changes call.op low tree.0 in
      let new = changed call.op low in
      let s = low_step beyond b low high call.op tree.0 less up (knows_here beyond high call calls known) in
      let rest = halves_replies b calls new high beyond tree.1 order.1 (keeps (λ k. k < b) call.op low less down) up (knows_low beyond high call calls known) in
      rw (test, s.reply, s.whole, is) (ap (λ rs. reply_within beyond call.op (reply_to (of_set low) call.op) ∷ rs) rest)
  | inr le ↦
      let test : nat_lt (argument_of call.op) b ≡ false = grind (arith, nat_tests) in
      let is = changes call.op high tree.0 in
      let new = changed call.op high in
      let s = high_step b low high call.op tree.0 le down in
      let rest = halves_replies b calls low new beyond tree.1 order.1 down (keeps (λ k. b ≤ k) call.op high le up) (knows_high beyond high new call.op call.worker calls (query_or_update call.op high tree.0) order.0 known) in
      rw (test, s.reply, s.whole, is) (ap (λ rs. reply_to (of_set high) call.op ∷ rs) rest)
]

-- the set after calls, in terms of sets alone
pub set_after : (set : List ℕ) (calls : List Call) → AreOf Tree calls
    → after_all (of_set set) calls ≡ of_set (after_all (of_set set) calls).set
set_after set [] tree = refl
set_after set (call ∷ calls) tree =
    let first : after_all (of_set set) (call ∷ calls) ≡ after_all (of_set (changed call.op set)) calls = ap (λ (objects : Objects). after_all objects calls) (changes call.op set tree.0) in
    first ∙ set_after (changed call.op set) calls tree.1 ∙ ap (λ (objects : Objects). of_set objects.set) (sym first)

pub kept : (P : ℕ → Type 0) (set : List ℕ) (calls : List Call) → AreOf Tree calls
    → AllByRecursion (λ call. P (key_of call)) calls → AllByRecursion P set
    → AllByRecursion P (after_all (of_set set) calls).set
kept P set [] tree keys each = each
kept P set (call ∷ calls) tree keys each =
    let rest = kept P (changed call.op set) calls tree.1 keys.1 (keeps P call.op set keys.0 each) in
    subst (λ (objects : Objects). AllByRecursion P (after_all objects calls).set) (sym (changes call.op set tree.0)) rest

pub halves_after : (b : ℕ) (calls : List Call) (low high : List ℕ) → AreOf Tree calls
    → AllByRecursion (λ k. k < b) low → AllByRecursion (λ k. b ≤ k) high
    → after_all (of_set (low ++ high)) calls ≡ of_set ((after_all (of_set low) (calls_below b calls)).set ++ (after_all (of_set high) (calls_from b calls)).set)
halves_after b [] low high tree down up = refl
halves_after b (call ∷ calls) low high tree down up = elim (cases_lt (key_of call) b) [
  | inl less ↦
      let test : nat_lt (argument_of call.op) b ≡ true = grind (arith, nat_tests) in
      let is = changes call.op low tree.0 in
      let new = changed call.op low in
      let s = low_step (slice_get high 0) b low high call.op tree.0 less up (inl refl) in
      let first : after_all (of_set (low ++ high)) (call ∷ calls) ≡ after_all (of_set (new ++ high)) calls = ap (λ (objects : Objects). after_all objects calls) s.whole in
      let rest = halves_after b calls new high tree.1 (keeps (λ k. k < b) call.op low less down) up in
      let own : after_all (of_set new) (calls_below b calls) ≡ after_all (of_set low) (call ∷ calls_below b calls) = ap (λ (objects : Objects). after_all objects (calls_below b calls)) (sym is) in
      rw test (first ∙ rest ∙ ap (λ (objects : Objects). of_set (objects.set ++ (after_all (of_set high) (calls_from b calls)).set)) own)
  | inr le ↦
      let test : nat_lt (argument_of call.op) b ≡ false = grind (arith, nat_tests) in
      let is = changes call.op high tree.0 in
      let new = changed call.op high in
      let s = high_step b low high call.op tree.0 le down in
      let first : after_all (of_set (low ++ high)) (call ∷ calls) ≡ after_all (of_set (low ++ new)) calls = ap (λ (objects : Objects). after_all objects calls) s.whole in
      let rest = halves_after b calls low new tree.1 down (keeps (λ k. b ≤ k) call.op high le up) in
      let own : after_all (of_set new) (calls_from b calls) ≡ after_all (of_set high) (call ∷ calls_from b calls) = ap (λ (objects : Objects). after_all objects (calls_from b calls)) (sym is) in
      rw test (first ∙ rest ∙ ap (λ (objects : Objects). of_set ((after_all (of_set low) (calls_below b calls)).set ++ objects.set)) own)
]
