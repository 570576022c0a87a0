-- The numbers in the replies of few calls with arguments below 2^32 are below 2^64.
use Rattle.std.proofs.Common.{◌≡◌, ℕ, zero, suc, ◌+◌, ◌*◌, ◌<◌, ◌≤◌, ◌^◌, Bool, true, false, List, [], ◌∷◌, ◌++◌, length, take, drop, Option, Some, None, inl, inr, refl, sym, subst, arith, rules}
use Rattle.std.specs.Prelude.{nat_le, nat_lt, ◌==◌, slice_get, if◌then◌else◌, cond}
use Rattle.std.specs.List.{AllByRecursion}
use Rattle.key_sets.specs.Keys.{with_key, without_key, least_above}
use Rattle.seq_objects.specs.Spin.{spin_of}
use Rattle.seq_objects.specs.Objects.{Objects, after, reply_to, number_of, value_of, argument_of, with_item, number_or_empty, yes_or_no}
use Rattle.seq_objects.specs.Stores.{Store, opening_store, store_after}
use Rattle.seq_objects.specs.declared.act.Act.{Act}
use Rattle.seq_objects.specs.declared.act.Act.TheVariants.{Work, Call}
use Rattle.seq_objects.specs.declared.op.Op.{Op}
use Rattle.seq_objects.specs.declared.op.Op.TheVariants.{CounterAdd}
use Rattle.seq_objects.specs.declared.reply.Reply.{Reply}
use Rattle.sp_order.specs.Jobs.{JobValue}
use Rattle.sp_order.specs.Totals.{count_of_act, total}
use Rattle.batch_history.specs.declared.batch.Entry.{Entry}
use Rattle.batch_history.specs.declared.report.Report.{Report}
use Rattle.batch_history.specs.Book.{flat, IsLegalFrom}
use Rattle.batch_history.specs.Serving.{acts_in}
use Rattle.batch_history.specs.Lawful.{Lawful}
use Rattle.batch_history.specs.Operations.{op_of}
use Rattle.batch_history.proofs.TallyLemmas.Leaves.{CountsAlike, alike_total}
use Rattle.batch_history.proofs.ActLemmas.{IsGiven, at_leaf, called_as, narrow}

abbrev AreSmall : List ℕ → Type 0
AreSmall numbers = AllByRecursion (λ n. n < 2 ^ 32) numbers

abbrev IsSmall : Option ℕ → Type 0
IsSmall None = Unit {0}
IsSmall (Some n) = n < 2 ^ 32

pushed : (xs : List ℕ) (x : ℕ) → AreSmall xs → x < 2 ^ 32 → AreSmall (xs ++ x ∷ [])
pushed [] x small one = (one, tt)
pushed (y ∷ xs) x small one = (small.0, pushed xs x small.1 one)

taken : (n : ℕ) (xs : List ℕ) → AreSmall xs → AreSmall (take n xs)
taken zero xs small = tt
taken (suc n) [] small = tt
taken (suc n) (x ∷ xs) small = (small.0, taken n xs small.1)

dropped : (xs : List ℕ) → AreSmall xs → AreSmall (drop 1 xs)
dropped [] small = tt
dropped (x ∷ xs) small = small.1

got : (xs : List ℕ) (i : ℕ) → AreSmall xs → IsSmall (slice_get xs i)
got [] i small = tt
got (x ∷ xs) zero small = small.0
got (x ∷ xs) (suc i) small = got xs i small.1

pick : (b : Bool) (xs ys : List ℕ) → AreSmall xs → AreSmall ys → AreSmall (if b then xs else ys)
pick true xs ys a b = a
pick false xs ys a b = b

pick_some : (b : Bool) (x : ℕ) (r : Option ℕ) → x < 2 ^ 32 → IsSmall r → IsSmall (cond b (Some x) r)
pick_some true x r small more = small
pick_some false x r small more = more

with_item_small : (item : ℕ) (bag : List ℕ) → item < 2 ^ 32 → AreSmall bag → AreSmall (with_item item bag)
with_item_small item [] one small = (one, tt)
with_item_small item (x ∷ bag) one small = pick (nat_le item x) (item ∷ x ∷ bag) (x ∷ with_item item bag) (one, small) (small.0, with_item_small item bag one small.1)

with_key_small : (key : ℕ) (set : List ℕ) → key < 2 ^ 32 → AreSmall set → AreSmall (with_key key set)
with_key_small key [] one small = (one, tt)
with_key_small key (k ∷ set) one small =
    pick (nat_lt key k) (key ∷ k ∷ set) (if key == k then k ∷ set else k ∷ with_key key set) (one, small)
    (pick (key == k) (k ∷ set) (k ∷ with_key key set) small (small.0, with_key_small key set one small.1))

without_key_small : (key : ℕ) (set : List ℕ) → AreSmall set → AreSmall (without_key key set)
without_key_small key [] small = tt
without_key_small key (k ∷ set) small = pick (key == k) set (k ∷ without_key key set) small.1 (small.0, without_key_small key set small.1)

above_small : (key : ℕ) (set : List ℕ) → AreSmall set → IsSmall (least_above key set)
above_small key [] small = tt
above_small key (k ∷ set) small = pick_some (nat_lt key k) k (least_above key set) small.0 (above_small key set small.1)

record AreSmallObjects (objects : Objects) (room : ℕ) : Type 0 where
  counter : objects.counter + room * 2 ^ 32 ≤ 2 ^ 64
  stack : AreSmall objects.stack
  set : AreSmall objects.set
  bag : AreSmall objects.bag

number_small : (number : Option ℕ) → IsSmall number → value_of (number_or_empty number) < 2 ^ 64
number_small None small = omega arith
number_small (Some n) small = omega (arith, small)

yes_small : (b : Bool) → value_of (yes_or_no b) < 2 ^ 64
yes_small true = omega arith
yes_small false = omega arith

fewer : (objects : Objects) (room : ℕ) → AreSmallObjects objects (suc room) → AreSmallObjects objects room
fewer objects room small = record { counter = omega (arith, small.counter); stack = small.stack; set = small.set; bag = small.bag }

served : (objects : Objects) (op : Op) (room : ℕ) → argument_of op < 2 ^ 32 → AreSmallObjects objects (suc room) → AreSmallObjects (after objects op) room × (value_of (reply_to objects op) < 2 ^ 64)
served objects (CounterAdd number a) room one small = (record { counter = omega (arith, small.counter, one); stack = small.stack; set = small.set; bag = small.bag }, omega (arith, small.counter, one))
served objects _ room one small = (
  record { counter = omega (arith, small.counter); stack = search (small.stack, one, pushed, taken); set = search (small.set, one, with_key_small, without_key_small); bag = search (small.bag, one, with_item_small, dropped) },
  search (rules, small.stack, small.set, small.bag, number_small, yes_small, got, above_small),
)

-- the objects of each number are small
abbrev IsSmallStore : Store → ℕ → Type 0
IsSmallStore store room = (number : ℕ) → AreSmallObjects (store number) room

either_small : (b : Bool) (one other : Objects) (room : ℕ) → AreSmallObjects one room → AreSmallObjects other room → AreSmallObjects (if b then one else other) room
either_small true one other room a b = a
either_small false one other room a b = b

all_served : (store : Store) (entries : List Entry) → IsSmallStore store (length entries) → IsLegalFrom store entries → AllByRecursion (λ entry. argument_of entry.op < 2 ^ 32) entries → AllByRecursion (λ entry. value_of entry.reply < 2 ^ 64) entries
all_served store [] small legal args = tt
all_served store (entry ∷ entries) small legal args =
    let own = store (number_of entry.op) in
    let next = served own entry.op (length entries) args.0 (small (number_of entry.op)) in
    let rest : IsSmallStore (store_after store entry.op) (length entries) = λ number.
    either_small (number == number_of entry.op) (after own entry.op) (store number) (length entries) next.0 (fewer (store number) (length entries) (small number)) in
    (subst (λ (r : Reply). value_of r < 2 ^ 64) (sym legal.0) next.1, all_served (store_after store entry.op) entries rest legal.1 args.1)

pub small_replies : (entries : List Entry) → IsLegalFrom opening_store entries → AllByRecursion (λ entry. argument_of entry.op < 2 ^ 32) entries → length entries ≤ 2 ^ 32 → AllByRecursion (λ entry. value_of entry.reply < 2 ^ 64) entries
small_replies entries legal args few = all_served opening_store entries (λ number. record { counter = omega (arith, few); stack = tt; set = tt; bag = tt }) legal args

-- the argument of a call is that of its act, or the low bits of a value
pub given_small : (op given : Op) → argument_of given < 2 ^ 32 → IsGiven op given → argument_of op < 2 ^ 32
given_small op given small (inl same) = subst (λ (o : Op). argument_of o < 2 ^ 32) (sym same) small
given_small op given small (inr value) = subst (λ (o : Op). argument_of o < 2 ^ 32) (sym value.1) (narrow given value.0)

called : (work : ℕ → ℕ) (job : JobValue) (book : List (List Entry)) (entries : List Entry) → AllByRecursion (λ act. count_of_act argument_of act < 2 ^ 32) job.acts
    → AllByRecursion (λ entry. op_of work job book entry.leaf ≡ Some entry.op) entries → AllByRecursion (λ entry. argument_of entry.op < 2 ^ 32) entries
called work job book [] small operations = tt
called work job book (entry ∷ entries) small operations =
    let given = called_as work job book entry.leaf entry.op operations.0 in
    (given_small entry.op given.0 (at_leaf (λ act. count_of_act argument_of act < 2 ^ 32) job.acts entry.leaf given.0 small given.1.0) given.1.1, called work job book entries small operations.1)

-- each entry counts as one, as its act does
count_one : (work : ℕ → ℕ) (job : JobValue) (book : List (List Entry)) (entries : List Entry) → AllByRecursion (λ entry. op_of work job book entry.leaf ≡ Some entry.op) entries
    → AllByRecursion (CountsAlike (λ _. 1) job.acts) entries
count_one work job book [] operations = tt
count_one work job book (entry ∷ entries) operations =
    let given = called_as work job book entry.leaf entry.op operations.0 in
    ((given.0, (given.1.0, refl)), count_one work job book entries operations.1)

-- there are no more calls than acts
calls_counted : (entries : List Entry) → total (λ _. 1) (acts_in entries) ≡ length entries
calls_counted [] = refl
calls_counted (entry ∷ entries) = let more = calls_counted entries in omega (arith, more)

one_or_none : (act : Act) → count_of_act (λ _. 1) act ≤ 1
one_or_none (Work steps) = omega arith
one_or_none (Call op) = omega arith

acts_counted : (acts : List Act) → total (λ _. 1) acts ≤ length acts
acts_counted [] = omega arith
acts_counted (act ∷ acts) = omega (arith, one_or_none act, acts_counted acts)

pub small_replies_of : (job : JobValue) (workers : ℕ) (report : Report) → Lawful job workers report → length job.acts ≤ 2 ^ 32
    → AllByRecursion (λ act. count_of_act argument_of act < 2 ^ 32) job.acts → AllByRecursion (λ entry. value_of entry.reply < 2 ^ 64) (flat report.history)
small_replies_of job workers report lawful few small =
    let entries = flat report.history in
    let counted = alike_total job entries lawful.calls.leaves (λ _. 1) (count_one spin_of job report.history entries lawful.calls.operations) in
    small_replies entries lawful.replies (called spin_of job report.history entries small lawful.calls.operations)
    (omega (arith, few, calls_counted entries, counted, acts_counted job.acts))
