-- The totals of legal entries of the counter, the stack and the queue.
use Rattle.std.proofs.Common.{◌≡◌, ℕ, ◌+◌, ◌-◌, ◌≤◌, List, [], ◌∷◌, length, refl, ap, ◌∙◌, arith, length-append}
use Rattle.std.specs.List.{AllByRecursion}
use Rattle.seq_objects.specs.declared.op.Op.{Op}
use Rattle.seq_objects.specs.declared.op.Op.TheVariants.{CounterAdd, Push, Pop, PqInsert, PqTake}
use Rattle.seq_objects.specs.declared.reply.Reply.{Reply}
use Rattle.seq_objects.specs.Objects.{Objects, opening, after, reply_to}
use Rattle.seq_objects.specs.Stores.{opening_store}
use Rattle.sp_order.specs.Objects.{AreUnnamed}
use Rattle.sp_order.specs.Totals.{added, pushes, pushed, pops, queue_inserts, queue_inserted, queue_takes, total}
use Rattle.batch_history.specs.Book.{IsLegalFrom}
use Rattle.batch_history.specs.Serving.{served, acts_in}
use Rattle.batch_history.specs.Filling.{StandsBefore}
use Rattle.batch_history.specs.Tally.{over_replies, popped, queue_taken, sum_after, last_sum}
use Rattle.batch_history.specs.declared.batch.Entry.{Entry}
use Rattle.batch_history.proofs.TallyLemmas.Unnamed.{served_alone, IsLegalAlone, served_is, legal_alone}
use Rattle.batch_history.proofs.TallyLemmas.Items.{sum_of, sum_push, top_sum, top_length, with_sum, with_length, least_sum, least_length, none_sum}

not_some : (n : ℕ) → (1 ≤ n → ⊥) → n ≡ 0
not_some n h = grind arith

-- after a `late` entry there is no `early` one
pub none_later : (early late : Op → ℕ) (op : Op) (entries : List Entry)
    → AllByRecursion (λ (later : Entry). 1 ≤ late op → 1 ≤ early later.op → ⊥) entries → 1 ≤ late op → total early (acts_in entries) ≡ 0
none_later early late op [] apart counts = refl
none_later early late op (e ∷ entries) apart counts =
    let first = not_some (early e.op) (apart.0 counts) in
    omega (arith, first, none_later early late op entries apart.1 counts)

-- the counter: the last add replies the sum of all
sum_step : (o : Objects) (op : Op) → (sum_after o.counter op (reply_to o op) ≡ (after o op).counter) × ((after o op).counter ≡ o.counter + added op)
sum_step o (CounterAdd number addend) = (refl, refl)
sum_step o _ = (refl, omega arith)

last_alone : (o : Objects) (entries : List Entry) → IsLegalAlone o entries → last_sum o.counter entries ≡ o.counter + total added (acts_in entries)
last_alone o [] legal = omega arith
last_alone o (e ∷ entries) legal =
    let step = sum_step o e.op in
    let rest = last_alone (after o e.op) entries legal.1 in
    ap (λ r. last_sum (sum_after o.counter e.op r) entries) legal.0 ∙ ap (λ n. last_sum n entries) step.0 ∙ rest ∙ (omega (arith, step.1))

pub last_is : (entries : List Entry) → AreUnnamed (acts_in entries) → IsLegalFrom opening_store entries → last_sum 0 entries ≡ total added (acts_in entries)
last_is entries unnamed legal = omega (arith, last_alone opening entries (legal_alone opening_store entries unnamed legal))

-- truncated differences add up if the growing all comes before the shrinking
levels : (len in1 out1 in2 out2 : ℕ) → (1 ≤ out1 → in2 ≡ 0) → len + in1 - out1 + in2 - out2 ≡ len + (in1 + in2) - (out1 + out2)
levels len in1 out1 in2 out2 h = grind arith

after_none : (n more less : ℕ) → n ≡ 0 + more - less → n ≡ more - less
after_none n more less h = omega (arith, h)

-- an object whose content grows by what is put into it, and shrinks by what is got from it
module _ (content : Objects → List ℕ) (none : content opening ≡ []) (puts gets put : Op → ℕ) (got : Op → Reply → ℕ)
    (sum_at : (o : Objects) (op : Op) → got op (reply_to o op) + sum_of (content (after o op)) ≡ sum_of (content o) + put op)
    (length_at : (o : Objects) (op : Op) → length (content (after o op)) ≡ length (content o) + puts op - gets op) where
  -- what is put in is got or left
  sums : (o : Objects) (entries : List Entry) → IsLegalAlone o entries
      → over_replies got entries + sum_of (content (served_alone o entries)) ≡ sum_of (content o) + total put (acts_in entries)
  sums o [] legal = omega arith
  sums o (e ∷ entries) legal =
      let same : got e.op e.reply ≡ got e.op (reply_to o e.op) = ap (got e.op) legal.0 in
      omega (arith, sum_at o e.op, same, sums (after o e.op) entries legal.1)

  lengths : (o : Objects) (entries : List Entry) → StandsBefore puts gets entries
      → length (content (served_alone o entries)) ≡ length (content o) + total puts (acts_in entries) - total gets (acts_in entries)
  lengths o [] apart = omega arith
  lengths o (e ∷ entries) apart =
      lengths (after o e.op) entries apart.1 ∙ ap (λ n. n + total puts (acts_in entries) - total gets (acts_in entries)) (length_at o e.op)
      ∙ levels (length (content o)) (puts e.op) (gets e.op) (total puts (acts_in entries)) (total gets (acts_in entries)) (none_later puts gets e.op entries apart.0)

  alone : (entries : List Entry) → StandsBefore puts gets entries
      → length (content (served_alone opening entries)) ≡ total puts (acts_in entries) - total gets (acts_in entries)
  alone entries apart =
      after_none (length (content (served_alone opening entries))) (total puts (acts_in entries)) (total gets (acts_in entries))
      (lengths opening entries apart ∙ ap (λ items. length items + total puts (acts_in entries) - total gets (acts_in entries)) none)

  left : (entries : List Entry) → AreUnnamed (acts_in entries) → StandsBefore puts gets entries
      → length (content (served opening_store entries 0)) ≡ total puts (acts_in entries) - total gets (acts_in entries)
  left entries unnamed apart = ap (λ objects. length (content objects)) (served_is opening_store entries unnamed) ∙ alone entries apart

  all_got : (entries : List Entry) → AreUnnamed (acts_in entries) → IsLegalFrom opening_store entries → StandsBefore puts gets entries
      → total puts (acts_in entries) ≤ total gets (acts_in entries) → over_replies got entries ≡ total put (acts_in entries)
  all_got entries unnamed legal apart enough =
      let gone : length (content (served_alone opening entries)) ≡ 0 = omega (arith, alone entries apart, enough) in
      let first : sum_of (content opening) ≡ 0 = ap sum_of none in
      omega (arith, first, sums opening entries (legal_alone opening_store entries unnamed legal), none_sum (content (served_alone opening entries)) gone)

-- the stack
pop_step : (o : Objects) (op : Op) → popped op (reply_to o op) + sum_of (after o op).stack ≡ sum_of o.stack + pushed op
pop_step o (Push number item) = omega (arith, sum_push o.stack item)
pop_step o (Pop number) = omega (arith, top_sum o.stack)
pop_step o _ = omega arith

height_step : (o : Objects) (op : Op) → length (after o op).stack ≡ length o.stack + pushes op - pops op
height_step o (Push number item) = omega (arith, length-append o.stack (item ∷ []))
height_step o (Pop number) = omega (arith, top_length o.stack)
height_step o _ = omega arith

pub stack_left : (entries : List Entry) → AreUnnamed (acts_in entries) → StandsBefore pushes pops entries
    → length (served opening_store entries 0).stack ≡ total pushes (acts_in entries) - total pops (acts_in entries)
stack_left = left (λ o. o.stack) refl pushes pops pushed popped pop_step height_step

pub pops_all : (entries : List Entry) → AreUnnamed (acts_in entries) → IsLegalFrom opening_store entries → StandsBefore pushes pops entries
    → total pushes (acts_in entries) ≤ total pops (acts_in entries) → over_replies popped entries ≡ total pushed (acts_in entries)
pops_all = all_got (λ o. o.stack) refl pushes pops pushed popped pop_step height_step

-- the queue
take_step : (o : Objects) (op : Op) → queue_taken op (reply_to o op) + sum_of (after o op).bag ≡ sum_of o.bag + queue_inserted op
take_step o (PqInsert number item) = omega (arith, with_sum item o.bag)
take_step o (PqTake number) = omega (arith, least_sum o.bag)
take_step o _ = omega arith

size_step : (o : Objects) (op : Op) → length (after o op).bag ≡ length o.bag + queue_inserts op - queue_takes op
size_step o (PqInsert number item) = omega (arith, with_length item o.bag)
size_step o (PqTake number) = omega (arith, least_length o.bag)
size_step o _ = omega arith

pub bag_left : (entries : List Entry) → AreUnnamed (acts_in entries) → StandsBefore queue_inserts queue_takes entries
    → length (served opening_store entries 0).bag ≡ total queue_inserts (acts_in entries) - total queue_takes (acts_in entries)
bag_left = left (λ o. o.bag) refl queue_inserts queue_takes queue_inserted queue_taken take_step size_step

pub takes_all : (entries : List Entry) → AreUnnamed (acts_in entries) → IsLegalFrom opening_store entries → StandsBefore queue_inserts queue_takes entries
    → total queue_inserts (acts_in entries) ≤ total queue_takes (acts_in entries) → over_replies queue_taken entries ≡ total queue_inserted (acts_in entries)
takes_all = all_got (λ o. o.bag) refl queue_inserts queue_takes queue_inserted queue_taken take_step size_step
