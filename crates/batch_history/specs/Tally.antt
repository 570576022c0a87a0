-- The totals of a list of entries, by their replies, and those of a job's acts.
use Rattle.std.specs.Prelude.{ℕ, List, [], ◌∷◌, ◌+◌, length}
use Rattle.seq_objects.specs.declared.op.Op.{Op}
use Rattle.seq_objects.specs.declared.op.Op.TheVariants.{CounterAdd, Pop, TreeInsert, TreeFind, PqTake}
use Rattle.seq_objects.specs.declared.reply.Reply.{Reply}
use Rattle.seq_objects.specs.declared.reply.Reply.TheVariants as reply
use Rattle.seq_objects.specs.declared.act.Act.{Act}
use Rattle.sp_order.specs.Totals.{added, pushes, pushed, queue_inserts, queue_inserted, finds_in, keys_inserted, total}
use Rattle.batch_history.specs.Serving.{acts_in}
use Rattle.batch_history.specs.declared.batch.Entry.{Entry}
use Rattle.batch_history.specs.declared.tally.Tally.{Tally}

-- the number in a reply, or 0 if it has none
abbrev pub number_of : Reply → ℕ
number_of (reply.Number number) = number
number_of _ = 0

-- 1 for the reply yes, else 0
abbrev pub yes_of : Reply → ℕ
yes_of reply.Yes = 1
yes_of _ = 0

-- the number that a pop replied; 0 for other operations
abbrev pub popped : Op → Reply → ℕ
popped (Pop number) reply = number_of reply
popped _ reply = 0

-- the number that a take of the queue replied; 0 for other operations
abbrev pub queue_taken : Op → Reply → ℕ
queue_taken (PqTake number) reply = number_of reply
queue_taken _ reply = 0

-- 1 for an insert into the tree that replied yes; `keys_found` is the same for a find
abbrev pub new_keys : Op → Reply → ℕ
new_keys (TreeInsert number key) reply = yes_of reply
new_keys _ reply = 0

abbrev pub keys_found : Op → Reply → ℕ
keys_found (TreeFind number key) reply = yes_of reply
keys_found _ reply = 0

-- the sum of a count over entries
abbrev pub over_replies : (Op → Reply → ℕ) → List Entry → ℕ
over_replies count [] = 0
over_replies count (entry ∷ entries) = count entry.op entry.reply + over_replies count entries

-- the reply of a counter add; for another operation, the sum before it
abbrev pub sum_after : ℕ → Op → Reply → ℕ
sum_after sum (CounterAdd number addend) reply = number_of reply
sum_after sum _ reply = sum

-- the reply of the last counter add; without one, the sum before the entries
abbrev pub last_sum : ℕ → List Entry → ℕ
last_sum sum [] = sum
last_sum sum (entry ∷ entries) = last_sum (sum_after sum entry.op entry.reply) entries

-- the tally of entries that start at the opening objects
abbrev pub tally_of : List Entry → Tally
tally_of entries = record {
  calls = length entries;
  counter = last_sum 0 entries;
  pushed = total pushes (acts_in entries);
  popped = over_replies popped entries;
  keys = over_replies new_keys entries;
  found = over_replies keys_found entries;
  inserted = total queue_inserts (acts_in entries);
  taken = over_replies queue_taken entries;
}

-- The tally that a job's acts imply: the calls, the sum of the addends, the pushes, the sum of the pushed items, the
-- number of distinct inserted keys, the finds of such keys, the inserts of the queue, and the sum of their items.
abbrev pub tally_of_acts : List Act → Tally
tally_of_acts acts = record {
  calls = total (λ op. 1) acts;
  counter = total added acts;
  pushed = total pushes acts;
  popped = total pushed acts;
  keys = length (keys_inserted acts);
  found = total (finds_in (keys_inserted acts)) acts;
  inserted = total queue_inserts acts;
  taken = total queue_inserted acts;
}
