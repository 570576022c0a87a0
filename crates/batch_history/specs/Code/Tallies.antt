-- A tally under extension by entries.
use Rattle.std.specs.Prelude.{◌+◌, ◌<◌, ◌^◌, List, length}
use Rattle.sp_order.specs.Totals.{pushes, queue_inserts, total}
use Rattle.batch_history.specs.Serving.{acts_in}
use Rattle.batch_history.specs.Tally.{popped, queue_taken, new_keys, keys_found, over_replies, last_sum}
use Rattle.batch_history.specs.declared.batch.Entry.{Entry}
use Rattle.batch_history.specs.declared.tally.Tally.{Tally}

-- the tally of the entries it covers and then of these
abbrev pub with_entries : Tally → List Entry → Tally
with_entries tally entries = record {
  calls = tally.calls + length entries;
  counter = last_sum tally.counter entries;
  pushed = tally.pushed + total pushes (acts_in entries);
  popped = tally.popped + over_replies popped entries;
  keys = tally.keys + over_replies new_keys entries;
  found = tally.found + over_replies keys_found entries;
  inserted = tally.inserted + total queue_inserts (acts_in entries);
  taken = tally.taken + over_replies queue_taken entries;
}

-- each number fits 64 bits, except the counter's, which is a reply and not a sum
pub record Fits (tally : Tally) : Type 0 where
  pub calls : tally.calls < 2 ^ 64
  pub pushed : tally.pushed < 2 ^ 64
  pub popped : tally.popped < 2 ^ 64
  pub keys : tally.keys < 2 ^ 64
  pub found : tally.found < 2 ^ 64
  pub inserted : tally.inserted < 2 ^ 64
  pub taken : tally.taken < 2 ^ 64
