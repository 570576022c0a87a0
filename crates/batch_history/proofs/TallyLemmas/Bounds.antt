-- The tally of a history fits 64 bits if its two reply sums do.
use Rattle.std.proofs.Common.{ℕ, ◌<◌, ◌≤◌, ◌^◌, List, [], ◌∷◌, length, arith}
use Rattle.seq_objects.specs.declared.op.Op.{Op}
use Rattle.seq_objects.specs.declared.op.Op.TheVariants.{CounterAdd, TreeInsert, TreeFind}
use Rattle.seq_objects.specs.declared.reply.Reply.{Reply}
use Rattle.seq_objects.specs.declared.reply.Reply.TheVariants as reply
use Rattle.sp_order.specs.Totals.{pushes, queue_inserts, total}
use Rattle.batch_history.specs.Book.{flat, IsHistory}
use Rattle.batch_history.specs.Serving.{acts_in}
use Rattle.batch_history.specs.Tally.{yes_of, new_keys, keys_found, over_replies, tally_of}
use Rattle.batch_history.specs.Code.Tallies.{Fits}
use Rattle.batch_history.specs.declared.batch.Entry.{Entry}
use Rattle.batch_history.proofs.Few.{few_entries}

few_calls : (count : Op → ℕ) → ((op : Op) → count op ≤ 1) → (entries : List Entry) → total count (acts_in entries) ≤ length entries
few_calls count one [] = omega arith
few_calls count one (e ∷ entries) = omega (arith, one e.op, few_calls count one entries)

few_replies : (count : Op → Reply → ℕ) → ((op : Op) (r : Reply) → count op r ≤ 1) → (entries : List Entry) → over_replies count entries ≤ length entries
few_replies count one [] = omega arith
few_replies count one (e ∷ entries) = omega (arith, one e.op e.reply, few_replies count one entries)

one_push : (op : Op) → pushes op ≤ 1
one_push (CounterAdd number addend) = omega arith
one_push _ = omega arith

one_insert : (op : Op) → queue_inserts op ≤ 1
one_insert (CounterAdd number addend) = omega arith
one_insert _ = omega arith

one_yes : (r : Reply) → yes_of r ≤ 1
one_yes (reply.Number number) = omega arith
one_yes _ = omega arith

one_key : (op : Op) (r : Reply) → new_keys op r ≤ 1
one_key (TreeInsert number key) r = one_yes r
one_key _ r = omega arith

one_find : (op : Op) (r : Reply) → keys_found op r ≤ 1
one_find (TreeFind number key) r = one_yes r
one_find _ r = omega arith

pub tally_fits : (book : List (List Entry)) → IsHistory book → (tally_of (flat book)).popped < 2 ^ 64 → (tally_of (flat book)).taken < 2 ^ 64
    → Fits (tally_of (flat book))
tally_fits book history popped taken =
    let few = few_entries book history in
    record {
      calls = omega (arith, few);
      pushed = omega (arith, few, few_calls pushes one_push (flat book));
      popped = popped;
      keys = omega (arith, few, few_replies new_keys one_key (flat book));
      found = omega (arith, few, few_replies keys_found one_find (flat book));
      inserted = omega (arith, few, few_calls queue_inserts one_insert (flat book));
      taken = taken;
    }
