-- The updates of a map have a key each, and touch what stands at it alone.
use Rattle.std.proofs.Common.{◌≡◌, ℕ, ◌<◌, ◌≤◌, List, ◌++◌, refl, ap}
use Rattle.std.specs.List.{AllByRecursion}
use Rattle.keyed_pieces.specs.Keyed.{AreKeyed, AreBelow, AreFrom}
use Rattle.rank_nodes.specs.declared.entry.Entry.{Entry}
use Rattle.rank_nodes.specs.Maps.{key_of, value_at}
use Rattle.rank_nodes.proofs.EntryLemmas.Beside.{value_low, value_high, with_low, with_high, without_low, without_high}
use Rattle.rank_nodes.proofs.EntryLemmas.Ascending.{all_with, all_without}
use Rattle.seq_objects.specs.Objects.{number_or_empty}
use Rattle.seq_objects.specs.declared.reply.Reply.{Reply}
use Rattle.batched_map.specs.declared.call.MapOp.{MapOp}
use Rattle.batched_map.specs.declared.call.MapOp.TheVariants.{Put, Del}
use Rattle.batched_map.specs.Maps.{after, op_key}

-- what an update replies: the old value of its key
abbrev pub old_value : List Entry → MapOp → Reply
old_value entries op = number_or_empty (value_at (op_key op) entries)

low_after : (b : ℕ) (low high : List Entry) (op : MapOp) → op_key op < b → AreFrom key_of b high → after (low ++ high) op ≡ after low op ++ high
low_after b low high (Put key val) less up = with_low key val b low high less up
low_after b low high (Del key) less up = without_low key b low high less up
low_after b low high _ less up = refl

high_after : (b : ℕ) (low high : List Entry) (op : MapOp) → b ≤ op_key op → AreBelow key_of b low → after (low ++ high) op ≡ low ++ after high op
high_after b low high (Put key val) le down = with_high key val b low high le down
high_after b low high (Del key) le down = without_high key b low high le down
high_after b low high _ le down = refl

keeps : (P : ℕ → Type 0) (entries : List Entry) (op : MapOp) → P (op_key op) → AllByRecursion (λ e. P e.key) entries → AllByRecursion (λ e. P e.key) (after entries op)
keeps P entries (Put key val) here each = all_with P key val entries here each
keeps P entries (Del key) here each = all_without P key entries each
keeps P entries _ here each = each

pub keyed : AreKeyed key_of op_key after old_value
keyed = record {
  low_after = λ b low high op less down up. low_after b low high op less up;
  low_reply = λ b low high op less down up. ap number_or_empty (value_low (op_key op) b low high less up);
  high_after = λ b low high op le down up. high_after b low high op le down;
  high_reply = λ b low high op le down up. ap number_or_empty (value_high (op_key op) b low high le down);
  keeps_low = λ b low op less down. keeps (λ k. k < b) low op less down;
  keeps_high = λ b high op le up. keeps (λ k. b ≤ k) high op le up;
}
