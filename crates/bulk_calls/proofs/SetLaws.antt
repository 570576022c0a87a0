-- An operation on a key of a set touches what stands at that key alone.
use Rattle.std.proofs.Common.{◌≡◌, ℕ, ◌<◌, ◌≤◌, List, [], ◌∷◌, ◌++◌, Bool, true, false, not, refl, ap}
use Rattle.std.specs.List.{AllByRecursion}
use Rattle.key_sets.specs.Keys.{StrictlyAscends}
use Rattle.key_sets.proofs.KeyLemmas.Ascending.{all_with, all_without, ascends_with, ascends_without}
use Rattle.key_sets.proofs.KeyLemmas.Beside.{has_low, has_high, with_low, with_high, without_low, without_high}
use Rattle.keyed_pieces.specs.Keyed.{AscendsBy, AreKeyed, after_each}
use Rattle.seq_objects.specs.Objects.{yes_or_no}
use Rattle.bulk_calls.specs.declared.op.BulkKind.{BulkKind}
use Rattle.bulk_calls.specs.declared.op.BulkKind.TheVariants.{Insert, Remove, Find}
use Rattle.bulk_calls.specs.declared.piece.KeyOp.{KeyOp}
use Rattle.bulk_calls.specs.Bulk.{is_yes, after_key, answer}
use Rattle.bulk_calls.specs.Singles.{after_one, answer_to}

-- the reply made of an answer gives the answer back
pub said : (b : Bool) → is_yes (yes_or_no b) ≡ b
said true = refl
said false = refl

pub ascends_by : (set : List ℕ) → StrictlyAscends set → AscendsBy (λ key. key) set
ascends_by [] up = tt
ascends_by (k ∷ set) up = (up.0, ascends_by set up.1)

low_after : (cut : ℕ) (low high : List ℕ) (kind : BulkKind) (key : ℕ) → key < cut → AllByRecursion (λ k. cut ≤ k) high → after_key kind (low ++ high) key ≡ after_key kind low key ++ high
low_after cut low high Insert key less up = with_low key cut low high less up
low_after cut low high Remove key less up = without_low key cut low high less up
low_after cut low high Find key less up = refl

low_reply : (cut : ℕ) (low high : List ℕ) (kind : BulkKind) (key : ℕ) → key < cut → AllByRecursion (λ k. cut ≤ k) high → answer kind (low ++ high) key ≡ answer kind low key
low_reply cut low high Insert key less up = ap (λ b. is_yes (yes_or_no (not b))) (has_low key cut low high less up)
low_reply cut low high _ key less up = ap (λ b. is_yes (yes_or_no b)) (has_low key cut low high less up)

high_after : (cut : ℕ) (low high : List ℕ) (kind : BulkKind) (key : ℕ) → cut ≤ key → AllByRecursion (λ k. k < cut) low → after_key kind (low ++ high) key ≡ low ++ after_key kind high key
high_after cut low high Insert key le down = with_high key cut low high le down
high_after cut low high Remove key le down = without_high key cut low high le down
high_after cut low high Find key le down = refl

high_reply : (cut : ℕ) (low high : List ℕ) (kind : BulkKind) (key : ℕ) → cut ≤ key → AllByRecursion (λ k. k < cut) low → answer kind (low ++ high) key ≡ answer kind high key
high_reply cut low high Insert key le down = ap (λ b. is_yes (yes_or_no (not b))) (has_high key cut low high le down)
high_reply cut low high _ key le down = ap (λ b. is_yes (yes_or_no b)) (has_high key cut low high le down)

keeps : (P : ℕ → Type 0) (kind : BulkKind) (key : ℕ) (set : List ℕ) → P key → AllByRecursion P set → AllByRecursion P (after_key kind set key)
keeps P Insert key set here each = all_with P key set here each
keeps P Remove key set here each = all_without P key set each
keeps P Find key set here each = each

pub keys_are_keyed : AreKeyed (λ key. key) (λ (operation : KeyOp). operation.key) after_one answer_to
keys_are_keyed = record {
  low_after = λ cut low high op less down up. low_after cut low high op.kind op.key less up;
  low_reply = λ cut low high op less down up. low_reply cut low high op.kind op.key less up;
  high_after = λ cut low high op le down up. high_after cut low high op.kind op.key le down;
  high_reply = λ cut low high op le down up. high_reply cut low high op.kind op.key le down;
  keeps_low = λ cut low op less down. keeps (λ k. k < cut) op.kind op.key low less down;
  keeps_high = λ cut high op le up. keeps (λ k. cut ≤ k) op.kind op.key high le up;
}

-- the keys ascend afterwards
still_ascends : (kind : BulkKind) (set : List ℕ) (key : ℕ) → StrictlyAscends set → StrictlyAscends (after_key kind set key)
still_ascends Insert set key up = ascends_with key set up
still_ascends Remove set key up = ascends_without key set up
still_ascends Find set key up = up

pub ascends_after_each : (set : List ℕ) (ops : List KeyOp) → StrictlyAscends set → StrictlyAscends (after_each after_one set ops)
ascends_after_each set [] up = up
ascends_after_each set (op ∷ ops) up = ascends_after_each (after_one set op) ops (still_ascends op.kind set op.key up)
