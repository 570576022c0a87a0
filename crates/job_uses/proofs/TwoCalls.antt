-- Of two calls, the one whose reply a leaf is told; and what a counter replies to two additions.
use Rattle.std.proofs.Common.{◌≡◌, ◌≢◌, ℕ, zero, suc, ◌+◌, ◌<◌, ◌⊎◌, inl, inr, [], ◌∷◌, get_or, sym, ap, ◌∙◌, arith}
use Rattle.seq_objects.specs.declared.op.Op.TheVariants.{CounterAdd}
use Rattle.seq_objects.specs.declared.reply.Reply.{Reply}
use Rattle.seq_objects.specs.declared.reply.Reply.TheVariants.{Number}
use Rattle.seq_objects.specs.Stores.{opening_store, store_after, store_reply}
use Rattle.batch_history.specs.Book.{IsLegalFrom}
use Rattle.batch_history.specs.declared.batch.Entry.{Entry}
use Rattle.serial_runs.specs.SerialRuns.{IsReplyTo}

pub in_one : (e call : Entry) (k : ℕ) → k < 1 → get_or (e ∷ []) k call ≡ call → e ≡ call
in_one e call zero less is = is
in_one e call (suc k) less is = absurd (omega (arith, less))

in_pair : (e f call : Entry) (k : ℕ) → k < 2 → get_or (e ∷ f ∷ []) k call ≡ call → (e ≡ call) ⊎ (f ≡ call)
in_pair e f call zero less is = inl is
in_pair e f call (suc zero) less is = inr is
in_pair e f call (suc (suc k)) less is = absurd (omega (arith, less))

pub told_of : (e f : Entry) (leaf : ℕ) (given : Reply) → e.leaf ≡ leaf → f.leaf ≢ leaf → IsReplyTo (e ∷ f ∷ []) leaf given → given ≡ e.reply
told_of e f leaf given own other to = elim (in_pair e f to.call to.made.0 to.made.1 to.made.2) [
  | inl is ↦ sym to.replied ∙ ap (λ (call : Entry). call.reply) (sym is)
  | inr is ↦ absurd (other (ap (λ (call : Entry). call.leaf) is ∙ to.of_leaf))
]

pub told_of_later : (e f : Entry) (leaf : ℕ) (given : Reply) → e.leaf ≢ leaf → f.leaf ≡ leaf → IsReplyTo (e ∷ f ∷ []) leaf given → given ≡ f.reply
told_of_later e f leaf given other own to = elim (in_pair e f to.call to.made.0 to.made.1 to.made.2) [
  | inl is ↦ absurd (other (ap (λ (call : Entry). call.leaf) is ∙ to.of_leaf))
  | inr is ↦ sym to.replied ∙ ap (λ (call : Entry). call.reply) (sym is)
]

-- what a counter replies to two additions
pub replies : (e f : Entry) (m n : ℕ) → e.op ≡ CounterAdd 0 m → f.op ≡ CounterAdd 0 n → IsLegalFrom opening_store (e ∷ f ∷ []) → (e.reply ≡ Number m) × (f.reply ≡ Number (m + n))
replies e f m n first second legal =
    let alone : 0 + m ≡ m = omega arith in (
      legal.0 ∙ ap (store_reply opening_store) first ∙ ap Number alone,
      legal.1.0 ∙ (λ i. store_reply (store_after opening_store (first i)) (second i)) ∙ ap (λ k. Number (k + n)) alone,
    )
