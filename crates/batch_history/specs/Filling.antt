-- Entries that fill a structure before they query it, and what finds reply then.
use Rattle.std.specs.Prelude.{◌≡◌, ℕ, ◌≤◌, List}
use Rattle.seq_objects.specs.declared.op.Op.{Op}
use Rattle.seq_objects.specs.declared.op.Op.TheVariants.{TreeFind}
use Rattle.seq_objects.specs.Objects.{has, yes_or_no}
use Rattle.seq_objects.specs.Pairs.{AllPairsByRecursion}
use Rattle.batch_history.specs.declared.batch.Entry.{Entry}

-- no entry counted by `late` comes before one counted by `early`
abbrev pub StandsBefore : (Op → ℕ) → (Op → ℕ) → List Entry → Type 0
StandsBefore early late entries = AllPairsByRecursion (λ first second. 1 ≤ late first.op → 1 ≤ early second.op → ⊥) entries

-- if the entry is a find, it replies whether the set has its key
abbrev pub FindsIn : List ℕ → Entry → Type 0
FindsIn set entry = (number key : ℕ) → entry.op ≡ TreeFind number key → entry.reply ≡ yes_or_no (has key set)
