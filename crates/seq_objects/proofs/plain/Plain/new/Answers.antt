use Rattle.std.proofs.Common.{ℕ, ◌≡◌, arith}
use Rattle.std.proofs.lemmas.Grind.{common_steps}
use Rattle.seq_objects.specs.Objects.{opening}
use Rattle.seq_objects.specs.Kept.{store_in}
use Rattle.seq_objects.proofs.plain.Plain.new.Goals as goal

pub returns : goal.returns
unfolding store_in
returns c = λ i number. at number i where
  at : (number : ℕ) → store_in (record { alloc = c.args.alloc; first = c.new.result; others = c.new-2.result }) number ≡ opening
  at number = grind (arith, common_steps)
