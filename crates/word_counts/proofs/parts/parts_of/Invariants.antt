use Rattle.std.proofs.Common.{◌≡◌, ◌≤◌, ◌++◌, length}
use Rattle.word_counts.specs.Parts.{AreParts}
use Rattle.word_counts.proofs.parts.parts_of.Given as goal

abbrev pub invariant-loop-caller : goal.invariant-loop-caller
invariant-loop-caller l = record {
  parts : AreParts (λ part. part.caller) l.text 0 l.from l.parts.items l.yielded;
  within : l.from ≤ length l.text;
  left : l.left ≡ length l.caller-iterator.rest.items;
  ends : l.left ≡ 0 → l.from ≡ length l.text;
  all : l.yielded ++ l.caller-iterator.rest.items ≡ l.initial.caller-iterator.rest.items;
}
