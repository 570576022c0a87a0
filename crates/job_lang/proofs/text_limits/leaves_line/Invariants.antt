use Rattle.std.proofs.Common.{◌≡◌, ◌≤◌, length, take}
use Rattle.job_lang.specs.Counts.{count}
use Rattle.job_syntax.specs.Grammar.{items_words}
use Rattle.job_syntax.specs.Views.{items_of}
use Rattle.job_lang.proofs.text_limits.leaves_line.Given as goal

abbrev pub invariant-loop-item : goal.invariant-loop-item
invariant-loop-item l = record {
  leaves : l.leaves ≡ count (items_of (take l.item-index l.items));
  few : l.leaves ≤ 20000;
  place : l.place ≡ length (items_words (items_of (take l.item-index l.items)));
}
