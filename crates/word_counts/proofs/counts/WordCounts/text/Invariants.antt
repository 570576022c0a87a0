use Rattle.std.proofs.Common.{◌≡◌, ◌++◌, map}
use Rattle.word_counts.specs.Counts.{lines_of}
use Rattle.word_counts.proofs.counts.WordCounts.text.Given as goal

abbrev pub invariant-loop-word : goal.invariant-loop-word
invariant-loop-word l = record {
  text : l.text.items ++ lines_of (map (λ e. (e.0.items, e.1)) l.word-iterator) ≡ lines_of (map (λ e. (e.0.items, e.1)) l.self.map.entries);
}
