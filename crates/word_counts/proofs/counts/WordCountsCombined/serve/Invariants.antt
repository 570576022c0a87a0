use Rattle.std.proofs.Common.{◌≡◌, ◌++◌}
use Rattle.shared_calls.specs.Serial.{replies_to_all, after_all}
use Rattle.word_counts.specs.Counts.{tally, entries_of}
use Rattle.word_counts.proofs.counts.WordCountsCombined.serve.Given as goal

-- the replies so far, followed by those to the words that are left, are all replies
abbrev pub invariant-loop-word : goal.invariant-loop-word
invariant-loop-word l = record {
  replies : l.replies.items ++ replies_to_all tally (entries_of l.counts) l.word-iterator.rest.items ≡ replies_to_all tally (entries_of l.fn.self) l.fn.ops.items;
  after : after_all tally (entries_of l.counts) l.word-iterator.rest.items ≡ after_all tally (entries_of l.fn.self) l.fn.ops.items;
}
