use Rattle.std.proofs.Common.{◌≡◌, [], ◌++◌, append-nil, sym, ap, ◌∙◌, arith}
use Rattle.shared_calls.specs.Serial.{replies_to_all, after_all}
use Rattle.shared_calls.proofs.InOrder.{in_order}
use Rattle.word_counts.specs.Counts.{tally, entries_of}
use Rattle.word_counts.proofs.Entries.{none_left}
use Rattle.word_counts.proofs.counts.WordCountsCombined.serve.Goals as goal

pub returns : goal.returns
returns c =
    let i = c.loop-word.invariant in
    let rest = c.loop-word.word-iterator.rest in
    let before = entries_of c.args.self in
    let now = entries_of c.loop-word.counts in
    let replies = c.loop-word.replies.items in
    let ok = rest.ok in
    let end = c.in-None.ensures.steps.0 in
    let none : rest.items ≡ [] = none_left rest.items (omega (arith, ok, end)) in record {
      served = in_order tally before now c.args.ops.items replies
          (sym (append-nil replies) ∙ (ap (λ l. replies ++ replies_to_all tally now l) (sym none) ∙ i.replies))
          (ap (λ l. after_all tally now l) (sym none) ∙ i.after);
    }
