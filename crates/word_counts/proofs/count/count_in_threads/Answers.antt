use Rattle.std.proofs.Common.{length, sym, ◌∙◌, arith}
use Rattle.word_counts.proofs.Cuts.{part_at, parts_long}
use Rattle.word_counts.proofs.Closings.{all_back, are_callers, counts_are}
use Rattle.word_counts.proofs.count.count_in_threads.Goals as goal

pub count_each-requires-clause-parts : goal.count_each-requires-clause-parts
count_each-requires-clause-parts g c κs within i p less is =
    let text = c.args.text.now in
    let news = c.in_ok-counts.ensures.callers in
    let first = c.in_ok-counts.callers.items in
    let parts = c.in_ok-parts.parts.items in
    let are = c.in_ok-parts.ensures in
    let long = parts_long (λ h. h.caller) text 0 (length text) parts first are in
    let count = news.count in
    let at = part_at (λ h. h.caller) text 0 (length text) parts first are i p less is in
    let new = news.each i p.caller (omega (arith, less, long, count)) at.0 in
    (new.0, new.4, new.2, at.1, at.2)

pub close-requires : goal.close-requires
close-requires g c =
    let s = c.in_ok-counts.counts in
    let text = c.args.text.now in
    let parts = c.in_ok-parts.parts.items in
    let callers = c.in_ok-callers.callers.items in
    let each = c.in_ok-backs.ensures in
    let all = all_back s text (λ h. h.caller) c.args.threads parts c.in_ok-counts.callers.items callers c.in_ok-backs.backs.items c.in_ok-parts.ensures c.in_ok-counts.ensures.callers c.in_ok-callers.ensures each.count each.each in record {
      callers = are_callers s text parts callers all.0 (all.1 ∙ sym c.in_ok-counts.ensures.all);
    }

pub returns-in-Some : goal.returns-in-Some
returns-in-Some g c =
    let s = c.in_ok-counts.counts in
    let text = c.args.text.now in
    let parts = c.in_ok-parts.parts.items in
    let callers = c.in_ok-callers.callers.items in
    let each = c.in_ok-backs.ensures in
    let all = all_back s text (λ h. h.caller) c.args.threads parts c.in_ok-counts.callers.items callers c.in_ok-backs.backs.items c.in_ok-parts.ensures c.in_ok-counts.ensures.callers c.in_ok-callers.ensures each.count each.each in
    let kept = c.in-Some.ensures.kept in
    kept.2 ∙ counts_are s text parts callers kept.0 all.0 kept.1
