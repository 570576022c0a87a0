use Rattle.std.proofs.Common.{◌≡◌, ℕ, ◌*◌, ◌<◌, ◌^◌, Vec, Global, length, sym, ◌∙◌, subst, arith}
use Rattle.std.specs.Prelude.{flat_map, IsPermutation}
use Rattle.std.specs.List.{range_with_len}
use Rattle.shared_uses.proofs.Draws.{Hands, all_drawn, long_apart, are_callers, tickets_are}
use Rattle.shared_uses.proofs.tickets.draw_in_threads.Goals as goal

pub close-requires : goal.close-requires
close-requires g c =
    let s = c.in_ok-counter.counter.shared in
    let hands = c.in_ok-hands.hands.items in
    let callers = c.in_ok-callers.callers.items in
    let drawn = c.in_ok-callers.drawn.items in
    let count = c.in_ok-hands.ensures.count in
    let apart = c.in_ok-callers.ensures in
    let all = all_drawn s c.args.count (λ h. h.caller) 0 hands callers drawn apart (λ i h less is. subst (λ (n : ℕ). Hands s c.args.count (λ h. h.caller) n h) (omega arith) (c.in_ok-hands.ensures.each i h (omega (arith, less, count)) is)) in record {
      callers = are_callers s c.args.count callers drawn all (long_apart (λ h. h.caller) hands callers drawn apart ∙ (count ∙ (c.in_ok-counter.ensures.callers.count ∙ sym c.in_ok-counter.ensures.all)));
    }

pub returns : goal.returns
returns g c =
    let s = c.in_ok-counter.counter.shared in
    let hands = c.in_ok-hands.hands.items in
    let callers = c.in_ok-callers.callers.items in
    let drawn = c.in_ok-callers.drawn.items in
    let count = c.in_ok-hands.ensures.count in
    let apart = c.in_ok-callers.ensures in
    let all = all_drawn s c.args.count (λ h. h.caller) 0 hands callers drawn apart (λ i h less is. subst (λ (n : ℕ). Hands s c.args.count (λ h. h.caller) n h) (omega arith) (c.in_ok-hands.ensures.each i h (omega (arith, less, count)) is)) in
    let long : length callers ≡ c.args.threads = long_apart (λ h. h.caller) hands callers drawn apart ∙ (count ∙ c.in_ok-counter.ensures.callers.count) in
    let log = c.close.ensures.sum in
    subst (λ (n : ℕ). IsPermutation (flat_map (λ (v : Vec ℕ Global). v.items) drawn) (range_with_len 1 (n * c.args.count))) long
    (tickets_are s c.args.count callers drawn log.0 all log.1 (subst (λ (n : ℕ). n * c.args.count < 2 ^ 64) (sym long) c.requires.fits))
