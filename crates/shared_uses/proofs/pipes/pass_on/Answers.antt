use Rattle.std.proofs.Common.{◌≡◌, ℕ, ◌<◌, List, Vec, Global, map, length, get_or, slice_index_or, sym, ap, ◌∙◌, subst, arith}
use Rattle.std.proofs.lemmas.List.{length-map}
use Rattle.shared_calls.specs.Closing.{AreCallersOf, AreAllCalls}
use Rattle.shared_collections.specs.Fifos.{fifo}
use Rattle.shared_uses.specs.declared.passing.Work.{Work}
use Rattle.shared_uses.specs.Piping.{HasPassed, ArePassedOn}
use Rattle.shared_uses.proofs.Passes.{Done, AllDone, all_done, are_callers, counts_are, are_passed_on, caller_at, room_at, stands}
use Rattle.shared_uses.proofs.pipes.pass_on.Goals as goal

pub pass_each-requires-clause-ready : goal.pass_each-requires-clause-ready
pass_each-requires-clause-ready g c κs within i p less is =
    let news = c.in_ok-queue.ensures.callers in
    let parts = c.in_ok-parts.parts.items in
    let made = c.in_ok-parts.ensures.callers in
    let long = sym (length-map parts (λ q. q.caller)) ∙ (ap (λ l. length l) made ∙ news.count) in
    let new = news.each i p.caller (omega (arith, less, long)) (subst (λ l. p.caller ≡ slice_index_or l i p.caller) made (caller_at (λ q. q.caller) parts i p is)) in record {
      caller = (new.0, new.1);
      new = (new.4, new.2);
      room = room_at parts c.in_ok-parts.ensures.room i p less is;
    }

pub finish_each-requires-clause-passed : goal.finish_each-requires-clause-passed
finish_each-requires-clause-passed g c κs within i m less is =
    let olds = c.in_ok-parts.parts.items in
    let count = c.pass_each.ensures.count in
    let first : i < length olds = omega (arith, less, count) in
    let p = get_or olds i m in
    let passed = c.pass_each.ensures.passed i p m first (stands olds i m first) is in
    subst (λ (w : Work). HasPassed c.in_ok-queue.queue i w m) (sym passed.same) passed

pub close-requires : goal.close-requires
close-requires g c =
    let s = c.in_ok-queue.queue.shared in
    let olds = c.in_ok-parts.parts.items in
    let mids = c.pass_each.new.parts.items in
    let parts = c.finish_each.new.parts.items in
    let count = c.pass_each.ensures.count in
    let counts = c.finish_each.ensures.count in
    let long = sym (length-map olds (λ p. p.caller)) ∙ (ap (λ l. length l) c.in_ok-parts.ensures.callers ∙ (c.in_ok-queue.ensures.callers.count ∙ sym c.in_ok-queue.ensures.all)) in
    let all = all_done s (λ p. p.caller) 0 olds parts (counts ∙ count) c.in_ok-callers.ensures.sound (λ i p q less old new.
    let there : i < length mids = omega (arith, less, count) in
    let m = get_or mids i p in
    let passed = c.pass_each.ensures.passed i p m less old (stands mids i p there) in
    let did = c.finish_each.ensures.done i m q there (stands mids i p there) new in
    subst (λ (n : ℕ). Done s (λ p. p.caller) n p.work q) (omega arith)
    (subst (λ (w : Work). Done s (λ p. p.caller) i w q) passed.same (did.caller.0, did.caller.1, did.done))) in record {
      callers = subst (λ l. AreCallersOf s l) c.in_ok-callers.ensures.callers (are_callers s (λ p. p.caller) _ parts all (counts ∙ (count ∙ long)));
    }

pub returns-in-Some : goal.returns-in-Some
returns-in-Some g c =
    let s = c.in_ok-queue.queue.shared in
    let olds = c.in_ok-parts.parts.items in
    let mids = c.pass_each.new.parts.items in
    let parts = c.finish_each.new.parts.items in
    let count = c.pass_each.ensures.count in
    let counts = c.finish_each.ensures.count in
    let all = all_done s (λ p. p.caller) 0 olds parts (counts ∙ count) c.in_ok-callers.ensures.sound (λ i p q less old new.
    let there : i < length mids = omega (arith, less, count) in
    let m = get_or mids i p in
    let passed = c.pass_each.ensures.passed i p m less old (stands mids i p there) in
    let did = c.finish_each.ensures.done i m q there (stands mids i p there) new in
    subst (λ (n : ℕ). Done s (λ p. p.caller) n p.work q) (omega arith)
    (subst (λ (w : Work). Done s (λ p. p.caller) i w q) passed.same (did.caller.0, did.caller.1, did.done))) in
    let work = c.args.work.items in
    let done = subst (λ (l : List Work). AllDone s (λ p. p.caller) 0 l parts) c.in_ok-parts.ensures.work all in
    let log = c.in-Some.ensures.kept in
    let calls = subst (λ l. AreAllCalls fifo l log.0) (sym c.in_ok-callers.ensures.callers) log.1 in
    let taken = c.in_ok-callers.ensures.taken in record {
      counts = subst (λ (l : List (Vec ℕ Global)). map (λ (t : Vec ℕ Global). length t.items) l ≡ map (λ (w : Work). w.takes) work) taken (counts_are s (λ p. p.caller) 0 work parts done);
      passed = subst (λ (l : List (Vec ℕ Global)). ArePassedOn (map (λ (w : Work). w.puts.items) work) (map (λ (t : Vec ℕ Global). t.items) l)) taken
          (are_passed_on s (λ p. p.caller) work parts log.0 done calls c.requires.even);
    }
