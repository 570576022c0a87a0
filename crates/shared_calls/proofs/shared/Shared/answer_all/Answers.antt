use Rattle.std.proofs.Common.{refl, sym, ap, ◌∙◌, ◌≡◌, ℕ, ◌+◌, ◌<◌, List, [], ◌∷◌, ◌++◌, map, drop, length, get_or, arith}
use Rattle.atomic_table.specs.Table.{rest}
use Rattle.shared_calls.specs.declared.view.Slot.TheVariants.{Vacant}
use Rattle.shared_calls.specs.Logs.{entry}
use Rattle.shared_calls.specs.Plays.{answering}
use Rattle.shared_calls.specs.Callers.{in_hand, owing}
use Rattle.shared_calls.proofs.Lists.{each_at}
use Rattle.shared_calls.proofs.InHand.{first_in}
use Rattle.shared_calls.proofs.Loops.{split_left, none_left}
use Rattle.shared_calls.proofs.shared.Shared.answer_all.Goals as goal

pub bounds-numbers-i : goal.bounds-numbers-i
bounds-numbers-i g c =
    let i = c.loop-reply.invariant in
    let t = split_left i.left c.loop-reply.i c.args.callers.items c.in-Some.reply c.next.new.self.rest.items i.callers (i.replies ∙ c.in-Some.ensures.steps.0) in
    let less = t.5 in
    let same = ap (λ (l : List ℕ). length l) c.as_slice-numbers.ensures.value in
    omega (arith, less, same)

pub answer-requires-clause-table : goal.answer-requires-clause-table
answer-requires-clause-table g c = c.loop-reply.invariant.table ∙ c.requires.table

pub answer-requires-clause-holds : goal.answer-requires-clause-holds
answer-requires-clause-holds g c =
    let i = c.loop-reply.invariant in
    (ap (λ v. v.to) i.owed ∙ (c.requires.holds.0 ∙ ap (λ v. v.from + 1) (sym i.owed)), ap (λ v. v.holds) i.owed ∙ c.requires.holds.1)

pub answer-requires-clause-owed : goal.answer-requires-clause-owed
answer-requires-clause-owed g c =
    let i = c.loop-reply.invariant in
    let t = split_left i.left c.loop-reply.i c.args.callers.items c.in-Some.reply c.next.new.self.rest.items i.callers (i.replies ∙ c.in-Some.ensures.steps.0) in
    let caller = get_or c.as_slice-numbers.result.now c.loop-reply.i 0 in
    let same : t.0.caller ≡ caller = t.6 0 ∙ sym (ap (λ l. get_or l c.loop-reply.i 0) c.as_slice-numbers.ensures.value) in
    (t.0.op, t.1, ap (λ v. v.owed) i.owed ∙ (t.2 ∙ (ap (λ (n : ℕ). entry n t.0.op t.0.reply ∷ t.1) same ∙ ap (λ r. entry caller t.0.op r ∷ t.1) t.3)))

pub answer-requires-clause-slot : goal.answer-requires-clause-slot
answer-requires-clause-slot g c =
    let i = c.loop-reply.invariant in
    let t = split_left i.left c.loop-reply.i c.args.callers.items c.in-Some.reply c.next.new.self.rest.items i.callers (i.replies ∙ c.in-Some.ensures.steps.0) in
    let caller = get_or c.as_slice-numbers.result.now c.loop-reply.i 0 in
    let same : t.0.caller ≡ caller = t.6 0 ∙ sym (ap (λ l. get_or l c.loop-reply.i 0) c.as_slice-numbers.ensures.value) in
    let slot = c.requires.slot in
    let hand = i.slots slot.0 slot.1 ∙ (ap (λ l. in_hand (map (λ e. e.caller) l) ++ slot.0 ∷ []) t.2
    ∙ ap (λ (n : ℕ). (n, Vacant) ∷ (in_hand (map (λ e. e.caller) t.1) ++ slot.0 ∷ [])) same) in (
      each_at (λ (u : ℕ). u < c.args.self.now.callers) c.args.callers.items caller (c.loop-reply.i, t.5, sym (t.6 caller) ∙ same) c.requires.below,
      first_in c.loop-reply.seat.me.1 caller Vacant (in_hand (map (λ e. e.caller) t.1) ++ slot.0 ∷ []) hand,
    )

pub loop-reply-preserved : goal.loop-reply-preserved
loop-reply-preserved g c =
    let i = c.loop-reply.invariant in
    let seat = c.args.seat.now in
    let t = split_left i.left c.loop-reply.i c.args.callers.items c.in-Some.reply c.next.new.self.rest.items i.callers (i.replies ∙ c.in-Some.ensures.steps.0) in
    let now = c.answer.ensures.answered in record {
      table = c.answer.ensures.table ∙ i.table;
      left = t.1;
      callers = t.7;
      replies = t.4;
      owed = ap (λ m. m.0) now ∙ (ap answering i.owed ∙ ap (λ l. owing seat.me.0 (drop 1 l)) t.2);
      slots = λ slot is. ap (λ m. m.1) now ∙ (ap rest (i.slots slot is) ∙ ap (λ l. rest (in_hand (map (λ e. e.caller) l) ++ slot ∷ [])) t.2);
    }

pub returns-clause-answered : goal.returns-clause-answered
returns-clause-answered g c =
    let i = c.loop-reply.invariant in
    let seat = c.args.seat.now in
    let none : i.left ≡ [] = none_left i.left (i.replies ∙ no_items c.loop-reply.reply-iterator.rest.items (let zero_len = c.in-None.ensures.steps.0 in let ok = c.loop-reply.reply-iterator.rest.ok in omega (arith, zero_len, ok))) in
    λ slot is.
    let view = i.owed ∙ ap (owing seat.me.0) none in
    let hand = i.slots slot is ∙ ap (λ l. in_hand (map (λ e. e.caller) l) ++ slot ∷ []) none in
    ap (λ v. (v, c.loop-reply.seat.me.1)) view ∙ ap (λ l. (owing seat.me.0 [], l)) hand
  where
    no_items : {X : Type 0} (l : List X) → length l ≡ 0 → l ≡ []
    no_items [] is = refl
    no_items (x ∷ l) is = absurd (omega (arith, is))
