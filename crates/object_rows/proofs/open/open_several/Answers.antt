use Rattle.std.proofs.Common.{◌≡◌, ◌==◌, ◌<◌, ◌≤◌, ◌+◌, ◌++◌, ◌∷◌, [], length, take, drop, ap, sym, subst, ◌∙◌, arith, length-append}
use Rattle.std.proofs.lemmas.List.{drop_more}
use Rattle.seq_objects.specs.Objects.{number_of}
use Rattle.seq_objects.specs.Batches.{AreOneBatch, calls_at}
use Rattle.seq_objects.proofs.Filters.{some_are_a_batch}
use Rattle.object_rows.specs.Numbers.{numbers_of}
use Rattle.object_rows.specs.Code.Dealt.{dealt_to, leading}
use Rattle.object_rows.proofs.Numbering.{at_again}
use Rattle.object_rows.proofs.CallsDealt.{IsNext, next_number, all_opened, behind_first}
use Rattle.object_rows.proofs.Opening.{AreOpened, none_opened, same_store, opened_more, context, are_cut, at_most, at_least}
use Rattle.object_rows.proofs.open.open_several.Goals as goal

pub loop-from-init : goal.loop-from-init
loop-from-init g c =
    let calls = c.args.calls.now in
    let numbers = numbers_of calls in
    record {
      opened = rw c.new-rows.ensures.items
          (subst (λ opened. AreOpened g.T.Batched.content g.T.Batched.is_context_of g.T.Batched.cut g.T.Batched.MOST c.args.row.now calls c.args.row.now opened []) (sym (ap (λ l. take (length l) numbers) c.requires.closed))
          (none_opened g.T.Batched.content g.T.Batched.is_context_of g.T.Batched.cut g.T.Batched.MOST c.args.row.now calls c.requires.closed));
      left = c.in_ok-dealt.ensures ∙ ap (λ l. dealt_to (drop (length l) numbers) calls) (sym c.requires.closed);
      within = omega arith;
    }

pub open_one-requires-clause-batch : goal.open_one-requires-clause-batch
open_one-requires-clause-batch g c = λ lifetimes bounds.
    let calls = c.args.calls.now in
    let dealt = c.in_ok-dealt.dealt.items in
    let from = c.loop-from.from in
    let k = length c.loop-from.row.called.items in
    let number = c.number-number.result in
    let first = c.index.result.now in
    let below : from < length dealt = let all = c.in_ok-dealt.dealt.ok.0 in let end = c.len.ensures in omega (arith, c.loop-from-test.true, all, end) in
    let first_is : drop from dealt ≡ first ∷ drop (from + 1) dealt = drop_more dealt from first below ∙ ap (λ d. d ∷ drop (from + 1) dealt) (sym c.index.ensures) in
    let next : IsNext calls k from number dealt = next_number calls k from dealt c.loop-from.invariant.left number first first_is c.number-number.ensures in
    let own : c.as_slice.result.now ≡ calls_at number calls = c.as_slice.ensures.value ∙ c.in_ok-from.ensures.own ∙ ap (λ d. leading number (drop from d)) c.deref.ensures.value ∙ next.own in
    subst AreOneBatch (sym own) (some_are_a_batch (λ call. number_of call.op == number) calls c.requires.batch next.some)

pub open_one-requires-clause-one : goal.open_one-requires-clause-one
open_one-requires-clause-one g c = λ lifetimes bounds.
    let calls = c.args.calls.now in
    let dealt = c.in_ok-dealt.dealt.items in
    let from = c.loop-from.from in
    let k = length c.loop-from.row.called.items in
    let number = c.number-number.result in
    let first = c.index.result.now in
    let below : from < length dealt = let all = c.in_ok-dealt.dealt.ok.0 in let end = c.len.ensures in omega (arith, c.loop-from-test.true, all, end) in
    let first_is : drop from dealt ≡ first ∷ drop (from + 1) dealt = drop_more dealt from first below ∙ ap (λ d. d ∷ drop (from + 1) dealt) (sym c.index.ensures) in
    let next : IsNext calls k from number dealt = next_number calls k from dealt c.loop-from.invariant.left number first first_is c.number-number.ensures in
    let own : c.as_slice.result.now ≡ calls_at number calls = c.as_slice.ensures.value ∙ c.in_ok-from.ensures.own ∙ ap (λ d. leading number (drop from d)) c.deref.ensures.value ∙ next.own in
    subst (λ l. calls_at number l ≡ l) (sym own) (at_again number calls)

pub open_one-requires-clause-may : goal.open_one-requires-clause-may
open_one-requires-clause-may g c = λ lifetimes bounds structure is.
    let calls = c.args.calls.now in
    let dealt = c.in_ok-dealt.dealt.items in
    let from = c.loop-from.from in
    let k = length c.loop-from.row.called.items in
    let number = c.number-number.result in
    let first = c.index.result.now in
    let below : from < length dealt = let all = c.in_ok-dealt.dealt.ok.0 in let end = c.len.ensures in omega (arith, c.loop-from-test.true, all, end) in
    let first_is : drop from dealt ≡ first ∷ drop (from + 1) dealt = drop_more dealt from first below ∙ ap (λ d. d ∷ drop (from + 1) dealt) (sym c.index.ensures) in
    let next : IsNext calls k from number dealt = next_number calls k from dealt c.loop-from.invariant.left number first first_is c.number-number.ensures in
    let own : c.as_slice.result.now ≡ calls_at number calls = c.as_slice.ensures.value ∙ c.in_ok-from.ensures.own ∙ ap (λ d. leading number (drop from d)) c.deref.ensures.value ∙ next.own in
    let numbers = take k (numbers_of calls) in
    let same = same_store g.T.Batched.content g.T.Batched.is_context_of g.T.Batched.cut g.T.Batched.MOST c.args.row.now calls c.loop-from.row numbers c.loop-from.rows.items c.loop-from.invariant.opened number next.new in
    subst (g.T.Batched.may_serve structure) (sym own) (c.requires.may number structure (is ∙ same))

pub loop-from-smaller : goal.loop-from-smaller
loop-from-smaller g c =
    let calls = c.args.calls.now in
    let dealt = c.in_ok-dealt.dealt.items in
    let from = c.loop-from.from in
    let k = length c.loop-from.row.called.items in
    let number = c.number-number.result in
    let first = c.index.result.now in
    let below : from < length dealt = let all = c.in_ok-dealt.dealt.ok.0 in let end = c.len.ensures in omega (arith, c.loop-from-test.true, all, end) in
    let first_is : drop from dealt ≡ first ∷ drop (from + 1) dealt = drop_more dealt from first below ∙ ap (λ d. d ∷ drop (from + 1) dealt) (sym c.index.ensures) in
    let behind = rw c.deref.ensures.value at c.in_ok-from.ensures.behind in
    let further = behind_first number from c.in_ok-from.from dealt first below first_is c.number-number.ensures behind in
    omega (arith, further, below)

pub loop-from-preserved : goal.loop-from-preserved
loop-from-preserved g c =
    let calls = c.args.calls.now in
    let dealt = c.in_ok-dealt.dealt.items in
    let from = c.loop-from.from in
    let k = length c.loop-from.row.called.items in
    let number = c.number-number.result in
    let first = c.index.result.now in
    let below : from < length dealt = let all = c.in_ok-dealt.dealt.ok.0 in let end = c.len.ensures in omega (arith, c.loop-from-test.true, all, end) in
    let first_is : drop from dealt ≡ first ∷ drop (from + 1) dealt = drop_more dealt from first below ∙ ap (λ d. d ∷ drop (from + 1) dealt) (sym c.index.ensures) in
    let next : IsNext calls k from number dealt = next_number calls k from dealt c.loop-from.invariant.left number first first_is c.number-number.ensures in
    let own : c.as_slice.result.now ≡ calls_at number calls = c.as_slice.ensures.value ∙ c.in_ok-from.ensures.own ∙ ap (λ d. leading number (drop from d)) c.deref.ensures.value ∙ next.own in
    let numbers = numbers_of calls in
    let now = c.open_one.new.row in
    let ins = c.in_ok-ins.ins.items in
    let opens = c.in_ok-ins.ensures.opens calls (sym own) in
    let count : length now.called.items ≡ k + 1 = ap length opens.opened ∙ length-append c.loop-from.row.called.items (opens.called ∷ []) in
    let more : take (length now.called.items) numbers ≡ take k numbers ++ number ∷ [] = ap (λ n. take n numbers) count ∙ next.more in
    record {
      opened = subst (λ opened. AreOpened g.T.Batched.content g.T.Batched.is_context_of g.T.Batched.cut g.T.Batched.MOST c.args.row.now calls now opened c.add_to_rows.new.rows.items) (sym more)
          (opened_more g.T.Batched.content g.T.Batched.is_context_of g.T.Batched.cut g.T.Batched.MOST c.args.row.now calls c.loop-from.row (take k numbers) c.loop-from.rows.items c.loop-from.invariant.opened
          now number ins c.add_to_rows.new.rows.items opens next.new (c.in_ok-ins.ensures.cut calls (sym own)) c.in_ok-ins.ensures.count c.in_ok-add_to_rows.ensures);
      left = (rw c.deref.ensures.value at c.in_ok-from.ensures.behind) ∙ next.left ∙ ap (λ n. dealt_to (drop n numbers) calls) (sym count);
      within = rw c.deref.ensures.value at c.in_ok-from.ensures.within;
    }

pub returns : goal.returns
returns g c =
    let calls = c.args.calls.now in
    let dealt = c.in_ok-dealt.dealt.items in
    let k = length c.loop-from.row.called.items in
    let end : length dealt ≤ c.loop-from.from = let all = c.in_ok-dealt.dealt.ok.0 in let end = c.len.ensures in omega (arith, c.loop-from-test.false, all, end) in
    let rows = subst (λ numbers. AreOpened g.T.Batched.content g.T.Batched.is_context_of g.T.Batched.cut g.T.Batched.MOST c.args.row.now calls c.loop-from.row numbers c.loop-from.rows.items) (all_opened calls k c.loop-from.from dealt c.loop-from.invariant.left end) c.loop-from.invariant.opened in
    let all = subst (AreOpened g.T.Batched.content g.T.Batched.is_context_of g.T.Batched.cut g.T.Batched.MOST c.args.row.now calls c.loop-from.row (numbers_of calls)) (sym c.of_rows.ensures) rows in
    record {
      most = at_most g.T.Batched.content g.T.Batched.is_context_of g.T.Batched.cut g.T.Batched.MOST c.args.row.now calls c.loop-from.row c.of_rows.result.items all;
      some = at_least g.T.Batched.content g.T.Batched.is_context_of g.T.Batched.cut g.T.Batched.MOST c.args.row.now calls c.loop-from.row c.of_rows.result.items all c.requires.batch.some;
      cut = are_cut g.T.Batched.content g.T.Batched.is_context_of g.T.Batched.cut g.T.Batched.MOST c.args.row.now calls c.loop-from.row c.of_rows.result.items all;
      context = context g.T.Batched.content g.T.Batched.is_context_of g.T.Batched.cut g.T.Batched.MOST c.args.row.now calls c.loop-from.row c.of_rows.result.items all;
    }
