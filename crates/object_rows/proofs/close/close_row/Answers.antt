use Rattle.std.proofs.Common.{◌≡◌, [], ◌∷◌, ◌++◌, length, map, refl, ap, sym, subst, ◌∙◌, arith, append-nil}
use Rattle.std.proofs.lemmas.Bool.{false≢true}
use Rattle.std.proofs.lemmas.List.{map-append}
use Rattle.seq_objects.specs.Batches.{calls_at}
use Rattle.seq_objects.specs.Pieces.{AllMeet}
use Rattle.object_rows.specs.Rows.{members, MembersMeet}
use Rattle.object_rows.specs.Numbers.{numbers_of}
use Rattle.object_rows.specs.Code.Dealt.{dealt_to, put_at}
use Rattle.object_rows.specs.Code.Replies.{with_own}
use Rattle.object_rows.proofs.ListLemmas.{no_members}
use Rattle.object_rows.proofs.CallsDealt.{take_last}
use Rattle.object_rows.proofs.Putting.{put_own}
use Rattle.object_rows.proofs.Closing.{length_all, all_open, last_open, closed_more, all_closed}
use Rattle.object_rows.proofs.close.close_row.Goals as goal

pub close_only-requires-clause-met : goal.close_only-requires-clause-met
close_only-requires-clause-met g c = λ lifetimes bounds.
    let given = c.requires.met in
    (given.0, given.1, given.3)

pub returns-then-len-eq1 : goal.returns-then-len-eq1
returns-then-len-eq1 g c = λ o r same met. c.in_ok-only.ensures o r met

pub loop-called-init : goal.loop-called-init
loop-called-init g c = λ o r same met. (
  all_open g.T.Batched.content g.T.Batched.is_context_of g.T.Batched.meets o c.args.row.now c.in_ok-rows.rows.items c.in_ok-replies.replies.items r met (c.in_ok-replies.ensures ∙ ap length (sym same)),
  c.in_ok-dealt.ensures ∙ ap (λ l. dealt_to l c.args.calls.now) (ap numbers_of (sym same) ∙ sym r.numbers),
)

pub close_one-requires-after_bounds : goal.close_one-requires-after_bounds
close_one-requires-after_bounds g c = λ lifetimes bounds.
    let given = c.requires.met in
    let o = given.0 in
    let a = (c.loop-called.invariant o given.1 given.2 (subst (AllMeet (MembersMeet g.T.Batched.meets) o.ins) (sym c.in_ok-rows.ensures) given.3)).0 in
    let last = last_open g.T.Batched.content g.T.Batched.is_context_of g.T.Batched.meets o c.loop-called.row (members c.loop-called.rows.items) c.loop-called.replies.items a c.pop.new.self.items c.in-Some.called c.in-Some.ensures.items in
    (o.before, o.calls, last.0, last.1, subst (AllMeet g.T.Batched.meets last.0) (sym c.in_ok-own.ensures.taken) last.2)

pub put_last-requires-clause-count : goal.put_last-requires-clause-count
put_last-requires-clause-count g c =
    let given = c.requires.met in
    let o = given.0 in
    let same = given.2 in
    let i = c.loop-called.invariant o given.1 same (subst (AllMeet (MembersMeet g.T.Batched.meets) o.ins) (sym c.in_ok-rows.ensures) given.3) in
    let a = i.0 in
    let calls = c.args.calls.now in
    let number = c.in-Some.called.number in
    let rest = c.pop.new.self.items in
    let told = c.in_ok-told.told.items in
    let replies = c.loop-called.replies.items in
    let dealt = c.loop-called.dealt.items in
    let last = last_open g.T.Batched.content g.T.Batched.is_context_of g.T.Batched.meets o c.loop-called.row (members c.loop-called.rows.items) replies a rest c.in-Some.called c.in-Some.ensures.items in
    let closes = c.in_ok-told.ensures o.before o.calls last.0 last.1 (subst (AllMeet g.T.Batched.meets last.0) (sym c.in_ok-own.ensures.taken) last.2) in
    let many : length told ≡ length (calls_at number calls) = ap length closes.told ∙ length_all (o.before number) (calls_at number o.calls) ∙ ap (λ l. length (calls_at number l)) same in
    let are : dealt ≡ dealt_to (map (λ called. called.number) rest ++ number ∷ []) calls
    = i.1 ∙ ap (λ l. dealt_to (map (λ called. called.number) l) calls) c.in-Some.ensures.items ∙ ap (λ l. dealt_to l calls) (map-append (λ called. called.number) rest (c.in-Some.called ∷ [])) in
    let taken = take_last (map (λ called. called.number) rest) number calls (length told) (length replies) dealt are many (a.count ∙ ap length same) in
    rw c.deref.ensures.value taken.within

pub put_last-requires-clause-places : goal.put_last-requires-clause-places
put_last-requires-clause-places g c =
    let given = c.requires.met in
    let o = given.0 in
    let same = given.2 in
    let i = c.loop-called.invariant o given.1 same (subst (AllMeet (MembersMeet g.T.Batched.meets) o.ins) (sym c.in_ok-rows.ensures) given.3) in
    let a = i.0 in
    let calls = c.args.calls.now in
    let number = c.in-Some.called.number in
    let rest = c.pop.new.self.items in
    let told = c.in_ok-told.told.items in
    let replies = c.loop-called.replies.items in
    let dealt = c.loop-called.dealt.items in
    let last = last_open g.T.Batched.content g.T.Batched.is_context_of g.T.Batched.meets o c.loop-called.row (members c.loop-called.rows.items) replies a rest c.in-Some.called c.in-Some.ensures.items in
    let closes = c.in_ok-told.ensures o.before o.calls last.0 last.1 (subst (AllMeet g.T.Batched.meets last.0) (sym c.in_ok-own.ensures.taken) last.2) in
    let many : length told ≡ length (calls_at number calls) = ap length closes.told ∙ length_all (o.before number) (calls_at number o.calls) ∙ ap (λ l. length (calls_at number l)) same in
    let are : dealt ≡ dealt_to (map (λ called. called.number) rest ++ number ∷ []) calls
    = i.1 ∙ ap (λ l. dealt_to (map (λ called. called.number) l) calls) c.in-Some.ensures.items ∙ ap (λ l. dealt_to l calls) (map-append (λ called. called.number) rest (c.in-Some.called ∷ [])) in
    let taken = take_last (map (λ called. called.number) rest) number calls (length told) (length replies) dealt are many (a.count ∙ ap length same) in
    taken.places

pub loop-called-preserved : goal.loop-called-preserved
loop-called-preserved g c = λ o r same met.
    let i = c.loop-called.invariant o r same met in
    let a = i.0 in
    let calls = c.args.calls.now in
    let number = c.in-Some.called.number in
    let rest = c.pop.new.self.items in
    let told = c.in_ok-told.told.items in
    let replies = c.loop-called.replies.items in
    let dealt = c.loop-called.dealt.items in
    let last = last_open g.T.Batched.content g.T.Batched.is_context_of g.T.Batched.meets o c.loop-called.row (members c.loop-called.rows.items) replies a rest c.in-Some.called c.in-Some.ensures.items in
    let closes = c.in_ok-told.ensures o.before o.calls last.0 last.1 (subst (AllMeet g.T.Batched.meets last.0) (sym c.in_ok-own.ensures.taken) last.2) in
    let many : length told ≡ length (calls_at number calls) = ap length closes.told ∙ length_all (o.before number) (calls_at number o.calls) ∙ ap (λ l. length (calls_at number l)) same in
    let long : length replies ≡ length calls = a.count ∙ ap length same in
    let are : dealt ≡ dealt_to (map (λ called. called.number) rest ++ number ∷ []) calls
    = i.1 ∙ ap (λ l. dealt_to (map (λ called. called.number) l) calls) c.in-Some.ensures.items ∙ ap (λ l. dealt_to l calls) (map-append (λ called. called.number) rest (c.in-Some.called ∷ [])) in
    let taken = take_last (map (λ called. called.number) rest) number calls (length told) (length replies) dealt are many long in
    let put : c.put_last.new.replies.items ≡ with_own number calls replies told
    = (rw c.deref.ensures.value at c.put_last.ensures.put) ∙ ap (λ l. put_at l told replies) taken.last ∙ put_own number calls replies told long many in (
      closed_more g.T.Batched.content g.T.Batched.is_context_of g.T.Batched.meets o c.loop-called.row (members c.loop-called.rows.items) replies a rest c.in-Some.called c.in-Some.ensures.items
          (record { closed = c.close_one.new.closed; called = c.pop.new.self }) (members c.take_lasts.new.rows.items) told c.put_last.new.replies.items refl c.in_ok-own.ensures.left closes
          (put ∙ ap (λ calls. with_own number calls replies told) (sym same)),
      (rw c.deref.ensures.value at c.put_last.ensures.left) ∙ taken.left,
    )

pub returns : goal.returns
returns g c = λ o r same met.
    let a = (c.loop-called.invariant o r same (subst (AllMeet (MembersMeet g.T.Batched.meets) o.ins) (sym c.in_ok-rows.ensures) met)).0 in
    let last = c.in_default.ensures in
    let none : c.loop-called.row.called.items ≡ [] = no_members c.loop-called.row.called.items (λ some. false≢true (last.variant.1 (let all = c.loop-called.row.called.ok.0 in omega (arith, some, all)))) in
    let served = all_closed g.T.Batched.content g.T.Batched.is_context_of g.T.Batched.meets o c.loop-called.row (members c.loop-called.rows.items) c.loop-called.replies.items a none in
    record {
      closed = sym (append-nil c.pop.new.self.items) ∙ sym last.items ∙ none;
      after = served.after;
      told = served.told;
    }
