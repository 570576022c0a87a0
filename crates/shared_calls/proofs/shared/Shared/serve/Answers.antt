use Rattle.std.proofs.Common.{◌≡◌, sym, ap, ◌∙◌, subst, ℕ, ◌+◌, [], ◌∷◌, ◌++◌, map, length}
use Rattle.atomic_table.specs.Table.{rest}
use Rattle.shared_calls.specs.declared.view.Asked.{Asked}
use Rattle.shared_calls.specs.declared.view.Slot.{Slot}
use Rattle.shared_calls.specs.declared.view.Slot.TheVariants.{Vacant, Whole}
use Rattle.shared_calls.specs.declared.view.View.{View}
use Rattle.shared_calls.specs.Logs.{state_after}
use Rattle.shared_calls.specs.Plays.{releasing, publishing}
use Rattle.shared_calls.specs.Callers.{in_hand, collected, owing}
use Rattle.shared_calls.specs.Serial.{IsServedInSomeOrder}
use Rattle.std.proofs.lemmas.List.{length-map}
use Rattle.shared_calls.proofs.Lists.{entries_callers, entries_replies}
use Rattle.shared_calls.proofs.InHand.{first_in}
use Rattle.shared_calls.proofs.shared.Shared.serve.Given.{Over}
use Rattle.shared_calls.proofs.shared.Shared.serve.Goals.{After-publish-replies, After-answer_all}
use Rattle.shared_calls.proofs.shared.Shared.serve.Goals as goal

-- the slot with the structure, once the batch is published
abbrev whole : (g : Over) → After-publish-replies g → ℕ × Slot g.row.T.Denot g.row.T-Op.Denot g.row.T-Reply.Denot
whole g c = (c.args.self.now.callers, Whole c.in_ok-structure.structure c.publish-replies.ensures.published.1)

-- the seat then
published : (g : Over) (c : After-publish-replies g) → let got = c.collect-callers.ensures.took in
    c.publish-replies.new.seat.me
    ≡ (publishing (collected c.args.seat.now.me.0 got.0 got.1) c.publish-replies.ensures.published.0 c.in_ok-structure.replies.items, in_hand c.collect-callers.result.0.items ++ whole g c ∷ [])
published g c =
    let got = c.collect-callers.ensures.took in
    let v = publishing (collected c.args.seat.now.me.0 got.0 got.1) c.publish-replies.ensures.published.0 c.in_ok-structure.replies.items in
    c.publish-replies.ensures.published.3 ∙ (ap (λ m. (publishing m.0 c.publish-replies.ensures.published.0 c.in_ok-structure.replies.items, rest m.1 ++ whole g c ∷ [])) got.2
    ∙ ap (λ l. (v, in_hand l ++ whole g c ∷ [])) (sym got.3))

-- and once all callers are answered
answered : (g : Over) (c : After-answer_all g) (v : View g.row.T-Op.Denot g.row.T-Reply.Denot) (slot : ℕ × Slot g.row.T.Denot g.row.T-Op.Denot g.row.T-Reply.Denot)
    → c.publish-replies.new.seat.me ≡ (v, in_hand c.collect-callers.result.0.items ++ slot ∷ []) → c.answer_all.new.seat.me ≡ (owing v [], slot ∷ [])
answered g c v slot me = c.answer_all.ensures.answered slot (ap (λ m. m.1) me) ∙ ap (λ m. (owing m.0 [], slot ∷ [])) me

pub publish-replies-requires-clause-table : goal.publish-replies-requires-clause-table
publish-replies-requires-clause-table g c = c.collect-callers.ensures.table ∙ c.requires.table

pub publish-replies-requires-clause-holds : goal.publish-replies-requires-clause-holds
publish-replies-requires-clause-holds g c =
    let me1 = c.collect-callers.ensures.took.2 in
    (ap (λ m. m.0.to) me1 ∙ (c.requires.holds.0 ∙ ap (λ m. m.0.from + 1) (sym me1)), ap (λ m. m.0.holds) me1 ∙ c.requires.holds.1)

pub publish-replies-requires-clause-none_owed : goal.publish-replies-requires-clause-none_owed
publish-replies-requires-clause-none_owed g c = ap (λ m. m.0.owed) c.collect-callers.ensures.took.2 ∙ c.requires.begins.2

pub publish-replies-requires-clause-slot : goal.publish-replies-requires-clause-slot
publish-replies-requires-clause-slot g c =
    let got = c.collect-callers.ensures.took in
    first_in _ c.args.self.now.callers Vacant (in_hand (map (λ a. a.caller) got.1)) (ap (λ m. m.1) got.2)

pub publish-replies-requires-clause-served : goal.publish-replies-requires-clause-served
publish-replies-requires-clause-served g c =
    let got = c.collect-callers.ensures.took in
    subst (λ m. IsServedInSomeOrder g.T.Combined.object (state_after g.T.Combined.object m.0.log) (map (λ a. a.op) m.0.taken) c.in_ok-structure.replies.items (g.T.Combined.content c.in_ok-structure.structure)) (sym got.2)
    (subst (λ l. IsServedInSomeOrder g.T.Combined.object (state_after g.T.Combined.object c.args.seat.now.me.0.log) l c.in_ok-structure.replies.items (g.T.Combined.content c.in_ok-structure.structure)) got.4
    (subst (λ s. IsServedInSomeOrder g.T.Combined.object s c.collect-callers.result.1.items c.in_ok-structure.replies.items (g.T.Combined.content c.in_ok-structure.structure)) c.requires.content c.in_ok-structure.ensures.served))

pub answer_all-requires-clause-holds : goal.answer_all-requires-clause-holds
answer_all-requires-clause-holds g c =
    let me = published g (goal.at.answer_all-requires-clause-holds g c).After-publish-replies in
    (ap (λ m. m.0.to) me ∙ (c.requires.holds.0 ∙ ap (λ m. m.0.from + 1) (sym me)), ap (λ m. m.0.holds) me ∙ c.requires.holds.1)

pub answer_all-requires-clause-owed : goal.answer_all-requires-clause-owed
answer_all-requires-clause-owed g c =
    let got = c.collect-callers.ensures.took in
    let me = published g (goal.at.answer_all-requires-clause-owed g c).After-publish-replies in
    let replies = c.in_ok-structure.replies.items in
    let count = c.in_ok-structure.ensures.served.count ∙ (ap (λ l. length l) got.4 ∙ length-map got.1 (λ (a : Asked _). a.op)) in (
      ap (λ m. map (λ e. e.caller) m.0.owed) me ∙ (entries_callers got.1 replies count ∙ sym got.3),
      ap (λ m. map (λ e. e.reply) m.0.owed) me ∙ (entries_replies got.1 replies count ∙ sym c.publish-replies.ensures.replies),
    )

pub answer_all-requires-clause-below : goal.answer_all-requires-clause-below
answer_all-requires-clause-below g c = c.collect-callers.ensures.below

pub answer_all-requires-clause-slot : goal.answer_all-requires-clause-slot
answer_all-requires-clause-slot g c =
    let me = published g (goal.at.answer_all-requires-clause-slot g c).After-publish-replies in
    (_, ap (λ m. m.1) me)

pub release-requires-clause-holds : goal.release-requires-clause-holds
release-requires-clause-holds g c =
    let at = goal.at.release-requires-clause-holds g c in
    let me = answered g at.After-answer_all _ _ (published g at.After-publish-replies) in
    (ap (λ m. m.0.to) me ∙ (c.requires.holds.0 ∙ ap (λ m. m.0.from + 1) (sym me)), ap (λ m. m.0.holds) me ∙ c.requires.holds.1)

pub release-requires-clause-done : goal.release-requires-clause-done
release-requires-clause-done g c =
    let at = goal.at.release-requires-clause-done g c in
    let me = answered g at.After-answer_all _ _ (published g at.After-publish-replies) in
    (ap (λ m. m.0.taken) me, ap (λ m. m.0.owed) me)

pub release-requires-clause-slot : goal.release-requires-clause-slot
release-requires-clause-slot g c =
    let at = goal.at.release-requires-clause-slot g c in
    let me = answered g at.After-answer_all _ _ (published g at.After-publish-replies) in
    let told = c.publish-replies.ensures.published in
    (c.in_ok-structure.structure, told.1, ap (λ m. m.1) me, told.2 ∙ (ap (λ m. state_after g.T.Combined.object (m.0.log ++ told.0)) c.collect-callers.ensures.took.2 ∙ ap (λ m. state_after g.T.Combined.object m.0.log) (sym me)))

pub returns-clause-ok : goal.returns-clause-ok
returns-clause-ok g c =
    let at = goal.at.returns-clause-ok g c in
    c.release.ensures.released ∙ ap (λ m. (releasing m.0, [])) (answered g at.After-answer_all _ _ (published g at.After-publish-replies))
