use Rattle.std.proofs.Common.{rules, refl, sym, ap, ◌∙◌, ◌≡◌, List, [], ◌∷◌, ◌++◌}
use mathlib.Core.Option.{none}
use Rattle.atomic_table.specs.Table.{step, rest, turned}
use Rattle.shared_calls.specs.declared.view.Entry.{Entry}
use Rattle.shared_calls.specs.declared.view.Slot.{Slot}
use Rattle.shared_calls.specs.declared.view.Slot.TheVariants.{Vacant, Whole}
use Rattle.shared_calls.specs.Plays.{Publishes}
use Rattle.shared_calls.specs.Logs.{state_after}
use Rattle.shared_calls.specs.Plays.{publishing}
use Rattle.shared_calls.proofs.InHand.{first_in, written, content_in, allowed, same_whole}
use Rattle.shared_calls.proofs.HolderSteps.{publishes}
use Rattle.shared_calls.proofs.shared.Shared.publish.Given.{Over}
use Rattle.shared_calls.proofs.shared.Shared.publish.Goals.{After-exchange, After-load, After-exchange-2}
use Rattle.shared_calls.proofs.shared.Shared.publish.Goals as goal

-- the seat once the structure lies in the slot, with the replies
laid : (g : Over) (c : After-exchange g) → c.exchange.new.seat.me ≡ (c.args.seat.now.me.0, (c.args.self.now.callers, Whole c.args.structure c.args.replies) ∷ rest c.args.seat.now.me.1)
laid g c =
    let seat = c.args.seat.now in
    written seat.me.0 seat.me c.exchange.new.seat.me c.args.self.now.callers Vacant (Whole c.args.structure c.args.replies) (rest seat.me.1) (ap (λ l. (seat.me.0, l)) c.requires.slot) c.exchange.ensures.3

-- the seat once the batch counts as served, with the calls of the batch
served : (g : Over) (c : After-load g) → let seat = c.args.seat.now in let slots = (c.args.self.now.callers, Whole c.args.structure c.args.replies) ∷ rest seat.me.1 in
    c.exchange.new.seat.me ≡ (seat.me.0, slots)
    → (batch : List (Entry g.row.T-Op.Denot g.row.T-Reply.Denot)) × (g.T.Combined.content c.args.structure ≡ state_after g.T.Combined.object (seat.me.0.log ++ batch))
    × (c.load.new.seat.me ≡ (publishing seat.me.0 batch c.args.replies.items, slots))
served g c is =
    let t = c.load.ensures.2 c.args.structure c.args.replies (first_in c.exchange.new.seat.me.1 c.args.self.now.callers (Whole c.args.structure c.args.replies) (rest c.args.seat.now.me.1) (ap (λ m. m.1) is)) in
    (t.0, t.1 ∙ ap (λ m. state_after g.T.Combined.object (m.0.log ++ t.0)) is, t.2 ∙ ap (λ m. (publishing m.0 t.0 c.args.replies.items, m.1)) is)

-- the seat once the slot is empty again, and what was in it
emptied : (g : Over) (c : After-exchange-2 g) (v : _) (xs : _) → c.load.new.seat.me ≡ (v, (c.args.self.now.callers, Whole c.args.structure c.args.replies) ∷ xs)
    → (c.exchange-2.new.seat.me ≡ (v, (c.args.self.now.callers, Vacant) ∷ xs)) × (c.exchange-2.result ≡ Whole c.args.structure c.args.replies)
emptied g c v xs is =
    let flag = c.args.self.now.callers in let whole : Slot _ _ _ = Whole c.args.structure c.args.replies in
    (written v c.load.new.seat.me c.exchange-2.new.seat.me flag whole Vacant xs is c.exchange-2.ensures.3, content_in c.load.new.seat.me v flag flag whole c.exchange-2.result xs is c.exchange-2.ensures.2)

pub load-requires : goal.load-requires
load-requires g c =
    let seat = c.args.seat.now in
    let flag = c.args.self.now.callers in (
      search rules,
      search rules,
      allowed g.T.Combined.object g.T.Combined.content g.T.Combined.fails _ c.args.self.now.callers c.args.self.now.key _ _ flag (λ y. y) (λ m. Publishes g.T.Combined.object g.T.Combined.content (step c.args.self.now.table.shared.table_id.slots flag 0 0 none) m) c.exchange.new.seat.me (seat.me.0, (flag, Whole c.args.structure c.args.replies) ∷ rest seat.me.1)
          (laid g (goal.at.load-requires g c).After-exchange)
          (publishes g.T.Combined.object g.T.Combined.content g.T.Combined.fails c.args.self.now.callers _ _ seat.me.0 c.args.structure c.args.replies (rest seat.me.1) seat.me.0.from refl c.requires.holds.0 c.requires.holds.1 c.requires.none_owed c.requires.served),
    )

pub exchange-requires-2 : goal.exchange-requires-2
exchange-requires-2 g c =
    let at = goal.at.exchange-requires-2 g c in
    let is = served g at.After-load (laid g at.After-exchange) in
    (search rules, (Whole c.args.structure c.args.replies, first_in c.load.new.seat.me.1 c.args.self.now.callers (Whole c.args.structure c.args.replies) (rest c.args.seat.now.me.1) (ap (λ m. m.1) is.2)))

pub exchange-requires-in-Whole : goal.exchange-requires-in-Whole
exchange-requires-in-Whole g c =
    let at = goal.at.exchange-requires-in-Whole g c in
    let is = emptied g at.After-exchange-2 _ _ (served g at.After-load (laid g at.After-exchange)).2 in
    (search rules, (Vacant, first_in c.exchange-2.new.seat.me.1 c.args.self.now.callers Vacant (rest c.args.seat.now.me.1) (ap (λ m. m.1) is.0)))

pub unreachable-requires : goal.unreachable-requires
unreachable-requires g c =
    let at = goal.at.unreachable-requires g c in
    c.in_default.not-Whole c.args.structure c.args.replies (emptied g at.After-exchange-2 _ _ (served g at.After-load (laid g at.After-exchange)).2).1

pub returns-clause-replies : goal.returns-clause-replies
returns-clause-replies g c =
    let at = goal.at.returns-clause-replies g c in
    let is = emptied g at.After-exchange-2 _ _ (served g at.After-load (laid g at.After-exchange)).2 in
    ap (λ l. l.items) (same_whole c.in-Whole.structure c.args.structure c.in-Whole.replies c.args.replies (sym c.in-Whole.is ∙ is.1)).1

pub returns-clause-published : goal.returns-clause-published
returns-clause-published g c =
    let at = goal.at.returns-clause-published g c in
    let batch = served g at.After-load (laid g at.After-exchange) in
    let is = emptied g at.After-exchange-2 _ _ batch.2 in
    let seat = c.args.seat.now in
    let flag = c.args.self.now.callers in
    let v = publishing seat.me.0 batch.0 c.args.replies.items in
    let same = same_whole c.in-Whole.structure c.args.structure c.in-Whole.replies c.args.replies (sym c.in-Whole.is ∙ is.1) in
    let back = written v c.exchange-2.new.seat.me c.exchange-in-Whole.new.seat.me flag Vacant (Whole c.in-Whole.structure c.new.result) (rest seat.me.1) is.0 c.exchange-in-Whole.ensures.3 in (
      batch.0,
      c.new.result,
      batch.1,
      c.turn.ensures.2 ∙ (ap (λ m. (m.0, turned m.1)) back ∙ ap (λ x. (v, rest seat.me.1 ++ (flag, Whole x c.new.result) ∷ [])) same.0),
    )
