use Rattle.std.proofs.Common.{rules, refl, ap, ◌∙◌, ◌∷◌}
use mathlib.Core.Option.{none}
use Rattle.atomic_table.specs.Table.{step, rest}
use Rattle.shared_calls.specs.declared.view.Slot.TheVariants.{Vacant, Answered}
use Rattle.shared_calls.specs.Plays.{with_request, Enrolls, Posts, Leaves, Wins, Looks, Publishes, Answers, Releases, Loses, Hears}
use Rattle.shared_calls.proofs.InHand.{written, allowed}
use Rattle.shared_calls.proofs.HolderSteps.{answers}
use Rattle.shared_calls.proofs.shared.Shared.answer.Goals as goal

pub store-requires : goal.store-requires
store-requires g c =
    let seat = c.args.seat.now in
    let owed = c.requires.owed in
    let is = written seat.me.0 seat.me c.exchange.new.seat.me c.args.caller Vacant (Answered c.args.reply) (rest seat.me.1) (ap (λ l. (seat.me.0, l)) c.requires.slot.1) c.exchange.ensures.3 in (
      search rules,
      search rules,
      allowed g.T.Combined.object g.T.Combined.content g.T.Combined.fails _ c.args.self.now.callers c.args.self.now.key _ _ c.args.caller (λ _. 2) (λ m _. Answers (step c.args.self.now.table.shared.table_id.slots c.args.caller 2 0 none) m 2) c.exchange.new.seat.me (seat.me.0, (c.args.caller, Answered c.args.reply) ∷ rest seat.me.1) is
          (answers g.T.Combined.object g.T.Combined.content g.T.Combined.fails c.args.self.now.callers _ _ seat.me.0 (rest seat.me.1) seat.me.0.from _ owed.1 refl c.requires.holds.0 c.requires.holds.1 owed.2),
    )

pub returns-clause-answered : goal.returns-clause-answered
returns-clause-answered g c =
    let seat = c.args.seat.now in
    let is = written seat.me.0 seat.me c.exchange.new.seat.me c.args.caller Vacant (Answered c.args.reply) (rest seat.me.1) (ap (λ l. (seat.me.0, l)) c.requires.slot.1) c.exchange.ensures.3 in
    c.store.ensures.2 ∙ ap (λ m. (Rattle.shared_calls.specs.Plays.answering m.0, rest m.1)) is
