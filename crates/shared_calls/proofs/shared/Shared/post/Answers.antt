use Rattle.std.proofs.Common.{rules, ap, ◌∙◌, [], ◌∷◌}
use mathlib.Core.Option.{none}
use Rattle.atomic_table.specs.Table.{step, rest}
use Rattle.shared_calls.specs.declared.view.Request.TheVariants.{Asks}
use Rattle.shared_calls.specs.declared.view.Slot.TheVariants.{Vacant, Posted}
use Rattle.shared_calls.specs.Plays.{with_request, Posts}
use Rattle.shared_calls.proofs.InHand.{first_in, written, allowed}
use Rattle.shared_calls.proofs.CallerSteps.{posts}
use Rattle.shared_calls.proofs.shared.Shared.post.Goals as goal

pub store-requires : goal.store-requires
store-requires g c =
    let seat = c.args.seat.now in
    let slot = c.requires.nothing.1 in
    let is = written seat.me.0 seat.me c.exchange.new.seat.me c.args.number Vacant (Posted c.args.op) [] (ap (λ l. (seat.me.0, l)) slot) c.exchange.ensures.3 in (
      search rules,
      search rules,
      allowed g.T.Combined.object g.T.Combined.content g.T.Combined.fails _ c.args.self.now.callers c.args.self.now.key _ _ c.args.number (λ _. 1) (λ m _. Posts (step c.args.self.now.table.shared.table_id.slots c.args.number 1 0 none) m 1) c.exchange.new.seat.me (seat.me.0, (c.args.number, Posted c.args.op) ∷ []) is
          (posts g.T.Combined.object g.T.Combined.content g.T.Combined.fails c.args.self.now.callers _ _ seat.me.0 c.args.number c.args.op c.requires.own.0 c.requires.own.1 c.requires.idle c.requires.nothing.0),
    )

pub returns-clause-posted : goal.returns-clause-posted
returns-clause-posted g c =
    let seat = c.args.seat.now in
    let slot = c.requires.nothing.1 in
    let is = written seat.me.0 seat.me c.exchange.new.seat.me c.args.number Vacant (Posted c.args.op) [] (ap (λ l. (seat.me.0, l)) slot) c.exchange.ensures.3 in
    c.store.ensures.2 c.args.op (first_in c.exchange.new.seat.me.1 c.args.number (Posted c.args.op) [] (ap (λ m. m.1) is)) ∙ ap (λ m. (with_request (Asks c.args.op) m.0, rest m.1)) is
