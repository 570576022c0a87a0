use Rattle.std.proofs.Common.{rules, ap, ◌∙◌, [], arith}
use mathlib.Core.Option.{none}
use Rattle.atomic_table.specs.Table.{step}
use Rattle.shared_calls.specs.Plays.{retiring, Retires}
use Rattle.shared_calls.proofs.InHand.{allowed}
use Rattle.shared_calls.proofs.CallerSteps.{retires}
use Rattle.shared_calls.proofs.Seats.{parts}
use Rattle.shared_calls.proofs.Closings.{settled}
use Rattle.shared_calls.proofs.shared.Shared.retire.Goals as goal

pub store-requires : goal.store-requires
store-requires g c =
    let caller = c.args.caller in
    let me = caller.seat.me in
    let able = settled caller in (
      search rules,
      search rules,
      allowed g.T.Combined.object g.T.Combined.content g.T.Combined.fails _ c.args.self.now.callers c.args.self.now.key _ _ caller.number (λ _. 3) (λ m _. Retires (step c.args.self.now.table.shared.table_id.slots caller.number 3 0 none) m 3) c.into_seat-seat.result.me me c.into_seat-seat.ensures.2
          (retires g.T.Combined.object g.T.Combined.content g.T.Combined.fails c.args.self.now.callers _ _ me.0 me.1 caller.number caller.own.0 caller.own.1 able.0 able.1),
    )

pub split_seat-requires : goal.split_seat-requires
split_seat-requires g c =
    let caller = c.args.caller in
    let sized = c.args.self.now.sized.0 in
    let now = c.store.ensures.2 ∙ ap (λ m. (retiring m.0, m.1)) c.into_seat-seat.ensures.2 in (
      search rules,
      omega (arith, sized),
      parts g.T.Combined.object g.T.Combined.content g.T.Combined.fails c.args.self.now.table.shared.key _ caller.number c.store.new.seat.me.0 (ap (λ m. m.0.from) now ∙ caller.own.0) (ap (λ m. m.0.to) now ∙ caller.own.1),
    )

pub returns-clause-retired : goal.returns-clause-retired
returns-clause-retired g c = c.split_seat.ensures.4 ∙ ap (λ m. (m.0, [])) (c.store.ensures.2 ∙ ap (λ m. (retiring m.0, m.1)) c.into_seat-seat.ensures.2)

pub returns-clause-idle : goal.returns-clause-idle
returns-clause-idle g c = (settled c.args.caller).0

pub returns-clause-stands : goal.returns-clause-stands
returns-clause-stands g c = c.args.caller.own
