use Rattle.std.proofs.Common.{rules, refl, sym, ap, ◌∙◌, subst}
use mathlib.Core.Option.{none}
use prog.Atomic.{either}
use lib.Dec.{eqb}
use Rattle.atomic_table.specs.Table.{step}
use Rattle.shared_calls.specs.declared.view.Slot.TheVariants.{Vacant, Answered}
use Rattle.shared_calls.specs.Plays.{Leaves, IsLeft}
use Rattle.shared_calls.proofs.InHand.{first_in, written, content_in, allowed, same_reply}
use Rattle.shared_calls.proofs.CallerSteps.{leaves}
use Rattle.shared_calls.proofs.shared.Shared.leave.Goals as goal

pub compare_exchange-requires : goal.compare_exchange-requires
compare_exchange-requires g c =
    let seat = c.args.seat.now in (
      search rules,
      search rules,
      allowed g.T.Combined.object g.T.Combined.content g.T.Combined.fails _ c.args.self.now.callers c.args.self.now.key _ _ c.args.number (λ y. either (eqb y 2) 0 y) (λ m. Leaves g.T.Combined.object (step c.args.self.now.table.shared.table_id.slots c.args.number 2 0 none) m) seat.me seat.me refl
          (leaves g.T.Combined.object g.T.Combined.content g.T.Combined.fails c.args.self.now.callers _ _ seat.me.0 seat.me.1 c.args.number c.requires.own.0 c.requires.own.1 c.requires.idle),
    )

pub exchange-requires : goal.exchange-requires
exchange-requires g c =
    let t = c.compare_exchange.ensures.2.0 c.if-compare_exchange-ne2.false in
    (search rules, (Answered t.0, first_in c.compare_exchange.new.seat.me.1 c.args.number (Answered t.0) c.args.seat.now.me.1 (ap (λ m. m.1) t.3)))

pub unreachable-requires : goal.unreachable-requires
unreachable-requires g c =
    let t = c.compare_exchange.ensures.2.0 c.if-compare_exchange-ne2.false in
    c.in_default.not-Answered t.0 (content_in c.compare_exchange.new.seat.me t.1 c.args.number c.args.number (Answered t.0) c.exchange.result c.args.seat.now.me.1 t.3 c.exchange.ensures.2)

pub returns-clause-left : goal.returns-clause-left
returns-clause-left g c =
    let t = c.compare_exchange.ensures.2.0 c.if-compare_exchange-ne2.false in
    let is = content_in c.compare_exchange.new.seat.me t.1 c.args.number c.args.number (Answered t.0) c.exchange.result c.args.seat.now.me.1 t.3 c.exchange.ensures.2 in
    let reply = same_reply c.in-Answered.reply t.0 (sym c.in-Answered.is ∙ is) in (
      t.1,
      subst (λ r. IsLeft g.T.Combined.object c.args.seat.now.me.0 r t.1) (sym reply) t.2,
      written t.1 c.compare_exchange.new.seat.me c.exchange.new.seat.me c.args.number (Answered t.0) Vacant c.args.seat.now.me.1 t.3 c.exchange.ensures.3,
    )
