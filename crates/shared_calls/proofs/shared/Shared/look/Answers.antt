use Rattle.std.proofs.Common.{rules, refl, sym, ap, ◌∙◌, [], ◌∷◌, ◌++◌}
use mathlib.Core.Option.{none}
use Rattle.atomic_table.specs.Table.{step, turned}
use Rattle.shared_calls.specs.declared.view.Slot.TheVariants.{Vacant, Posted}
use Rattle.shared_calls.specs.Plays.{Looks}
use Rattle.shared_calls.specs.Plays.{taking}
use Rattle.shared_calls.proofs.InHand.{first_in, written, content_in, allowed, same_op}
use Rattle.shared_calls.proofs.HolderSteps.{looks}
use Rattle.shared_calls.proofs.shared.Shared.look.Goals as goal

pub load-requires : goal.load-requires
load-requires g c =
    let seat = c.args.seat.now in (
      search rules,
      search rules,
      allowed g.T.Combined.object g.T.Combined.content g.T.Combined.fails _ c.args.self.now.callers c.args.self.now.key _ _ c.args.caller (λ y. y) (λ m. Looks (step c.args.self.now.table.shared.table_id.slots c.args.caller 0 0 none) m) seat.me seat.me refl
          (looks g.T.Combined.object g.T.Combined.content g.T.Combined.fails c.args.self.now.callers _ _ seat.me.0 seat.me.1 seat.me.0.from c.args.caller refl c.requires.holds.0 c.requires.holds.1 c.requires.next.0 c.requires.next.1 c.requires.next.2),
    )

pub exchange-content-requires : goal.exchange-content-requires
exchange-content-requires g c =
    let t = c.load.ensures.2.0 c.if-load-ne1.false in
    (search rules, (Posted t.0, first_in c.load.new.seat.me.1 c.args.caller (Posted t.0) c.args.seat.now.me.1 (ap (λ m. m.1) t.1)))

pub unreachable-requires : goal.unreachable-requires
unreachable-requires g c =
    let t = c.load.ensures.2.0 c.if-load-ne1.false in
    c.in_default.not-Posted t.0 (content_in c.load.new.seat.me (taking c.args.seat.now.me.0 c.args.caller t.0) c.args.caller c.args.caller (Posted t.0) c.exchange-content.result c.args.seat.now.me.1 t.1 c.exchange-content.ensures.2)

pub returns-clause-took : goal.returns-clause-took
returns-clause-took g c =
    let t = c.load.ensures.2.0 c.if-load-ne1.false in
    let v = taking c.args.seat.now.me.0 c.args.caller t.0 in
    let is = content_in c.load.new.seat.me v c.args.caller c.args.caller (Posted t.0) c.exchange-content.result c.args.seat.now.me.1 t.1 c.exchange-content.ensures.2 in
    let op = same_op c.in-Posted.op t.0 (sym c.in-Posted.is ∙ is) in
    let now = written v c.load.new.seat.me c.exchange-content.new.seat.me c.args.caller (Posted t.0) Vacant c.args.seat.now.me.1 t.1 c.exchange-content.ensures.3 in
    c.turn.ensures.2 ∙ (ap (λ m. (m.0, turned m.1)) now ∙ ap (λ x. (taking c.args.seat.now.me.0 c.args.caller x, c.args.seat.now.me.1 ++ (c.args.caller, Vacant) ∷ [])) (sym op))
