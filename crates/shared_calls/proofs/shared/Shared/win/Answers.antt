use Rattle.std.proofs.Common.{rules, sym, ap, ◌∙◌, ◌≡◌, ◌+◌, [], ◌∷◌}
use mathlib.Core.Option.{none}
use prog.Atomic.{either}
use lib.Dec.{eqb}
use Rattle.atomic_table.specs.Table.{step}
use Rattle.shared_calls.specs.declared.view.Slot.TheVariants.{Vacant, Whole}
use Rattle.shared_calls.specs.Plays.{Wins}
use Rattle.shared_calls.specs.declared.steps.Won.TheVariants.{Flag, Held, Lost}
use Rattle.shared_calls.specs.Plays.{winning}
use Rattle.shared_calls.proofs.InHand.{first_in, written, content_in, allowed, same_whole}
use Rattle.shared_calls.proofs.CallerSteps.{wins}
use Rattle.shared_calls.proofs.shared.Shared.win.Goals as goal

pub compare_exchange-found-requires : goal.compare_exchange-found-requires
compare_exchange-found-requires g c =
    let seat = c.args.seat.now in (
      search rules,
      search rules,
      allowed g.T.Combined.object g.T.Combined.content g.T.Combined.fails _ c.args.self.now.callers c.args.self.now.key _ _ c.args.self.now.callers (λ y. either (eqb y 0) (c.args.number + 1) y) (λ m. Wins g.T.Combined.object g.T.Combined.content g.T.Combined.fails (step c.args.self.now.table.shared.table_id.slots c.args.self.now.callers 0 (c.args.number + 1) none) m) seat.me (seat.me.0, []) (ap (λ l. (seat.me.0, l)) c.requires.bare)
          (wins g.T.Combined.object g.T.Combined.content g.T.Combined.fails c.args.self.now.callers _ _ seat.me.0 c.args.number c.requires.own.0 c.requires.own.1 c.requires.idle),
    )

pub exchange-requires : goal.exchange-requires
exchange-requires g c =
    let t = c.compare_exchange-found.ensures.2.0 c.if-found-ne0.false in
    (search rules, (Whole t.0 t.1, first_in c.compare_exchange-found.new.seat.me.1 c.args.self.now.callers (Whole t.0 t.1) c.args.seat.now.me.1 (ap (λ m. m.1) t.4)))

pub unreachable-requires : goal.unreachable-requires
unreachable-requires g c =
    let t = c.compare_exchange-found.ensures.2.0 c.if-found-ne0.false in
    c.in_default.not-Whole t.0 t.1 (content_in c.compare_exchange-found.new.seat.me (winning c.args.seat.now.me.0 t.2) c.args.self.now.callers c.args.self.now.callers (Whole t.0 t.1) c.exchange.result c.args.seat.now.me.1 t.4 c.exchange.ensures.2)

pub returns-clause-won : goal.returns-clause-won
returns-clause-won g c =
    let t = c.compare_exchange-found.ensures.2.0 c.if-found-ne0.false in
    let v = winning c.args.seat.now.me.0 t.2 in
    let is = content_in c.compare_exchange-found.new.seat.me v c.args.self.now.callers c.args.self.now.callers (Whole t.0 t.1) c.exchange.result c.args.seat.now.me.1 t.4 c.exchange.ensures.2 in
    let same = same_whole c.in-Whole.structure t.0 c.in-Whole.field-1 t.1 (sym c.in-Whole.is ∙ is) in
    λ u e. (
      t.2,
      ap g.T.Combined.content (sym (same_flag c.in-Whole.structure u e) ∙ same.0) ∙ t.3,
      written v c.compare_exchange-found.new.seat.me c.exchange.new.seat.me c.args.self.now.callers (Whole t.0 t.1) Vacant c.args.seat.now.me.1 t.4 c.exchange.ensures.3
          ∙ ap (λ l. (v, (c.args.self.now.callers, Vacant) ∷ l)) c.requires.bare,
    )
  where
    same_flag : {X : Type 0} (a b : X) → let x : Rattle.shared_calls.specs.declared.steps.Won.TheVariants.the_data X = Flag a in x ≡ Flag b → a ≡ b
    same_flag a b e = cc

pub returns-clause-held : goal.returns-clause-held
returns-clause-held g c = λ holder e. cc

pub returns-clause-lost : goal.returns-clause-lost
returns-clause-lost g c = λ e. cc
