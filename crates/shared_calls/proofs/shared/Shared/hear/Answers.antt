use Rattle.std.proofs.Common.{rules, refl, ap, ◌∙◌, [], ◌∷◌, arith}
use mathlib.Core.Option.{none}
use Rattle.atomic_table.specs.Table.{step}
use Rattle.shared_calls.specs.declared.view.Slot.TheVariants.{Vacant}
use Rattle.shared_calls.specs.Plays.{hearing, Hears}
use Rattle.shared_calls.specs.Callers.{idle_view}
use Rattle.shared_calls.proofs.InHand.{allowed}
use Rattle.shared_calls.proofs.CallerSteps.{hears}
use Rattle.shared_calls.proofs.Seats.{hears_note}
use Rattle.shared_calls.proofs.shared.Shared.hear.Goals as goal

pub join_seat-requires : goal.join_seat-requires
join_seat-requires g c =
    let sized = c.args.self.now.sized.0 in (
      search rules,
      search rules,
      search rules,
      omega (arith, sized),
      hears_note g.T.Combined.object g.T.Combined.content g.T.Combined.fails c.args.self.now.table.shared.key _ _ c.args.caller.now.seat.me.0 _ (ap (λ m. m.0.to) c.into_seat-seat.ensures.2 ∙ c.args.note.none),
    )

pub load-requires : goal.load-requires
load-requires g c =
    let caller = c.args.caller.now in
    let me = caller.seat.me in
    let v = hearing (idle_view caller.number me.0.made me.0.seen) c.into_seat-seat.result.me.0 in
    let is = c.join_seat.ensures.2 ∙ ap (λ m. (hearing m.0 c.into_seat-seat.result.me.0, m.1)) (caller.idle c.requires.sound) in (
      search rules,
      search rules,
      allowed g.T.Combined.object g.T.Combined.content g.T.Combined.fails _ c.args.self.now.callers c.args.self.now.key _ _ caller.number (λ y. y)
          (λ m. Hears g.T.Combined.object (step c.args.self.now.table.shared.table_id.slots caller.number 0 0 none) m) c.join_seat.new.seat.me (v, (caller.number, Vacant) ∷ []) is
          (hears g.T.Combined.object g.T.Combined.content g.T.Combined.fails c.args.self.now.callers _ _ v ((caller.number, Vacant) ∷ []) caller.number caller.number refl refl refl refl),
    )
