use Rattle.std.proofs.Common.{rules, refl, ap, ◌∙◌, [], ◌∷◌}
use mathlib.Core.Option.{none}
use Rattle.atomic_table.specs.Table.{step, rest}
use Rattle.shared_calls.specs.declared.view.Slot.TheVariants.{Whole}
use Rattle.shared_calls.specs.Plays.{with_request, Enrolls, Posts, Leaves, Wins, Looks, Publishes, Answers, Releases, Loses, Hears}
use Rattle.shared_calls.proofs.InHand.{allowed}
use Rattle.shared_calls.proofs.HolderSteps.{releases}
use Rattle.shared_calls.proofs.shared.Shared.release.Goals as goal

pub store-requires : goal.store-requires
store-requires g c =
    let seat = c.args.seat.now in
    let slot = c.requires.slot in (
      search rules,
      search rules,
      allowed g.T.Combined.object g.T.Combined.content g.T.Combined.fails _ c.args.self.now.callers c.args.self.now.key _ _ c.args.self.now.callers (λ _. 0) (λ m _. Releases (step c.args.self.now.table.shared.table_id.slots c.args.self.now.callers 0 0 none) m 0) seat.me (seat.me.0, (c.args.self.now.callers, Whole slot.0 slot.1) ∷ []) (ap (λ l. (seat.me.0, l)) slot.2)
          (releases g.T.Combined.object g.T.Combined.content g.T.Combined.fails c.args.self.now.callers _ _ seat.me.0 slot.0 slot.1 seat.me.0.from refl c.requires.holds.0 c.requires.holds.1 c.requires.done.0 c.requires.done.1 slot.3),
    )

pub returns-clause-released : goal.returns-clause-released
returns-clause-released g c = c.store.ensures.2 ∙ ap (λ l. (Rattle.shared_calls.specs.Plays.releasing c.args.seat.now.me.0, rest l)) c.requires.slot.2
