use Rattle.std.proofs.Common.{rules, refl, ◌+◌}
use mathlib.Core.Option.{none}
use Rattle.atomic_table.specs.Table.{step}
use Rattle.shared_calls.specs.Plays.{Loses}
use Rattle.shared_calls.proofs.InHand.{allowed}
use Rattle.shared_calls.proofs.HolderSteps.{loses}
use Rattle.shared_calls.proofs.shared.Shared.lose.Goals as goal

pub store-requires : goal.store-requires
store-requires g c =
    let seat = c.args.seat.now in (
      search rules,
      search rules,
      allowed g.T.Combined.object g.T.Combined.content g.T.Combined.fails _ c.args.self.now.callers c.args.self.now.key _ _ c.args.self.now.callers (λ _. c.args.self.now.callers + 1) (λ m _. Loses (step c.args.self.now.table.shared.table_id.slots c.args.self.now.callers (c.args.self.now.callers + 1) 0 none) m (c.args.self.now.callers + 1)) seat.me seat.me refl
          (loses g.T.Combined.object g.T.Combined.content g.T.Combined.fails c.args.self.now.callers _ _ seat.me.0 seat.me.1 seat.me.0.from refl c.requires.holds.0 c.requires.holds.1 c.requires.none_owed c.requires.failed),
    )
