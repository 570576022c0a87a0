use Rattle.std.proofs.Common.{rules, refl, ◌+◌}
use mathlib.Core.Option.{none}
use Rattle.atomic_table.specs.Table.{step}
use Rattle.shared_calls.specs.Rule.{newcomers}
use Rattle.shared_calls.specs.Plays.{Enrolls}
use Rattle.shared_calls.proofs.InHand.{allowed}
use Rattle.shared_calls.proofs.CallerSteps.{enrolls}
use Rattle.shared_calls.proofs.shared.Shared.enroll.Goals as goal

pub store-requires : goal.store-requires
store-requires g c = (
  search rules,
  search rules,
  allowed g.T.Combined.object g.T.Combined.content g.T.Combined.fails _ c.args.self.now.callers c.args.self.now.key _ _ c.args.number (λ _. 0) (λ m _. Enrolls (step c.args.self.now.table.shared.table_id.slots c.args.number 0 0 none) m 0) c.args.seat.me _ c.requires.new.0
      (enrolls g.T.Combined.object g.T.Combined.content g.T.Combined.fails c.args.self.now.callers _ _ (newcomers c.args.number (c.args.number + 1) 1) c.args.number refl refl refl refl),
)
