use Rattle.std.proofs.Common.{◌≡◌, ℕ, ◌<◌, Some}
use Rattle.std.specs.Prelude.{slice_get}
use Rattle.std.specs.Option.{ForSome}
use Rattle.seq_objects.specs.Spin.{spin_of}
use Rattle.seq_objects.specs.declared.act.Act.TheVariants.{Work}
use Rattle.report_walks.proofs.values.have_work.Given as goal

abbrev pub invariant-loop-leaf : goal.invariant-loop-leaf
invariant-loop-leaf l = (leaf steps : ℕ) → leaf < l.leaf → slice_get l.acts leaf ≡ Some (Work steps) → ForSome (slice_get l.rows leaf) (λ row. row.value ≡ spin_of steps)
