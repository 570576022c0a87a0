use Rattle.std.proofs.Common.{arith}
use Rattle.core_table.proofs.ListLemmas.Owed.{first_at, among_next, all_passed}
use Rattle.core_table.proofs.rotation.index_of.Goals as goal

pub returns-then-numbers-i : goal.returns-then-numbers-i
returns-then-numbers-i c = first_at c.args.numbers.now c.args.number c.loop-i.i (omega (arith, c.loop-i-test.true)) c.if-numbers-i.true c.loop-i.invariant.yet

pub loop-i-preserved : goal.loop-i-preserved
loop-i-preserved c = record {
  yet = among_next c.args.numbers.now c.loop-i.i c.args.number (omega (arith, c.loop-i-test.true)) c.if-numbers-i.false c.loop-i.invariant.yet;
}

pub unreachable-requires : goal.unreachable-requires
unreachable-requires c = all_passed c.args.numbers.now c.loop-i.i c.args.number (omega arith) c.loop-i.invariant.yet c.requires
