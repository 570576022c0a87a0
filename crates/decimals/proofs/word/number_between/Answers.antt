use Rattle.std.proofs.Common.{inl, inr, sym, arith}
use Rattle.decimals.proofs.Ranges.{number_found, outside}
use Rattle.decimals.proofs.word.number_between.Goals as goal
use Rattle.decimals.proofs.word.number_between.Goals.{then-number-least-via-then-number-least, then-number-least-via-else-number-least+then-number-most}

pub returns-then-number-least : goal.returns-then-number-least
returns-then-number-least c =
    let n = c.in_ok-number.number in
    elim c.then-number-least.branch [
      | then-number-least-via-then-number-least w ↦ sym (outside c.args.least c.args.most n c.args.word.now (omega arith) (omega arith) c.in_ok-number.ensures.some (inl w.if-number-least.true))
      | then-number-least-via-else-number-least+then-number-most w ↦ sym (outside c.args.least c.args.most n c.args.word.now (omega arith) (omega arith) c.in_ok-number.ensures.some (inr w.if-number-most.true))
    ]

pub returns : goal.returns
returns c =
    sym (number_found c.args.least c.args.most c.in_ok-number.number c.args.word.now (omega arith) c.in_ok-number.ensures.some (omega arith) (omega arith))
