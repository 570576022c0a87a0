use Rattle.std.proofs.Common.{◌≡◌, ◌<◌, false, length, filter, ◌∙◌, sym, rules, arith}
use Rattle.std.proofs.lemmas.Bool.{eqb-false}
use Rattle.std.specs.List.{range_with_len}
use Rattle.seq_objects.specs.Objects.{has}
use Rattle.batched_stack.specs.Pieces.{is_called, numbers_in}
use Rattle.batched_stack.proofs.BeginLemmas.Numbers.{not_passed, some_called, none_called, same_but_first, not_first, first_alone, none_has}
use Rattle.batched_stack.proofs.begin.cut_pieces.Goals as goal
use Rattle.batched_stack.proofs.begin.cut_pieces.Goals.{then-is_empty+in_ok-add_piece, else-is_empty}

pub returns-clause-numbers : goal.returns-clause-numbers
returns-clause-numbers c =
    let called = filter (is_called c.args.count c.args.pushes.now c.args.pops) (range_with_len 0 16) in
    let pieces = c.in_ok-stripes.pieces.items in
    elim c.if-is_empty.branch [
      | then-is_empty+in_ok-add_piece w ↦
          let none : length pieces ≡ 0 = search rules in
          let one = none_called c.in_ok-stripes.stripes.items pieces w.add_piece.new.pieces.items called _ _ c.in_ok-stripes.ensures.numbers none w.in_ok-add_piece.ensures.piece in
          rw w.pieces-is (first_alone called (numbers_in w.add_piece.new.pieces.items) one.0 one.1)
      | else-is_empty w ↦
          let other : c.in_ok-stripes.pieces.len ≡ 0 → ⊥ = eqb-false c.in_ok-stripes.pieces.len 0 (sym c.is_empty.ensures ∙ w.if-is_empty.false) in
          let some : 0 < length pieces = omega (arith, other, c.in_ok-stripes.pieces.ok.0) in
          rw w.pieces-is (some_called pieces called c.in_ok-stripes.ensures.numbers some)
    ]

pub returns-clause-kept : goal.returns-clause-kept
returns-clause-kept c = λ j low none.
    let called = filter (is_called c.args.count c.args.pushes.now c.args.pops) (range_with_len 0 16) in
    let passed = is_called c.args.count c.args.pushes.now c.args.pops in
    let old = c.args.stripes.items in
    let now = c.in_ok-stripes.stripes.items in
    let pieces = c.in_ok-stripes.pieces.items in
    elim c.if-is_empty.branch [
      | then-is_empty+in_ok-add_piece w ↦
          let empty : length pieces ≡ 0 = search rules in
          let made = w.in_ok-add_piece.ensures in
          let one = none_called now pieces w.add_piece.new.pieces.items called _ _ c.in_ok-stripes.ensures.numbers empty made.piece in
          let idle = not_passed passed j 0 16 (none_has j called one.0) (omega arith) (omega (arith, low)) in
          let other = not_first j (numbers_in w.add_piece.new.pieces.items) one.1 (rw w.pieces-is at none) in
          rw w.stripes-is (same_but_first old now w.add_piece.new.stripes.items j (c.in_ok-stripes.ensures.kept j idle) made.lists made.rooms other)
      | else-is_empty w ↦
          let none' : has j called ≡ false = rw (w.pieces-is, c.in_ok-stripes.ensures.numbers) at none in
          rw w.stripes-is (c.in_ok-stripes.ensures.kept j (not_passed passed j 0 16 none' (omega arith) (omega (arith, low))))
    ]
