use Rattle.std.proofs.Common.{ℕ, ◌*◌, ◌∙◌}
use Rattle.limits.specs.declared.TheConstants.{PLACES}
use Rattle.piece_board.proofs.RuleLemmas.Rows.{starts}
use Rattle.piece_board.proofs.board.Board.make.Goals as goal

pub new-requires : goal.new-requires
new-requires g c =
    let count : ℕ = PLACES * c.args.workers in
    rw (c.deref.ensures.value ∙ c.in_ok-words.ensures.items_if_clones_equal (λ y h. h), c.in_ok-slots.ensures)
    (starts g.W.Work.meets count c.from.result)
