-- The construction of the desks, one by one.
use Rattle.std.proofs.Common.{◌≡◌, ◌≢◌, ℕ, ◌+◌, ◌<◌, List, [], ◌∷◌, ◌++◌, sym, ap, ◌∙◌, subst, arith}
use Rattle.std.proofs.lemmas.List.{get_or_append_left, get_or_push, length_push}
use mathlib.Core.Logic.{dite}
use native.Mathlib.Decide.{ℕ_discrete}
use Rattle.atomic_table.specs.Table.{Splits}
use Rattle.piece_board.specs.declared.work.Work.{Ghosts}
use Rattle.piece_board.specs.declared.board.Board.{Board}
use Rattle.piece_board.specs.declared.board.Desk.{Desk}
use Rattle.piece_board.specs.declared.view.View.{View}
use Rattle.piece_board.specs.Desks.{fresh_desk}
use Rattle.piece_board.specs.Rule.{fresh_view, first_row, without_first_row, ObeysRule}
use Rattle.piece_board.specs.Steps.{SeatAt}
use Rattle.piece_board.specs.Boards.{view, desk_view, IsDeskOf, AreDesksUpTo}
use Rattle.piece_board.proofs.RuleLemmas.Rows.{cuts}

pub one_desk_more : {W I O : Type 0} {g : Ghosts W I O} (n : ℕ) (b : Board W I O) (desks : List (Desk W I O g)) (d : Desk W I O g)
    → AreDesksUpTo n b desks → IsDeskOf b d → view d ≡ fresh_view n (n + 1) → AreDesksUpTo (n + 1) b (desks ++ d ∷ [])
one_desk_more {W} {I} {O} {g} n b desks d so_far desk fresh = record {
  count = omega (arith, length_push desks d, so_far.count);
  each = λ w e lt at. dite (ℕ_discrete w n)
      (λ (is : w ≡ n).
      let same : d ≡ e = sym (at ∙ get_or_push desks d e w (so_far.count ∙ sym is)) in
      subst (λ (q : Desk W I O g). IsDeskOf b q × (desk_view q ≡ fresh_desk w)) same
      (desk, ap (λ (v : View I). v.desk) fresh ∙ ap (λ (k : ℕ). fresh_desk k) (sym is)))
      (λ (ne : w ≢ n).
      let less : w < n = omega (arith, lt, ne) in
      so_far.each w e less (at ∙ get_or_append_left desks (d ∷ []) e w (omega (arith, so_far.count, less))));
  new = λ w e lt at. dite (ℕ_discrete w n)
      (λ (is : w ≡ n).
      let same : d ≡ e = sym (at ∙ get_or_push desks d e w (so_far.count ∙ sym is)) in
      subst (λ (q : Desk W I O g). view q ≡ fresh_view w (w + 1)) same (fresh ∙ ap (λ (k : ℕ). fresh_view k (k + 1)) (sym is)))
      (λ (ne : w ≢ n).
      let less : w < n = omega (arith, lt, ne) in
      so_far.new w e less (at ∙ get_or_append_left desks (d ∷ []) e w (omega (arith, so_far.count, less))));
}

module _ {I O : Type 0} (m n : SeatAt I O) (row rows : ℕ) (before : m ≡ (fresh_view row rows, [])) where
  -- the seat that is left after the split
  pub left_then : n ≡ (without_first_row m.0, m.1) → n ≡ (fresh_view (row + 1) rows, [])
  left_then is = is ∙ ap (λ (q : SeatAt I O). (without_first_row q.0, q.1)) before

  -- the seat of the row that is split off
  pub own_then : n ≡ (first_row m.0, []) → n ≡ (fresh_view row (row + 1), [])
  own_then is = is ∙ ap (λ (q : SeatAt I O). (first_row q.0, [])) before

-- the rule allows the split
module _ {I O : Type 0} (m : SeatAt I O) (row rows : ℕ) (before : m ≡ (fresh_view row rows, [])) where
  pub can_cut : (meets : I → O → Type 0) (seat : ℕ) → row < rows
      → Splits (ObeysRule meets) seat m.0 (without_first_row m.0) (first_row m.0)
  can_cut meets seat lt =
      subst (λ (q : SeatAt I O). Splits (ObeysRule meets) seat q.0 (without_first_row q.0) (first_row q.0)) (sym before)
      (cuts meets seat row rows lt)
