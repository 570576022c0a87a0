use Rattle.std.proofs.Common.{◌≡◌, ◌≤◌, ◌<◌, ℕ, List, take, drop, get_or, vec_len, vec_capacity, true, false}
use Rattle.piece_board.specs.Boards.{desk_view, IsDeskOf}
use Rattle.shared_pieces.specs.Batches.{AllMeet}
use Rattle.shared_pieces.specs.Rows.{placed_from}
use Rattle.shared_pieces.proofs.rows.collect_all.Given as goal

-- the outputs so far meet the inputs that were collected, unless one of these pieces ran out of memory
abbrev pub invariant-loop-place : goal.invariant-loop-place
invariant-loop-place g l = record {
  desk : IsDeskOf l.board l.desk;
  inside : l.place ≤ l.count;
  left : (desk_view l.desk).posted ≡ drop l.place (desk_view l.fn.desk).posted;
  met : (ins : List g.row.T-In.Denot) → (desk_view l.fn.desk).posted ≡ placed_from 0 ins → l.starved ≡ false → AllMeet g.T.InPieces.meets (take l.place ins) l.outs.items;
  starved : (ins : List g.row.T-In.Denot) → (desk_view l.fn.desk).posted ≡ placed_from 0 ins → l.starved ≡ true
      → (k : ℕ) × (input : g.row.T-In.Denot) × (k < l.place) × (input ≡ get_or ins k input) × g.T.InPieces.starves input;
  room : (vec_len l.outs ≤ l.place) × (l.count ≤ vec_capacity l.outs);
}
