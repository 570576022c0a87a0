-- What contracts see of a desk, and the effect of each operation.
use Rattle.std.specs.Prelude.{ℕ, ◌+◌, ◌*◌, [], ◌∷◌, ◌++◌, Option}
use Rattle.limits.specs.declared.TheConstants.{PLACES}
use Rattle.piece_board.specs.declared.view.DeskView.{DeskView}
use Rattle.piece_board.specs.Entries.{entry_at, without}

-- the number of a place on the board: each row has `PLACES` places
abbrev pub number_of : ℕ → ℕ → ℕ
number_of row place = PLACES * row + place

module _ {I : Type 0} where
  -- the initial desk of a row
  abbrev pub fresh_desk : ℕ → DeskView I
  fresh_desk row = record {
    row = row;
    posted = [];
    claims = [];
    posts = [];
    finishes = 0;
    collects = 0;
    empty_collects = 0;
    given = [];
    refused = [];
  }

  -- the input posted last at this place of the desk's own row, or `None` if the place is free
  abbrev pub posted_at : ℕ → DeskView I → Option I
  posted_at place d = entry_at place d.posted

  -- the input that the desk claimed at this place and has not finished, if there is one
  abbrev pub claimed_at : ℕ → ℕ → DeskView I → Option I
  claimed_at row place d = entry_at (number_of row place) d.claims

  -- after a post of `x` at this place of the own row
  abbrev pub after_post : ℕ → I → DeskView I → DeskView I
  after_post place x d = record d { posted = d.posted ++ (place, x) ∷ []; posts = d.posts ++ place ∷ [] }

  -- after a claim that got the input `x`
  abbrev pub after_claim : ℕ → ℕ → I → DeskView I → DeskView I
  after_claim row place x d =
      record d { claims = (number_of row place, x) ∷ d.claims; given = d.given ++ (row, place) ∷ [] }

  -- after a refused claim: the place is not open, or not on the board
  abbrev pub after_refusal : ℕ → ℕ → DeskView I → DeskView I
  after_refusal row place d = record d { refused = d.refused ++ (row, place) ∷ [] }

  -- after a finish at this place
  abbrev pub after_finish : ℕ → ℕ → DeskView I → DeskView I
  after_finish row place d =
      record d { claims = without (number_of row place) d.claims; finishes = d.finishes + 1 }

  -- after a collect of the result at this place of the own row
  abbrev pub after_collect : ℕ → DeskView I → DeskView I
  after_collect place d = record d { posted = without place d.posted; collects = d.collects + 1 }

  -- after a collect that found no result
  abbrev pub after_empty_collect : DeskView I → DeskView I
  after_empty_collect d = record d { empty_collects = d.empty_collects + 1 }
