-- Lanes by what their leaves do, and one lane more.
use Rattle.std.proofs.Common.{◌≡◌, ℕ, ◌+◌, ◌≤◌, ◌==◌, ◌&&◌, Bool, not, List, [], ◌∷◌, ◌++◌, map, length, refl, sym, ap, ◌∙◌, arith, append-nil}
use Rattle.std.specs.List.{filter, flat_map, range_with_len}
use Rattle.std.proofs.lemmas.Grind.{flat_map-append}
use Rattle.std.proofs.lemmas.List.Elements.{filter_agree}
use Rattle.std.proofs.lemmas.List.Sums.{length-filter, count_by-le-length}
use Rattle.std.proofs.lemmas.List.FromFn.{map-range_with_len_more}
use Rattle.batch_history.specs.declared.row.Row.{Row}
use Rattle.report_shares.specs.Shares.{works, calls_in, share_in, lane_shares}
use Rattle.report_shares.specs.declared.share.Share.{Share}

pub no_more : (test : Row → Bool) (rows : List Row) → length (filter test rows) ≤ length rows
no_more test rows = omega (arith, length-filter test rows, count_by-le-length test rows)

-- the shares of a lane look at which leaves call, and at nothing else of the book
pub lane_agrees : (calling other : ℕ → Bool) → ((leaf : ℕ) → calling leaf ≡ other leaf) → (rows : List Row) (worker : ℕ) → lane_shares calling rows worker ≡ lane_shares other rows worker
lane_agrees calling other same rows worker =
    let work : filter (works calling worker) rows ≡ filter (works other worker) rows =
    filter_agree (works calling worker) (works other worker) (λ row. ap (λ b. (row.worker == worker) && not b) (same row.leaf)) rows in
    let called : filter (calls_in calling worker) rows ≡ filter (calls_in other worker) rows =
    filter_agree (calls_in calling worker) (calls_in other worker) (λ row. ap (λ b. (row.worker == worker) && b) (same row.leaf)) rows in
    ap (λ w. map (λ column. share_in (length rows) worker column w (filter (calls_in calling worker) rows)) (range_with_len 0 120)) work
    ∙ ap (λ c. map (λ column. share_in (length rows) worker column (filter (works other worker) rows) c) (range_with_len 0 120)) called

range_more : (n : ℕ) → range_with_len 0 (n + 1) ≡ range_with_len 0 n ++ n ∷ []
range_more n = let e : 0 + n ≡ n = omega arith in sym (same (range_with_len 0 (n + 1))) ∙ (map-range_with_len_more (λ k. k) 0 n n e ∙ ap (λ r. r ++ n ∷ []) (same (range_with_len 0 n)))
  where
    same : (xs : List ℕ) → map (λ k. k) xs ≡ xs
    same [] = refl
    same (x ∷ xs) = ap (λ r. x ∷ r) (same xs)

-- one worker more adds its lane
pub lanes_more : (lane : ℕ → List Share) (n : ℕ) → flat_map lane (range_with_len 0 (n + 1)) ≡ flat_map lane (range_with_len 0 n) ++ lane n
lanes_more lane n =
    ap (flat_map lane) (range_more n) ∙ (flat_map-append lane (range_with_len 0 n) (n ∷ []) ∙ ap (λ t. flat_map lane (range_with_len 0 n) ++ t) (append-nil (lane n)))
