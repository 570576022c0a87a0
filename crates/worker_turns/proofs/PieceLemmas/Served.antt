-- All pieces of a batch were posted and collected.
use Rattle.std.proofs.Common.{◌≡◌, ℕ, zero, suc, ◌+◌, IfOk, Result, Ok, Err, List, [], ◌∷◌, ◌++◌, length, map, drop, sym, refl, ap, ◌∙◌, arith}
use Rattle.std.proofs.lemmas.List.{length-map}
use Rattle.launch_batch.specs.declared.piece.PieceIn.{PieceIn}
use Rattle.launch_batch.specs.Pieces.{place_of}
use Rattle.worker_turns.specs.Pieces.{Desk, with_place, after_posts, DrainsRow}
use Rattle.worker_turns.specs.Launches.{ExecutesPieces}
use Rattle.worker_turns.proofs.PieceLemmas.Working.{works_then}

all_dropped : {X : Type 0} (xs : List X) (n : ℕ) → n ≡ length xs → drop n xs ≡ []
all_dropped [] zero is = refl
all_dropped [] (suc n) is = refl
all_dropped (x ∷ xs) zero is = absurd (omega (arith, is))
all_dropped (x ∷ xs) (suc n) is = all_dropped xs n (omega (arith, is))

serves : (d e f g : Desk) (ins : List PieceIn) (places : List ℕ) → e ≡ after_posts ins d → DrainsRow 0 e f → DrainsRow (length places) f g
    → places ≡ map place_of ins → ExecutesPieces (map place_of ins) d g
serves d e f g ins places posted helped collected named =
    let all = works_then 0 (length places) e f g helped collected in
    let count : length places ≡ length (map place_of ins) = ap (λ (l : List ℕ). length l) named in
    let within : length places ≡ length (map with_place ins) = count ∙ rw length-map (sym (rw length-map refl)) in record {
      posts = ap (λ (q : Desk). q.posts) all.is ∙ ap (λ (q : Desk). q.posts) posted;
      collects = (let a = ap (λ (q : Desk). q.collects) all.is in let b = ap (λ (q : Desk). q.collects) posted in omega (arith, a, b, count));
      free = ap (λ (q : Desk). q.posted) all.is ∙ ap (λ (q : Desk). drop (0 + length places) q.posted) posted ∙ all_dropped (map with_place ins) (0 + length places) (omega (arith, within));
      given = all.given;
      gave = ap (λ (q : Desk). q.given) all.is ∙ ap (λ (q : Desk). q.given ++ all.given) posted;
      finishes = (let a = ap (λ (q : Desk). q.finishes) all.is in let b = ap (λ (q : Desk). q.finishes) posted in omega (arith, a, b));
      row = ap (λ (q : Desk). q.row) all.is ∙ ap (λ (q : Desk). q.row) posted;
    }

pub if_serves : {V E : Type 0} (r : Result V E) (d e f g : Desk) (ins : List PieceIn) (places : List ℕ) → e ≡ after_posts ins d → DrainsRow 0 e f
    → IfOk r (λ _. DrainsRow (length places) f g) → places ≡ map place_of ins → IfOk r (λ _. ExecutesPieces (map place_of ins) d g)
if_serves (Ok v) d e f g ins places posted helped collected named = serves d e f g ins places posted helped collected named
if_serves (Err v) d e f g ins places posted helped collected named = collected
