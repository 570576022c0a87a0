-- Distributing the inserts among the shards: together the shards get each insert once.
use Rattle.std.proofs.Common.{◌≡◌, ◌≢◌, ℕ, zero, suc, ◌+◌, ◌%◌, ◌<◌, ◌≤◌, nat_lt, List, [], ◌∷◌, ◌++◌, length, get_or, drop, Bool, true, false, ◌==◌, refl, ap, sym, ◌∙◌, arith}
use Rattle.std.proofs.lemmas.Grind.{common_steps}
use Rattle.std.proofs.lemmas.Bool.Decides.{nat_tests}
use Rattle.seq_objects.specs.Orders.{copies, one_if}
use Rattle.batched_pq.specs.declared.piece.Piece.{Piece}
use Rattle.batched_pq.specs.Calls.{inserts_for}
use Rattle.batched_pq.specs.Pieces.{ArePieces, shards_in}
use Rattle.batched_pq.proofs.Bags.{copies_append}

first_goes : (shard i item : ℕ) (items : List ℕ) → i % 8 ≡ shard
    → inserts_for shard i (item ∷ items) ≡ item ∷ inserts_for shard (i + 1) items
first_goes shard i item items is = grind (arith, nat_tests)

first_passes : (shard i item : ℕ) (items : List ℕ) → i % 8 ≢ shard
    → inserts_for shard i (item ∷ items) ≡ inserts_for shard (i + 1) items
first_passes shard i item items other = grind (arith, nat_tests)

-- the insert at a place goes to its shard, and to no other
pub goes : (shard i : ℕ) (items : List ℕ) → i < length items → i % 8 ≡ shard
    → inserts_for shard i (drop i items) ≡ get_or items i 0 ∷ inserts_for shard (i + 1) (drop (i + 1) items)
goes shard i items within is =
    let first : drop i items ≡ get_or items i 0 ∷ drop (i + 1) items = grind (arith, common_steps) in
    rw first (first_goes shard i (get_or items i 0) (drop (i + 1) items) is)

pub passes : (shard i : ℕ) (items : List ℕ) → i < length items → i % 8 ≢ shard
    → inserts_for shard i (drop i items) ≡ inserts_for shard (i + 1) (drop (i + 1) items)
passes shard i items within other =
    let first : drop i items ≡ get_or items i 0 ∷ drop (i + 1) items = grind (arith, common_steps) in
    rw first (first_passes shard i (get_or items i 0) (drop (i + 1) items) other)

-- no insert follows the last one
pub none_after : (shard i : ℕ) (items : List ℕ) → length items ≤ i
    → inserts_for shard i (drop i items) ≡ []
none_after shard i items past =
    let none : drop i items ≡ [] = grind (arith, common_steps) in
    rw none refl

-- none of this many inserts goes to the shard
passed : (count shard i : ℕ) (items : List ℕ) → ((j : ℕ) → j < count → (i + j) % 8 ≢ shard)
    → inserts_for shard i (drop i items) ≡ inserts_for shard (i + count) (drop (i + count) items)
passed zero shard i items others = let same : i + 0 ≡ i = omega arith in rw same refl
passed (suc count) shard i items others = step (nat_lt i (length items)) refl (λ later. passed count shard (i + 1) items later) where
  step : (within : Bool) → nat_lt i (length items) ≡ within
      → (((j : ℕ) → j < count → (i + 1 + j) % 8 ≢ shard) → inserts_for shard (i + 1) (drop (i + 1) items) ≡ inserts_for shard (i + 1 + count) (drop (i + 1 + count) items))
      → inserts_for shard i (drop i items) ≡ inserts_for shard (i + suc count) (drop (i + suc count) items)
  step true is rest =
      let other : i % 8 ≢ shard = λ same. others 0 (omega arith) (omega (arith, same)) in
      let next : i + suc count ≡ i + 1 + count = omega arith in
      rw next (passes shard i items (grind (arith, nat_tests)) other ∙ rest (λ j less same. others (j + 1) (omega (arith, less)) (omega (arith, same))))
  step false is rest =
      let all : length items ≤ i = grind (arith, nat_tests) in
      rw (none_after shard i items all, none_after shard (i + suc count) items (omega (arith, all))) refl

-- a shard's first insert is the one with its number
pub first_one : (shard : ℕ) (items : List ℕ) → shard < 8
    → inserts_for shard shard (drop shard items) ≡ inserts_for shard 0 items
first_one shard items less =
    let start : 0 + shard ≡ shard = omega arith in
    let all : drop 0 items ≡ items = grind (arith, common_steps) in
    sym (rw (start, all) at (passed shard shard 0 items (λ j below same. omega (arith, same, below, less))))

-- and its next one is the eighth from there
pub next_one : (shard i : ℕ) (items : List ℕ) → i < length items → i % 8 ≡ shard
    → inserts_for shard i (drop i items) ≡ get_or items i 0 ∷ inserts_for shard (i + 8) (drop (i + 8) items)
next_one shard i items within is =
    let next : i + 1 + 7 ≡ i + 8 = omega arith in
    goes shard i items within is ∙ ap (λ (xs : List ℕ). get_or items i 0 ∷ xs) (rw next at (passed 7 shard (i + 1) items (λ j less same. omega (arith, same, less, is))))

-- the copies of a number in the inserts of a number of consecutive shards
abbrev spread : (n i : ℕ) → List ℕ → (shard count : ℕ) → ℕ
spread n i items shard zero = 0
spread n i items shard (suc count) = copies n (inserts_for shard i items) + spread n i items (shard + 1) count

spread_none : (n i shard count : ℕ) → spread n i [] shard count ≡ 0
spread_none n i shard zero = refl
spread_none n i shard (suc count) = omega (arith, spread_none n i (shard + 1) count)

spread_past : (n i item : ℕ) (items : List ℕ) (shard count : ℕ) → i % 8 < shard
    → spread n i (item ∷ items) shard count ≡ spread n (i + 1) items shard count
spread_past n i item items shard zero past = refl
spread_past n i item items shard (suc count) past =
    let other : i % 8 ≢ shard = omega arith in
    rw (first_passes shard i item items other) (ap (λ k. copies n (inserts_for shard (i + 1) items) + k) (spread_past n i item items (shard + 1) count (omega arith)))

-- the first insert is in one of the shards
spread_first : (n i item : ℕ) (items : List ℕ) (shard count : ℕ) → shard ≤ i % 8
    → i % 8 < shard + count
    → spread n i (item ∷ items) shard count ≡ one_if (n == item) + spread n (i + 1) items shard count
spread_first n i item items shard zero from below = absurd (omega arith)
spread_first n i item items shard (suc count) from below = step (i % 8 == shard) refl (λ past. spread_first n i item items (shard + 1) count past (omega arith)) where
  step : (here : Bool) → (i % 8 == shard) ≡ here → (shard + 1 ≤ i % 8
      → spread n i (item ∷ items) (shard + 1) count ≡ one_if (n == item) + spread n (i + 1) items (shard + 1) count)
      → copies n (inserts_for shard i (item ∷ items)) + spread n i (item ∷ items) (shard + 1) count ≡ one_if (n == item) + (copies n (inserts_for shard (i + 1) items) + spread n (i + 1) items (shard + 1) count)
  step true is later =
      let here : i % 8 ≡ shard = grind (arith, nat_tests) in
      omega (arith, ap (λ xs. copies n xs) (first_goes shard i item items here), spread_past n i item items (shard + 1) count (omega arith))
  step false is later =
      let other : i % 8 ≢ shard = grind (arith, nat_tests) in
      omega (arith, ap (λ xs. copies n xs) (first_passes shard i item items other), later (omega arith))

spread_all : (n i : ℕ) (items : List ℕ) → spread n i items 0 8 ≡ copies n items
spread_all n i [] = spread_none n i 0 8
spread_all n i (item ∷ items) = spread_first n i item items 0 8 (omega arith) (omega arith) ∙ ap (λ k. one_if (n == item) + k) (spread_all n (i + 1) items)

-- the inserts in the pieces
abbrev pub inserts_in : List Piece → List ℕ
inserts_in [] = []
inserts_in (piece ∷ pieces) = piece.inserts.items ++ inserts_in pieces

pub pieces_count : (shard : ℕ) (inserts : List ℕ) (takes : ℕ) (pieces : List Piece)
    → ArePieces shard inserts takes pieces → shard + length pieces ≡ 8
pieces_count shard inserts takes [] dealt = omega (arith, dealt)
pieces_count shard inserts takes (piece ∷ pieces) dealt = omega (arith, pieces_count (shard + 1) inserts takes pieces dealt.2)

copies_spread : (n shard : ℕ) (inserts : List ℕ) (takes : ℕ) (pieces : List Piece)
    → ArePieces shard inserts takes pieces
    → copies n (inserts_in pieces) ≡ spread n 0 inserts shard (length pieces)
copies_spread n shard inserts takes [] dealt = refl
copies_spread n shard inserts takes (piece ∷ pieces) dealt =
    copies_append n piece.inserts.items (inserts_in pieces)
    ∙ rw dealt.0 (ap (λ k. copies n (inserts_for shard 0 inserts) + k) (copies_spread n (shard + 1) inserts takes pieces dealt.2))

pub copies_dealt : (n : ℕ) (inserts : List ℕ) (takes : ℕ) (pieces : List Piece)
    → ArePieces 0 inserts takes pieces → copies n (inserts_in pieces) ≡ copies n inserts
copies_dealt n inserts takes pieces dealt =
    let eight : length pieces ≡ 8 = omega (arith, pieces_count 0 inserts takes pieces dealt) in
    copies_spread n 0 inserts takes pieces dealt ∙ ap (λ k. spread n 0 inserts 0 k) eight ∙ spread_all n 0 inserts

pub shards_push : (pieces : List Piece) (piece : Piece)
    → shards_in (pieces ++ piece ∷ []) ≡ shards_in pieces ++ piece.shard ∷ []
shards_push [] piece = refl
shards_push (first ∷ pieces) piece = ap (λ shards. first.shard ∷ shards) (shards_push pieces piece)
