-- Pieces at consecutive places, and selecting those of each structure.
use Rattle.std.proofs.Common.{◌≡◌, ◌<◌, ◌≤◌, ℕ, ◌+◌, List, [], ◌∷◌, ◌++◌, length, map, refl, sym, ap, ◌∙◌, arith, append_assoc, Option, filter_map}
use Rattle.std.specs.List.{range_with_len}
use Rattle.launch_batch.proofs.Words.{AllByRecursion, PieceIn, place_of, placed}

placed_more : {In : Type 0} (make : ℕ → In → PieceIn) (place n : ℕ) (xs : List In) (x : In) → n ≡ place + length xs → placed make place (xs ++ x ∷ []) ≡ placed make place xs ++ make n x ∷ []
placed_more make place n [] x is = let e : place ≡ n = omega (arith, is) in ap (λ p. make p x ∷ []) e
placed_more make place n (y ∷ xs) x is = ap (λ l. make place y ∷ l) (placed_more make (place + 1) n xs x (omega (arith, is)))

-- appending one more piece
pub put_more : {In : Type 0} (make : ℕ → In → PieceIn) (old now : List PieceIn) (place n : ℕ) (xs : List In) (x : In) → now ≡ old ++ placed make place xs → n ≡ place + length xs
    → now ++ make n x ∷ [] ≡ old ++ placed make place (xs ++ x ∷ [])
put_more make old now place n xs x is at =
    ap (λ l. l ++ make n x ∷ []) is ∙ append_assoc old (placed make place xs) (make n x ∷ []) ∙ ap (λ l. old ++ l) (sym (placed_more make place n xs x at))

-- pieces in two parts, the second behind the first
placed_append : {In : Type 0} (make : ℕ → In → PieceIn) (place behind : ℕ) (xs ys : List In) → behind ≡ place + length xs → placed make place (xs ++ ys) ≡ placed make place xs ++ placed make behind ys
placed_append make place behind [] ys is = let e : place ≡ behind = omega (arith, is) in ap (λ p. placed make p ys) e
placed_append make place behind (x ∷ xs) ys is = ap (λ l. make place x ∷ l) (placed_append make (place + 1) behind xs ys (omega (arith, is)))

pub placed_both : {In : Type 0} (make : ℕ → In → PieceIn) (before : List PieceIn) (place behind : ℕ) (xs ys : List In) → behind ≡ place + length xs
    → (before ++ placed make place xs) ++ placed make behind ys ≡ before ++ placed make place (xs ++ ys)
placed_both make before place behind xs ys is = append_assoc before (placed make place xs) (placed make behind ys) ∙ ap (λ l. before ++ l) (sym (placed_append make place behind xs ys is))

-- their places
pub places_placed : {In : Type 0} (make : ℕ → In → PieceIn) (place : ℕ) (xs : List In) → ((n : ℕ) (x : In) → place_of (make n x) ≡ n)
    → map place_of (placed make place xs) ≡ range_with_len place (length xs)
places_placed make place [] has = refl
places_placed make place (x ∷ xs) has = rw (has place x, places_placed make (place + 1) xs has) refl

-- a property of a piece at each of these places holds for all pieces placed there
pub each_placed : {In : Type 0} (P : PieceIn → Type 0) (make : ℕ → In → PieceIn) (place : ℕ) (xs : List In)
    → ((n : ℕ) (x : In) → place ≤ n → n < place + length xs → P (make n x)) → AllByRecursion P (placed make place xs)
each_placed P make place [] holds = tt
each_placed P make place (x ∷ xs) holds = (
  holds place x (omega arith) (omega arith),
  each_placed P make (place + 1) xs (λ n y from below. holds n y (omega (arith, from)) (omega (arith, below))),
)

-- selecting from the pieces of a row: all of its own structure's, none of another's
pub all_own : {X : Type 0} (own : PieceIn → Option X) (make : ℕ → X → PieceIn) → ((n : ℕ) (x : X) (rest : List PieceIn) → filter_map own (make n x ∷ rest) ≡ x ∷ filter_map own rest)
    → (place : ℕ) (xs : List X) → filter_map own (placed make place xs) ≡ xs
all_own own make takes place [] = refl
all_own own make takes place (x ∷ xs) = takes place x (placed make (place + 1) xs) ∙ ap (λ l. x ∷ l) (all_own own make takes (place + 1) xs)

pub none_own : {X In : Type 0} (own : PieceIn → Option X) (make : ℕ → In → PieceIn) → ((n : ℕ) (x : In) (rest : List PieceIn) → filter_map own (make n x ∷ rest) ≡ filter_map own rest)
    → (place : ℕ) (xs : List In) → filter_map own (placed make place xs) ≡ []
none_own own make passes place [] = refl
none_own own make passes place (x ∷ xs) = passes place x (placed make (place + 1) xs) ∙ none_own own make passes (place + 1) xs
