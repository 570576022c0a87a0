-- Operations and replies in pairs.
use Rattle.std.proofs.Common.{◌≡◌, ℕ, zero, suc, ◌<◌, List, [], ◌∷◌, length, map, get_or, refl, sym, ap, ◌∙◌, arith}
use Rattle.std.specs.Prelude.{zip, slice_index, slice_index_or, IsPermutation, Contains}
use Rattle.std.specs.List.{range_with_len}
use Rattle.std.proofs.lemmas.List.{same_lists, get_or-map, get_or_default, length-map}
use Rattle.std.proofs.lemmas.List.FromFn.{fill_by_all}
use Rattle.std.proofs.lemmas.List.Sorted.{IsPermutation-refl, IsPermutation-map}
use Rattle.reply_order.specs.Order.{AreInOrder}

-- the first and the second parts of pairs, which are the pairs of these parts
pub firsts : {X Y : Type 0} (xs : List X) (ys : List Y) → length ys ≡ length xs → map (λ (p : X × Y). p.0) (zip xs ys) ≡ xs
firsts [] ys long = refl
firsts (x ∷ xs) [] long = absurd (omega (arith, long))
firsts (x ∷ xs) (y ∷ ys) long = ap (λ l. x ∷ l) (firsts xs ys (omega (arith, long)))

pub length_zip : {X Y : Type 0} (xs : List X) (ys : List Y) → length ys ≡ length xs → length (zip xs ys) ≡ length xs
length_zip [] ys long = refl
length_zip (x ∷ xs) [] long = absurd (omega (arith, long))
length_zip (x ∷ xs) (y ∷ ys) long = ap suc (length_zip xs ys (omega (arith, long)))

pub rezipped : {X Y : Type 0} (ps : List (X × Y)) → zip (map (λ p. p.0) ps) (map (λ p. p.1) ps) ≡ ps
rezipped [] = refl
rezipped (p ∷ ps) = ap (λ l. p ∷ l) (rezipped ps)

pub zip_at : {X Y : Type 0} (xs : List X) (ys : List Y) (k : ℕ) (d : X) (e : Y) → length ys ≡ length xs → k < length xs
    → get_or (zip xs ys) k (d, e) ≡ (get_or xs k d, get_or ys k e)
zip_at [] ys k d e long less = absurd (omega (arith, less))
zip_at (x ∷ xs) [] k d e long less = absurd (omega (arith, long))
zip_at (x ∷ xs) (y ∷ ys) zero d e long less = refl
zip_at (x ∷ xs) (y ∷ ys) (suc k) d e long less = zip_at xs ys k d e (omega (arith, long)) (omega (arith, less))

-- a pair of a zipped list stands at one index of both
pub zipped_at : {X Y : Type 0} (xs : List X) (ys : List Y) (x : X) (y : Y) → length ys ≡ length xs → Contains (zip xs ys) (x, y)
    → (j : ℕ) × (j < length xs) × (get_or xs j x ≡ x) × (get_or ys j y ≡ y)
zipped_at {X} {Y} xs ys x y long (j, below, is) =
    let within : j < length xs = omega (arith, below, length_zip xs ys long) in
    let at : (get_or xs j x, get_or ys j y) ≡ (x, y) = sym (zip_at xs ys j x y long within) ∙ is in
    (j, within, ap (λ (p : X × Y). p.0) at, ap (λ (p : X × Y). p.1) at)

-- a function of the first parts
zip_map : {P X Y : Type 0} (f : P → X) (ps : List P) (ys : List Y) → zip (map f ps) ys ≡ map (λ (p : P × Y). (f p.0, p.1)) (zip ps ys)
zip_map f [] ys = refl
zip_map f (p ∷ ps) [] = refl
zip_map f (p ∷ ps) (y ∷ ys) = ap (λ l. (f p, y) ∷ l) (zip_map f ps ys)

module _ {O R : Type 0} (places : List ℕ) (ops served : List O) (replies ordered : List R) (order : AreInOrder places replies ordered)
    (all : length ops ≡ length places) (as_many : length served ≡ length places)
    (each : (k : ℕ) (d : O) → k < length places → slice_index_or served k d ≡ slice_index_or ops (slice_index places k) d) where
  by_default : O → IsPermutation (zip ops ordered) (zip served replies)
  by_default d =
      let at = λ (k : ℕ). get_or ops k d in
      let whole : ops ≡ map at (range_with_len 0 (length places)) = fill_by_all at ops (length places) d all (λ k less. refl) in
      let of_places : served ≡ map at places =
      same_lists served (map at places) (as_many ∙ sym (length-map places at))
      (λ k e less. let below : k < length places = omega (arith, less, as_many) in
      get_or_default served k e d less ∙ (each k d below ∙ sym (get_or-map at places k 0 e below))) in
      let f : ℕ × R → O × R = λ p. (at p.0, p.1) in
      rw (whole, of_places, zip_map at (range_with_len 0 (length places)) ordered, zip_map at places replies)
      (IsPermutation-map f (zip (range_with_len 0 (length places)) ordered) (zip places replies) order.mixed)

-- where each served operation is the one at its place
pub paired : {O R : Type 0} (places : List ℕ) (ops served : List O) (replies ordered : List R) → AreInOrder places replies ordered
    → length ops ≡ length places → length served ≡ length places
    → ((k : ℕ) (d : O) → k < length places → slice_index_or served k d ≡ slice_index_or ops (slice_index places k) d)
    → IsPermutation (zip ops ordered) (zip served replies)
paired places [] [] replies ordered order all as_many each = IsPermutation-refl []
paired places [] (o ∷ served) replies ordered order all as_many each = absurd (omega (arith, all, as_many))
paired places (o ∷ ops) served replies ordered order all as_many each = by_default places (o ∷ ops) served replies ordered order all as_many each o
