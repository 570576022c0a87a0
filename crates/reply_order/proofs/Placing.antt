-- Replies that are sorted by their places stand in the order of the calls.
use Rattle.std.proofs.Common.{◌≡◌, ℕ, ◌<◌, List, [], ◌∷◌, length, map, get_or, sym, ap, subst, ◌∙◌, arith}
use Rattle.std.specs.Prelude.{zip, slice_index, slice_index_or, IsPermutation, Contains}
use Rattle.std.specs.List.{range_with_len}
use Rattle.std.specs.List.Sorted.{IsNonDecreasingBy}
use Rattle.std.proofs.lemmas.List.{get_or-map, get_or_default, length-map}
use Rattle.std.proofs.lemmas.List.FromFn.{length-range_with_len, get_or-range_with_len}
use Rattle.std.proofs.lemmas.List.Sorted.{IsPermutation-map, IsPermutation-trans, IsPermutation-sym, Contains-permutation, length_permutation}
use Rattle.std.proofs.lemmas.List.Elements.{Contains-get_or}
use Rattle.reply_order.specs.Order.{AreInOrder}
use Rattle.reply_order.proofs.Pairing.{firsts, length_zip, rezipped, zip_at, zipped_at}
use Rattle.reply_order.proofs.Ranges.{is_range}

-- the keys of a list that ascends by them
keys_ascend : {X : Type 0} (key : X → ℕ) (xs : List X) → IsNonDecreasingBy key xs → IsNonDecreasingBy (λ (y : ℕ). y) (map key xs)
keys_ascend key [] up i j d less below = absurd (omega (arith, below))
keys_ascend key (x ∷ xs) up i j d less below =
    let far : j < length (x ∷ xs) = omega (arith, below, length-map (x ∷ xs) key) in
    let near : i < length (x ∷ xs) = omega (arith, less, far) in
    let one = get_or-map key (x ∷ xs) i x d near in
    let other = get_or-map key (x ∷ xs) j x d far in
    let from = up i j x less far in
    rw (one, other) from

module _ {R : Type 0} (places : List ℕ) (replies : List R) (pairs : List (ℕ × R)) (ordered : List R)
    (all : IsPermutation (range_with_len 0 (length places)) places) (count : length replies ≡ length places)
    (mixed : IsPermutation (zip places replies) pairs) (up : IsNonDecreasingBy (λ (p : ℕ × R). p.0) pairs)
    (is : ordered ≡ map (λ (p : ℕ × R). p.1) pairs) where
  as_many : length pairs ≡ length places
  as_many = length_permutation (zip places replies) pairs mixed ∙ length_zip places replies count

  keys : map (λ (p : ℕ × R). p.0) pairs ≡ range_with_len 0 (length places)
  keys =
      let key = λ (p : ℕ × R). p.0 in
      let from : IsPermutation places (map key pairs) =
      subst (λ (l : List ℕ). IsPermutation l (map key pairs)) (firsts places replies count) (IsPermutation-map key (zip places replies) pairs mixed) in
      is_range (length places) (map key pairs) (length-map pairs key ∙ as_many) (keys_ascend key pairs up)
      (IsPermutation-trans (range_with_len 0 (length places)) places (map key pairs) all from)

  whole : zip (range_with_len 0 (length places)) ordered ≡ pairs
  whole = rw (← keys, is) (rezipped pairs)

  together : IsPermutation (zip places replies) (zip (range_with_len 0 (length places)) ordered)
  together = rw whole mixed

  ordered_count : length ordered ≡ length places
  ordered_count = ap length is ∙ (length-map pairs (λ (p : ℕ × R). p.1) ∙ as_many)

  at_its_place : (k : ℕ) (d : R) → k < length places → slice_index_or ordered (slice_index places k) d ≡ slice_index_or replies k d
  at_its_place k d less =
      let n = length places in
      let place = get_or places k 0 in
      let reply = get_or replies k d in
      let ranged : length ordered ≡ length (range_with_len 0 n) = ordered_count ∙ sym (length-range_with_len 0 n) in
      let near : k < length (zip places replies) = omega (arith, less, length_zip places replies count) in
      let there : Contains (zip places replies) (place, reply) =
      subst (λ (p : ℕ × R). Contains (zip places replies) p) (zip_at places replies k 0 d count less) (Contains-get_or (zip places replies) k (0, d) near) in
      let found = Contains-permutation (zip places replies) (zip (range_with_len 0 n) ordered) (place, reply) together there in
      let at = zipped_at (range_with_len 0 n) ordered place reply ranged found in
      let j : ℕ = at.0 in
      let within : j < n = omega (arith, at.1, length-range_with_len 0 n) in
      let is : j ≡ place = omega (arith, at.2, get_or-range_with_len 0 n j place within) in
      let inside : j < length ordered = omega (arith, within, ordered_count) in
      ap (λ (i : ℕ). get_or ordered i d) (sym is) ∙ (get_or_default ordered j d reply inside ∙ at.3)

  pub are_in_order : AreInOrder places replies ordered
  are_in_order = record {
    count = ordered_count ∙ sym count;
    each = at_its_place;
    mixed = IsPermutation-sym (zip places replies) (zip (range_with_len 0 (length places)) ordered) together;
  }
