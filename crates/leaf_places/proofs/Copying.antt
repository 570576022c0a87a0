-- The places of leaves, copy by copy.
use Rattle.std.proofs.Common.{ℕ, zero, suc, ◌≡◌, ◌+◌, List, [], ◌∷◌, ◌++◌, length, map, true, false, refl, sym, ap, ◌∙◌, arith, append_assoc, append-nil}
use Rattle.std.specs.Prelude.{slice_index}
use Rattle.std.proofs.lemmas.List.{map-append}
use Rattle.job_syntax.specs.declared.lexer.word.Word.TheVariants.{Open}
use Rattle.job_syntax.specs.Blocks.{word_number, copies_of}
use Rattle.job_syntax.specs.Grammar.{Items, nothing, leaf_then, block_then, BlockKind, seq_block, par_block, for_loop, pfor_loop, is_loop, leaf_words, kind_words, items_words}
use Rattle.job_lang.specs.Meaning.{each_copy, in_block}
use Rattle.job_lang.specs.Places.{PlacedLeaf, with_copy, placed_in}
use Rattle.leaf_places.specs.Places.{Place, place_on}
use Rattle.leaf_places.specs.Code.Walk.{in_copy, places_from}

map_copies : {X Y : Type 0} (f : X → Y) (n : ℕ) (g : ℕ → List X) → map f (each_copy n g) ≡ each_copy n (λ k. map f (g k))
map_copies f zero g = refl
map_copies f (suc n) g = map-append f (each_copy n g) (g n) ∙ ap (λ ys. ys ++ map f (g n)) (map_copies f n g)

-- copies that have nothing make nothing
pub no_copies : {X : Type 0} (n : ℕ) (f : ℕ → List X) → ((k : ℕ) → f k ≡ []) → each_copy n f ≡ []
no_copies zero f none = refl
no_copies (suc n) f none = ap (λ xs. xs ++ f n) (no_copies n f none) ∙ none n

-- one more copy
pub copies_more : {X : Type 0} (n : ℕ) (f : ℕ → List X) (old now new : List X) → now ≡ old ++ each_copy n f → new ≡ now ++ f n → new ≡ old ++ each_copy (n + 1) f
copies_more n f old now new e g =
    let next : suc n ≡ n + 1 = omega arith in
    g ∙ ap (λ xs. xs ++ f n) e ∙ append_assoc old (each_copy n f) (f n) ∙ ap (λ m. old ++ each_copy m f) next

module _ (lines : List ℕ) (copy : ℕ) where
  both_in : (xs xs' ys ys' : List PlacedLeaf)
      → map (place_on lines) xs ≡ map (in_copy copy) (map (place_on lines) ys) → map (place_on lines) xs' ≡ map (in_copy copy) (map (place_on lines) ys')
      → map (place_on lines) (xs ++ xs') ≡ map (in_copy copy) (map (place_on lines) (ys ++ ys'))
  both_in xs xs' ys ys' e f =
      map-append (place_on lines) xs xs' ∙ ap (λ z. z ++ map (place_on lines) xs') e ∙ ap (λ z. map (in_copy copy) (map (place_on lines) ys) ++ z) f
      ∙ sym (map-append (in_copy copy) (map (place_on lines) ys) (map (place_on lines) ys')) ∙ ap (map (in_copy copy)) (sym (map-append (place_on lines) ys ys'))

  copies_in : (n : ℕ) (f g : ℕ → List PlacedLeaf) → ((k : ℕ) → map (place_on lines) (f k) ≡ map (in_copy copy) (map (place_on lines) (g k)))
      → map (place_on lines) (each_copy n f) ≡ map (in_copy copy) (map (place_on lines) (each_copy n g))
  copies_in zero f g e = refl
  copies_in (suc n) f g e = both_in (each_copy n f) (f n) (each_copy n g) (g n) (copies_in n f g e) (e n)

  -- the leaves of a copy of one more loop have the same lines, and this copy before the others
  block_in : (kind : BlockKind) (inside : ℕ) (body : Items) (copies : List ℕ)
      → ((around : List ℕ) → map (place_on lines) (placed_in inside (copy ∷ around) body) ≡ map (in_copy copy) (map (place_on lines) (placed_in inside around body)))
      → map (place_on lines) (in_block kind 0 (λ k. placed_in inside (with_copy kind (copy ∷ copies) k) body))
      ≡ map (in_copy copy) (map (place_on lines) (in_block kind 0 (λ k. placed_in inside (with_copy kind copies k) body)))
  block_in seq_block inside body copies one = one copies
  block_in par_block inside body copies one = one copies
  block_in (for_loop n) inside body copies one =
      copies_in (word_number n) (λ k. placed_in inside (copy ∷ (copies ++ k ∷ [])) body) (λ k. placed_in inside (copies ++ k ∷ []) body) (λ k. one (copies ++ k ∷ []))
  block_in (pfor_loop n) inside body copies one =
      copies_in (word_number n) (λ k. placed_in inside (copy ∷ (copies ++ k ∷ [])) body) (λ k. placed_in inside (copies ++ k ∷ []) body) (λ k. one (copies ++ k ∷ []))

  inside_copy : (items : Items) (before : ℕ) (copies : List ℕ)
      → map (place_on lines) (placed_in before (copy ∷ copies) items) ≡ map (in_copy copy) (map (place_on lines) (placed_in before copies items))
  inside_copy nothing before copies = refl
  inside_copy (leaf_then leaf more) before copies =
      let one : Place = record { line = slice_index lines before; copies = copy ∷ copies } in
      ap (λ rest. one ∷ rest) (inside_copy more (before + length (leaf_words leaf)) copies)
  inside_copy (block_then kind body more) before copies =
      let inside = before + length (kind_words kind ++ Open ∷ []) in
      let next = before + length (items_words (block_then kind body nothing)) in
      both_in (in_block kind 0 (λ k. placed_in inside (with_copy kind (copy ∷ copies) k) body)) (placed_in next (copy ∷ copies) more)
      (in_block kind 0 (λ k. placed_in inside (with_copy kind copies k) body)) (placed_in next copies more)
      (block_in kind inside body copies (λ around. inside_copy body inside around)) (inside_copy more next copies)

looped : (lines : List ℕ) (before n : ℕ) (body : Items)
    → map (place_on lines) (each_copy n (λ k. placed_in before (k ∷ []) body) ++ []) ≡ each_copy n (λ k. map (in_copy k) (places_from lines before body))
looped lines before n body =
    let g : ℕ → List PlacedLeaf = λ k. placed_in before (k ∷ []) body in
    ap (map (place_on lines)) (append-nil (each_copy n g)) ∙ map_copies (place_on lines) n g ∙ (λ i. each_copy n (λ k. inside_copy lines k body before [] i))

-- the places of a loop's leaves are those of its items in each copy
pub loop_places : (lines : List ℕ) (before : ℕ) (kind : BlockKind) (body : Items) → is_loop kind ≡ true
    → places_from lines before (block_then kind body nothing) ≡ each_copy (copies_of kind) (λ k. map (in_copy k) (places_from lines (before + 3) body))
loop_places lines before seq_block body is = cc
loop_places lines before par_block body is = cc
loop_places lines before (for_loop n) body is = looped lines (before + 3) (word_number n) body
loop_places lines before (pfor_loop n) body is = looped lines (before + 3) (word_number n) body

-- the places of another block's leaves are those of its items
pub series_places : (lines : List ℕ) (before : ℕ) (kind : BlockKind) (body : Items) → is_loop kind ≡ false
    → places_from lines before (block_then kind body nothing) ≡ places_from lines (before + 2) body
series_places lines before seq_block body is = ap (map (place_on lines)) (append-nil (placed_in (before + 2) [] body))
series_places lines before par_block body is = ap (map (place_on lines)) (append-nil (placed_in (before + 2) [] body))
series_places lines before (for_loop n) body is = cc
series_places lines before (pfor_loop n) body is = cc
