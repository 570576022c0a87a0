-- The words of each leaf's item stand where its place says.
use Rattle.std.proofs.Common.{ℕ, zero, suc, ◌≡◌, ◌+◌, List, [], ◌∷◌, ◌++◌, length, take, drop, refl, sym, ap, ◌∙◌, arith, append_assoc, append-nil, length-append}
use Rattle.std.specs.List.{AllByRecursion}
use Rattle.std.proofs.lemmas.List.{take_at, drop_at}
use Rattle.seq_objects.proofs.Elements.{each_append}
use Rattle.job_syntax.specs.declared.lexer.word.Word.{Word}
use Rattle.job_syntax.specs.declared.lexer.word.Word.TheVariants.{Open, Close}
use Rattle.job_syntax.specs.Blocks.{word_number}
use Rattle.job_syntax.specs.Grammar.{Items, nothing, leaf_then, block_then, BlockKind, seq_block, par_block, for_loop, pfor_loop, Leaf, leaf_words, kind_words, items_words}
use Rattle.job_lang.specs.Meaning.{each_copy, in_block}
use Rattle.job_lang.specs.Places.{PlacedLeaf, with_copy, placed_in, placed_leaves}
use Rattle.leaf_places.specs.Places.{StandsIn}

all_copies : {X : Type 0} (P : X → Type 0) (n : ℕ) (f : ℕ → List X) → ((k : ℕ) → AllByRecursion P (f k)) → AllByRecursion P (each_copy n f)
all_copies P zero f each = tt
all_copies P (suc n) f each = each_append P (each_copy n f) (f n) (all_copies P n f each) (each n)

all_in_block : {X : Type 0} (P : X → Type 0) (kind : BlockKind) (f : ℕ → List X) → ((k : ℕ) → AllByRecursion P (f k)) → AllByRecursion P (in_block kind 0 f)
all_in_block P seq_block f each = each 0
all_in_block P par_block f each = each 0
all_in_block P (for_loop n) f each = all_copies P (word_number n) f each
all_in_block P (pfor_loop n) f each = all_copies P (word_number n) f each

module _ (words : List Word) where
  here : (front : List Word) (leaf : Leaf) (more behind : List Word) (before : ℕ) → front ++ ((leaf_words leaf ++ more) ++ behind) ≡ words → length front ≡ before
      → take (length (leaf_words leaf)) (drop before words) ≡ leaf_words leaf
  here front leaf more behind before are far =
      ap (λ all. take (length (leaf_words leaf)) (drop before all)) (sym are)
      ∙ ap (take (length (leaf_words leaf))) (drop_at front ((leaf_words leaf ++ more) ++ behind) before far ∙ append_assoc (leaf_words leaf) more behind)
      ∙ take_at (leaf_words leaf) (more ++ behind) (length (leaf_words leaf)) refl

  next : (front first more behind : List Word) → front ++ ((first ++ more) ++ behind) ≡ words → (front ++ first) ++ (more ++ behind) ≡ words
  next front first more behind are = append_assoc front first (more ++ behind) ∙ ap (λ all. front ++ all) (sym (append_assoc first more behind)) ∙ are

  further : (front first : List Word) (before : ℕ) → length front ≡ before → length (front ++ first) ≡ before + length first
  further front first before far = omega (arith, far, length-append front first)

  -- the words of a block, split before its items and behind them
  opened : (front : List Word) (kind : BlockKind) (body more : Items) (behind : List Word) → front ++ (items_words (block_then kind body more) ++ behind) ≡ words
      → (front ++ (kind_words kind ++ Open ∷ [])) ++ (items_words body ++ (Close ∷ (items_words more ++ behind))) ≡ words
  opened front kind body more behind are =
      let same : (front ++ (kind_words kind ++ Open ∷ [])) ++ (items_words body ++ (Close ∷ (items_words more ++ behind))) ≡ front ++ (items_words (block_then kind body more) ++ behind) =
      simp append_assoc refl in
      same ∙ are

  closed : (front : List Word) (kind : BlockKind) (body more : Items) (behind : List Word) → front ++ (items_words (block_then kind body more) ++ behind) ≡ words
      → (front ++ items_words (block_then kind body nothing)) ++ (items_words more ++ behind) ≡ words
  closed front kind body more behind are =
      let same : (front ++ items_words (block_then kind body nothing)) ++ (items_words more ++ behind) ≡ front ++ (items_words (block_then kind body more) ++ behind) =
      simp append_assoc refl in
      same ∙ are

  standing : (items : Items) (front behind : List Word) (before : ℕ) (copies : List ℕ) → front ++ (items_words items ++ behind) ≡ words → length front ≡ before
      → AllByRecursion (StandsIn words) (placed_in before copies items)
  standing nothing front behind before copies are far = tt
  standing (leaf_then leaf more) front behind before copies are far = (
    here front leaf (items_words more) behind before are far,
    standing more (front ++ leaf_words leaf) behind (before + length (leaf_words leaf)) copies
        (next front (leaf_words leaf) (items_words more) behind are) (further front (leaf_words leaf) before far),
  )
  standing (block_then kind body more) front behind before copies are far =
      let head = kind_words kind ++ Open ∷ [] in
      let whole = items_words (block_then kind body nothing) in
      let copy : ℕ → List PlacedLeaf = λ k. placed_in (before + length head) (with_copy kind copies k) body in
      each_append (StandsIn words) (in_block kind 0 copy) (placed_in (before + length whole) copies more)
      (all_in_block (StandsIn words) kind copy
      (λ k. standing body (front ++ head) (Close ∷ (items_words more ++ behind)) (before + length head) (with_copy kind copies k) (opened front kind body more behind are) (further front head before far)))
      (standing more (front ++ whole) behind (before + length whole) copies (closed front kind body more behind are) (further front whole before far))

-- the leaves of items stand among the words that the items write
pub all_stand : (words : List Word) (items : Items) → items_words items ≡ words → AllByRecursion (StandsIn words) (placed_leaves items)
all_stand words items writes = standing words items [] [] 0 [] (append-nil (items_words items) ∙ writes) refl
