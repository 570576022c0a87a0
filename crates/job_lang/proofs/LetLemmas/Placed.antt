-- The leaves with places are those of the job, and a leaf has a source where it uses a name.
use Rattle.std.proofs.Common.{ℕ, zero, suc, ◌≡◌, ◌+◌, List, [], ◌∷◌, ◌++◌, length, map, Option, Some, None, is_some, refl, sym, ap, ◌∙◌}
use Rattle.std.proofs.lemmas.List.{map-append}
use Rattle.job_names.specs.declared.name.Name.{Name}
use Rattle.job_syntax.specs.declared.lexer.word.Word.{Word}
use Rattle.job_syntax.specs.declared.lexer.word.Word.TheVariants.{Open}
use Rattle.job_syntax.specs.Blocks.{word_number}
use Rattle.job_syntax.specs.Grammar.{Leaf, BlockKind, seq_block, par_block, for_loop, pfor_loop, Items, nothing, leaf_then, block_then, leaf_words, kind_words, items_words}
use Rattle.job_syntax.specs.Arguments.{name_used}
use Rattle.job_lang.specs.Meaning.{act_of, each_copy, in_block, acts_in, each_leaf}
use Rattle.job_lang.specs.Uses.{uses_name}
use Rattle.job_lang.specs.Places.{PlacedLeaf, placed_in, placed_leaves, innermost, act_at, with_copy, IsSourceOf}
use Rattle.job_lang.proofs.LetLemmas.Lists.{EachWith}

both_by : {X Y : Type 0} (rule : Y → X) (xs xs' : List X) (ys ys' : List Y) → xs ≡ map rule ys → xs' ≡ map rule ys' → xs ++ xs' ≡ map rule (ys ++ ys')
both_by rule xs xs' ys ys' e f = ap (λ x. x ++ xs') e ∙ ap (λ x. map rule ys ++ x) f ∙ sym (map-append rule ys ys')

copies_by : {X Y : Type 0} (rule : Y → X) (n : ℕ) (f : ℕ → List X) (g : ℕ → List Y) → ((k : ℕ) → f k ≡ map rule (g k)) → each_copy n f ≡ map rule (each_copy n g)
copies_by rule zero f g e = refl
copies_by rule (suc n) f g e = both_by rule (each_copy n f) (f n) (each_copy n g) (g n) (copies_by rule n f g e) (e n)

last_copy : (copy : ℕ) (copies : List ℕ) (k : ℕ) → innermost copy (copies ++ k ∷ []) ≡ k
last_copy copy [] k = refl
last_copy copy (inner ∷ copies) k = last_copy inner copies k

-- the acts of a block, where this is so of its body
block_acts : (kind : BlockKind) (copy : ℕ) (copies : List ℕ) (inside : ℕ) (body : Items) → innermost 0 copies ≡ copy
    → ((copy : ℕ) (around : List ℕ) → innermost 0 around ≡ copy → acts_in copy body ≡ map act_at (placed_in inside around body))
    → in_block kind copy (λ k. acts_in k body) ≡ map act_at (in_block kind 0 (λ k. placed_in inside (with_copy kind copies k) body))
block_acts seq_block copy copies inside body e one = one copy copies e
block_acts par_block copy copies inside body e one = one copy copies e
block_acts (for_loop n) copy copies inside body e one =
    copies_by act_at (word_number n) (λ k. acts_in k body) (λ k. placed_in inside (copies ++ k ∷ []) body) (λ k. one k (copies ++ k ∷ []) (last_copy 0 copies k))
block_acts (pfor_loop n) copy copies inside body e one =
    copies_by act_at (word_number n) (λ k. acts_in k body) (λ k. placed_in inside (copies ++ k ∷ []) body) (λ k. one k (copies ++ k ∷ []) (last_copy 0 copies k))

acts_by : (items : Items) (at copy : ℕ) (copies : List ℕ) → innermost 0 copies ≡ copy → acts_in copy items ≡ map act_at (placed_in at copies items)
acts_by nothing at copy copies e = refl
acts_by (leaf_then leaf more) at copy copies e =
    both_by act_at (act_of copy leaf ∷ []) (acts_in copy more) (record { leaf = leaf; before = at; copies = copies } ∷ []) (placed_in (at + length (leaf_words leaf)) copies more)
    (ap (λ k. act_of k leaf ∷ []) (sym e)) (acts_by more (at + length (leaf_words leaf)) copy copies e)
acts_by (block_then kind body more) at copy copies e =
    let inside = at + length (kind_words kind ++ Open ∷ []) in
    let next = at + length (items_words (block_then kind body nothing)) in
    both_by act_at (in_block kind copy (λ k. acts_in k body)) (acts_in copy more) (in_block kind 0 (λ k. placed_in inside (with_copy kind copies k) body)) (placed_in next copies more)
    (block_acts kind copy copies inside body e (λ copy around e. acts_by body inside copy around e)) (acts_by more next copy copies e)

-- the acts of the job are those of the leaves with places
pub acts_placed : (items : Items) → acts_in 0 items ≡ map act_at (placed_leaves items)
acts_placed items = acts_by items 0 0 [] refl

block_by : {X Y : Type 0} (rule : Y → X) (kind : BlockKind) (f : ℕ → List X) (g : ℕ → List Y) → ((k : ℕ) → f k ≡ map rule (g k)) → in_block kind 0 f ≡ map rule (in_block kind 0 g)
block_by rule seq_block f g e = e 0
block_by rule par_block f g e = e 0
block_by rule (for_loop n) f g e = copies_by rule (word_number n) f g e
block_by rule (pfor_loop n) f g e = copies_by rule (word_number n) f g e

rule_by : {X : Type 0} (rule : Leaf → X) (items : Items) (at : ℕ) (copies : List ℕ) → each_leaf rule items ≡ map (λ (p : PlacedLeaf). rule p.leaf) (placed_in at copies items)
rule_by rule nothing at copies = refl
rule_by rule (leaf_then leaf more) at copies = ap (λ rest. rule leaf ∷ rest) (rule_by rule more (at + length (leaf_words leaf)) copies)
rule_by rule (block_then kind body more) at copies =
    let inside = at + length (kind_words kind ++ Open ∷ []) in
    let next = at + length (items_words (block_then kind body nothing)) in
    let copy : ℕ → List PlacedLeaf = λ k. placed_in inside (with_copy kind copies k) body in
    both_by (λ (p : PlacedLeaf). rule p.leaf) (in_block kind 0 (λ k. each_leaf rule body)) (each_leaf rule more) (in_block kind 0 copy) (placed_in next copies more)
    (block_by (λ (p : PlacedLeaf). rule p.leaf) kind (λ k. each_leaf rule body) copy (λ k. rule_by rule body inside (with_copy kind copies k))) (rule_by rule more next copies)

some_source : (words : List Word) (all : List PlacedLeaf) (source : Option ℕ) (at : PlacedLeaf) (used : Option Name) → IsSourceOf words all source at used → is_some source ≡ is_some used
some_source words all source at None h = ap is_some h
some_source words all source at (Some name) h = ap is_some h.is

used_by : (words : List Word) (all : List PlacedLeaf) (sources : List (Option ℕ)) (leaves : List PlacedLeaf) → EachWith (λ source at. IsSourceOf words all source at (name_used at.leaf)) sources leaves
    → map is_some sources ≡ map (λ (p : PlacedLeaf). uses_name p.leaf) leaves
used_by words all [] [] h = refl
used_by words all [] (at ∷ leaves) h = elim h [ ]
used_by words all (source ∷ sources) [] h = elim h [ ]
used_by words all (source ∷ sources) (at ∷ leaves) h =
    ap (λ b. b ∷ map is_some sources) (some_source words all source at (name_used at.leaf) h.0)
    ∙ ap (λ rest. uses_name at.leaf ∷ rest) (used_by words all sources leaves h.1)

-- the leaves that have a source are those that use a name
pub sources_used : (words : List Word) (items : Items) (sources : List (Option ℕ))
    → EachWith (λ source at. IsSourceOf words (placed_leaves items) source at (name_used at.leaf)) sources (placed_leaves items) → map is_some sources ≡ each_leaf uses_name items
sources_used words items sources h = used_by words (placed_leaves items) sources (placed_leaves items) h ∙ sym (rule_by uses_name items 0 [])
