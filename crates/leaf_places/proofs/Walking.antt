-- The places of leaves, item by item, and the words before them.
use Rattle.std.proofs.Common.{ℕ, ◌≡◌, ◌+◌, ◌<◌, List, [], ◌∷◌, ◌++◌, length, take, get_or, map, true, false, Vec, Global, sym, ap, ◌∙◌, arith, append_assoc, length-append}
use Rattle.std.specs.Prelude.{slice_index}
use Rattle.std.proofs.lemmas.List.{map-append}
use Rattle.job_names.specs.declared.name.Name.{Name}
use Rattle.job_syntax.specs.declared.item.Item.{Item, Leaf as ItemLeaf, Let as ItemLet, Block}
use Rattle.job_syntax.specs.declared.item.Item.TheOpen.{Item-F}
use Rattle.job_syntax.specs.declared.item.Leaf.{Leaf as CodeLeaf}
use Rattle.job_syntax.specs.declared.item.BlockKind.{BlockKind as CodeBlockKind}
use Rattle.job_syntax.specs.Grammar.{Items, nothing, leaf_then, block_then, ◌then◌, BlockKind, seq_block, par_block, for_loop, pfor_loop, is_loop, leaf_words, items_words}
use Rattle.job_syntax.specs.Views.{items_of, item_of, item_step, leaf_of, block_kind_of}
use Rattle.job_syntax.proofs.ParserLemmas.Levels.{items_of_more, item_of_leaf, item_of_let, item_of_block, level_of}
use Rattle.job_lang.specs.Places.{PlacedLeaf, placed_in}
use Rattle.job_lang.proofs.LimitLemmas.WordCounts.{leaf_writes}
use Rattle.leaf_places.specs.Places.{Place, place_on}
use Rattle.leaf_places.specs.Code.Walk.{outside, places_from}

-- an item writes at least one word

step_writes : (x : Item-F Items) → 0 < length (items_words (item_step x))
step_writes (Item-F.Leaf leaf) = simp length-append (omega (arith, leaf_writes (leaf_of leaf)))
step_writes (Item-F.Let name call) = simp length-append (omega arith)
step_writes (Item-F.Block kind inside) = simp length-append (omega arith)

pub item_writes : (x : Item) → 0 < length (items_words (item_of x))
item_writes x = let level = level_of x in let h = step_writes level.0 in let e = ap (λ y. length (items_words y)) level.1 in omega (arith, h, e)

-- the words of a block

block_word_count : (kind : BlockKind) (body more : Items) → length (items_words (block_then kind body more)) ≡ length (items_words (block_then kind body nothing)) + length (items_words more)
block_word_count kind body more = simp length-append (omega arith)

pub loop_words : (kind : BlockKind) (body : Items) → is_loop kind ≡ true → length (items_words (block_then kind body nothing)) ≡ length (items_words body) + 4
loop_words seq_block body is = cc
loop_words par_block body is = cc
loop_words (for_loop n) body is = simp length-append (omega arith)
loop_words (pfor_loop n) body is = simp length-append (omega arith)

pub series_words : (kind : BlockKind) (body : Items) → is_loop kind ≡ false → length (items_words (block_then kind body nothing)) ≡ length (items_words body) + 3
series_words seq_block body is = simp length-append (omega arith)
series_words par_block body is = simp length-append (omega arith)
series_words (for_loop n) body is = cc
series_words (pfor_loop n) body is = cc

-- the places of one item's leaves

pub leaf_places : (lines : List ℕ) (before : ℕ) (leaf : CodeLeaf) → places_from lines before (item_of (ItemLeaf leaf)) ≡ outside (slice_index lines before) ∷ []
leaf_places lines before leaf = ap (places_from lines before) (item_of_leaf leaf)

pub let_places : (lines : List ℕ) (before : ℕ) (name : Name) (call : CodeLeaf) → places_from lines before (item_of (ItemLet name call)) ≡ outside (slice_index lines before) ∷ []
let_places lines before name call = ap (places_from lines before) (item_of_let name call)

pub block_places : (lines : List ℕ) (before : ℕ) (kind : CodeBlockKind) (inside : Vec Item Global)
    → places_from lines before (item_of (Block kind inside)) ≡ places_from lines before (block_then (block_kind_of kind) (items_of inside.items) nothing)
block_places lines before kind inside = ap (places_from lines before) (item_of_block kind inside)

-- the leaves of items that stand one after another

front_back : (xs ys zs ws : List PlacedLeaf) → ws ≡ ys ++ zs → xs ++ ws ≡ (xs ++ ys) ++ zs
front_back xs ys zs ws e = ap (λ w. xs ++ w) e ∙ sym (append_assoc xs ys zs)

placed_then : (a b : Items) (before : ℕ) (copies : List ℕ) → placed_in before copies (a then b) ≡ placed_in before copies a ++ placed_in (before + length (items_words a)) copies b
placed_then nothing b before copies =
    let same : before ≡ before + 0 = omega arith in
    ap (λ n. placed_in n copies b) same
placed_then (leaf_then leaf a) b before copies =
    let next = before + length (leaf_words leaf) in
    let far : next + length (items_words a) ≡ before + length (leaf_words leaf ++ items_words a) = omega (arith, length-append (leaf_words leaf) (items_words a)) in
    let one : PlacedLeaf = record { leaf = leaf; before = before; copies = copies } in
    ap (λ rest. one ∷ rest) (placed_then a b next copies ∙ ap (λ n. placed_in next copies a ++ placed_in n copies b) far)
placed_then (block_then kind body a) b before copies =
    let next = before + length (items_words (block_then kind body nothing)) in
    let far : next + length (items_words a) ≡ before + length (items_words (block_then kind body a)) = omega (arith, block_word_count kind body a) in
    front_back _ (placed_in next copies a) (placed_in (before + length (items_words (block_then kind body a))) copies b) (placed_in next copies (a then b))
    (placed_then a b next copies ∙ ap (λ n. placed_in next copies a ++ placed_in n copies b) far)

-- the places of the leaves of the first items and one more
pub places_more : (lines : List ℕ) (xs : List Item) (i : ℕ) (x : Item) (first begin : ℕ) (old now new : List Place) → i < length xs → x ≡ get_or xs i x
    → begin ≡ first + length (items_words (items_of (take i xs))) → now ≡ old ++ places_from lines first (items_of (take i xs)) → new ≡ now ++ places_from lines begin (item_of x)
    → new ≡ old ++ places_from lines first (items_of (take (i + 1) xs))
places_more lines xs i x first begin old now new within is at e f =
    let a = items_of (take i xs) in
    let b = item_of x in
    let both : places_from lines first (items_of (take (i + 1) xs)) ≡ places_from lines first a ++ places_from lines begin b =
    ap (places_from lines first) (items_of_more xs i x within is) ∙ ap (map (place_on lines)) (placed_then a b first [])
    ∙ map-append (place_on lines) (placed_in first [] a) (placed_in (first + length (items_words a)) [] b)
    ∙ ap (λ n. places_from lines first a ++ places_from lines n b) (sym at) in
    f ∙ ap (λ ys. ys ++ places_from lines begin b) e ∙ append_assoc old (places_from lines first a) (places_from lines begin b) ∙ ap (λ ys. old ++ ys) (sym both)
