-- The number of words that items write, one after another.
use Rattle.std.proofs.Common.{◌≡◌, ℕ, ◌+◌, ◌<◌, ◌≤◌, List, length, take, drop, get_or, Vec, Global, sym, ap, ◌∙◌, arith, append-nil, length-append}
use Rattle.std.proofs.Math.Seq.{take-append_seam, drop-append_seam}
use Rattle.std.proofs.lemmas.List.{take-map, drop-map}
use Rattle.job_syntax.specs.declared.lexer.word.WordOnLine.{WordOnLine}
use Rattle.job_names.specs.declared.name.Name.{Name}
use Rattle.job_syntax.specs.declared.item.Item.{Item, Leaf as ItemLeaf, Let as ItemLet, Block}
use Rattle.job_syntax.specs.declared.item.Leaf.{Leaf as CodeLeaf}
use Rattle.job_syntax.specs.declared.item.BlockKind.{BlockKind as CodeBlockKind}
use Rattle.job_syntax.specs.Grammar.{Items, ◌then◌, Leaf, work, call, bound, leaf_words, kind_words, items_words}
use Rattle.job_syntax.specs.Faults.{words_of}
use Rattle.job_syntax.specs.Views.{items_of, item_of, leaf_of, block_kind_of}
use Rattle.job_syntax.proofs.ParserLemmas.Derivations.{words_then}
use Rattle.job_syntax.proofs.ParserLemmas.Levels.{items_of_more, items_of_parts, item_of_leaf, item_of_let, item_of_block}

-- the words of the first items come first, and those of the others after them
pub front_words : (tokens : List WordOnLine) (before rest : Items) → items_words (before then rest) ≡ words_of tokens → items_words before ≡ words_of (take (length (items_words before)) tokens)
front_words tokens before rest writes =
    sym (take-append_seam (items_words before) (items_words rest)) ∙ ap (take (length (items_words before))) (sym (words_then before rest) ∙ writes)
    ∙ take-map (λ token. token.word) (length (items_words before)) tokens

pub behind_words : (tokens : List WordOnLine) (before rest : Items) → items_words (before then rest) ≡ words_of tokens → items_words rest ≡ words_of (drop (length (items_words before)) tokens)
behind_words tokens before rest writes =
    sym (drop-append_seam (items_words before) (items_words rest)) ∙ ap (drop (length (items_words before))) (sym (words_then before rest) ∙ writes)
    ∙ drop-map (λ token. token.word) (length (items_words before)) tokens

-- each leaf writes at least one word
pub leaf_writes : (leaf : Leaf) → 0 < length (leaf_words leaf)
leaf_writes (work argument) = omega arith
leaf_writes (call verb object argument) = omega arith
leaf_writes (bound name given) = omega arith

pub front_word_count : (xs : List Item) (i : ℕ) → length (items_words (items_of (take i xs))) ≤ length (items_words (items_of xs))
front_word_count xs i =
    let e = ap (λ items. length (items_words items)) (items_of_parts xs i) in
    let f = ap length (words_then (items_of (take i xs)) (items_of (drop i xs))) in
    omega (arith, e, f, length-append (items_words (items_of (take i xs))) (items_words (items_of (drop i xs))))

pub word_count_more : (xs : List Item) (i : ℕ) (x : Item) → i < length xs → x ≡ get_or xs i x → length (items_words (items_of (take (i + 1) xs))) ≡ length (items_words (items_of (take i xs))) + length (items_words (item_of x))
word_count_more xs i x h e =
    ap (λ items. length (items_words items)) (items_of_more xs i x h e)
    ∙ ap length (words_then (items_of (take i xs)) (item_of x)) ∙ length-append (items_words (items_of (take i xs))) (items_words (item_of x))

-- an item writes no more words than the items that it is one of
pub word_count_item : (x : Item) (xs : List Item) (i : ℕ) → i < length xs → x ≡ get_or xs i x → length (items_words (item_of x)) ≤ length (items_words (items_of xs))
word_count_item x xs i h e = omega (arith, word_count_more xs i x h e, front_word_count xs (i + 1))

pub leaf_item_word_count : (leaf : CodeLeaf) → length (items_words (item_of (ItemLeaf leaf))) ≡ length (leaf_words (leaf_of leaf))
leaf_item_word_count leaf = ap (λ items. length (items_words items)) (item_of_leaf leaf) ∙ ap length (append-nil (leaf_words (leaf_of leaf)))

pub let_item_word_count : (name : Name) (leaf : CodeLeaf) → length (items_words (item_of (ItemLet name leaf))) ≡ length (leaf_words (leaf_of leaf)) + 3
let_item_word_count name leaf =
    let e = ap (λ items. length (items_words items)) (item_of_let name leaf) in
    let f = ap length (append-nil (leaf_words (leaf_of leaf))) in
    omega (arith, e, f)

pub block_item_word_count : (kind : CodeBlockKind) (inside : Vec Item Global) → length (items_words (item_of (Block kind inside))) ≡ length (kind_words (block_kind_of kind)) + length (items_words (items_of inside.items)) + 2
block_item_word_count kind inside =
    ap (λ items. length (items_words items)) (item_of_block kind inside)
    ∙ simp length-append (omega arith)
