-- The item with which the leaves are too many, and its first word.
use Rattle.std.proofs.Common.{◌≡◌, ℕ, suc, ◌+◌, ◌<◌, ◌≤◌, List, ◌∷◌, ◌++◌, length, take, drop, get_or, refl, sym, ap, ◌∙◌, arith, length-append, add-one}
use Rattle.std.proofs.lemmas.List.{take-append-drop, length-map}
use Rattle.std.proofs.Math.Seq.{drop-cons}
use Rattle.job_syntax.specs.declared.lexer.word.WordOnLine.{WordOnLine}
use Rattle.job_syntax.specs.declared.item.Item.{Item}
use Rattle.job_syntax.specs.declared.item.Item.TheOpen.{Item-F}
use Rattle.job_syntax.specs.Grammar.{Items, ◌then◌, items_words}
use Rattle.job_syntax.specs.Faults.{words_of}
use Rattle.job_lang.specs.Counts.{count, count_first}
use Rattle.job_lang.specs.Limits.{IsLeavesLine}
use Rattle.job_syntax.specs.Views.{items_of, item_of, item_step, leaf_of}
use Rattle.job_syntax.proofs.ParserLemmas.Levels.{level_of, items_of_parts}
use Rattle.job_lang.proofs.LimitLemmas.WordCounts.{front_words, leaf_writes, word_count_more, front_word_count}

step_counts : (x : Item-F Items) (more : Items) → count_first (item_step x then more) ≡ count (item_step x)
step_counts (Item-F.Leaf leaf) more = refl
step_counts (Item-F.Let name call) more = refl
step_counts (Item-F.Block kind inside) more = omega arith

-- `count_first` of an item before others is the item's `count`
item_counts : (x : Item) (more : Items) → count_first (item_of x then more) ≡ count (item_of x)
item_counts x more = let level = level_of x in ap (λ y. count_first (y then more)) level.1 ∙ step_counts level.0 more ∙ ap count (sym level.1)

step_writes : (x : Item-F Items) → 0 < length (items_words (item_step x))
step_writes (Item-F.Leaf leaf) = simp length-append (omega (arith, leaf_writes (leaf_of leaf)))
step_writes (Item-F.Let name call) = simp length-append (omega arith)
step_writes (Item-F.Block kind inside) = simp length-append (omega arith)

item_writes : (x : Item) → 0 < length (items_words (item_of x))
item_writes x = let level = level_of x in let h = step_writes level.0 in let e = ap (λ y. length (items_words y)) level.1 in omega (arith, h, e)

words_length : (words : List WordOnLine) (xs : List Item) → items_words (items_of xs) ≡ words_of words → length (items_words (items_of xs)) ≡ length words
words_length words xs writes = ap length writes ∙ length-map words (λ token. token.word)

-- the first word of an item is one of the text's
pub first_word : (words : List WordOnLine) (xs : List Item) (i place : ℕ) (x : Item) → items_words (items_of xs) ≡ words_of words → i < length xs → x ≡ get_or xs i x → place ≡ length (items_words (items_of (take i xs))) → place < length words
first_word words xs i place x writes within is at =
    omega (arith, words_length words xs writes, word_count_more xs i x within is, front_word_count xs (i + 1), item_writes x, at)

-- the words of an item are no more than the text's, and end within them
pub last_word : (words : List WordOnLine) (xs : List Item) (i place : ℕ) (x : Item) → items_words (items_of xs) ≡ words_of words → i < length xs → x ≡ get_or xs i x → place ≡ length (items_words (items_of (take i xs))) → place + length (items_words (item_of x)) ≤ length words
last_word words xs i place x writes within is at =
    omega (arith, words_length words xs writes, word_count_more xs i x within is, front_word_count xs (i + 1), at)

drop_at : (xs : List Item) (i : ℕ) (x : Item) → i < length xs → x ≡ get_or xs i x → drop i xs ≡ x ∷ drop (i + 1) xs
drop_at xs i x within is = rw (add-one, drop-cons xs i x) (ap (λ y. y ∷ drop (suc i) xs) (sym is))

drop_more : (xs : List WordOnLine) (i : ℕ) (d : WordOnLine) → i < length xs → drop i xs ≡ get_or xs i d ∷ drop (i + 1) xs
drop_more xs i d within = rw (add-one, drop-cons xs i d) refl

pub leaves_line_of : (words : List WordOnLine) (xs : List Item) (i place line : ℕ) (x : Item) (d : WordOnLine) → items_words (items_of xs) ≡ words_of words → i < length xs → x ≡ get_or xs i x → place ≡ length (items_words (items_of (take i xs)))
    → count (items_of (take i xs)) ≤ 20000 → 20000 < count (items_of (take i xs)) + count (item_of x) → line ≡ (get_or words place d).line
    → IsLeavesLine words (items_of xs) line
leaves_line_of words xs i place line x d writes within is at few many line_is = record {
  before = items_of (take i xs);
  from_item = items_of (drop i xs);
  parts = items_of_parts xs i;
  few = few;
  many = omega (arith, many, ap (λ ys. count_first (items_of ys)) (drop_at xs i x within is) ∙ item_counts x (items_of (drop (i + 1) xs)));
  front = take place words;
  first = get_or words place d;
  behind = drop (place + 1) words;
  stands = ap (λ ys. take place words ++ ys) (sym (drop_more words place d (first_word words xs i place x writes within is at))) ∙ take-append-drop place words;
  place = front_words words (items_of (take i xs)) (items_of (drop i xs)) (ap items_words (items_of_parts xs i) ∙ writes) ∙ ap (λ n. words_of (take n words)) (sym at);
  line_is = line_is;
}
