-- Counts of words: a list of words with their counts, in the order of the words' bytes. The word that is a front of
-- another comes first.
use Rattle.std.specs.Prelude.{◌≡◌, ℕ, ◌+◌, ◌<◌, ◌↔◌, List, [], ◌∷◌, ◌++◌, map, codes, decimal, flat_map, Contains}
use Rattle.std.specs.Ordering.{match_ordering, nat_cmp}
use Rattle.std.specs.Cmp.Lexicographic.{slice_cmp}
use Rattle.std.specs.List.{AllByRecursion}
use Rattle.std.specs.declared.cmp.Ordering.{Ordering}
use Rattle.std.specs.declared.cmp.Ordering.TheVariants.{Less}
use Rattle.std.specs.declared.vec.Vec.{Vec}
use Rattle.std.specs.declared.alloc.Global.{Global}
use Rattle.shared_calls.specs.Serial.{SerialObject}
use Rattle.word_counts.specs.declared.counts.WordCounts.{WordCounts}
use Rattle.word_counts.specs.Words.{words_of, occurrences}

-- the order of two words
abbrev pub order : List ℕ → List ℕ → Ordering
order = slice_cmp nat_cmp

-- the counts where a word was found once more: its count rises, or it comes to its place with the count 1
abbrev pub counted : List (List ℕ × ℕ) → List ℕ → List (List ℕ × ℕ)
counted [] word = (word, 1) ∷ []
counted (e ∷ counts) word = match_ordering (order word e.0) ((word, 1) ∷ e ∷ counts) ((e.0, e.1 + 1) ∷ counts) (e ∷ counted counts word)

-- the count of a word, and 0 for one that has none
abbrev pub count_in : List (List ℕ × ℕ) → List ℕ → ℕ
count_in [] word = 0
count_in (e ∷ counts) word = match_ordering (order word e.0) 0 e.1 (count_in counts word)

-- the counts where these words were found, one after another
abbrev pub all_counted : List (List ℕ × ℕ) → List (List ℕ) → List (List ℕ × ℕ)
all_counted counts [] = counts
all_counted counts (word ∷ words) = all_counted (counted counts word) words

-- the counts of the words of a text, counted one by one
abbrev pub counts_of : List ℕ → List (List ℕ × ℕ)
counts_of text = all_counted [] (words_of text)

-- The object that threads share. An operation is a word, which is found once more; its reply is the new count.
abbrev pub tally : SerialObject (Vec ℕ Global) ℕ
tally = record {
  State = List (List ℕ × ℕ);
  opening = [];
  after = λ counts word. counted counts word.items;
  reply = λ counts word. count_in counts word.items + 1;
}

-- the words of a map with their counts
abbrev pub entries_of : WordCounts → List (List ℕ × ℕ)
entries_of w = map (λ e. (e.0.items, e.1)) w.map.entries

-- the line of a word: the word, a space, its count
abbrev pub line_of : List ℕ × ℕ → List ℕ
line_of e = e.0 ++ (codes " " ++ (decimal e.1 ++ codes "\n"))

-- the text of the counts, one line a word
abbrev pub lines_of : List (List ℕ × ℕ) → List ℕ
lines_of counts = flat_map line_of counts

-- the words ascend, each below all that come after it
abbrev pub Ascend : List (List ℕ × ℕ) → Type 0
Ascend [] = Unit {0}
Ascend (e ∷ counts) = AllByRecursion (λ (f : List ℕ × ℕ). order e.0 f.0 ≡ Less) counts × Ascend counts

-- The counts ascend, and they have a word with a count exactly where the word is among these words, so often.
pub record CountWords (words : List (List ℕ)) (counts : List (List ℕ × ℕ)) : Type 0 where
  pub ascend : Ascend counts
  pub exact : (word : List ℕ) (count : ℕ) → Contains counts (word, count) ↔ ((count ≡ occurrences word words) × (0 < count))
