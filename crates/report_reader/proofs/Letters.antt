-- Words of a table, which consist of letters: a text begins with one in one way.
use Rattle.std.proofs.Common.{◌≡◌, ℕ, true, List, [], ◌∷◌, ◌++◌, take, drop, Option, Some, None, sym, ap, ◌∙◌}
use Rattle.std.specs.Char.{is_ascii_lowercase}
use Rattle.std.specs.List.{prefix_len, list_all}
use Rattle.decimals.specs.Runs.{AllBelong}
use Rattle.decimals.proofs.Runs.{runs_apart, run_ends, run_split, split_parts}
use Rattle.job_names.proofs.SameNames.{and_left, and_right}
use Rattle.report_reader.specs.Code.Fields.{IsLettersThen}

letters : (word : List ℕ) → list_all is_ascii_lowercase word ≡ true → AllBelong is_ascii_lowercase word
letters [] all = tt
letters (byte ∷ word) all = (and_left (is_ascii_lowercase byte) _ all, letters word (and_right (is_ascii_lowercase byte) _ all))

pub some_same : {T : Type 0} (a b : T) → Some a ≡ Some b → a ≡ b
some_same a b is = cc (is)

-- words that are found by their texts
module _ {T : Type 0} (text_of : T → List ℕ) (by_text : List ℕ → Option T) (is : (word : T) → list_all is_ascii_lowercase (text_of word) ≡ true) (found : (word : T) → by_text (text_of word) ≡ Some word) where
  -- two words at the front of one text are one, with one rest
  pub word_way : (text : List ℕ) (a b : T) (r s : List ℕ) → IsLettersThen (text_of a) text r → IsLettersThen (text_of b) text s → (a ≡ b) × (r ≡ s)
  word_way text a b r s x y =
      let parts = runs_apart is_ascii_lowercase (text_of a) (text_of b) r s (letters (text_of a) (is a)) (letters (text_of b) (is b)) x.ends y.ends (x.written ∙ sym y.written) in
      (some_same a b (sym (found a) ∙ ap by_text parts.0 ∙ found b), parts.1)

  -- where the run of letters is no word, the text begins with none
  pub no_word : (k : ℕ) (text front : List ℕ) → k ≡ prefix_len is_ascii_lowercase text → front ≡ take k text → by_text front ≡ None → (word : T) (rest : List ℕ) → IsLettersThen (text_of word) text rest → ⊥
  no_word k text front at run none word rest x =
      let same = (run_split is_ascii_lowercase k text at (text_of word) rest (letters (text_of word) (is word)) x.ends x.written).0 in
      let some : Some word ≡ None = sym (found word) ∙ ap by_text (sym (run ∙ same)) ∙ none in
      cc (some)

-- where the run of letters is a word, the text begins with it
pub word_read : (k : ℕ) (text front back word : List ℕ) → k ≡ prefix_len is_ascii_lowercase text → front ≡ take k text → back ≡ drop k text → word ≡ front → IsLettersThen word text back
word_read k text front back word at run behind is = record {
  written = ap (λ w. w ++ back) is ∙ split_parts k text front back run behind;
  ends = run_ends is_ascii_lowercase k text at back behind;
}
