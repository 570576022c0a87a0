-- The first word of a line, and the first line of a text.
use Rattle.std.proofs.Common.{◌≡◌, ℕ, zero, suc, ◌+◌, ◌-◌, ◌<◌, ◌≤◌, List, [], ◌∷◌, length, take, drop, get_or, Bool, true, false, not, cond, refl, ap, sym, ◌∙◌, arith, add-one, drop-cons, filter, inl, inr, length-drop}
use Rattle.std.specs.List.{slice_split, onto_first, position_or_len}
use Rattle.std.proofs.lemmas.List.Splits.{slice_split-cons_yes, slice_split_first}
use Rattle.std.proofs.lemmas.List.Sums.{passes_at_first, prefix_len-le-length}
use Rattle.std.proofs.lemmas.Bool.{cases_lt}
use Rattle.std.proofs.lemmas.List.{take_all, drop_all}
use Rattle.batch_script.specs.Scripts.{is_blank, is_line_feed, is_some_of, words}

pub words_blank : (byte : ℕ) (line : List ℕ) → is_blank byte ≡ true → words (byte ∷ line) ≡ words line
words_blank byte line is = ap (λ parts. filter (λ word. is_some_of word) parts) (slice_split-cons_yes (λ b. is_blank b) byte line is)

pub position_within : {X : Type 0} (p : X → Bool) (xs : List X) → position_or_len p xs ≤ length xs
position_within p xs = prefix_len-le-length (λ x. not (p x)) xs

-- a part ends where the first element passes, or with the list
pub first_part : {X : Type 0} (p : X → Bool) (xs : List X) → position_or_len p xs < length xs
    → slice_split p xs ≡ take (position_or_len p xs) xs ∷ slice_split p (drop (position_or_len p xs + 1) xs)
first_part p [] less = absurd (omega arith)
first_part p (x ∷ xs) less = slice_split_first p (x ∷ xs) x less

pub last_part : {X : Type 0} (p : X → Bool) (xs : List X) → length xs ≤ position_or_len p xs → slice_split p xs ≡ xs ∷ []
last_part p [] le = refl
last_part {X} p (x ∷ xs) le = step (p x) refl (last_part p xs) where
  step : (t : Bool) → p x ≡ t → (length xs ≤ position_or_len p xs → slice_split p xs ≡ xs ∷ []) → slice_split p (x ∷ xs) ≡ (x ∷ xs) ∷ []
  step true is rest = absurd (omega (arith, rw is at le))
  step false is rest = rw is (ap (λ parts. onto_first x parts) (rest (omega (arith, rw is at le))))

begins : {X : Type 0} (n : ℕ) (xs : List X) → 0 < n → 0 < length xs → is_some_of (take n xs) ≡ true
begins n [] some any = absurd (omega arith)
begins zero (x ∷ xs) some any = absurd (omega arith)
begins (suc n) (x ∷ xs) some any = refl

kept : (word : List ℕ) (parts : List (List ℕ)) → is_some_of word ≡ true
    → filter (λ w. is_some_of w) (word ∷ parts) ≡ word ∷ filter (λ w. is_some_of w) parts
kept word parts is = rw is refl

drop_here : (line : List ℕ) (n : ℕ) → n < length line → drop n line ≡ get_or line n 0 ∷ drop (n + 1) line
drop_here line n less = rw (add-one, drop-cons line n 0)

inner : (n : ℕ) (line : List ℕ) → n ≡ position_or_len (λ b. is_blank b) line → 0 < n → n < length line
    → words line ≡ take n line ∷ words (drop n line)
inner n line is some less =
    let less' : position_or_len (λ b. is_blank b) line < length line = rw (← is) less in
    let split : slice_split (λ b. is_blank b) line ≡ take n line ∷ slice_split (λ b. is_blank b) (drop (n + 1) line) = rw is (first_part (λ b. is_blank b) line less') in
    let blank : is_blank (get_or line n 0) ≡ true = rw is (passes_at_first (λ b. is_blank b) line 0 less') in
    let rest : words (drop n line) ≡ words (drop (n + 1) line) = ap words (drop_here line n less) ∙ words_blank (get_or line n 0) (drop (n + 1) line) blank in
    ap (λ parts. filter (λ w. is_some_of w) parts) split ∙ kept (take n line) (slice_split (λ b. is_blank b) (drop (n + 1) line)) (begins n line some (omega arith)) ∙ ap (λ ws. take n line ∷ ws) (sym rest)

whole : (n : ℕ) (line : List ℕ) → n ≡ position_or_len (λ b. is_blank b) line → 0 < n → 0 < length line → length line ≤ n
    → words line ≡ take n line ∷ words (drop n line)
whole n line is some any le =
    let split = last_part (λ b. is_blank b) line (rw (← is) le) in
    rw (take_all n line le, drop_all n line le) (ap (λ parts. filter (λ w. is_some_of w) parts) split ∙ kept line [] (rw (take_all n line le) at (begins n line some any)))

-- the first word ends before the first blank
pub words_first : (n : ℕ) (line : List ℕ) → 0 < length line → n ≡ position_or_len (λ b. is_blank b) line → is_blank (get_or line 0 0) ≡ false
    → words line ≡ take n line ∷ words (drop n line)
words_first n [] any is starts = absurd (omega arith)
words_first n (byte ∷ line) any is starts =
    let some : 0 < n = let e = rw starts at is in omega arith in
    elim (cases_lt n (length (byte ∷ line))) [ inl less ↦ inner n (byte ∷ line) is some less | inr le ↦ whole n (byte ∷ line) is some (omega arith) le ]

-- a text's first line, and the lines behind its line feed
pub more_lines : (n : ℕ) (text : List ℕ) → n ≡ position_or_len (λ b. is_line_feed b) text → n < length text
    → slice_split (λ b. is_line_feed b) text ≡ take n text ∷ slice_split (λ b. is_line_feed b) (take (length text - (n + 1)) (drop (n + 1) text))
more_lines n text is less =
    let less' : position_or_len (λ b. is_line_feed b) text < length text = rw (← is) less in
    let split : slice_split (λ b. is_line_feed b) text ≡ take n text ∷ slice_split (λ b. is_line_feed b) (drop (n + 1) text) = rw is (first_part (λ b. is_line_feed b) text less') in
    let all : take (length text - (n + 1)) (drop (n + 1) text) ≡ drop (n + 1) text = take_all (length text - (n + 1)) (drop (n + 1) text) (omega (arith, length-drop (n + 1) text)) in
    rw all split

pub last_line : (n : ℕ) (text : List ℕ) → n ≡ position_or_len (λ b. is_line_feed b) text → length text ≤ n
    → slice_split (λ b. is_line_feed b) text ≡ text ∷ []
last_line n text is le = last_part (λ b. is_line_feed b) text (rw (← is) le)

onto_length : (byte : ℕ) (lines : List (List ℕ)) → length (onto_first byte lines) ≤ length lines + 1
onto_length byte [] = omega arith
onto_length byte (line ∷ lines) = omega arith

pub few_lines : (text : List ℕ) → length (slice_split (λ b. is_line_feed b) text) ≤ length text + 1
few_lines [] = omega arith
few_lines (byte ∷ text) = step (is_line_feed byte) (few_lines text) where
  step : (t : Bool) → length (slice_split (λ b. is_line_feed b) text) ≤ length text + 1
      → length (cond t ([] ∷ slice_split (λ b. is_line_feed b) text) (onto_first byte (slice_split (λ b. is_line_feed b) text))) ≤ length (byte ∷ text) + 1
  step true le = omega arith
  step false le = omega (arith, onto_length byte (slice_split (λ b. is_line_feed b) text))
