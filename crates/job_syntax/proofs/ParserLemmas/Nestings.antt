-- The nesting of derived items, and the number of blocks open at each `{` of their words.
use Rattle.std.proofs.Common.{◌≡◌, ℕ, ◌+◌, ◌-◌, ◌<◌, ◌≤◌, List, [], ◌∷◌, ◌++◌, refl, sym, ap, ◌∙◌, append_assoc, arith, subst}
use Rattle.std.specs.Prelude.{Bool, IsTrue, ◌||◌, ◌↔◌}
use Rattle.std.specs.List.{AllByRecursion}
use Rattle.std.proofs.lemmas.List.{map-append}
use Rattle.limits.specs.declared.TheConstants.{MOST_OPEN_BLOCKS}
use Rattle.job_syntax.specs.declared.lexer.word.Word.{Word}
use Rattle.job_syntax.specs.declared.lexer.word.Word.TheVariants.{Open, Close, Number}
use Rattle.job_syntax.specs.declared.lexer.word.WordOnLine.{WordOnLine}
use Rattle.job_syntax.specs.Grammar.{Items, nothing, leaf_then, block_then, BlockKind, seq_block, par_block, for_loop, pfor_loop, Leaf, is_number, is_loop, IsLeaf, IsBlockKind, AreItems, Derives, items_words, leaf_words, kind_words}
use Rattle.job_syntax.specs.Faults.{words_of, has_good_numbers, open_behind, AreClean}
use Rattle.job_syntax.specs.Blocks.{nesting}
use Rattle.job_syntax.specs.ItemsOf.{AreKnown}
use Rattle.job_syntax.proofs.ParserLemmas.Plain.{is_plain, ArePlain, by_plain}
use Rattle.job_syntax.proofs.ParserLemmas.MachineAnswers.{open_behind-push}
use Rattle.job_syntax.proofs.ParserLemmas.Completions.{front_goes_on}

-- at each `{` fewer blocks are open than may be, where `n` are open at the front
abbrev pub AreNested : ℕ → List Word → Type 0
AreNested n [] = Unit {0}
AreNested n (Open ∷ words) = (n < MOST_OPEN_BLOCKS) × AreNested (n + 1) words
AreNested n (Close ∷ words) = AreNested (n - 1) words
AreNested n (_ ∷ words) = AreNested n words

-- neither a leaf nor the head of a block has a brace
skip_word : (n : ℕ) (w : Word) (words : List Word) → IsTrue (is_plain w) → AreNested n (w ∷ words) ↔ AreNested n words
skip_word n Open words plain = absurd (cc plain)
skip_word n Close words plain = absurd (cc plain)
skip_word n _ words plain = ((λ h. h), (λ h. h))

skip_plain : (n : ℕ) (front words : List Word) → ArePlain front → AreNested n (front ++ words) ↔ AreNested n words
skip_plain n [] words plain = ((λ h. h), (λ h. h))
skip_plain n (w ∷ front) words plain =
    let first = skip_word n w (front ++ words) plain.0 in
    let more = skip_plain n front words plain.1 in
    ((λ h. more.0 (first.0 h)), (λ h. first.1 (more.1 h)))

skip_leaf : (looped : Bool) (n : ℕ) (leaf : Leaf) (words : List Word) → IsLeaf looped leaf → AreNested n (leaf_words leaf ++ words) ↔ AreNested n words
skip_leaf looped n leaf words fits = by_plain (λ front. AreNested n (front ++ words) ↔ AreNested n words) (λ front plain. skip_plain n front words plain) (λ name front plain. skip_plain n front words plain) looped leaf fits

skip_number : (n : ℕ) (number : Word) (words : List Word) → IsTrue (is_number number) → AreNested n (number ∷ words) ↔ AreNested n words
skip_number n (Number number) words fits = ((λ h. h), (λ h. h))
skip_number n _ words fits = absurd (cc fits)

skip_kind : (n : ℕ) (kind : BlockKind) (words : List Word) → IsBlockKind kind → AreNested n (kind_words kind ++ Open ∷ words) ↔ AreNested n (Open ∷ words)
skip_kind n seq_block words fits = ((λ h. h), (λ h. h))
skip_kind n par_block words fits = ((λ h. h), (λ h. h))
skip_kind n (for_loop copies) words fits = skip_number n copies (Open ∷ words) fits
skip_kind n (pfor_loop copies) words fits = skip_number n copies (Open ∷ words) fits

leaf_front : (leaf : Leaf) (more : Items) (words : List Word) → items_words (leaf_then leaf more) ++ words ≡ leaf_words leaf ++ (items_words more ++ words)
leaf_front leaf more words = append_assoc (leaf_words leaf) (items_words more) words

block_front : (kind : BlockKind) (body more : Items) (words : List Word) →
    items_words (block_then kind body more) ++ words ≡ kind_words kind ++ Open ∷ (items_words body ++ Close ∷ (items_words more ++ words))
block_front kind body more words =
    append_assoc (kind_words kind) (Open ∷ (items_words body ++ Close ∷ items_words more)) words
    ∙ ap (λ behind. kind_words kind ++ Open ∷ behind) (append_assoc (items_words body) (Close ∷ items_words more) words)

after_close_again : (n : ℕ) → n + 1 - 1 ≡ n
after_close_again n = omega arith

-- the nesting of items follows from the blocks open at their braces
pub nesting_within : (looped : Bool) (n : ℕ) (items : Items) (words : List Word) → AreItems looped items → n ≤ MOST_OPEN_BLOCKS →
    AreNested n (items_words items ++ words) → (n + nesting items ≤ MOST_OPEN_BLOCKS) × AreNested n words
nesting_within looped n nothing words fits room within_nesting = (omega (arith, room), within_nesting)
nesting_within looped n (leaf_then leaf more) words fits room within_nesting =
    nesting_within looped n more words fits.1 room
    ((skip_leaf looped n leaf (items_words more ++ words) fits.0).0 (subst (AreNested n) (leaf_front leaf more words) within_nesting))
nesting_within looped n (block_then kind body more) words fits room within_nesting =
    let behind = items_words body ++ Close ∷ (items_words more ++ words) in
    let inside : AreNested n (Open ∷ behind) = (skip_kind n kind behind fits.0).0 (subst (AreNested n) (block_front kind body more words) within_nesting) in
    let first = nesting_within (looped || is_loop kind) (n + 1) body (Close ∷ (items_words more ++ words)) fits.1 (omega (arith, inside.0)) inside.1 in
    let rest = nesting_within looped n more words fits.2 room (subst (λ m. AreNested m (items_words more ++ words)) (after_close_again n) first.1) in
    (omega (arith, first.0, rest.0), rest.1)

-- the blocks open at the braces follow from the nesting of the items
pub nested_within : (looped : Bool) (n : ℕ) (items : Items) (words : List Word) → AreItems looped items → n + nesting items ≤ MOST_OPEN_BLOCKS →
    AreNested n words → AreNested n (items_words items ++ words)
nested_within looped n nothing words fits room within_nesting = within_nesting
nested_within looped n (leaf_then leaf more) words fits room within_nesting =
    subst (AreNested n) (sym (leaf_front leaf more words))
    ((skip_leaf looped n leaf (items_words more ++ words) fits.0).1 (nested_within looped n more words fits.1 room within_nesting))
nested_within looped n (block_then kind body more) words fits room within_nesting =
    let rest = nested_within looped n more words fits.2 (omega (arith, room)) within_nesting in
    let first = nested_within (looped || is_loop kind) (n + 1) body (Close ∷ (items_words more ++ words)) fits.1 (omega (arith, room))
    (subst (λ m. AreNested m (items_words more ++ words)) (sym (after_close_again n)) rest) in
    subst (AreNested n) (sym (block_front kind body more words))
    ((skip_kind n kind (items_words body ++ Close ∷ (items_words more ++ words)) fits.0).1 (omega (arith, room), first))

-- the same for one word
nested_first : (n : ℕ) (word : Word) (words : List Word) → (word ≡ Open → n < MOST_OPEN_BLOCKS) → AreNested (open_behind n (word ∷ [])) words → AreNested n (word ∷ words)
nested_first n Open words room within_nesting = (room refl, within_nesting)
nested_first n Close words room within_nesting = within_nesting
nested_first n _ words room within_nesting = within_nesting

first_nests : (n : ℕ) (word : Word) (words : List Word) → AreNested n (word ∷ words) → (word ≡ Open → n < MOST_OPEN_BLOCKS) × AreNested (open_behind n (word ∷ [])) words
first_nests n Open words within_nesting = ((λ e. within_nesting.0), within_nesting.1)
first_nests n Close words within_nesting = ((λ e. absurd (cc e)), within_nesting)
first_nests n _ words within_nesting = ((λ e. absurd (cc e)), within_nesting)

-- clean tokens have good numbers and nest
pub good_when_clean : (tokens before : List WordOnLine) → AreClean before tokens → AllByRecursion (λ token. IsTrue (has_good_numbers token.word)) tokens
good_when_clean [] before clean = tt
good_when_clean (token ∷ tokens) before clean = (clean.0.numbers, good_when_clean tokens (before ++ token ∷ []) clean.1)

pub known_when_clean : (tokens before : List WordOnLine) → AreClean before tokens → AreKnown before tokens
known_when_clean [] before clean = tt
known_when_clean (token ∷ tokens) before clean = (clean.0.known, known_when_clean tokens (before ++ token ∷ []) clean.1)

pub nested_when_clean : (tokens before : List WordOnLine) → AreClean before tokens → AreNested (open_behind 0 (words_of before)) (words_of tokens)
nested_when_clean [] before clean = tt
nested_when_clean (token ∷ tokens) before clean =
    nested_first (open_behind 0 (words_of before)) token.word (words_of tokens) clean.0.nests
    (subst (λ n. AreNested n (words_of tokens)) (open_behind-push before token) (nested_when_clean tokens (before ++ token ∷ []) clean.1))

front_derived : (before : List WordOnLine) (token : WordOnLine) (tokens : List WordOnLine) (items : Items) → Derives (words_of (before ++ token ∷ tokens)) items →
    Derives (words_of ((before ++ token ∷ []) ++ tokens)) items
front_derived before token tokens items derives = subst (λ all. Derives (words_of all) items) (sym (append_assoc before (token ∷ []) tokens)) derives

-- derived tokens with good numbers that nest, and whose names are known, are clean
pub clean_when_nested : (tokens before : List WordOnLine) (items : Items) → Derives (words_of (before ++ tokens)) items →
    AllByRecursion (λ token. IsTrue (has_good_numbers token.word)) tokens → AreNested (open_behind 0 (words_of before)) (words_of tokens) → AreKnown before tokens → AreClean before tokens
clean_when_nested [] before items derives good within_nesting known = tt
clean_when_nested (token ∷ tokens) before items derives good within_nesting known =
    let first = first_nests (open_behind 0 (words_of before)) token.word (words_of tokens) within_nesting in
    let all = front_derived before token tokens items derives in
    let split = map-append (λ (token : WordOnLine). token.word) (before ++ token ∷ []) tokens in (
      record {
        stands = front_goes_on (words_of (before ++ token ∷ [])) (words_of tokens) items (subst (λ words. Derives words items) split all);
        numbers = good.0;
        nests = first.0;
        known = known.0;
      },
      clean_when_nested tokens (before ++ token ∷ []) items all good.1
          (subst (λ n. AreNested n (words_of tokens)) (sym (open_behind-push before token)) first.1) known.1,
    )
