-- A job with too many leaves has exactly one leaves line.
use Rattle.std.proofs.Common.{◌≡◌, ℕ, zero, suc, ◌+◌, ◌-◌, ◌*◌, ◌<◌, ◌≤◌, List, [], ◌∷◌, ◌++◌, length, take, drop, refl, sym, ap, ◌∙◌, arith, inl, inr, length-append}
use Rattle.std.proofs.lemmas.Bool.{cases_lt}
use Rattle.std.proofs.lemmas.List.{take-append-drop, length-map}
use Rattle.job_syntax.specs.declared.lexer.word.WordOnLine.{WordOnLine}
use Rattle.job_syntax.specs.Grammar.{Items, nothing, leaf_then, block_then, Leaf, BlockKind, ◌then◌, items_words}
use Rattle.job_syntax.specs.Faults.{words_of}
use Rattle.job_syntax.specs.Blocks.{copies_of}
use Rattle.job_lang.specs.Counts.{count, count_first}
use Rattle.job_lang.specs.Limits.{IsLeavesLine}
use Rattle.job_lang.proofs.LimitLemmas.Cuts.{count_then}
use Rattle.job_lang.proofs.LimitLemmas.WordCounts.{front_words, behind_words, leaf_writes}

first_of_all : (items : Items) → count_first items ≤ count items
first_of_all nothing = omega arith
first_of_all (leaf_then leaf more) = omega arith
first_of_all (block_then kind body more) = omega arith

-- where there is a leaves line, the leaves are too many
pub too_many : (tokens : List WordOnLine) (items : Items) (line : ℕ) → IsLeavesLine tokens items line → 20000 < count items
too_many tokens items line is =
    let all = ap count is.parts in
    omega (arith, all, count_then is.before is.from_item, first_of_all is.from_item, is.many)

-- there is one place at which the leaves exceed the limit

one_place : (before before' from from' : Items) (most : ℕ) → before then from ≡ before' then from' → count before ≤ most → most < count before + count_first from → count before' ≤ most → most < count before' + count_first from' → before ≡ before'
one_place nothing nothing from from' most same few many few' many' = refl
one_place nothing (leaf_then leaf b) from from' most same few many few' many' = let e = ap count_first same in absurd (omega (arith, e, many, few'))
one_place nothing (block_then kind body b) from from' most same few many few' many' = let e = ap count_first same in absurd (omega (arith, e, many, few'))
one_place (leaf_then leaf a) nothing from from' most same few many few' many' = let e = ap count_first same in absurd (omega (arith, e, many', few))
one_place (block_then kind body a) nothing from from' most same few many few' many' = let e = ap count_first same in absurd (omega (arith, e, many', few))
one_place (leaf_then leaf a) (leaf_then leaf' b) from from' most same few many few' many' =
    let rest : a then from ≡ b then from' = cc same in
    let first : leaf ≡ leaf' = cc same in
    let more = one_place a b from from' (most - 1) rest (omega (arith, few)) (omega (arith, few, many)) (omega (arith, few')) (omega (arith, few', many')) in
    cc (first, more)
one_place (leaf_then leaf a) (block_then kind body b) from from' most same few many few' many' = absurd (cc same)
one_place (block_then kind body a) (leaf_then leaf b) from from' most same few many few' many' = absurd (cc same)
one_place (block_then kind body a) (block_then kind' body' b) from from' most same few many few' many' =
    let rest : a then from ≡ b then from' = cc same in
    let first : kind ≡ kind' = cc same in
    let inside : body ≡ body' = cc same in
    let size : ℕ = copies_of kind * count body in
    let size' : size ≡ copies_of kind' * count body' = ap (λ h. copies_of h * count body) first ∙ ap (λ x. copies_of kind' * count x) inside in
    let more = one_place a b from from' (most - size) rest (omega (arith, few)) (omega (arith, few, many)) (omega (arith, few', size')) (omega (arith, few', many', size')) in
    cc (first, inside, more)

same_first : (front front' : List WordOnLine) (first first' : WordOnLine) (behind behind' : List WordOnLine) → length front ≡ length front' → front ++ first ∷ behind ≡ front' ++ first' ∷ behind' → first ≡ first'
same_first [] [] first first' behind behind' same e = cc e
same_first [] (x ∷ front') first first' behind behind' same e = absurd (omega (arith, same))
same_first (x ∷ front) [] first first' behind behind' same e = absurd (omega (arith, same))
same_first (x ∷ front) (y ∷ front') first first' behind behind' same e = same_first front front' first first' behind behind' (omega (arith, same)) (cc e)

pub one_line : (tokens : List WordOnLine) (items : Items) (line line' : ℕ) → IsLeavesLine tokens items line → IsLeavesLine tokens items line' → line ≡ line'
one_line tokens items line line' is also =
    let place = one_place is.before also.before is.from_item also.from_item 20000 (is.parts ∙ sym also.parts) is.few is.many also.few also.many in
    let word_counts = ap (λ before. length (items_words before)) place in
    let word_count = ap length is.place ∙ length-map is.front (λ token. token.word) in
    let width' = ap length also.place ∙ length-map also.front (λ token. token.word) in
    let first = same_first is.front also.front is.first also.first is.behind also.behind (sym word_count ∙ word_counts ∙ width') (is.stands ∙ sym also.stands) in
    is.line_is ∙ ap (λ token. token.line) first ∙ sym also.line_is

-- where the leaves are too many, there is such a line

record Place (items : Items) (most : ℕ) : Type 0 where
  before : Items
  from_item : Items
  parts : before then from_item ≡ items
  few : count before ≤ most
  many : most < count before + count_first from_item

behind_leaf : (leaf : Leaf) (items : Items) (most : ℕ) → Place items most → Place (leaf_then leaf items) (suc most)
behind_leaf leaf items most at = record { before = leaf_then leaf at.before; from_item = at.from_item; parts = ap (λ x. leaf_then leaf x) at.parts; few = omega (arith, at.few); many = omega (arith, at.many) }

behind_block : (kind : BlockKind) (body items : Items) (most : ℕ) → copies_of kind * count body ≤ most → Place items (most - copies_of kind * count body) → Place (block_then kind body items) most
behind_block kind body items most less at = record { before = block_then kind body at.before; from_item = at.from_item; parts = ap (λ x. block_then kind body x) at.parts; few = omega (arith, at.few, less); many = omega (arith, at.many, less) }

some_place : (items : Items) (most : ℕ) → most < count items → Place items most
some_place nothing most many = absurd (omega (arith, many))
some_place (leaf_then leaf more) zero many = record { before = nothing; from_item = leaf_then leaf more; parts = refl; few = omega arith; many = omega arith }
some_place (leaf_then leaf more) (suc most) many = behind_leaf leaf more most (some_place more most (omega (arith, many)))
some_place (block_then kind body more) most many = elim (cases_lt most (copies_of kind * count body)) [
  | inl here ↦ record { before = nothing; from_item = block_then kind body more; parts = refl; few = omega arith; many = omega (arith, here) }
  | inr behind ↦ behind_block kind body more most behind (some_place more (most - copies_of kind * count body) (omega (arith, many, behind)))
]

some_words : (items : Items) → 0 < count_first items → 0 < length (items_words items)
some_words nothing some = absurd (omega (arith, some))
some_words (leaf_then leaf more) some = simp length-append (omega (arith, leaf_writes leaf))
some_words (block_then kind body more) some = simp length-append (omega arith)

line_from : (tokens : List WordOnLine) (items : Items) (at : Place items 20000) (rest : List WordOnLine) → items_words items ≡ words_of tokens → drop (length (items_words at.before)) tokens ≡ rest → 0 < length rest → (line : ℕ) × IsLeavesLine tokens items line
line_from tokens items at [] writes is some = absurd (omega (arith, some))
line_from tokens items at (token ∷ behind) writes is some = (
  token.line,
  record {
    before = at.before;
    from_item = at.from_item;
    parts = at.parts;
    few = at.few;
    many = at.many;
    front = take (length (items_words at.before)) tokens;
    first = token;
    behind = behind;
    stands = ap (λ xs. take (length (items_words at.before)) tokens ++ xs) (sym is) ∙ take-append-drop (length (items_words at.before)) tokens;
    place = front_words tokens at.before at.from_item (ap items_words at.parts ∙ writes);
    line_is = refl;
  },
)

pub some_line : (tokens : List WordOnLine) (items : Items) → items_words items ≡ words_of tokens → 20000 < count items → (line : ℕ) × IsLeavesLine tokens items line
some_line tokens items writes many =
    let at = some_place items 20000 many in
    line_from tokens items at (drop (length (items_words at.before)) tokens) writes refl
    (omega (arith, some_words at.from_item (omega (arith, at.few, at.many)), ap length (behind_words tokens at.before at.from_item (ap items_words at.parts ∙ writes)), length-map (drop (length (items_words at.before)) tokens) (λ token. token.word)))
