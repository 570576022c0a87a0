-- A let that is seen behind a front is visible by the three conditions.
use Rattle.std.proofs.Common.{ℕ, ◌≡◌, ◌+◌, ◌-◌, inl, inr, Bool, true, false, not, List, [], ◌∷◌, ◌++◌, length, length-append as length_append, take, drop, map, arith, refl, sym, ap, ◌∙◌, append_assoc, subst}
use Rattle.std.specs.Prelude.{if◌then◌else◌, IsTrue}
use Rattle.std.specs.List.{AllByRecursion}
use Rattle.job_names.specs.declared.name.Name.{Name}
use Rattle.job_names.specs.declared.scopes.Let.{Let}
use Rattle.job_syntax.specs.declared.lexer.word.Word.{Word}
use Rattle.job_syntax.specs.declared.lexer.word.Word.TheVariants.{Open, Close, Seq, Par, For, Pfor, Number}
use Rattle.job_syntax.specs.Grammar.{Leaf, bound, BlockKind, seq_block, par_block, for_loop, pfor_loop, Items, nothing, leaf_then, block_then, leaf_words, kind_words, items_words, is_number, is_loop, is_par, IsCall, IsLeaf, IsBlockKind}
use Rattle.job_syntax.specs.Visibility.{blocks_behind, closed_by, is_in_series, Sees}
use Rattle.job_syntax.specs.Code.Shown.{OpenBlock}
use Rattle.job_syntax.specs.Code.Reached.{opening_words}
use Rattle.job_syntax.proofs.ParserLemmas.Plain.{is_plain, ArePlain, plain_call, by_plain}
use Rattle.job_syntax.proofs.ParserLemmas.NamesSeen.{AreFlat, AreFlatBlocks}
use Rattle.job_syntax.proofs.ParserLemmas.LetsSeen.{HasLet, lets_of, lets_behind, lets_seen, lets_append, block_length}

-- plain words close nothing and open nothing
closed_word : (w : Word) (rest : List Word) → IsTrue (is_plain w) → closed_by (w ∷ rest) ≡ closed_by rest
closed_word Open rest h = cc
closed_word Close rest h = cc
closed_word _ rest h = refl

closed_plain : (words rest : List Word) → ArePlain words → closed_by (words ++ rest) ≡ closed_by rest
closed_plain [] rest h = refl
closed_plain (w ∷ words) rest h = closed_word w (words ++ rest) h.0 ∙ closed_plain words rest h.1

open_word : (w : Word) (blocks : List BlockKind) (rest : List Word) → IsTrue (is_plain w) → blocks_behind blocks (w ∷ rest) ≡ blocks_behind blocks rest
open_word Close blocks rest h = cc
open_word Seq blocks rest h = cc
open_word Par blocks rest h = cc
open_word For blocks rest h = cc
open_word Pfor blocks rest h = cc
open_word _ blocks rest h = refl

open_plain : (words : List Word) (blocks : List BlockKind) (rest : List Word) → ArePlain words → blocks_behind blocks (words ++ rest) ≡ blocks_behind blocks rest
open_plain [] blocks rest h = refl
open_plain (w ∷ words) blocks rest h = open_word w blocks (words ++ rest) h.0 ∙ open_plain words blocks rest h.1

pub closed_call : (leaf : Leaf) (rest : List Word) → IsCall true leaf → closed_by (leaf_words leaf ++ rest) ≡ closed_by rest
closed_call leaf rest h = closed_plain (leaf_words leaf) rest (plain_call true leaf h)

closed_leaf : (leaf : Leaf) (rest : List Word) → IsLeaf true leaf → closed_by (leaf_words leaf ++ rest) ≡ closed_by rest
closed_leaf leaf rest h = by_plain (λ words. closed_by (words ++ rest) ≡ closed_by rest) (λ words plain. closed_plain words rest plain) (λ name words plain. closed_plain words rest plain) true leaf h

pub open_leaf : (leaf : Leaf) (blocks : List BlockKind) (rest : List Word) → IsLeaf true leaf → blocks_behind blocks (leaf_words leaf ++ rest) ≡ blocks_behind blocks rest
open_leaf leaf blocks rest h = by_plain (λ words. blocks_behind blocks (words ++ rest) ≡ blocks_behind blocks rest) (λ words plain. open_plain words blocks rest plain) (λ name words plain. open_plain words blocks rest plain) true leaf h

closed_number : (copies : Word) (rest : List Word) → IsTrue (is_number copies) → closed_by (copies ∷ rest) ≡ closed_by rest
closed_number (Number n) rest h = refl
closed_number _ rest h = cc

pub closed_kind : (kind : BlockKind) (rest : List Word) → IsBlockKind kind → closed_by (kind_words kind ++ Open ∷ rest) ≡ closed_by rest - 1
closed_kind seq_block rest h = refl
closed_kind par_block rest h = refl
closed_kind (for_loop copies) rest h = closed_number copies (Open ∷ rest) h
closed_kind (pfor_loop copies) rest h = closed_number copies (Open ∷ rest) h

pub open_kind : (kind : BlockKind) (blocks : List BlockKind) (rest : List Word) → blocks_behind blocks (kind_words kind ++ Open ∷ rest) ≡ blocks_behind (kind ∷ blocks) rest
open_kind seq_block blocks rest = refl
open_kind _ blocks rest = refl

-- items close what they open
pub closed_items : (items : Items) (rest : List Word) → AreFlat items → closed_by (items_words items ++ rest) ≡ closed_by rest
closed_items nothing rest h = refl
closed_items (leaf_then leaf more) rest h =
    ap closed_by (append_assoc (leaf_words leaf) (items_words more) rest) ∙ closed_leaf leaf (items_words more ++ rest) h.0 ∙ closed_items more rest h.1
closed_items (block_then kind body more) rest h =
    ap closed_by (append_assoc (kind_words kind) (Open ∷ (items_words body ++ Close ∷ items_words more)) rest)
    ∙ closed_kind kind ((items_words body ++ Close ∷ items_words more) ++ rest) h.2
    ∙ ap (λ ws. closed_by ws - 1) (append_assoc (items_words body) (Close ∷ items_words more) rest)
    ∙ ap (λ n. n - 1) (closed_items body (Close ∷ (items_words more ++ rest)) h.0)
    ∙ (let e = closed_items more rest h.1 in omega (arith, e))

pub open_items : (items : Items) (blocks : List BlockKind) (rest : List Word) → AreFlat items → blocks_behind blocks (items_words items ++ rest) ≡ blocks_behind blocks rest
open_items nothing blocks rest h = refl
open_items (leaf_then leaf more) blocks rest h =
    ap (blocks_behind blocks) (append_assoc (leaf_words leaf) (items_words more) rest) ∙ open_leaf leaf blocks (items_words more ++ rest) h.0 ∙ open_items more blocks rest h.1
open_items (block_then kind body more) blocks rest h =
    ap (blocks_behind blocks) (append_assoc (kind_words kind) (Open ∷ (items_words body ++ Close ∷ items_words more)) rest)
    ∙ open_kind kind blocks ((items_words body ++ Close ∷ items_words more) ++ rest)
    ∙ ap (blocks_behind (kind ∷ blocks)) (append_assoc (items_words body) (Close ∷ items_words more) rest)
    ∙ open_items body (kind ∷ blocks) (Close ∷ (items_words more ++ rest)) h.0
    ∙ open_items more blocks rest h.1

-- the kinds of open blocks
pub open_opening : (blocks : List OpenBlock) (rest : List Word) → AreFlatBlocks blocks → blocks_behind [] (opening_words blocks ++ rest) ≡ blocks_behind (map (λ (b : OpenBlock). b.kind) blocks) rest
open_opening [] rest h = refl
open_opening (block ∷ blocks) rest h =
    ap (blocks_behind []) (append_assoc (opening_words blocks) (items_words block.before ++ (kind_words block.kind ++ Open ∷ [])) rest)
    ∙ open_opening blocks ((items_words block.before ++ (kind_words block.kind ++ Open ∷ [])) ++ rest) h.1
    ∙ ap (blocks_behind (map (λ (b : OpenBlock). b.kind) blocks)) (append_assoc (items_words block.before) (kind_words block.kind ++ Open ∷ []) rest ∙ ap (λ ws. items_words block.before ++ ws) (append_assoc (kind_words block.kind) (Open ∷ []) rest))
    ∙ open_items block.before (map (λ (b : OpenBlock). b.kind) blocks) (kind_words block.kind ++ Open ∷ rest) h.0
    ∙ open_kind block.kind (map (λ (b : OpenBlock). b.kind) blocks) rest

-- Where a let of this name stands in items, which stand behind `at` words, and it behind `place` of them all: the blocks
-- inside that hold it, the innermost first, of which none is a loop.
record Place (at : ℕ) (items : Items) (name : Name) (place : ℕ) : Type 0 where
  front : List Word
  call : Leaf
  whole : IsCall true call
  behind : List Word
  inside : List BlockKind
  stands : front ++ (leaf_words (bound name call) ++ behind) ≡ items_words items
  opens : (blocks : List BlockKind) → blocks_behind blocks front ≡ inside ++ blocks
  closes : (rest : List Word) → closed_by (behind ++ rest) ≡ closed_by rest + length inside
  no_loop : AllByRecursion (λ kind. is_loop kind ≡ false) inside
  is_there : place ≡ at + length front

each_append : (xs ys : List BlockKind) → AllByRecursion (λ kind. is_loop kind ≡ false) xs → AllByRecursion (λ kind. is_loop kind ≡ false) ys → AllByRecursion (λ kind. is_loop kind ≡ false) (xs ++ ys)
each_append [] ys a b = b
each_append (x ∷ xs) ys a b = (a.0, each_append xs ys a.1 b)

behind_leaf : (at : ℕ) (leaf : Leaf) (more : Items) (name : Name) (place : ℕ) → IsLeaf true leaf
    → Place (at + length (leaf_words leaf)) more name place → Place at (leaf_then leaf more) name place
behind_leaf at leaf more name place is p = record {
  front = leaf_words leaf ++ p.front;
  call = p.call;
  whole = p.whole;
  behind = p.behind;
  inside = p.inside;
  stands = append_assoc (leaf_words leaf) p.front (leaf_words (bound name p.call) ++ p.behind) ∙ ap (λ ws. leaf_words leaf ++ ws) p.stands;
  opens = λ blocks. open_leaf leaf blocks p.front is ∙ p.opens blocks;
  closes = p.closes;
  no_loop = p.no_loop;
  is_there = (let there = p.is_there in omega (arith, there, length_append (leaf_words leaf) p.front));
}

behind_block : (at : ℕ) (kind : BlockKind) (body more : Items) (name : Name) (place : ℕ) → AreFlat body
    → Place (at + length (items_words (block_then kind body nothing))) more name place → Place at (block_then kind body more) name place
behind_block at kind body more name place is p = record {
  front = kind_words kind ++ Open ∷ (items_words body ++ Close ∷ p.front);
  call = p.call;
  whole = p.whole;
  behind = p.behind;
  inside = p.inside;
  stands = append_assoc (kind_words kind) (Open ∷ (items_words body ++ Close ∷ p.front)) (leaf_words (bound name p.call) ++ p.behind)
      ∙ ap (λ ws. kind_words kind ++ Open ∷ ws) (append_assoc (items_words body) (Close ∷ p.front) (leaf_words (bound name p.call) ++ p.behind) ∙ ap (λ ws. items_words body ++ Close ∷ ws) p.stands);
  opens = λ blocks. open_kind kind blocks (items_words body ++ Close ∷ p.front) ∙ open_items body (kind ∷ blocks) (Close ∷ p.front) is ∙ p.opens blocks;
  closes = p.closes;
  no_loop = p.no_loop;
  is_there = (let there = p.is_there in omega (arith, there, block_length kind body p.front));
}

inside_block : (at : ℕ) (kind : BlockKind) (body more : Items) (name : Name) (place : ℕ) → is_loop kind ≡ false → AreFlat more
    → Place (at + length (kind_words kind ++ Open ∷ [])) body name place → Place at (block_then kind body more) name place
inside_block at kind body more name place loop is p = record {
  front = kind_words kind ++ Open ∷ p.front;
  call = p.call;
  whole = p.whole;
  behind = p.behind ++ Close ∷ items_words more;
  inside = p.inside ++ kind ∷ [];
  stands = append_assoc (kind_words kind) (Open ∷ p.front) (leaf_words (bound name p.call) ++ (p.behind ++ Close ∷ items_words more))
      ∙ ap (λ ws. kind_words kind ++ Open ∷ ws)
      (ap (λ ws. p.front ++ ws) (sym (append_assoc (leaf_words (bound name p.call)) p.behind (Close ∷ items_words more)))
      ∙ sym (append_assoc p.front (leaf_words (bound name p.call) ++ p.behind) (Close ∷ items_words more)) ∙ ap (λ ws. ws ++ Close ∷ items_words more) p.stands);
  opens = λ blocks. open_kind kind blocks p.front ∙ p.opens (kind ∷ blocks) ∙ sym (append_assoc p.inside (kind ∷ []) blocks);
  closes = λ rest. ap closed_by (append_assoc p.behind (Close ∷ items_words more) rest) ∙ p.closes (Close ∷ (items_words more ++ rest))
      ∙ (let e = closed_items more rest is in let l = length_append p.inside (kind ∷ []) in omega (arith, e, l));
  no_loop = each_append p.inside (kind ∷ []) p.no_loop (loop, tt);
  is_there = (let there = p.is_there in omega (arith, there, length_append (kind_words kind) (Open ∷ p.front), length_append (kind_words kind) (Open ∷ [])));
}

at_leaf : (at : ℕ) (name : Name) (call : Leaf) (more : Items) (place : ℕ) → IsCall true call → AreFlat more → at ≡ place → Place at (leaf_then (bound name call) more) name place
at_leaf at name call more place whole is e = record {
  front = [];
  call = call;
  whole = whole;
  behind = items_words more;
  inside = [];
  stands = refl;
  opens = λ blocks. refl;
  closes = λ rest. closed_items more rest is ∙ omega arith;
  no_loop = tt;
  is_there = omega (arith, e);
}

place_leaf : (at : ℕ) (leaf : Leaf) (more : Items) (name : Name) (place : ℕ) → IsLeaf true leaf → AreFlat more → HasLet (lets_of at leaf) name place → Place at (leaf_then leaf more) name place
place_leaf at (bound given leaf) more name place fits is (inl same) = subst (λ n. Place at (leaf_then (bound given leaf) more) n place) same.0 (at_leaf at given leaf more place fits is same.1)
place_leaf at (bound given leaf) more name place fits is (inr never) = absurd never
place_leaf at _ more name place fits is never = absurd never

place_block : (at : ℕ) (kind : BlockKind) (body more : Items) (name : Name) (place : ℕ) (loop : Bool) (lets : List Let) → is_loop kind ≡ loop → AreFlat body → AreFlat more
    → (HasLet lets name place → Place (at + length (kind_words kind ++ Open ∷ [])) body name place) → HasLet (if loop then [] else lets) name place → Place at (block_then kind body more) name place
place_block at kind body more name place true lets e is is' in_body never = absurd never
place_block at kind body more name place false lets e is is' in_body there = inside_block at kind body more name place e is' (in_body there)

-- each let that items give has its place in them
place_of : (at : ℕ) (items : Items) (name : Name) (place : ℕ) → AreFlat items → HasLet (lets_behind at items) name place → Place at items name place
place_of at nothing name place is never = absurd never
place_of at (leaf_then leaf more) name place is there =
    let next = at + length (leaf_words leaf) in
    elim (lets_append (lets_behind next more) (lets_of at leaf) name place there) [
      | inl later ↦ behind_leaf at leaf more name place is.0 (place_of next more name place is.1 later)
      | inr here ↦ place_leaf at leaf more name place is.0 is.1 here
    ]
place_of at (block_then kind body more) name place is there =
    let next = at + length (items_words (block_then kind body nothing)) in
    let inner = at + length (kind_words kind ++ Open ∷ []) in
    elim (lets_append (lets_behind next more) (if is_loop kind then [] else lets_behind inner body) name place there) [
      | inl later ↦ behind_block at kind body more name place is.0 (place_of next more name place is.1 later)
      | inr here ↦ place_block at kind body more name place (is_loop kind) (lets_behind inner body) refl is.0 is.1 (place_of inner body name place is.0) here
    ]

pub take_inside : (xs ys : List BlockKind) → take (length xs) (xs ++ ys) ≡ xs
take_inside [] ys = refl
take_inside (x ∷ xs) ys = ap (λ zs. x ∷ zs) (take_inside xs ys)

pub drop_inside : (xs ys : List BlockKind) → drop (length xs) (xs ++ ys) ≡ ys
drop_inside [] ys = refl
drop_inside (x ∷ xs) ys = drop_inside xs ys

-- a use of the name sees the let with this place
abbrev pub SeesAt : List Word → Name → ℕ → Type 0
SeesAt words name place = (sees : Sees words name) × (length sees.front ≡ place)

-- Words that close nothing stand behind the items in which the let is, and its block is not parallel.
seen_at : (blocks : List OpenBlock) (items : Items) (behind : List Word) (name : Name) (place : ℕ) → AreFlatBlocks blocks → closed_by behind ≡ 0
    → is_in_series (map (λ (b : OpenBlock). b.kind) blocks) ≡ true → Place (length (opening_words blocks)) items name place → SeesAt (opening_words blocks ++ (items_words items ++ behind)) name place
seen_at blocks items behind name place is none series p =
    let kinds_now = map (λ (b : OpenBlock). b.kind) blocks in
    let opened : blocks_behind [] (opening_words blocks ++ p.front) ≡ p.inside ++ kinds_now = open_opening blocks p.front is ∙ p.opens kinds_now in
    let closed : closed_by (p.behind ++ behind) ≡ length p.inside = p.closes behind ∙ omega (arith, none) in
    let there = p.is_there in (
      record {
        front = opening_words blocks ++ p.front;
        call = p.call;
        whole = p.whole;
        behind = p.behind ++ behind;
        stands = append_assoc (opening_words blocks) p.front (leaf_words (bound name p.call) ++ (p.behind ++ behind))
            ∙ ap (λ ws. opening_words blocks ++ ws)
            (ap (λ ws. p.front ++ ws) (sym (append_assoc (leaf_words (bound name p.call)) p.behind behind))
            ∙ sym (append_assoc p.front (leaf_words (bound name p.call) ++ p.behind) behind) ∙ ap (λ ws. ws ++ behind) p.stands);
        loops = rw (opened, closed, take_inside p.inside kinds_now) p.no_loop;
        series = rw (opened, closed, drop_inside p.inside kinds_now) series;
      },
      omega (arith, there, length_append (opening_words blocks) p.front),
    )

-- What is begun behind a front has no braces.
pub closed_opening : (kind : BlockKind) (rest : List Word) → IsBlockKind kind → closed_by rest ≡ 0 → closed_by ((kind_words kind ++ Open ∷ []) ++ rest) ≡ 0
closed_opening kind rest fits none = ap closed_by (append_assoc (kind_words kind) (Open ∷ []) rest) ∙ closed_kind kind rest fits ∙ omega (arith, none)

inner : (block : OpenBlock) (blocks : List OpenBlock) (items : Items) (begun : List Word) (name : Name) (place : ℕ) (par : Bool) → is_par block.kind ≡ par
    → AreFlatBlocks (block ∷ blocks) → AreFlat items → closed_by begun ≡ 0
    → HasLet (if par then [] else lets_behind (length (opening_words (block ∷ blocks))) items) name place → SeesAt (opening_words (block ∷ blocks) ++ (items_words items ++ begun)) name place
inner block blocks items begun name place true e is are none never = absurd never
inner block blocks items begun name place false e is are none there =
    seen_at (block ∷ blocks) items begun name place is none (ap not e) (place_of (length (opening_words (block ∷ blocks))) items name place are there)

-- A let that is seen behind a front is visible there by the three conditions.
pub seen_is_visible : (blocks : List OpenBlock) (items : Items) (begun : List Word) (name : Name) (place : ℕ) → AreFlatBlocks blocks → AreFlat items → closed_by begun ≡ 0
    → HasLet (lets_seen blocks items) name place → SeesAt (opening_words blocks ++ (items_words items ++ begun)) name place
seen_is_visible [] items begun name place is are none there = seen_at [] items begun name place tt none refl (place_of 0 items name place are there)
seen_is_visible (block ∷ blocks) items begun name place is are none there =
    elim (lets_append (if is_par block.kind then [] else lets_behind (length (opening_words (block ∷ blocks))) items) (lets_seen blocks block.before) name place there) [
      | inl here ↦ inner block blocks items begun name place (is_par block.kind) refl is are none here
      | inr outer ↦
          let behind = (kind_words block.kind ++ Open ∷ []) ++ (items_words items ++ begun) in
          let closes = closed_opening block.kind (items_words items ++ begun) is.2 (closed_items items begun are ∙ none) in
          subst (λ ws. SeesAt ws name place)
          (sym (append_assoc (opening_words blocks) (items_words block.before ++ (kind_words block.kind ++ Open ∷ [])) (items_words items ++ begun)
          ∙ ap (λ ws. opening_words blocks ++ ws) (append_assoc (items_words block.before) (kind_words block.kind ++ Open ∷ []) (items_words items ++ begun))))
          (seen_is_visible blocks block.before behind name place is.1 is.0 closes outer)
    ]
