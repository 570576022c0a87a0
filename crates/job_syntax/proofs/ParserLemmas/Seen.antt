-- A let that is visible by the three conditions is seen behind the front.
use Rattle.std.proofs.Common.{ℕ, ◌≡◌, ◌≢◌, ◌+◌, ◌⊎◌, inl, inr, Bool, true, false, not, Option, Some, None, List, [], ◌∷◌, ◌++◌, length, length-append as length_append, take, drop, map, arith, refl, sym, ap, ◌∙◌, append_assoc, append-nil, subst, true≢false}
use Rattle.std.specs.Prelude.{if◌then◌else◌, IsTrue}
use Rattle.std.specs.List.{AllByRecursion}
use Rattle.job_names.specs.declared.name.Name.{Name}
use Rattle.job_names.specs.declared.scopes.Let.{Let as NamedLet}
use Rattle.job_syntax.specs.declared.lexer.word.Word.{Word}
use Rattle.job_syntax.specs.declared.lexer.word.Word.TheVariants.{Open, Close, Let, Equals, Number, Named}
use Rattle.job_syntax.specs.Grammar as grammar
use Rattle.job_syntax.specs.Grammar.{Leaf, work, bound, BlockKind, seq_block, par_block, for_loop, pfor_loop, Items, nothing, leaf_then, block_then, leaf_words, kind_words, items_words, is_number, is_loop, is_par, FitsVerb, IsCall, IsLeaf, IsBlockKind}
use Rattle.job_syntax.specs.declared.parser.call.Operator.{Operator}
use Rattle.job_syntax.specs.declared.parser.call.Operator.TheVariants as operator
use Rattle.seq_objects.specs.declared.verb.Verb.{Verb}
use Rattle.seq_objects.specs.Verbs.{kind_of_verb, word_of_verb, takes_argument, verb_by}
use Rattle.job_syntax.specs.Code.Machine.{operator_words}
use Rattle.job_syntax.specs.Visibility.{blocks_behind, closed_by, is_in_series, Sees}
use Rattle.job_syntax.specs.Code.Shown.{OpenBlock}
use Rattle.job_syntax.specs.Code.Reached.{opening_words, given_words, IsGiven}
use Rattle.seq_objects.proofs.Verbs.{verb_found}
use Rattle.job_syntax.proofs.ParserLemmas.Plain.{is_plain, ArePlain, plain_argument, plain_operator, plain_call}
use Rattle.job_syntax.proofs.ParserLemmas.NamesSeen.{AreFlat, AreFlatBlocks}
use Rattle.job_syntax.proofs.ParserLemmas.LetsSeen.{HasLet, lets_of, lets_behind, lets_seen, lets_left, lets_right}
use Rattle.job_syntax.proofs.ParserLemmas.Visible.{closed_call, closed_items, open_items, open_leaf, open_kind, open_opening, take_inside, drop_inside, closed_opening}

-- none of the words is a let
abbrev NoLet : List Word → Type 0
NoLet [] = Unit {0}
NoLet (w ∷ words) = (w ≢ Let) × NoLet words

-- such words stand before the let
record Behind (front end rest words : List Word) : Type 0 where
  left : List Word
  is : front ≡ words ++ left
  stands : left ++ end ≡ rest

past : (words front tail rest : List Word) → NoLet words → front ++ (Let ∷ tail) ≡ words ++ rest → Behind front (Let ∷ tail) rest words
past [] front tail rest none e = record { left = front; is = refl; stands = e }
past (w ∷ words) [] tail rest none e = let never = none.0 in let same : w ≡ Let = cc in absurd (never same)
past (w ∷ words) (f ∷ front) tail rest none e =
    let first : f ≡ w = cc in
    let more : front ++ (Let ∷ tail) ≡ words ++ rest = cc in
    let b = past words front tail rest none.1 more in
    record { left = b.left; is = λ i. first i ∷ b.is i; stands = b.stands }

no_let_word : (w : Word) → IsTrue (is_plain w) → w ≢ Let
no_let_word w plain e = true≢false (sym plain ∙ ap is_plain e)

no_let_plain : (words : List Word) → ArePlain words → NoLet words
no_let_plain [] plain = tt
no_let_plain (w ∷ words) plain = (no_let_word w plain.0, no_let_plain words plain.1)

no_let_call : (leaf : Leaf) → IsCall true leaf → NoLet (leaf_words leaf)
no_let_call leaf is = no_let_plain (leaf_words leaf) (plain_call true leaf is)

no_let_work : (argument : Word) → IsLeaf true (work argument) → NoLet (leaf_words (work argument))
no_let_work argument is = ((λ e. cc), (no_let_word argument (plain_argument true argument is), tt))

no_let_number : (copies : Word) → IsTrue (is_number copies) → copies ≢ Let
no_let_number (Number n) is e = cc
no_let_number _ is e = cc

no_let_kind : (kind : BlockKind) → IsBlockKind kind → NoLet (kind_words kind ++ Open ∷ [])
no_let_kind seq_block is = ((λ e. cc), ((λ e. cc), tt))
no_let_kind par_block is = ((λ e. cc), ((λ e. cc), tt))
no_let_kind (for_loop n) is = ((λ e. cc), (no_let_number n is, ((λ e. cc), tt)))
no_let_kind (pfor_loop n) is = ((λ e. cc), (no_let_number n is, ((λ e. cc), tt)))

abbrev pub NoLoop : List BlockKind → Type 0
NoLoop kinds = AllByRecursion (λ kind. is_loop kind ≡ false) kinds

-- The let stands in the items, which stand behind `at` words, in these blocks inside them.
record Inside (at : ℕ) (items : Items) (name : Name) (front behind rest : List Word) : Type 0 where
  inside : List BlockKind
  opens : (blocks : List BlockKind) → blocks_behind blocks front ≡ inside ++ blocks
  closes : closed_by behind ≡ closed_by rest + length inside
  gives : (place : ℕ) → place ≡ at + length front → NoLoop inside → HasLet (lets_behind at items) name place

abbrev Found : ℕ → Items → Name → List Word → Leaf → List Word → List Word → Type 0
Found at items name front call behind rest =
    Inside at items name front behind rest ⊎ Behind front (leaf_words (bound name call) ++ behind) rest (items_words items)

-- in the first leaf, or behind it
first_leaf : (at : ℕ) (leaf : Leaf) (more : Items) (name : Name) (front : List Word) (call : Leaf) (behind rest : List Word) → IsLeaf true leaf → AreFlat more → IsCall true call
    → front ++ (leaf_words (bound name call) ++ behind) ≡ leaf_words leaf ++ (items_words more ++ rest)
    → Inside at (leaf_then leaf more) name front behind rest ⊎ Behind front (leaf_words (bound name call) ++ behind) (items_words more ++ rest) (leaf_words leaf)
first_leaf at (work argument) more name front call behind rest is are whole e =
    inr (past (leaf_words (work argument)) front (Named name ∷ Equals ∷ (leaf_words call ++ behind)) (items_words more ++ rest) (no_let_work argument is) e)
first_leaf at (grammar.call verb object argument) more name front seen behind rest is are whole e =
    inr (past (leaf_words (grammar.call verb object argument)) front (Named name ∷ Equals ∷ (leaf_words seen ++ behind)) (items_words more ++ rest) (no_let_call (grammar.call verb object argument) is) e)
first_leaf at (bound given other) more name [] call behind rest is are whole e =
    let same : given ≡ name = cc in
    let left : leaf_words call ++ behind ≡ leaf_words other ++ (items_words more ++ rest) = cc in
    let closed = sym (closed_call call behind whole) ∙ ap closed_by left ∙ closed_call other (items_words more ++ rest) is ∙ closed_items more rest are in
    inl (record {
      inside = [];
      opens = λ blocks. refl;
      closes = closed ∙ omega arith;
      gives = λ place there none. lets_right (lets_behind (at + length (leaf_words (bound given other))) more) (record { name = given; number = at } ∷ []) name place (inl (same, omega (arith, there)));
    })
first_leaf at (bound given other) more name (f ∷ front) call behind rest is are whole e =
    let first : f ≡ Let = cc in
    let left : front ++ (Let ∷ (Named name ∷ Equals ∷ (leaf_words call ++ behind))) ≡ (Named given ∷ Equals ∷ leaf_words other) ++ (items_words more ++ rest) = cc in
    let b = past (Named given ∷ Equals ∷ leaf_words other) front (Named name ∷ Equals ∷ (leaf_words call ++ behind)) (items_words more ++ rest) ((λ e. cc), ((λ e. cc), no_let_call other is)) left in
    inr (record { left = b.left; is = λ i. first i ∷ b.is i; stands = b.stands })

-- the same behind more
inside_later : (at next : ℕ) (items more : Items) (name : Name) (before front front' behind rest : List Word) → ((blocks : List BlockKind) (words : List Word) → blocks_behind blocks (before ++ words) ≡ blocks_behind blocks words)
    → next ≡ at + length before → front ≡ before ++ front' → ((place : ℕ) → HasLet (lets_behind next more) name place → HasLet (lets_behind at items) name place)
    → Inside next more name front' behind rest → Inside at items name front behind rest
inside_later at next items more name before front front' behind rest flat far is into p =
    let long = ap length is ∙ length_append before front' in
    record {
      inside = p.inside;
      opens = λ blocks. ap (blocks_behind blocks) is ∙ flat blocks front' ∙ p.opens blocks;
      closes = p.closes;
      gives = λ place there none. into place (p.gives place (omega (arith, there, far, long)) none);
    }

behind_both : (front end rest xs ys : List Word) (b : Behind front end (ys ++ rest) xs) → Behind (Behind.left b) end rest ys → Behind front end rest (xs ++ ys)
behind_both front end rest xs ys b c = record { left = c.left; is = b.is ∙ ap (λ ws. xs ++ ws) c.is ∙ sym (append_assoc xs ys c.left); stands = c.stands }

loop_given : (kind : BlockKind) (body more : List NamedLet) (name : Name) (place : ℕ) (loop : Bool) → is_loop kind ≡ loop → loop ≡ false → HasLet body name place → HasLet (more ++ (if loop then [] else body)) name place
loop_given kind body more name place true e never h = cc
loop_given kind body more name place false e same h = lets_right more body name place h

no_loop_parts : (xs ys : List BlockKind) → NoLoop (xs ++ ys) → NoLoop xs × NoLoop ys
no_loop_parts [] ys h = (tt, h)
no_loop_parts (x ∷ xs) ys h = let r = no_loop_parts xs ys h.1 in ((h.0, r.0), r.1)

-- in the body of a block
in_body : (at : ℕ) (kind : BlockKind) (body more : Items) (name : Name) (front front' behind rest : List Word) → AreFlat more → front ≡ (kind_words kind ++ Open ∷ []) ++ front'
    → Inside (at + length (kind_words kind ++ Open ∷ [])) body name front' behind (Close ∷ (items_words more ++ rest)) → Inside at (block_then kind body more) name front behind rest
in_body at kind body more name front front' behind rest are is p =
    let closed = closed_items more rest are in
    let long = length_append p.inside (kind ∷ []) in
    let far = ap length is ∙ length_append (kind_words kind ++ Open ∷ []) front' in
    let next = at + length (items_words (block_then kind body nothing)) in
    let inner = at + length (kind_words kind ++ Open ∷ []) in
    let closes = p.closes in
    record {
      inside = p.inside ++ kind ∷ [];
      opens = λ blocks. ap (blocks_behind blocks) (is ∙ append_assoc (kind_words kind) (Open ∷ []) front') ∙ open_kind kind blocks front' ∙ p.opens (kind ∷ blocks) ∙ sym (append_assoc p.inside (kind ∷ []) blocks);
      closes = omega (arith, closes, closed, long);
      gives = λ place there none.
          (let parts = no_loop_parts p.inside (kind ∷ []) none in
          loop_given kind (lets_behind inner body) (lets_behind next more) name place (is_loop kind) refl parts.1.0 (p.gives place (omega (arith, there, far)) parts.0));
    }

close_not_let : NoLet (Close ∷ [])
close_not_let = ((λ e. cc), tt)

block_words : (kind : BlockKind) (body more : Items) (rest : List Word)
    → items_words (block_then kind body more) ++ rest ≡ (kind_words kind ++ Open ∷ []) ++ (items_words body ++ (Close ∷ (items_words more ++ rest)))
block_words kind body more rest =
    append_assoc (kind_words kind) (Open ∷ (items_words body ++ Close ∷ items_words more)) rest
    ∙ ap (λ ws. kind_words kind ++ Open ∷ ws) (append_assoc (items_words body) (Close ∷ items_words more) rest)
    ∙ sym (append_assoc (kind_words kind) (Open ∷ []) (items_words body ++ (Close ∷ (items_words more ++ rest))))

block_flat : (kind : BlockKind) (body : Items) (blocks : List BlockKind) (words : List Word) → AreFlat body
    → blocks_behind blocks (((kind_words kind ++ Open ∷ []) ++ (items_words body ++ Close ∷ [])) ++ words) ≡ blocks_behind blocks words
block_flat kind body blocks words is =
    ap (blocks_behind blocks) (append_assoc (kind_words kind ++ Open ∷ []) (items_words body ++ Close ∷ []) words ∙ append_assoc (kind_words kind) (Open ∷ []) ((items_words body ++ Close ∷ []) ++ words))
    ∙ open_kind kind blocks ((items_words body ++ Close ∷ []) ++ words)
    ∙ ap (blocks_behind (kind ∷ blocks)) (append_assoc (items_words body) (Close ∷ []) words)
    ∙ open_items body (kind ∷ blocks) (Close ∷ words) is

-- where a let stands in items and what comes behind them
locate : (at : ℕ) (items : Items) (name : Name) (front : List Word) (call : Leaf) (behind rest : List Word) → AreFlat items → IsCall true call
    → front ++ (leaf_words (bound name call) ++ behind) ≡ items_words items ++ rest → Found at items name front call behind rest
locate at nothing name front call behind rest are whole e = inr (record { left = front; is = refl; stands = e })
locate at (leaf_then leaf more) name front call behind rest are whole e =
    elim (first_leaf at leaf more name front call behind rest are.0 are.1 whole (e ∙ append_assoc (leaf_words leaf) (items_words more) rest)) [
      | inl here ↦ inl here
      | inr b ↦ elim (locate (at + length (leaf_words leaf)) more name b.left call behind rest are.1 whole b.stands) [
        | inl later ↦ inl (inside_later at (at + length (leaf_words leaf)) (leaf_then leaf more) more name (leaf_words leaf) front b.left behind rest (λ blocks words. open_leaf leaf blocks words are.0) refl b.is
            (λ place. lets_left (lets_behind (at + length (leaf_words leaf)) more) (lets_of at leaf) name place) later)
        | inr past_all ↦ inr (record { left = past_all.left; is = b.is ∙ ap (λ ws. leaf_words leaf ++ ws) past_all.is ∙ sym (append_assoc (leaf_words leaf) (items_words more) past_all.left); stands = past_all.stands })
      ]
    ]
locate at (block_then kind body more) name front call behind rest are whole e =
    let b = past (kind_words kind ++ Open ∷ []) front (Named name ∷ Equals ∷ (leaf_words call ++ behind)) (items_words body ++ (Close ∷ (items_words more ++ rest))) (no_let_kind kind are.2) (e ∙ block_words kind body more rest) in
    let next = at + length (items_words (block_then kind body nothing)) in
    let inner_at = at + length (kind_words kind ++ Open ∷ []) in
    elim (locate inner_at body name b.left call behind (Close ∷ (items_words more ++ rest)) are.0 whole b.stands) [
      | inl inner ↦ inl (in_body at kind body more name front b.left behind rest are.1 b.is inner)
      | inr c ↦
          let d = past (Close ∷ []) c.left (Named name ∷ Equals ∷ (leaf_words call ++ behind)) (items_words more ++ rest) close_not_let c.stands in
          let words = (kind_words kind ++ Open ∷ []) ++ (items_words body ++ Close ∷ []) in
          let is : front ≡ words ++ d.left =
          b.is ∙ ap (λ ws. (kind_words kind ++ Open ∷ []) ++ ws) (c.is ∙ ap (λ ws. items_words body ++ ws) d.is ∙ sym (append_assoc (items_words body) (Close ∷ []) d.left)) ∙ sym (append_assoc (kind_words kind ++ Open ∷ []) (items_words body ++ Close ∷ []) d.left) in
          let far : next ≡ at + length words = simp length_append (omega arith) in
          elim (locate next more name d.left call behind rest are.1 whole d.stands) [
            | inl later ↦ inl (inside_later at next (block_then kind body more) more name words front d.left behind rest (λ blocks ws. block_flat kind body blocks ws are.0) far is
                (λ place. lets_left (lets_behind next more) (if is_loop kind then [] else lets_behind inner_at body) name place) later)
            | inr past_all ↦ inr (record {
              left = past_all.left;
              is = is ∙ ap (λ ws. words ++ ws) past_all.is ∙ sym (append_assoc words (items_words more) past_all.left) ∙ ap (λ ws. ws ++ past_all.left) (append_assoc (kind_words kind ++ Open ∷ []) (items_words body ++ Close ∷ []) (items_words more) ∙ append_assoc (kind_words kind) (Open ∷ []) ((items_words body ++ Close ∷ []) ++ items_words more) ∙ ap (λ ws. kind_words kind ++ Open ∷ ws) (append_assoc (items_words body) (Close ∷ []) (items_words more)));
              stands = past_all.stands;
            })
          ]
    ]

-- the kinds of the blocks
abbrev pub kinds_of : List OpenBlock → List BlockKind
kinds_of blocks = map (λ (b : OpenBlock). b.kind) blocks

in_series : (par : Bool) (lets : List NamedLet) (name : Name) (place : ℕ) → not par ≡ true → HasLet lets name place → HasLet (if par then [] else lets) name place
in_series false lets name place e h = h
in_series true lets name place e h = cc

-- The let stands in these blocks inside the items of a block that is open, and is visible by the conditions.
inside_seen : (blocks : List OpenBlock) (items : Items) (name : Name) (place : ℕ) (inside : List BlockKind) → NoLoop (take (length inside) (inside ++ kinds_of blocks))
    → is_in_series (drop (length inside) (inside ++ kinds_of blocks)) ≡ true → (NoLoop inside → HasLet (lets_behind (length (opening_words blocks)) items) name place) → HasLet (lets_seen blocks items) name place
inside_seen [] items name place inside loops series gives = gives (subst NoLoop (take_inside inside []) loops)
inside_seen (block ∷ blocks) items name place inside loops series gives =
    let lets = lets_behind (length (opening_words (block ∷ blocks))) items in
    let seen = gives (subst NoLoop (take_inside inside (kinds_of (block ∷ blocks))) loops) in
    let open_now : not (is_par block.kind) ≡ true = ap is_in_series (sym (drop_inside inside (kinds_of (block ∷ blocks)))) ∙ series in
    lets_left (if is_par block.kind then [] else lets) (lets_seen blocks block.before) name place (in_series (is_par block.kind) lets name place open_now seen)

-- what the conditions say, where the let is located
located : (blocks : List OpenBlock) (items : Items) (name : Name) (front left behind tail : List Word) → AreFlatBlocks blocks → closed_by tail ≡ 0 → front ≡ opening_words blocks ++ left
    → NoLoop (take (closed_by behind) (blocks_behind [] front)) → is_in_series (drop (closed_by behind) (blocks_behind [] front)) ≡ true
    → Inside (length (opening_words blocks)) items name left behind tail → HasLet (lets_seen blocks items) name (length front)
located blocks items name front left behind tail are none is loops series p =
    let opened : blocks_behind [] front ≡ p.inside ++ kinds_of blocks = ap (blocks_behind []) is ∙ open_opening blocks left are ∙ p.opens (kinds_of blocks) in
    let closes = p.closes in
    let closed : closed_by behind ≡ length p.inside = omega (arith, closes, none) in
    inside_seen blocks items name (length front) p.inside (rw (opened, closed) at loops) (rw (opened, closed) at series) (p.gives (length front) (ap length is ∙ length_append (opening_words blocks) left))

opening_more : (block : OpenBlock) (blocks : List OpenBlock) (words : List Word)
    → opening_words (block ∷ blocks) ++ words ≡ opening_words blocks ++ (items_words block.before ++ ((kind_words block.kind ++ Open ∷ []) ++ words))
opening_more block blocks words = append_assoc (opening_words blocks) (items_words block.before ++ (kind_words block.kind ++ Open ∷ [])) words
    ∙ ap (λ ws. opening_words blocks ++ ws) (append_assoc (items_words block.before) (kind_words block.kind ++ Open ∷ []) words)

visible_in : (blocks : List OpenBlock) (items : Items) (name : Name) (front : List Word) (call : Leaf) (behind tail : List Word) → AreFlatBlocks blocks → AreFlat items → IsCall true call → closed_by tail ≡ 0
    → NoLoop (take (closed_by behind) (blocks_behind [] front)) → is_in_series (drop (closed_by behind) (blocks_behind [] front)) ≡ true
    → front ++ (leaf_words (bound name call) ++ behind) ≡ opening_words blocks ++ (items_words items ++ tail)
    → HasLet (lets_seen blocks items) name (length front) ⊎ Behind front (leaf_words (bound name call) ++ behind) tail (opening_words blocks ++ items_words items)
visible_in [] items name front call behind tail is are whole none loops series e =
    elim (locate 0 items name front call behind tail are whole e) [
      | inl p ↦ inl (located [] items name front front behind tail tt none refl loops series p)
      | inr b ↦ inr b
    ]
visible_in (block ∷ blocks) items name front call behind tail is are whole none loops series e =
    elim (visible_in blocks block.before name front call behind ((kind_words block.kind ++ Open ∷ []) ++ (items_words items ++ tail)) is.1 is.0 whole
    (closed_opening block.kind (items_words items ++ tail) is.2 (closed_items items tail are ∙ none)) loops series (e ∙ opening_more block blocks (items_words items ++ tail))) [
      | inl outer ↦ inl (lets_right (if is_par block.kind then [] else lets_behind (length (opening_words (block ∷ blocks))) items) (lets_seen blocks block.before) name (length front) outer)
      | inr b ↦
          let d = past (kind_words block.kind ++ Open ∷ []) b.left (Named name ∷ Equals ∷ (leaf_words call ++ behind)) (items_words items ++ tail) (no_let_kind block.kind is.2) b.stands in
          let at : front ≡ opening_words (block ∷ blocks) ++ d.left =
          b.is ∙ ap (λ ws. (opening_words blocks ++ items_words block.before) ++ ws) d.is ∙ append_assoc (opening_words blocks) (items_words block.before) ((kind_words block.kind ++ Open ∷ []) ++ d.left) ∙ sym (opening_more block blocks d.left) in
          elim (locate (length (opening_words (block ∷ blocks))) items name d.left call behind tail are whole d.stands) [
            | inl p ↦ inl (located (block ∷ blocks) items name front d.left behind tail is none at loops series p)
            | inr c ↦ inr (record {
              left = c.left;
              is = at ∙ ap (λ ws. opening_words (block ∷ blocks) ++ ws) c.is ∙ sym (append_assoc (opening_words (block ∷ blocks)) (items_words items) c.left);
              stands = c.stands;
            })
          ]
    ]

-- the words of an item up to the place of an argument
abbrev pub begun_words : Option Name → Operator → List Word
begun_words given op = given_words given ++ operator_words op

op_closes : (op : Operator) → closed_by (operator_words op) ≡ 0
op_closes operator.Work = refl
op_closes (operator.Call verb object) = refl

pub begun_closes : (given : Option Name) (op : Operator) → closed_by (begun_words given op) ≡ 0
begun_closes None op = op_closes op
begun_closes (Some name) op = op_closes op

nothing_left : (left tail : List Word) → left ++ (Let ∷ tail) ≡ [] → ⊥
nothing_left [] tail e = cc
nothing_left (w ∷ left) tail e = cc

no_let_words : (words : List Word) → NoLet words → (left tail : List Word) → left ++ (Let ∷ tail) ≡ words → ⊥
no_let_words words none left tail e =
    let b = past words left tail [] none (e ∙ sym (append-nil words)) in nothing_left b.left tail b.stands

op_no_let : (op : Operator) → NoLet (operator_words op)
op_no_let op = no_let_plain (operator_words op) (plain_operator op)

-- verbs of one kind with one word are one
one_verb : (a b : Verb) → kind_of_verb a ≡ kind_of_verb b → word_of_verb a ≡ word_of_verb b → a ≡ b
one_verb a b kinds words =
    let found : verb_by (kind_of_verb a) (word_of_verb a) ≡ verb_by (kind_of_verb b) (word_of_verb b) = λ i. verb_by (kinds i) (words i) in
    let same : Some a ≡ Some b = sym (verb_found a) ∙ found ∙ verb_found b in
    cc same

-- the words of a call are more than those before its argument
call_is_whole : (leaf : Leaf) (behind : List Word) (name : Name) (op : Operator) → IsCall true leaf → IsGiven (Some name) op → leaf_words leaf ++ behind ≡ operator_words op → ⊥
call_is_whole leaf behind name operator.Work is given e = elim given [ ]
call_is_whole (grammar.call verb object (Some argument)) behind name (operator.Call other named) is given e = cc
call_is_whole (grammar.call verb object None) behind name (operator.Call other named) is given e =
    let kinds : kind_of_verb verb ≡ kind_of_verb other = cc in
    let words : word_of_verb verb ≡ word_of_verb other = cc in
    subst (λ takes. FitsVerb true takes None) (ap takes_argument (one_verb verb other kinds words) ∙ given) is
call_is_whole (work argument) behind name op is given e = elim is [ ]
call_is_whole (bound other leaf) behind name op is given e = elim is [ ]

-- no whole let stands in what is begun
none_in_begun : (given : Option Name) (op : Operator) (name : Name) (left : List Word) (leaf : Leaf) (behind : List Word) → IsGiven given op → IsCall true leaf → left ++ (leaf_words (bound name leaf) ++ behind) ≡ begun_words given op → ⊥
none_in_begun None op name left leaf behind is whole e = no_let_words (operator_words op) (op_no_let op) left (Named name ∷ Equals ∷ (leaf_words leaf ++ behind)) e
none_in_begun (Some given) op name [] leaf behind is whole e = let tail : leaf_words leaf ++ behind ≡ operator_words op = cc in call_is_whole leaf behind given op whole is tail
none_in_begun (Some given) op name (w ∷ left) leaf behind is whole e =
    let tail : left ++ (Let ∷ (Named name ∷ Equals ∷ (leaf_words leaf ++ behind))) ≡ Named given ∷ Equals ∷ operator_words op = cc in
    no_let_words (Named given ∷ Equals ∷ operator_words op) ((λ e. cc), ((λ e. cc), op_no_let op)) left (Named name ∷ Equals ∷ (leaf_words leaf ++ behind)) tail

-- A let that is visible by the three conditions is seen behind the front.
pub visible_is_seen : (blocks : List OpenBlock) (items : Items) (given : Option Name) (op : Operator) (name : Name) → AreFlatBlocks blocks → AreFlat items → IsGiven given op
    → (sees : Sees (opening_words blocks ++ (items_words items ++ begun_words given op)) name) → HasLet (lets_seen blocks items) name (length sees.front)
visible_is_seen blocks items given op name is are begun sees =
    elim (visible_in blocks items name sees.front sees.call sees.behind (begun_words given op) is are sees.whole (begun_closes given op) sees.loops sees.series sees.stands) [
      | inl h ↦ h
      | inr b ↦ absurd (none_in_begun given op name b.left sees.call sees.behind begun sees.whole b.stands)
    ]
