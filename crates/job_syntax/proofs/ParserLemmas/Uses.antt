-- Where the uses in items have their lets shown, each is known in the words of the items.
use Rattle.std.proofs.Common.{◌≡◌, List, [], ◌∷◌, ◌++◌, Bool, true, false, ◌≢◌, Option, Some, None, true≢false, refl, sym, ap, ◌∙◌, append_assoc, append-nil, subst}
use Rattle.std.specs.Prelude.{IsTrue}
use Rattle.std.proofs.lemmas.List.{map-append}
use Rattle.job_names.specs.declared.name.Name.{Name}
use Rattle.job_syntax.specs.declared.lexer.word.Word.{Word}
use Rattle.job_syntax.specs.declared.lexer.word.Word.TheVariants.{Open, Close, Let, Equals, Number, Named}
use Rattle.job_syntax.specs.declared.lexer.word.WordOnLine.{WordOnLine}
use Rattle.job_syntax.specs.Faults.{words_of}
use Rattle.job_syntax.specs.ItemsOf.{AreKnown}
use Rattle.job_syntax.specs.Grammar.{Leaf, work, call, bound, BlockKind, seq_block, par_block, for_loop, pfor_loop, Items, nothing, leaf_then, block_then, ◌then◌, leaf_words, kind_words, items_words, is_number, FitsVerb, IsCall, IsLeaf, IsBlockKind, AreItems}
use Rattle.job_syntax.specs.declared.parser.call.Operator.{Operator}
use Rattle.job_syntax.specs.declared.parser.call.Operator.TheVariants as operator
use Rattle.seq_objects.specs.declared.verb.Verb.{Verb}
use Rattle.seq_objects.specs.Verbs.{takes_argument}
use Rattle.job_syntax.specs.Visibility.{IsKnown, ends_in_let, Sees}
use Rattle.job_syntax.specs.Code.Machine.{OpenBlock, at, an_item, an_argument, a_brace, are_looped, operator_words}
use Rattle.job_syntax.specs.Code.Reached.{opening_words, given_words, IsGiven, IsReached}
use Rattle.job_syntax.specs.Code.Shown.{scope_at, IsShownWord, IsShownLeaf, AreShown}
use Rattle.job_syntax.proofs.ParserLemmas.Derivations.{words_then}
use Rattle.job_syntax.proofs.ParserLemmas.Reached.{fits-then, reach_brace, reach_close, start_reached}
use Rattle.job_syntax.proofs.ParserLemmas.Shown.{shown_sees, sees_shown, ends_append, ends_state, argument_ends}

-- each use among the words, behind those of `before`, sees a let
abbrev pub AreKnownWords : List Word → List Word → Type 0
AreKnownWords before [] = Unit {0}
AreKnownWords before (word ∷ words) = IsKnown before word × AreKnownWords (before ++ word ∷ []) words

pub known_tokens : (before tokens : List WordOnLine) → AreKnownWords (words_of before) (words_of tokens) → AreKnown before tokens
known_tokens before [] h = tt
known_tokens before (token ∷ tokens) h =
    (h.0, known_tokens (before ++ token ∷ []) tokens (subst (λ words. AreKnownWords words (words_of tokens)) (sym (map-append (λ (token : WordOnLine). token.word) before (token ∷ []))) h.1))

-- none of the words is a name
abbrev pub NoNames : List Word → Type 0
NoNames [] = Unit {0}
NoNames (word ∷ words) = ((name : Name) → word ≢ Named name) × NoNames words

skip : (front before rest : List Word) → NoNames front → AreKnownWords (before ++ front) rest → AreKnownWords before (front ++ rest)
skip [] before rest none h = subst (λ words. AreKnownWords words rest) (append-nil before) h
skip (word ∷ front) before rest none h =
    ((λ name used. absurd (none.0 name used.0)), skip front (before ++ word ∷ []) rest none.1 (subst (λ words. AreKnownWords words rest) (sym (append_assoc before (word ∷ []) front)) h))

op_names : (op : Operator) → NoNames (operator_words op)
op_names operator.Work = ((λ name e. cc), tt)
op_names (operator.Call verb object) = ((λ name e. cc), ((λ name e. cc), tt))

number_names : (copies : Word) → IsTrue (is_number copies) → (name : Name) → copies ≢ Named name
number_names (Number n) fits name e = cc
number_names _ fits name e = cc

kind_names : (kind : BlockKind) → IsBlockKind kind → NoNames (kind_words kind ++ Open ∷ [])
kind_names seq_block fits = ((λ name e. cc), ((λ name e. cc), tt))
kind_names par_block fits = ((λ name e. cc), ((λ name e. cc), tt))
kind_names (for_loop copies) fits = ((λ name e. cc), (number_names copies fits, ((λ name e. cc), tt)))
kind_names (pfor_loop copies) fits = ((λ name e. cc), (number_names copies fits, ((λ name e. cc), tt)))

module _ {words : List Word} {blocks : List OpenBlock} {items : Items} (reached : IsReached words (at blocks items an_item)) where
  front_is : opening_words blocks ++ items_words items ≡ words
  front_is = ap (λ ws. opening_words blocks ++ ws) (sym (append-nil (items_words items))) ∙ reached.writes

  longer_front : (behind : List Word) → opening_words blocks ++ (items_words items ++ behind) ≡ words ++ behind
  longer_front behind = sym (append_assoc (opening_words blocks) (items_words items) behind) ∙ ap (λ ws. ws ++ behind) front_is

  at_argument : (given : Option Name) (op : Operator) → IsGiven given op → IsReached (words ++ (given_words given ++ operator_words op)) (at blocks items (an_argument given op))
  at_argument given op fits = record { writes = longer_front (given_words given ++ operator_words op); blocks = reached.blocks; items = reached.items; place = fits }

  at_brace : (kind : BlockKind) → IsBlockKind kind → IsReached (words ++ kind_words kind) (at blocks items (a_brace kind))
  at_brace kind fits = record { writes = longer_front (kind_words kind); blocks = reached.blocks; items = reached.items; place = fits }

  at_items : (more : Items) → AreItems (are_looped blocks) more → IsReached (words ++ items_words more) (at blocks (items then more) an_item)
  at_items more fits = record {
    writes = ap (λ ws. opening_words blocks ++ (ws ++ [])) (words_then items more) ∙ ap (λ ws. opening_words blocks ++ ws) (append-nil (items_words items ++ items_words more)) ∙ longer_front (items_words more);
    blocks = reached.blocks;
    items = fits-then (are_looped blocks) items more reached.items fits;
    place = tt;
  }

  -- the argument of an operation
  argument_known : (given : Option Name) (op : Operator) (argument : Word) → IsGiven given op → IsShownWord (scope_at blocks items) argument → IsKnown (words ++ (given_words given ++ operator_words op)) argument
  argument_known given op (Named name) fits shown other used =
      let same : name ≡ other = (let e = used.0 in cc) in
      subst (Sees (words ++ (given_words given ++ operator_words op))) same (shown_sees _ blocks items given op name (at_argument given op fits) shown)
  argument_known given op _ fits shown other used = absurd (let e = used.0 in cc)

  -- an operation with its argument
  unary_known : (given : Option Name) (op : Operator) (argument : Word) (rest : List Word) → IsGiven given op → IsShownWord (scope_at blocks items) argument
      → AreKnownWords (words ++ (given_words given ++ (operator_words op ++ argument ∷ []))) rest → AreKnownWords (words ++ given_words given) ((operator_words op ++ argument ∷ []) ++ rest)
  unary_known given op argument rest fits shown h =
      let before = words ++ (given_words given ++ operator_words op) in
      let front : (words ++ given_words given) ++ operator_words op ≡ before = append_assoc words (given_words given) (operator_words op) in
      let whole : words ++ (given_words given ++ (operator_words op ++ argument ∷ [])) ≡ before ++ argument ∷ [] =
      ap (λ ws. words ++ ws) (sym (append_assoc (given_words given) (operator_words op) (argument ∷ []))) ∙ sym (append_assoc words (given_words given ++ operator_words op) (argument ∷ [])) in
      subst (AreKnownWords (words ++ given_words given)) (sym (append_assoc (operator_words op) (argument ∷ []) rest))
      (skip (operator_words op) (words ++ given_words given) (argument ∷ rest) (op_names op)
      (subst (λ ws. AreKnownWords ws (argument ∷ rest)) (sym front)
      (argument_known given op argument fits shown, subst (λ ws. AreKnownWords ws rest) whole h)))

  -- a call, with what stands before it of its `let`
  behind_known : (given : Option Name) (verb : Verb) (object : Option Name) (looped takes : Bool) (argument : Option Word) (rest : List Word) → takes_argument verb ≡ takes → FitsVerb looped takes argument → IsShownLeaf (scope_at blocks items) (call verb object argument)
      → AreKnownWords (words ++ (given_words given ++ leaf_words (call verb object argument))) rest → AreKnownWords (words ++ given_words given) (leaf_words (call verb object argument) ++ rest)
  behind_known given verb object looped true (Some argument) rest e fits shown h = unary_known given (operator.Call verb object) argument rest e shown h
  behind_known given verb object looped false None rest e fits shown h =
      skip (operator_words (operator.Call verb object)) (words ++ given_words given) rest (op_names (operator.Call verb object)) (subst (λ ws. AreKnownWords ws rest) (sym (append_assoc words (given_words given) (operator_words (operator.Call verb object)))) h)
  behind_known given verb object looped true None rest e fits shown h = elim fits [ ]
  behind_known given verb object looped false (Some argument) rest e fits shown h = elim fits [ ]

  call_known : (given : Option Name) (leaf : Leaf) (looped : Bool) (rest : List Word) → IsCall looped leaf → IsShownLeaf (scope_at blocks items) leaf
      → AreKnownWords (words ++ (given_words given ++ leaf_words leaf)) rest → AreKnownWords (words ++ given_words given) (leaf_words leaf ++ rest)
  call_known given (call verb object argument) looped rest fits shown h = behind_known given verb object looped (takes_argument verb) argument rest refl fits shown h
  call_known given (work argument) looped rest fits shown h = elim fits [ ]
  call_known given (bound name leaf) looped rest fits shown h = elim fits [ ]

  leaf_known : (leaf : Leaf) (looped : Bool) (rest : List Word) → IsLeaf looped leaf → IsShownLeaf (scope_at blocks items) leaf → AreKnownWords (words ++ leaf_words leaf) rest → AreKnownWords words (leaf_words leaf ++ rest)
  leaf_known (work argument) looped rest fits shown h =
      subst (λ ws. AreKnownWords ws (leaf_words (work argument) ++ rest)) (append-nil words) (unary_known None operator.Work argument rest tt shown h)
  leaf_known (call verb object argument) looped rest fits shown h =
      subst (λ ws. AreKnownWords ws (leaf_words (call verb object argument) ++ rest)) (append-nil words) (call_known None (call verb object argument) looped rest fits shown h)
  leaf_known (bound name leaf) looped rest fits shown h =
      let call_words = call_known (Some name) leaf looped rest fits shown h in
      let ends : ends_in_let false (words ++ Let ∷ []) ≡ true = ends_append false words (Let ∷ []) in
      let whole : words ++ Let ∷ Named name ∷ Equals ∷ [] ≡ ((words ++ Let ∷ []) ++ Named name ∷ []) ++ Equals ∷ [] =
      sym (append_assoc (words ++ Let ∷ []) (Named name ∷ []) (Equals ∷ []) ∙ append_assoc words (Let ∷ []) (Named name ∷ Equals ∷ [])) in (
        (λ other used. absurd (let e = used.0 in cc)),
        (
          (λ other used. absurd (true≢false (sym ends ∙ used.1))),
          (
            (λ other used. absurd (let e = used.0 in cc)),
            subst (λ ws. AreKnownWords ws (leaf_words leaf ++ rest)) whole call_words,
          ),
        ),
      )

-- the words of items whose uses have their lets shown are known
pub items_known : (items : Items) {words : List Word} {blocks : List OpenBlock} {before : Items} (rest : List Word) → IsReached words (at blocks before an_item) → AreItems (are_looped blocks) items → AreShown blocks before items
    → AreKnownWords (words ++ items_words items) rest → AreKnownWords words (items_words items ++ rest)
items_known nothing {words} rest reached fits shown h = subst (λ ws. AreKnownWords ws rest) (append-nil words) h
items_known (leaf_then leaf more) {words} {blocks} {before} rest reached fits shown h =
    subst (AreKnownWords words) (sym (append_assoc (leaf_words leaf) (items_words more) rest))
    (leaf_known reached leaf (are_looped blocks) (items_words more ++ rest) fits.0 shown.0
    (items_known more rest
    (subst (λ ws. IsReached (words ++ ws) (at blocks (before then leaf_then leaf nothing) an_item)) (append-nil (leaf_words leaf)) (at_items reached (leaf_then leaf nothing) (fits.0, tt))) fits.1 shown.1
    (subst (λ ws. AreKnownWords ws rest) (sym (append_assoc words (leaf_words leaf) (items_words more))) h)))
items_known (block_then kind body more) {words} {blocks} {before} rest reached fits shown h =
    let opened : IsReached (words ++ (kind_words kind ++ Open ∷ [])) (at (record { before = before; kind = kind } ∷ blocks) nothing an_item) =
    subst (λ ws. IsReached ws (at (record { before = before; kind = kind } ∷ blocks) nothing an_item)) (append_assoc words (kind_words kind) (Open ∷ [])) (reach_brace kind (at_brace reached kind fits.0)) in
    let filled = at_items opened body fits.1 in
    let closed = reach_close (record { before = before; kind = kind }) blocks body filled in
    let front = words ++ (kind_words kind ++ Open ∷ []) in
    let whole : words ++ (kind_words kind ++ Open ∷ (items_words body ++ Close ∷ items_words more)) ≡ ((front ++ items_words body) ++ Close ∷ []) ++ items_words more = simp append_assoc refl in
    let split : (kind_words kind ++ Open ∷ (items_words body ++ Close ∷ items_words more)) ++ rest ≡ (kind_words kind ++ Open ∷ []) ++ (items_words body ++ (Close ∷ (items_words more ++ rest))) = simp append_assoc refl in
    subst (AreKnownWords words) (sym split)
    (skip (kind_words kind ++ Open ∷ []) words (items_words body ++ (Close ∷ (items_words more ++ rest))) (kind_names kind fits.0)
    (items_known body (Close ∷ (items_words more ++ rest)) opened fits.1 shown.0 (
      (λ name used. absurd (let e = used.0 in cc)),
      items_known more rest closed fits.2 shown.1 (subst (λ ws. AreKnownWords ws rest) whole h),
    )))

-- the tokens of items whose uses have their lets shown
pub tokens_known : (tokens : List WordOnLine) (items : Items) → items_words items ≡ words_of tokens → AreItems false items → AreShown [] nothing items → AreKnown [] tokens
tokens_known tokens items writes fits shown =
    known_tokens [] tokens (subst (AreKnownWords []) (append-nil (items_words items) ∙ writes) (items_known items [] start_reached fits shown tt))

-- the other way round: in words whose uses are known, each use of the items has its let shown

unskip : (front before rest : List Word) → AreKnownWords before (front ++ rest) → AreKnownWords (before ++ front) rest
unskip [] before rest h = subst (λ words. AreKnownWords words rest) (sym (append-nil before)) h
unskip (word ∷ front) before rest h = subst (λ words. AreKnownWords words rest) (append_assoc before (word ∷ []) front) (unskip front (before ++ word ∷ []) rest h.1)

pub known_words : (before tokens : List WordOnLine) → AreKnown before tokens → AreKnownWords (words_of before) (words_of tokens)
known_words before [] h = tt
known_words before (token ∷ tokens) h =
    (h.0, subst (λ words. AreKnownWords words (words_of tokens)) (map-append (λ (token : WordOnLine). token.word) before (token ∷ [])) (known_words (before ++ token ∷ []) tokens h.1))

module _ {words : List Word} {blocks : List OpenBlock} {items : Items} (reached : IsReached words (at blocks items an_item)) where
  known_argument : (given : Option Name) (op : Operator) (argument : Word) → IsGiven given op → IsKnown (words ++ (given_words given ++ operator_words op)) argument → IsShownWord (scope_at blocks items) argument
  known_argument given op (Named name) fits known =
      let there = at_argument reached given op fits in
      sees_shown _ blocks items given op name there (known name (refl, ends_state _ blocks items (an_argument given op) there ∙ argument_ends _ given op))
  known_argument given op _ fits known = tt

  known_unary : (given : Option Name) (op : Operator) (argument : Word) (rest : List Word) → IsGiven given op → AreKnownWords (words ++ given_words given) ((operator_words op ++ argument ∷ []) ++ rest) → IsShownWord (scope_at blocks items) argument
  known_unary given op argument rest fits h =
      let behind = unskip (operator_words op) (words ++ given_words given) (argument ∷ rest) (subst (AreKnownWords (words ++ given_words given)) (append_assoc (operator_words op) (argument ∷ []) rest) h) in
      known_argument given op argument fits (subst (λ ws. IsKnown ws argument) (append_assoc words (given_words given) (operator_words op)) behind.0)

  known_behind : (given : Option Name) (verb : Verb) (object : Option Name) (looped takes : Bool) (argument : Option Word) (rest : List Word) → takes_argument verb ≡ takes → FitsVerb looped takes argument
      → AreKnownWords (words ++ given_words given) (leaf_words (call verb object argument) ++ rest) → IsShownLeaf (scope_at blocks items) (call verb object argument)
  known_behind given verb object looped true (Some argument) rest e fits h = known_unary given (operator.Call verb object) argument rest e h
  known_behind given verb object looped takes None rest e fits h = tt
  known_behind given verb object looped false (Some argument) rest e fits h = elim fits [ ]

  known_call : (given : Option Name) (leaf : Leaf) (looped : Bool) (rest : List Word) → IsCall looped leaf → AreKnownWords (words ++ given_words given) (leaf_words leaf ++ rest) → IsShownLeaf (scope_at blocks items) leaf
  known_call given (call verb object argument) looped rest fits h = known_behind given verb object looped (takes_argument verb) argument rest refl fits h
  known_call given (work argument) looped rest fits h = elim fits [ ]
  known_call given (bound name leaf) looped rest fits h = elim fits [ ]

  known_leaf : (leaf : Leaf) (looped : Bool) (rest : List Word) → IsLeaf looped leaf → AreKnownWords words (leaf_words leaf ++ rest) → IsShownLeaf (scope_at blocks items) leaf
  known_leaf (work argument) looped rest fits h =
      known_unary None operator.Work argument rest tt (subst (λ ws. AreKnownWords ws (leaf_words (work argument) ++ rest)) (sym (append-nil words)) h)
  known_leaf (call verb object argument) looped rest fits h =
      known_call None (call verb object argument) looped rest fits (subst (λ ws. AreKnownWords ws (leaf_words (call verb object argument) ++ rest)) (sym (append-nil words)) h)
  known_leaf (bound name leaf) looped rest fits h =
      known_call (Some name) leaf looped rest fits (unskip (given_words (Some name)) words (leaf_words leaf ++ rest) h)

known_items : (items : Items) {words : List Word} {blocks : List OpenBlock} {before : Items} (rest : List Word) → IsReached words (at blocks before an_item) → AreItems (are_looped blocks) items → AreKnownWords words (items_words items ++ rest) → AreShown blocks before items
known_items nothing rest reached fits h = tt
known_items (leaf_then leaf more) {words} {blocks} {before} rest reached fits h =
    let parts = subst (AreKnownWords words) (append_assoc (leaf_words leaf) (items_words more) rest) h in (
      known_leaf reached leaf (are_looped blocks) (items_words more ++ rest) fits.0 parts,
      known_items more rest
          (subst (λ ws. IsReached (words ++ ws) (at blocks (before then leaf_then leaf nothing) an_item)) (append-nil (leaf_words leaf)) (at_items reached (leaf_then leaf nothing) (fits.0, tt))) fits.1
          (unskip (leaf_words leaf) words (items_words more ++ rest) parts),
    )
known_items (block_then kind body more) {words} {blocks} {before} rest reached fits h =
    let opened : IsReached (words ++ (kind_words kind ++ Open ∷ [])) (at (record { before = before; kind = kind } ∷ blocks) nothing an_item) =
    subst (λ ws. IsReached ws (at (record { before = before; kind = kind } ∷ blocks) nothing an_item)) (append_assoc words (kind_words kind) (Open ∷ [])) (reach_brace kind (at_brace reached kind fits.0)) in
    let filled = at_items opened body fits.1 in
    let closed = reach_close (record { before = before; kind = kind }) blocks body filled in
    let split : (kind_words kind ++ Open ∷ (items_words body ++ Close ∷ items_words more)) ++ rest ≡ (kind_words kind ++ Open ∷ []) ++ (items_words body ++ (Close ∷ (items_words more ++ rest))) = simp append_assoc refl in
    let inside = unskip (kind_words kind ++ Open ∷ []) words (items_words body ++ (Close ∷ (items_words more ++ rest))) (subst (AreKnownWords words) split h) in (
      known_items body (Close ∷ (items_words more ++ rest)) opened fits.1 inside,
      known_items more rest closed fits.2 (unskip (items_words body) (words ++ (kind_words kind ++ Open ∷ [])) (Close ∷ (items_words more ++ rest)) inside).1,
    )

-- each use of the items has its let shown, where the uses in their tokens are known
pub items_shown : (tokens : List WordOnLine) (items : Items) → items_words items ≡ words_of tokens → AreItems false items → AreKnown [] tokens → AreShown [] nothing items
items_shown tokens items writes fits known =
    known_items items [] start_reached fits (subst (AreKnownWords []) (sym (append-nil (items_words items) ∙ writes)) (known_words [] tokens known))
