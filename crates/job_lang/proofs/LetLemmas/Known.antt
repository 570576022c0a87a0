-- Each name that is known stands for the leaf of a let that is seen, name by name in the same order.
use Rattle.std.proofs.Common.{ℕ, ◌≡◌, ◌+◌, ◌*◌, ◌≤◌, inl, inr, Bool, true, false, true≢false, List, [], ◌∷◌, ◌++◌, length, length-append, Some, arith, refl, sym, ap, ◌∙◌, subst, append_assoc, append-nil}
use Rattle.std.specs.Prelude.{if◌then◌else◌, not, slice_get}
use Rattle.job_names.specs.declared.name.Name.{Name}
use Rattle.job_names.specs.declared.scopes.Let.{Let}
use Rattle.job_names.specs.Names.{same_name}
use Rattle.job_names.proofs.SameNames.{same_from, same_to}
use Rattle.job_syntax.specs.declared.lexer.word.Word.TheVariants.{Open}
use Rattle.job_syntax.specs.Blocks.{copies_of}
use Rattle.job_syntax.specs.Grammar.{Leaf, work, call, bound, BlockKind, seq_block, par_block, for_loop, pfor_loop, Items, nothing, leaf_then, block_then, ◌then◌, leaf_words, kind_words, items_words, is_loop, is_par}
use Rattle.job_syntax.specs.Visibility.{is_in_series}
use Rattle.job_syntax.specs.Code.Shown.{OpenBlock}
use Rattle.job_syntax.specs.Code.Reached.{opening_words}
use Rattle.job_syntax.proofs.ParserLemmas.LetsSeen.{HasLet, lets_of, lets_behind, lets_seen}
use Rattle.job_syntax.proofs.ParserLemmas.LetsSeen as seen
use Rattle.job_syntax.proofs.ParserLemmas.Seen.{kinds_of}
use Rattle.job_lang.specs.Counts.{count}
use Rattle.job_lang.specs.Meaning.{in_block, Known, leaf_known, known_by, known_behind, known_next}
use Rattle.job_lang.specs.Places.{PlacedLeaf, with_copy, placed_in}
use Rattle.job_lang.proofs.ExpandLemmas.Blocks.{block_length}
use Rattle.job_lang.proofs.LetLemmas.Lists.{EachWith, each_both, Part, part_left, part_right, part_head, part_tail}
use Rattle.job_lang.proofs.LetLemmas.Orders.{IsBelow, IsSorted, below_has}

both_count : (xs ys : List PlacedLeaf) (n m : ℕ) → length xs ≡ n → length ys ≡ m → length (xs ++ ys) ≡ n + m
both_count xs ys n m e f = length-append xs ys ∙ omega (arith, e, f)

pub placed_count : (items : Items) (at : ℕ) (copies : List ℕ) → length (placed_in at copies items) ≡ count items
placed_count nothing at copies = refl
placed_count (leaf_then leaf more) at copies =
    let rest = placed_count more (at + length (leaf_words leaf)) copies in omega (arith, rest)
placed_count (block_then kind body more) at copies =
    let inside = at + length (kind_words kind ++ Open ∷ []) in
    let next = at + length (items_words (block_then kind body nothing)) in
    let copy : ℕ → List PlacedLeaf = λ k. placed_in inside (with_copy kind copies k) body in
    both_count (in_block kind 0 copy) (placed_in next copies more) (copies_of kind * count body) (count more)
    (block_length kind 0 (count body) copy (λ k. placed_count body inside (with_copy kind copies k))) (placed_count more next copies)

-- What is known of a name is the leaf of a let of the name, at the place of the let, in these copies or in some around
-- them.
pub record IsKnownAt (all : List PlacedLeaf) (copies : List ℕ) (known : Known) (seen : Let) : Type 0 where
  pub name : known.name ≡ seen.name
  pub from : PlacedLeaf
  pub stands : slice_get all known.leaf ≡ Some from
  pub place : from.before ≡ seen.number
  pub call : Leaf
  pub binds : from.leaf ≡ bound seen.name call
  pub inner : List ℕ
  pub same : from.copies ++ inner ≡ copies

in_copy : (all : List PlacedLeaf) (copies : List ℕ) (copy : ℕ) (known : Known) (seen : Let) → IsKnownAt all copies known seen → IsKnownAt all (copies ++ copy ∷ []) known seen
in_copy all copies copy known seen k = record {
  name = k.name;
  from = k.from;
  stands = k.stands;
  place = k.place;
  call = k.call;
  binds = k.binds;
  inner = k.inner ++ copy ∷ [];
  same = sym (append_assoc k.from.copies k.inner (copy ∷ [])) ∙ ap (λ c. c ++ copy ∷ []) k.same;
}

pub deeper : (kind : BlockKind) (all : List PlacedLeaf) (copies : List ℕ) (copy : ℕ) (known : Known) (seen : Let) → IsKnownAt all copies known seen → IsKnownAt all (with_copy kind copies copy) known seen
deeper seq_block all copies copy known seen k = k
deeper par_block all copies copy known seen k = k
deeper (for_loop n) all copies copy known seen k = in_copy all copies copy known seen k
deeper (pfor_loop n) all copies copy known seen k = in_copy all copies copy known seen k

module _ (all : List PlacedLeaf) where
  pub leaf_known_at : (leaf : Leaf) (at first : ℕ) (copies : List ℕ) → slice_get all first ≡ Some (record { leaf = leaf; before = at; copies = copies })
      → EachWith (IsKnownAt all copies) (known_by first leaf) (lets_of at leaf)
  leaf_known_at (work argument) at first copies e = tt
  leaf_known_at (call verb object argument) at first copies e = tt
  leaf_known_at (bound name given) at first copies e = (
    record {
      name = refl;
      from = record { leaf = bound name given; before = at; copies = copies };
      stands = e;
      place = refl;
      call = given;
      binds = refl;
      inner = [];
      same = append-nil copies;
    },
    tt,
  )

  -- what is known behind a block, where this is so behind its body
  pub block_known_at : (kind : BlockKind) (body : Items) (inside first : ℕ) (copies : List ℕ)
      → ((around : List ℕ) → Part first (placed_in inside around body) all → EachWith (IsKnownAt all around) (known_behind first body) (lets_behind inside body))
      → Part first (in_block kind 0 (λ k. placed_in inside (with_copy kind copies k) body)) all
      → EachWith (IsKnownAt all copies) (if is_loop kind then [] else known_behind first body) (if is_loop kind then [] else lets_behind inside body)
  block_known_at seq_block body inside first copies one h = one copies h
  block_known_at par_block body inside first copies one h = one copies h
  block_known_at (for_loop n) body inside first copies one h = tt
  block_known_at (pfor_loop n) body inside first copies one h = tt

  pub behind_known_at : (items : Items) (at first : ℕ) (copies : List ℕ) → Part first (placed_in at copies items) all → EachWith (IsKnownAt all copies) (known_behind first items) (lets_behind at items)
  behind_known_at nothing at first copies h = tt
  behind_known_at (leaf_then leaf more) at first copies h =
      let next = at + length (leaf_words leaf) in
      let here : PlacedLeaf = record { leaf = leaf; before = at; copies = copies } in
      each_both (IsKnownAt all copies) (known_behind (first + 1) more) (known_by first leaf) (lets_behind next more) (lets_of at leaf)
      (behind_known_at more next (first + 1) copies (part_tail first here (placed_in next copies more) all h))
      (leaf_known_at leaf at first copies (part_head first here (placed_in next copies more) all h))
  behind_known_at (block_then kind body more) at first copies h =
      let inside = at + length (kind_words kind ++ Open ∷ []) in
      let next = at + length (items_words (block_then kind body nothing)) in
      let behind = first + copies_of kind * count body in
      let copy : ℕ → List PlacedLeaf = λ k. placed_in inside (with_copy kind copies k) body in
      let long = block_length kind 0 (count body) copy (λ k. placed_count body inside (with_copy kind copies k)) in
      each_both (IsKnownAt all copies) (known_behind behind more) (if is_loop kind then [] else known_behind first body) (lets_behind next more) (if is_loop kind then [] else lets_behind inside body)
      (behind_known_at more next behind copies (part_right first behind (in_block kind 0 copy) (placed_in next copies more) all (omega (arith, long)) h))
      (block_known_at kind body inside first copies (λ around part. behind_known_at body inside first around part) (part_left first (in_block kind 0 copy) (placed_in next copies more) all h))

-- the lets seen behind one more item

lets_then : (before item : Items) (at next : ℕ) → next ≡ at + length (items_words before) → lets_behind at (before then item) ≡ lets_behind next item ++ lets_behind at before
lets_then nothing item at next e =
    let same : at ≡ next = omega (arith, e) in
    ap (λ n. lets_behind n item) same ∙ sym (append-nil (lets_behind next item))
lets_then (leaf_then leaf more) item at next e =
    let inner = at + length (leaf_words leaf) in
    let long = length-append (leaf_words leaf) (items_words more) in
    ap (λ lets. lets ++ lets_of at leaf) (lets_then more item inner next (omega (arith, e, long))) ∙ append_assoc (lets_behind next item) (lets_behind inner more) (lets_of at leaf)
lets_then (block_then kind body more) item at next e =
    let inner = at + length (items_words (block_then kind body nothing)) in
    let given = if is_loop kind then [] else lets_behind (at + length (kind_words kind ++ Open ∷ [])) body in
    let long = seen.block_length kind body (items_words more) in
    ap (λ lets. lets ++ given) (lets_then more item inner next (omega (arith, e, long))) ∙ append_assoc (lets_behind next item) (lets_behind inner more) given

par_then : (par : Bool) (all new old outer : List Let) → all ≡ new ++ old → (if par then [] else all) ++ outer ≡ (if not par then new else []) ++ ((if par then [] else old) ++ outer)
par_then true all new old outer e = refl
par_then false all new old outer e = ap (λ lets. lets ++ outer) e ∙ append_assoc new old outer

seen_then : (blocks : List OpenBlock) (before item : Items) (at : ℕ) → at ≡ length (opening_words blocks) + length (items_words before)
    → lets_seen blocks (before then item) ≡ (if is_in_series (kinds_of blocks) then lets_behind at item else []) ++ lets_seen blocks before
seen_then [] before item at e = lets_then before item 0 at e
seen_then (block ∷ blocks) before item at e =
    let start = length (opening_words (block ∷ blocks)) in
    par_then (is_par block.kind) (lets_behind start (before then item)) (lets_behind at item) (lets_behind start before) (lets_seen blocks block.before) (lets_then before item start at e)

next_with : (P : Known → Let → Type 0) (series : Bool) (new known : List Known) (lets seen : List Let) → EachWith P new lets → EachWith P known seen → EachWith P (known_next series new known) ((if series then lets else []) ++ seen)
next_with P true new known lets seen h h' = each_both P new known lets seen h h'
next_with P false new known lets seen h h' = h'

pub step_known : (P : Known → Let → Type 0) (blocks : List OpenBlock) (before item : Items) (at : ℕ) (series : Bool) (new known : List Known) → is_in_series (kinds_of blocks) ≡ series
    → at ≡ length (opening_words blocks) + length (items_words before) → EachWith P new (lets_behind at item) → EachWith P known (lets_seen blocks before)
    → EachWith P (known_next series new known) (lets_seen blocks (before then item))
step_known P blocks before item at series new known is e h h' =
    subst (EachWith P (known_next series new known)) (sym (seen_then blocks before item at e))
    (subst (λ b. EachWith P (known_next b new known) ((if is_in_series (kinds_of blocks) then lets_behind at item else []) ++ lets_seen blocks before)) is
    (next_with P (is_in_series (kinds_of blocks)) new known (lets_behind at item) (lets_seen blocks before) h h'))

-- What is known of a name that is seen: the leaf of the last let of the name.
pub record IsLastSeen (all : List PlacedLeaf) (copies : List ℕ) (known : List Known) (seen : List Let) (name : Name) : Type 0 where
  pub number : ℕ
  pub is : leaf_known known name ≡ Some number
  pub from : PlacedLeaf
  pub stands : slice_get all number ≡ Some from
  pub call : Leaf
  pub binds : from.leaf ≡ bound name call
  pub inner : List ℕ
  pub same : from.copies ++ inner ≡ copies
  pub has : HasLet seen name from.before
  pub last : (place : ℕ) → HasLet seen name place → place ≤ from.before

first_is_last : (all : List PlacedLeaf) (copies : List ℕ) (k : Known) (l : Let) (known : List Known) (seen : List Let) (name : Name) (b : Bool) → same_name k.name name ≡ b
    → IsKnownAt all copies k l → IsBelow l.number seen → (place : ℕ) → HasLet (l ∷ seen) name place
    → ((there : ℕ) → HasLet seen name there → IsLastSeen all copies known seen name) → IsLastSeen all copies (k ∷ known) (l ∷ seen) name
first_is_last all copies k l known seen name true e at below place h rest =
    let own : l.name ≡ name = sym at.name ∙ same_from k.name name e in
    let here = at.place in
    record {
      number = k.leaf;
      is = ap (λ b. if b then Some k.leaf else leaf_known known name) e;
      from = at.from;
      stands = at.stands;
      call = at.call;
      binds = subst (λ n. at.from.leaf ≡ bound n at.call) own at.binds;
      inner = at.inner;
      same = at.same;
      has = inl (own, sym at.place);
      last = λ other there. elim there [
        | inl this ↦ (let same = this.1 in omega (arith, same, here))
        | inr later ↦ (let low = below_has l.number seen name other below later in omega (arith, low, here))
      ];
    }
first_is_last all copies k l known seen name false e at below place (inl this) rest = absurd (true≢false (sym (same_to k.name name (at.name ∙ this.0)) ∙ e))
first_is_last all copies k l known seen name false e at below place (inr later) rest =
    let r = rest place later in
    record {
      number = r.number;
      is = ap (λ b. if b then Some k.leaf else leaf_known known name) e ∙ r.is;
      from = r.from;
      stands = r.stands;
      call = r.call;
      binds = r.binds;
      inner = r.inner;
      same = r.same;
      has = inr r.has;
      last = λ other there. elim there [
        | inl this ↦ absurd (true≢false (sym (same_to k.name name (at.name ∙ this.0)) ∙ e))
        | inr here ↦ r.last other here
      ];
    }

pub last_seen : (all : List PlacedLeaf) (copies : List ℕ) (known : List Known) (seen : List Let) (name : Name) (place : ℕ) → EachWith (IsKnownAt all copies) known seen → IsSorted seen → HasLet seen name place
    → IsLastSeen all copies known seen name
last_seen all copies [] [] name place h sorted there = absurd there
last_seen all copies [] (l ∷ seen) name place h sorted there = elim h [ ]
last_seen all copies (k ∷ known) [] name place h sorted there = absurd there
last_seen all copies (k ∷ known) (l ∷ seen) name place h sorted there =
    first_is_last all copies k l known seen name (same_name k.name name) refl h.0 sorted.0 place there (λ later found. last_seen all copies known seen name later h.1 sorted.1 found)
