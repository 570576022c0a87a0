-- The source of each leaf is the leaf of the let that its use means.
use Rattle.std.proofs.Common.{ℕ, ◌≡◌, ◌+◌, ◌-◌, ◌*◌, Bool, true, not, List, [], ◌∷◌, ◌++◌, length, length-append, take, Option, Some, None, arith, refl, sym, ap, ◌∙◌, subst, append_assoc, append-nil}
use Rattle.std.specs.Prelude.{if◌then◌else◌, option_and_then, slice_get}
use Rattle.std.proofs.Math.Seq.{take-append_seam}
use Rattle.job_names.specs.declared.name.Name.{Name}
use Rattle.job_syntax.specs.declared.lexer.word.Word.{Word}
use Rattle.job_syntax.specs.declared.lexer.word.Word.TheVariants.{Open, Close}
use Rattle.job_syntax.specs.Blocks.{copies_of}
use Rattle.job_syntax.specs.Grammar.{Leaf, BlockKind, seq_block, par_block, for_loop, pfor_loop, is_loop, is_par, Items, nothing, leaf_then, block_then, ◌then◌, leaf_words, kind_words, items_words, IsLeaf}
use Rattle.job_syntax.specs.Visibility.{is_in_series}
use Rattle.job_syntax.specs.Code.Shown.{OpenBlock, scope_at, IsShownLeaf, AreShown}
use Rattle.job_syntax.specs.Code.Reached.{opening_words}
use Rattle.job_syntax.proofs.ParserLemmas.Derivations.{words_then}
use Rattle.job_syntax.proofs.ParserLemmas.NamesSeen.{AreFlat, AreFlatBlocks}
use Rattle.job_syntax.proofs.ParserLemmas.LetsSeen.{lets_seen, place_seen}
use Rattle.job_syntax.proofs.ParserLemmas.Seen.{kinds_of, begun_words, begun_closes, visible_is_seen}
use Rattle.job_syntax.proofs.ParserLemmas.Visible.{seen_is_visible}
use Rattle.job_syntax.proofs.ParserLemmas.Shown.{shown_to}
use Rattle.job_syntax.specs.Arguments.{name_used}
use Rattle.job_lang.specs.Counts.{count}
use Rattle.job_lang.specs.Meaning.{in_block, in_block_from, Known, leaf_known, source_of, known_by, known_behind, known_next, sources_in}
use Rattle.job_lang.specs.Places.{PlacedLeaf, with_copy, placed_in, placed_leaves, MeansLet, HasItsLet, IsSourceOf, HaveTheirLets}
use Rattle.job_syntax.proofs.ParserLemmas.Calls.{begun, used_shown}
use Rattle.job_lang.proofs.ExpandLemmas.Blocks.{block_length}
use Rattle.job_lang.proofs.LetLemmas.Lists.{EachWith, each_both, each_from, each_long, each_get, Part, part_left, part_right, part_head, part_tail, each_in_block}
use Rattle.job_lang.proofs.LetLemmas.Orders.{seen_sorted}
use Rattle.job_lang.proofs.LetLemmas.Known.{placed_count, IsKnownAt, deeper, leaf_known_at, block_known_at, behind_known_at, step_known, last_seen}

-- no let stands at the front of a block
none_seen : (kind : BlockKind) (blocks : List OpenBlock) (before : Items) → lets_seen blocks before ≡ lets_seen (record { before = before; kind = kind } ∷ blocks) nothing
none_seen seq_block blocks before = refl
none_seen par_block blocks before = refl
none_seen (for_loop n) blocks before = refl
none_seen (pfor_loop n) blocks before = refl

-- the words before the argument
cut_at : (all front rest : List Word) (n : ℕ) → n ≡ length front → front ++ rest ≡ all → take n all ≡ front
cut_at all front rest n e stands = ap (λ m. take m all) e ∙ ap (take (length front)) (sym stands) ∙ take-append_seam front rest

cut : (words w before begun rest : List Word) (argument : Word) (at : ℕ) → at ≡ length w + length before → w ++ (before ++ ((begun ++ argument ∷ []) ++ rest)) ≡ words
    → take (at + length (begun ++ argument ∷ []) - 1) words ≡ w ++ (before ++ begun)
cut words w before begun rest argument at far stands =
    let a = length-append begun (argument ∷ []) in
    let b = length-append w (before ++ begun) in
    let c = length-append before begun in
    let split : (w ++ (before ++ begun)) ++ (argument ∷ rest) ≡ w ++ (before ++ ((begun ++ argument ∷ []) ++ rest)) = simp append_assoc refl in
    cut_at words (w ++ (before ++ begun)) (argument ∷ rest) (at + length (begun ++ argument ∷ []) - 1) (omega (arith, far, a, b, c)) (split ∙ stands)

flat_then : (before item : Items) → AreFlat before → AreFlat item → AreFlat (before then item)
flat_then nothing item is is' = is'
flat_then (leaf_then leaf more) item is is' = (is.0, flat_then more item is.1 is')
flat_then (block_then kind body more) item is is' = (is.0, flat_then more item is.1 is', is.2)

-- A front of the text: the open blocks, the items before in the innermost, and how many words these are.
record IsFront (words : List Word) (blocks : List OpenBlock) (before : Items) (at : ℕ) (rest : List Word) : Type 0 where
  blocks_fit : AreFlatBlocks blocks
  items_fit : AreFlat before
  long : at ≡ length (opening_words blocks) + length (items_words before)
  stands : opening_words blocks ++ (items_words before ++ rest) ≡ words

past_leaf : (words : List Word) (blocks : List OpenBlock) (before : Items) (at : ℕ) (leaf : Leaf) (rest : List Word) → IsLeaf true leaf
    → IsFront words blocks before at (leaf_words leaf ++ rest) → IsFront words blocks (before then leaf_then leaf nothing) (at + length (leaf_words leaf)) rest
past_leaf words blocks before at leaf rest is front =
    let item = leaf_then leaf nothing in
    let long = front.long in
    let whole = ap length (words_then before item) ∙ length-append (items_words before) (leaf_words leaf ++ []) in
    let own = length-append (leaf_words leaf) [] in
    let same : opening_words blocks ++ ((items_words before ++ (leaf_words leaf ++ [])) ++ rest) ≡ opening_words blocks ++ (items_words before ++ (leaf_words leaf ++ rest)) = simp append_assoc refl in
    record {
      blocks_fit = front.blocks_fit;
      items_fit = flat_then before item front.items_fit (is, tt);
      long = omega (arith, long, whole, own);
      stands = ap (λ ws. opening_words blocks ++ (ws ++ rest)) (words_then before item) ∙ same ∙ front.stands;
    }

past_block : (words : List Word) (blocks : List OpenBlock) (before : Items) (at : ℕ) (kind : BlockKind) (body more : Items) (tail : List Word) → AreFlat (block_then kind body more)
    → IsFront words blocks before at (items_words (block_then kind body more) ++ tail)
    → IsFront words blocks (before then block_then kind body nothing) (at + length (items_words (block_then kind body nothing))) (items_words more ++ tail)
past_block words blocks before at kind body more tail is front =
    let item = block_then kind body nothing in
    let long = front.long in
    let whole = ap length (words_then before item) ∙ length-append (items_words before) (items_words item) in
    let same : opening_words blocks ++ ((items_words before ++ (kind_words kind ++ Open ∷ (items_words body ++ Close ∷ []))) ++ (items_words more ++ tail))
    ≡ opening_words blocks ++ (items_words before ++ ((kind_words kind ++ Open ∷ (items_words body ++ Close ∷ items_words more)) ++ tail)) = simp append_assoc refl in
    record {
      blocks_fit = front.blocks_fit;
      items_fit = flat_then before item front.items_fit (is.0, tt, is.2);
      long = omega (arith, long, whole);
      stands = ap (λ ws. opening_words blocks ++ (ws ++ (items_words more ++ tail))) (words_then before item) ∙ same ∙ front.stands;
    }

into_block : (words : List Word) (blocks : List OpenBlock) (before : Items) (at : ℕ) (kind : BlockKind) (body more : Items) (tail : List Word) → AreFlat (block_then kind body more)
    → IsFront words blocks before at (items_words (block_then kind body more) ++ tail)
    → IsFront words (record { before = before; kind = kind } ∷ blocks) nothing (at + length (kind_words kind ++ Open ∷ [])) (items_words body ++ (Close ∷ (items_words more ++ tail)))
into_block words blocks before at kind body more tail is front =
    let long = front.long in
    let whole = length-append (opening_words blocks) (items_words before ++ (kind_words kind ++ Open ∷ [])) in
    let own = length-append (items_words before) (kind_words kind ++ Open ∷ []) in
    let same : (opening_words blocks ++ (items_words before ++ (kind_words kind ++ Open ∷ []))) ++ (items_words body ++ (Close ∷ (items_words more ++ tail)))
    ≡ opening_words blocks ++ (items_words before ++ ((kind_words kind ++ Open ∷ (items_words body ++ Close ∷ items_words more)) ++ tail)) = simp append_assoc refl in
    record {
      blocks_fit = (front.items_fit, front.blocks_fit, is.2);
      items_fit = tt;
      long = omega (arith, long, whole, own);
      stands = same ∙ front.stands;
    }

module _ (words : List Word) (all : List PlacedLeaf) where
  abbrev IsGood : Option ℕ → PlacedLeaf → Type 0
  IsGood source at = IsSourceOf words all source at (name_used at.leaf)

  -- the leaf behind a front
  used_good : (blocks : List OpenBlock) (before : Items) (at : ℕ) (copies : List ℕ) (leaf : Leaf) (rest : List Word) (known : List Known) (name : Name) → IsLeaf true leaf
      → IsFront words blocks before at (leaf_words leaf ++ rest) → EachWith (IsKnownAt all copies) known (lets_seen blocks before) → IsShownLeaf (scope_at blocks before) leaf
      → name_used leaf ≡ Some name → HasItsLet words all (source_of known leaf) (record { leaf = leaf; before = at; copies = copies }) name
  used_good blocks before at copies leaf rest known name is front h shown e =
      let b = begun leaf name is e in
      let there = place_seen blocks before name (shown_to blocks before name (used_shown (scope_at blocks before) leaf name shown e)) in
      let r = last_seen all copies known (lets_seen blocks before) name there.0 h (seen_sorted blocks before) there.1 in
      let seen = seen_is_visible blocks before (begun_words b.given b.op) name r.from.before front.blocks_fit front.items_fit (begun_closes b.given b.op) r.has in
      let here = ap (λ ws. take (at + length ws - 1) words) b.is
      ∙ cut words (opening_words blocks) (items_words before) (begun_words b.given b.op) rest b.argument at front.long
      (ap (λ ws. opening_words blocks ++ (items_words before ++ (ws ++ rest))) (sym b.is) ∙ front.stands) in
      record {
        number = r.number;
        is = ap (option_and_then (leaf_known known)) e ∙ r.is;
        from = r.from;
        stands = r.stands;
        means = subst (λ ws. MeansLet ws name (record { leaf = leaf; before = at; copies = copies }) r.from) (sym here) (record {
          call = r.call;
          binds = r.binds;
          seen = seen.0;
          stands = seen.1;
          last = λ other. r.last (length other.front) (visible_is_seen blocks before b.given b.op name front.blocks_fit front.items_fit b.fits other);
          inner = r.inner;
          same_copies = r.same;
        });
      }

  good_by : (blocks : List OpenBlock) (before : Items) (at : ℕ) (copies : List ℕ) (leaf : Leaf) (rest : List Word) (known : List Known) (used : Option Name) → IsLeaf true leaf
      → IsFront words blocks before at (leaf_words leaf ++ rest) → EachWith (IsKnownAt all copies) known (lets_seen blocks before) → IsShownLeaf (scope_at blocks before) leaf
      → name_used leaf ≡ used → IsSourceOf words all (source_of known leaf) (record { leaf = leaf; before = at; copies = copies }) used
  good_by blocks before at copies leaf rest known None is front h shown e = ap (option_and_then (leaf_known known)) e
  good_by blocks before at copies leaf rest known (Some name) is front h shown e = used_good blocks before at copies leaf rest known name is front h shown e

  walk : (items : Items) (series : Bool) (known : List Known) (first : ℕ) (copies : List ℕ) (blocks : List OpenBlock) (before : Items) (at : ℕ) (tail : List Word)
      → is_in_series (kinds_of blocks) ≡ series → AreFlat items → IsFront words blocks before at (items_words items ++ tail)
      → EachWith (IsKnownAt all copies) known (lets_seen blocks before) → AreShown blocks before items → Part first (placed_in at copies items) all
      → EachWith IsGood (sources_in series known first items) (placed_in at copies items)
  walk nothing series known first copies blocks before at tail is fits front h shown part = tt
  walk (leaf_then leaf more) series known first copies blocks before at tail is fits front h shown part =
      let item = leaf_then leaf nothing in
      let next = at + length (leaf_words leaf) in
      let here : PlacedLeaf = record { leaf = leaf; before = at; copies = copies } in
      let leaves = placed_in next copies more in
      let front' = subst (IsFront words blocks before at) (append_assoc (leaf_words leaf) (items_words more) tail) front in (
        good_by blocks before at copies leaf (items_words more ++ tail) known (name_used leaf) fits.0 front' h shown.0 refl,
        walk more series (known_next series (known_by first leaf) known) (first + 1) copies blocks (before then item) next tail is fits.1
            (past_leaf words blocks before at leaf (items_words more ++ tail) fits.0 front')
            (step_known (IsKnownAt all copies) blocks before item at series (known_by first leaf) known is front.long
            (leaf_known_at all leaf at first copies (part_head first here leaves all part)) h)
            shown.1 (part_tail first here leaves all part),
      )
  walk (block_then kind body more) series known first copies blocks before at tail is fits front h shown part =
      let item = block_then kind body nothing in
      let inside = at + length (kind_words kind ++ Open ∷ []) in
      let next = at + length (items_words (block_then kind body nothing)) in
      let m = count body in
      let behind = first + copies_of kind * m in
      let inner = not (is_par kind) in
      let new = if is_loop kind then [] else known_behind first body in
      let f : ℕ → List (Option ℕ) = λ from. sources_in inner known from body in
      let g : ℕ → List PlacedLeaf = λ k. placed_in inside (with_copy kind copies k) body in
      let long : (k : ℕ) → length (g k) ≡ m = λ k. placed_count body inside (with_copy kind copies k) in
      let rest = placed_in next copies more in
      let own = part_left first (in_block kind 0 g) rest all part in
      each_both IsGood (in_block_from kind first m f) (sources_in series (known_next series new known) behind more) (in_block kind 0 g) rest
      (each_in_block IsGood kind m first f g all long
      (λ from k part_k. walk body inner known from (with_copy kind copies k) (record { before = before; kind = kind } ∷ blocks) nothing inside (Close ∷ (items_words more ++ tail)) refl fits.0
      (into_block words blocks before at kind body more tail fits front)
      (subst (EachWith (IsKnownAt all (with_copy kind copies k)) known) (none_seen kind blocks before)
      (each_from (IsKnownAt all copies) (IsKnownAt all (with_copy kind copies k)) (deeper kind all copies k) known (lets_seen blocks before) h)) shown.0 part_k)
      own)
      (walk more series (known_next series new known) behind copies blocks (before then item) next tail is fits.1 (past_block words blocks before at kind body more tail fits front)
      (step_known (IsKnownAt all copies) blocks before item at series new known is front.long
      (block_known_at all kind body inside first copies (λ around part. behind_known_at all body inside first around part) own) h)
      shown.1 (part_right first behind (in_block kind 0 g) rest all (omega (arith, block_length kind 0 m g long)) part))

module _ (words : List Word) (items : Items) (writes : items_words items ≡ words) (fits : AreFlat items) (shown : AreShown [] nothing items) where
  pub each_is_good : EachWith (λ source at. IsSourceOf words (placed_leaves items) source at (name_used at.leaf)) (sources_in true [] 0 items) (placed_leaves items)
  each_is_good =
      let all = placed_leaves items in
      let front : IsFront words [] nothing 0 (items_words items ++ []) = record { blocks_fit = tt; items_fit = tt; long = omega arith; stands = append-nil (items_words items) ∙ writes } in
      let whole : Part 0 all all = λ i x e. (let same : i ≡ 0 + i = omega arith in subst (λ n. slice_get all n ≡ Some x) same e) in
      walk words all items true [] 0 [] [] nothing 0 [] refl fits front tt shown whole

  -- The source of each leaf of a text is the leaf of the let that its use means.
  pub leaves_are_meant : HaveTheirLets words (placed_leaves items) (sources_in true [] 0 items)
  leaves_are_meant =
      let leaves = placed_leaves items in
      let sources = sources_in true [] 0 items in
      record {
        as_many = each_long (IsGood words leaves) sources leaves each_is_good;
        each = λ number at source e f. each_get (IsGood words leaves) sources leaves number source at each_is_good e f;
      }
