-- The lets that are seen behind a front stand in the order of their places, the latest first.
use Rattle.std.proofs.Common.{ℕ, ◌≡◌, ◌+◌, ◌<◌, ◌≤◌, inl, inr, Bool, true, false, List, [], ◌∷◌, ◌++◌, length, length-append, arith}
use Rattle.std.specs.Prelude.{if◌then◌else◌}
use Rattle.job_names.specs.declared.name.Name.{Name}
use Rattle.job_names.specs.declared.scopes.Let.{Let}
use Rattle.job_syntax.specs.declared.lexer.word.Word.TheVariants.{Open}
use Rattle.job_syntax.specs.Grammar.{Leaf, work, call, bound, BlockKind, Items, nothing, leaf_then, block_then, leaf_words, kind_words, items_words, is_loop, is_par}
use Rattle.job_syntax.specs.Code.Shown.{OpenBlock}
use Rattle.job_syntax.specs.Code.Reached.{opening_words}
use Rattle.job_syntax.proofs.ParserLemmas.LetsSeen.{HasLet, lets_of, lets_behind, lets_seen, block_length}

abbrev pub IsBelow : ℕ → List Let → Type 0
IsBelow n [] = Unit {0}
IsBelow n (x ∷ xs) = (x.number < n) × IsBelow n xs

abbrev IsFrom : ℕ → List Let → Type 0
IsFrom n [] = Unit {0}
IsFrom n (x ∷ xs) = (n ≤ x.number) × IsFrom n xs

abbrev pub IsSorted : List Let → Type 0
IsSorted [] = Unit {0}
IsSorted (x ∷ xs) = IsBelow x.number xs × IsSorted xs

pub below_has : (n : ℕ) (lets : List Let) (name : Name) (place : ℕ) → IsBelow n lets → HasLet lets name place → place < n
below_has n [] name place h there = absurd there
below_has n (x ∷ lets) name place h (inl e) = let low = h.0 in let same = e.1 in omega (arith, low, same)
below_has n (x ∷ lets) name place h (inr there) = below_has n lets name place h.1 there

below_more : (n m : ℕ) (lets : List Let) → n ≤ m → IsBelow n lets → IsBelow m lets
below_more n m [] le h = tt
below_more n m (x ∷ lets) le h = let low = h.0 in (omega (arith, low, le), below_more n m lets le h.1)

from_more : (n m : ℕ) (lets : List Let) → m ≤ n → IsFrom n lets → IsFrom m lets
from_more n m [] le h = tt
from_more n m (x ∷ lets) le h = let low = h.0 in (omega (arith, low, le), from_more n m lets le h.1)

below_both : (n : ℕ) (xs ys : List Let) → IsBelow n xs → IsBelow n ys → IsBelow n (xs ++ ys)
below_both n [] ys h h' = h'
below_both n (x ∷ xs) ys h h' = (h.0, below_both n xs ys h.1 h')

from_both : (n : ℕ) (xs ys : List Let) → IsFrom n xs → IsFrom n ys → IsFrom n (xs ++ ys)
from_both n [] ys h h' = h'
from_both n (x ∷ xs) ys h h' = (h.0, from_both n xs ys h.1 h')

sorted_both : (n : ℕ) (xs ys : List Let) → IsSorted xs → IsFrom n xs → IsSorted ys → IsBelow n ys → IsSorted (xs ++ ys)
sorted_both n [] ys sorted from sorted' below = sorted'
sorted_both n (x ∷ xs) ys sorted from sorted' below =
    (below_both x.number xs ys sorted.0 (below_more n x.number ys from.0 below), sorted_both n xs ys sorted.1 from.1 sorted' below)

-- lets in order, between two places
record Spans (low high : ℕ) (lets : List Let) : Type 0 where
  from : IsFrom low lets
  below : IsBelow high lets
  sorted : IsSorted lets

spans_none : (low high : ℕ) → Spans low high []
spans_none low high = record { from = tt; below = tt; sorted = tt }

spans_both : (low mid mid' high : ℕ) (xs ys : List Let) → low ≤ mid' → mid ≤ mid' → mid' ≤ high → Spans mid' high xs → Spans low mid ys → Spans low high (xs ++ ys)
spans_both low mid mid' high xs ys a b c p q = record {
  from = from_both low xs ys (from_more mid' low xs a p.from) q.from;
  below = below_both high xs ys p.below (below_more mid high ys (omega (arith, b, c)) q.below);
  sorted = sorted_both mid' xs ys p.sorted p.from q.sorted (below_more mid mid' ys b q.below);
}

spans_more : (low high low' high' : ℕ) (lets : List Let) → low' ≤ low → high ≤ high' → Spans low high lets → Spans low' high' lets
spans_more low high low' high' lets a b p = record { from = from_more low low' lets a p.from; below = below_more high high' lets b p.below; sorted = p.sorted }

spans_kept : (b : Bool) (low high : ℕ) (lets : List Let) → Spans low high lets → Spans low high (if b then [] else lets)
spans_kept true low high lets p = spans_none low high
spans_kept false low high lets p = p

leaf_spans : (at : ℕ) (leaf : Leaf) → Spans at (at + length (leaf_words leaf)) (lets_of at leaf)
leaf_spans at (work argument) = spans_none at (at + length (leaf_words (work argument)))
leaf_spans at (call verb object argument) = spans_none at (at + length (leaf_words (call verb object argument)))
leaf_spans at (bound name given) = record { from = (omega arith, tt); below = (omega arith, tt); sorted = (tt, tt) }

-- the words of a block
inside_length : (kind : BlockKind) (body : Items) → length (items_words (block_then kind body nothing)) ≡ length (kind_words kind ++ Open ∷ []) + (length (items_words body) + 1)
inside_length kind body = simp length-append (omega arith)

behind_spans : (at : ℕ) (items : Items) → Spans at (at + length (items_words items)) (lets_behind at items)
behind_spans at nothing = spans_none at (at + 0)
behind_spans at (leaf_then leaf more) =
    let next = at + length (leaf_words leaf) in
    let long = length-append (leaf_words leaf) (items_words more) in
    spans_both at next next (at + length (items_words (leaf_then leaf more))) (lets_behind next more) (lets_of at leaf) (omega arith) (omega arith) (omega (arith, long))
    (spans_more next (next + length (items_words more)) next (at + length (items_words (leaf_then leaf more))) (lets_behind next more) (omega arith) (omega (arith, long)) (behind_spans next more))
    (leaf_spans at leaf)
behind_spans at (block_then kind body more) =
    let inside = at + length (kind_words kind ++ Open ∷ []) in
    let next = at + length (items_words (block_then kind body nothing)) in
    let high = at + length (items_words (block_then kind body more)) in
    let given = if is_loop kind then [] else lets_behind inside body in
    let long = block_length kind body (items_words more) in
    let far = inside_length kind body in
    spans_both at next next high (lets_behind next more) given (omega arith) (omega arith) (omega (arith, long))
    (spans_more next (next + length (items_words more)) next high (lets_behind next more) (omega arith) (omega (arith, long)) (behind_spans next more))
    (spans_kept (is_loop kind) at next (lets_behind inside body)
    (spans_more inside (inside + length (items_words body)) at next (lets_behind inside body) (omega arith) (omega (arith, far)) (behind_spans inside body)))

seen_spans : (blocks : List OpenBlock) (items : Items) → Spans 0 (length (opening_words blocks) + length (items_words items)) (lets_seen blocks items)
seen_spans [] items = behind_spans 0 items
seen_spans (block ∷ blocks) items =
    let at = length (opening_words (block ∷ blocks)) in
    let mid = length (opening_words blocks) + length (items_words block.before) in
    let long = length-append (opening_words blocks) (items_words block.before ++ (kind_words block.kind ++ Open ∷ [])) in
    let long' = length-append (items_words block.before) (kind_words block.kind ++ Open ∷ []) in
    spans_both 0 mid at (at + length (items_words items)) (if is_par block.kind then [] else lets_behind at items) (lets_seen blocks block.before)
    (omega arith) (omega (arith, long, long')) (omega arith)
    (spans_kept (is_par block.kind) at (at + length (items_words items)) (lets_behind at items) (behind_spans at items)) (seen_spans blocks block.before)

pub seen_sorted : (blocks : List OpenBlock) (items : Items) → IsSorted (lets_seen blocks items)
seen_sorted blocks items = (seen_spans blocks items).sorted
