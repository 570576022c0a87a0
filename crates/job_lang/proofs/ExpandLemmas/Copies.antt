-- The meaning of items, one after another and copy by copy.
use Rattle.std.proofs.Common.{◌≡◌, ℕ, zero, suc, ◌+◌, ◌<◌, List, [], ◌∷◌, ◌++◌, length, take, get_or, Vec, Global, refl, sym, ap, ◌∙◌, arith, append_assoc, subst}
use Rattle.sp_order.specs.Precedence.{Tree}
use Rattle.job_syntax.specs.declared.item.Item.{Item, Block}
use Rattle.job_syntax.specs.declared.item.BlockKind.{BlockKind as CodeBlockKind}
use Rattle.job_syntax.specs.Grammar.{Items, nothing, leaf_then, block_then, ◌then◌, Leaf}
use Rattle.job_lang.specs.Meaning.{shapes_in, acts_in, each_leaf}
use Rattle.job_lang.specs.Code.Ranges.{Fits}
use Rattle.job_syntax.specs.Views.{items_of, item_of, block_kind_of}
use Rattle.job_syntax.proofs.ParserLemmas.Levels.{items_of_more, item_of_block}

pub shapes_then : (c : ℕ) (a b : Items) → shapes_in c (a then b) ≡ shapes_in c a ++ shapes_in c b
shapes_then c nothing b = refl
shapes_then c (leaf_then l a) b = simp (shapes_then c a b) refl
shapes_then c (block_then kind x a) b = simp (shapes_then c a b, append_assoc) refl

pub acts_then : (c : ℕ) (a b : Items) → acts_in c (a then b) ≡ acts_in c a ++ acts_in c b
acts_then c nothing b = refl
acts_then c (leaf_then l a) b = simp (acts_then c a b) refl
acts_then c (block_then kind x a) b = simp (acts_then c a b, append_assoc) refl

pub each_leaf_then : {X : Type 0} (rule : Leaf → X) (a b : Items) → each_leaf rule (a then b) ≡ each_leaf rule a ++ each_leaf rule b
each_leaf_then rule nothing b = refl
each_leaf_then rule (leaf_then l a) b = simp (each_leaf_then rule a b) refl
each_leaf_then rule (block_then kind x a) b = simp (each_leaf_then rule a b, append_assoc) refl

fits_then : (c : ℕ) (a b : Items) → Fits c (a then b) → Fits c a × Fits c b
fits_then c nothing b h = (tt, h)
fits_then c (leaf_then l a) b h = let k = fits_then c a b h.1 in ((h.0, k.0), k.1)
fits_then c (block_then kind x a) b h = let k = fits_then c a b h.1 in ((h.0, k.0), k.1)

fits_at : (c : ℕ) (xs : List Item) (i : ℕ) (d : Item) → Fits c (items_of xs) → i < length xs → Fits c (item_of (get_or xs i d))
fits_at c [] i d h k = absurd (omega (arith, k))
fits_at c (x ∷ xs) zero d h k = (fits_then c (item_of x) (items_of xs) h).0
fits_at c (x ∷ xs) (suc i) d h k = fits_at c xs i d (fits_then c (item_of x) (items_of xs) h).1 (omega (arith, k))

pub fits_item : (c : ℕ) (x : Item) (xs : List Item) (i : ℕ) → Fits c (items_of xs) → i < length xs → x ≡ get_or xs i x → Fits c (item_of x)
fits_item c x xs i h k e = subst (λ x. Fits c (item_of x)) (sym e) (fits_at c xs i x h k)

-- the meaning of the first items and one more
shapes_more : (c : ℕ) (xs : List Item) (i : ℕ) (x : Item) → i < length xs → x ≡ get_or xs i x → shapes_in c (items_of (take (i + 1) xs)) ≡ shapes_in c (items_of (take i xs)) ++ shapes_in c (item_of x)
shapes_more c xs i x h e = ap (shapes_in c) (items_of_more xs i x h e) ∙ shapes_then c (items_of (take i xs)) (item_of x)

pub shapes_step : (c : ℕ) (xs : List Item) (i : ℕ) (x : Item) (old now new : List Tree) → now ≡ old ++ shapes_in c (items_of (take i xs)) → x ≡ get_or xs i x → i < length xs → new ≡ now ++ shapes_in c (item_of x) → new ≡ old ++ shapes_in c (items_of (take (i + 1) xs))
shapes_step c xs i x old now new e f h n =
    n ∙ ap (λ y. y ++ shapes_in c (item_of x)) e ∙ append_assoc old (shapes_in c (items_of (take i xs))) (shapes_in c (item_of x))
    ∙ ap (λ y. old ++ y) (sym (shapes_more c xs i x h f))

-- the meaning of an item, by its inner items
pub block_shapes : (c : ℕ) (kind : CodeBlockKind) (inside : Vec Item Global) → shapes_in c (item_of (Block kind inside)) ≡ shapes_in c (block_then (block_kind_of kind) (items_of inside.items) nothing)
block_shapes c kind inside = ap (shapes_in c) (item_of_block kind inside)

pub block_fits : (c : ℕ) (kind : CodeBlockKind) (inside : Vec Item Global) → Fits c (item_of (Block kind inside)) → Fits c (block_then (block_kind_of kind) (items_of inside.items) nothing)
block_fits c kind inside h = subst (Fits c) (item_of_block kind inside) h
