-- A measure of items, by which recursion over them terminates.
use Rattle.std.proofs.Common.{◌≡◌, ℕ, zero, suc, ◌+◌, ◌<◌, ◌≤◌, List, [], ◌∷◌, length, get_or, Vec, Global, ap, ◌∙◌, arith}
use Rattle.job_syntax.specs.declared.item.Item.{Item, Block}
use Rattle.job_syntax.specs.declared.item.BlockKind.{BlockKind as CodeBlockKind}
use Rattle.job_syntax.specs.Grammar.{Items, nothing, leaf_then, block_then, ◌then◌}
use Rattle.job_syntax.specs.Views.{items_of, item_of}
use Rattle.job_syntax.proofs.ParserLemmas.Levels.{item_of_block}

abbrev pub weight : Items → ℕ
weight nothing = 0
weight (leaf_then leaf more) = 1 + weight more
weight (block_then kind body more) = 4 + weight body + weight more

weight_then : (a b : Items) → weight (a then b) ≡ weight a + weight b
weight_then nothing b = omega arith
weight_then (leaf_then leaf a) b = let h = weight_then a b in omega (arith, h)
weight_then (block_then kind body a) b = let h = weight_then a b in omega (arith, h)

weight_at : (xs : List Item) (i : ℕ) (d : Item) → i < length xs → weight (item_of (get_or xs i d)) ≤ weight (items_of xs)
weight_at [] i d h = absurd (omega (arith, h))
weight_at (x ∷ xs) zero d h = let e = weight_then (item_of x) (items_of xs) in omega (arith, e)
weight_at (x ∷ xs) (suc i) d h = let e = weight_then (item_of x) (items_of xs) in let k = weight_at xs i d (omega (arith, h)) in omega (arith, e, k)

pub weight_item : (x : Item) (xs : List Item) (i : ℕ) → i < length xs → x ≡ get_or xs i x → weight (item_of x) < weight (items_of xs) + 1
weight_item x xs i h e = let k = weight_at xs i x h in let f = ap (λ y. weight (item_of y)) e in omega (arith, k, f)

pub weight_block : (kind : CodeBlockKind) (inside : Vec Item Global) → weight (item_of (Block kind inside)) ≡ weight (items_of inside.items) + 4
weight_block kind inside = ap weight (item_of_block kind inside) ∙ omega arith
