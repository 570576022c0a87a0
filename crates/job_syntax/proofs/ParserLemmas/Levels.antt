-- The items of the code as derivations, level by level.
use Rattle.std.proofs.Common.{rules, Vec, Global, ◌≡◌, ℕ, ◌+◌, ◌<◌, List, [], ◌∷◌, ◌++◌, length, take, drop, get_or, refl, sym, ap, ◌∙◌}
use Rattle.std.proofs.lemmas.List.{take_more, take-append-drop}
use Rattle.job_names.specs.declared.name.Name.{Name}
use Rattle.job_syntax.specs.declared.item.Item.{Item, Leaf as ItemLeaf, Let as ItemLet, Block, the_lemmas}
use Rattle.job_syntax.specs.declared.item.Leaf.{Leaf as CodeLeaf}
use Rattle.job_syntax.specs.declared.item.BlockKind.{BlockKind as CodeBlockKind}
use Rattle.job_syntax.specs.Grammar.{Items, bound, nothing, leaf_then, block_then, ◌then◌}
use Rattle.job_syntax.specs.declared.item.Item.{out-Item, map-Item, fold_out-Item}
use Rattle.job_syntax.specs.declared.item.Item.TheOpen.{Item-F}
use Rattle.job_syntax.proofs.ParserLemmas.Derivations.{then_assoc, then_nothing}
use Rattle.job_syntax.specs.Views.{items_of, item_of, item_step, block_kind_of, leaf_of}

pub items_of_append : (xs ys : List Item) → items_of (xs ++ ys) ≡ items_of xs then items_of ys
items_of_append [] ys = refl
items_of_append (x ∷ xs) ys = ap (λ z. item_of x then z) (items_of_append xs ys) ∙ sym (then_assoc (item_of x) (items_of xs) (items_of ys))

pub items_of_push : (xs : List Item) (x : Item) → items_of (xs ++ x ∷ []) ≡ items_of xs then item_of x
items_of_push xs x = items_of_append xs (x ∷ []) ∙ ap (λ z. items_of xs then z) (then_nothing (item_of x))

pub item_of_leaf : (l : CodeLeaf) → item_of (ItemLeaf l) ≡ leaf_then (leaf_of l) nothing
item_of_leaf l = search (rules, the_lemmas)

pub item_of_let : (name : Name) (call : CodeLeaf) → item_of (ItemLet name call) ≡ leaf_then (bound name (leaf_of call)) nothing
item_of_let name call = search (rules, the_lemmas)

pub item_of_block : (h : CodeBlockKind) (v : Vec Item Global) → item_of (Block h v) ≡ block_then (block_kind_of h) (items_of v.items) nothing
item_of_block h v = search (rules, the_lemmas)

-- the derivation of the first items and one more
pub items_of_more : (xs : List Item) (i : ℕ) (x : Item) → i < length xs → x ≡ get_or xs i x → items_of (take (i + 1) xs) ≡ items_of (take i xs) then item_of x
items_of_more xs i x h e =
    ap items_of (take_more xs i x h) ∙ items_of_push (take i xs) (get_or xs i x) ∙ ap (λ y. items_of (take i xs) then item_of y) (sym e)

-- the derivations of the first items and of the others make that of all
pub items_of_parts : (xs : List Item) (i : ℕ) → items_of (take i xs) then items_of (drop i xs) ≡ items_of xs
items_of_parts xs i = sym (items_of_append (take i xs) (drop i xs)) ∙ ap items_of (take-append-drop i xs)

-- each item is one level over the items inside it
pub level_of : (x : Item) → (y : Item-F Items) × (item_of x ≡ item_step y)
level_of x = (map-Item Item Items item_of (out-Item x), fold_out-Item Items item_step x)
