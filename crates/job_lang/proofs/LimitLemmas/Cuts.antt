-- Counts that are capped.
use Rattle.std.proofs.Common.{Vec, Global, ◌≡◌, ℕ, zero, suc, ◌+◌, ◌*◌, ◌<◌, ◌≤◌, min, List, length, take, get_or, sym, ap, ◌∙◌, arith, inl, inr}
use Rattle.std.proofs.Math.Nat.{mul-le-mul_left}
use Rattle.std.proofs.lemmas.Bool.{cases_lt}
use Rattle.job_names.specs.declared.name.Name.{Name}
use Rattle.job_syntax.specs.declared.item.Item.{Item, Leaf as ItemLeaf, Let as ItemLet, Block}
use Rattle.job_syntax.specs.declared.item.Leaf.{Leaf as CodeLeaf}
use Rattle.job_syntax.specs.declared.item.BlockKind.{BlockKind as CodeBlockKind}
use Rattle.job_syntax.specs.Grammar.{Items, nothing, leaf_then, block_then, ◌then◌}
use Rattle.job_syntax.specs.Blocks.{copies_of}
use Rattle.job_lang.specs.Counts.{count}
use Rattle.job_syntax.specs.Views.{items_of, item_of, block_kind_of}
use Rattle.job_syntax.proofs.ParserLemmas.Levels.{items_of_more, item_of_leaf, item_of_let, item_of_block}

pub count_then : (a b : Items) → count (a then b) ≡ count a + count b
count_then nothing b = omega arith
count_then (leaf_then leaf a) b = let h = count_then a b in omega (arith, h)
count_then (block_then kind body a) b = let h = count_then a b in omega (arith, h)

cut_add : (k a b : ℕ) → min k (min k a + min k b) ≡ min k (a + b)
cut_add k a b = omega arith

over : (k n c : ℕ) → k ≤ c → min k (suc n * min k c) ≡ min k (suc n * c)
over k n c h =
    let a : min k c ≡ k = omega arith in
    let b : k ≤ suc n * k = omega arith in
    let e = mul-le-mul_left (suc n) h in
    ap (λ m. min k (suc n * m)) a ∙ omega (arith, b, e)

cut_mul : (k n c : ℕ) → min k (n * min k c) ≡ min k (n * c)
cut_mul k zero c = omega arith
cut_mul k (suc n) c = elim (cases_lt c k) [
  | inl h ↦ ap (λ m. min k (suc n * m)) (omega arith)
  | inr h ↦ over k n c h
]

-- the count of the first items and one more
pub count_more : (xs : List Item) (i : ℕ) (x : Item) → i < length xs → x ≡ get_or xs i x → count (items_of (take (i + 1) xs)) ≡ count (items_of (take i xs)) + count (item_of x)
count_more xs i x h e = ap count (items_of_more xs i x h e) ∙ count_then (items_of (take i xs)) (item_of x)

pub count_step : (xs : List Item) (i : ℕ) (x : Item) (leaves c r : ℕ) → leaves ≡ min 20001 (count (items_of (take i xs))) → c ≡ min 20001 (count (item_of x)) → x ≡ get_or xs i x → i < length xs → r ≡ min 20001 (leaves + c) → r ≡ min 20001 (count (items_of (take (i + 1) xs)))
count_step xs i x leaves c r a d e h b =
    b ∙ ap (λ s. min 20001 (s + c)) a ∙ ap (λ y. min 20001 (min 20001 (count (items_of (take i xs))) + y)) d
    ∙ cut_add 20001 (count (items_of (take i xs))) (count (item_of x)) ∙ ap (min 20001) (sym (count_more xs i x h e))

pub count_block : (h : CodeBlockKind) (v : Vec Item Global) → count (item_of (Block h v)) ≡ copies_of (block_kind_of h) * count (items_of v.items)
count_block h v = ap count (item_of_block h v) ∙ omega arith

pub count_leaf : (l : CodeLeaf) → count (item_of (ItemLeaf l)) ≡ 1
count_leaf l = ap count (item_of_leaf l) ∙ omega arith

pub count_let : (name : Name) (call : CodeLeaf) → count (item_of (ItemLet name call)) ≡ 1
count_let name call = ap count (item_of_let name call) ∙ omega arith

pub block_cut : (h : CodeBlockKind) (v : Vec Item Global) → min 20001 (copies_of (block_kind_of h) * min 20001 (count (items_of v.items))) ≡ min 20001 (count (item_of (Block h v)))
block_cut h v = cut_mul 20001 (copies_of (block_kind_of h)) (count (items_of v.items)) ∙ ap (min 20001) (sym (count_block h v))
