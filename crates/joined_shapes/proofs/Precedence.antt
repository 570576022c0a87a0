-- What is before what stays so, and a leaf that is shown is before the next one.
use Rattle.std.proofs.Common.{◌≡◌, ℕ, ◌+◌, ◌<◌, ◌≤◌, inl, inr, Bool, true, false, if◌then◌else◌, List, [], ◌∷◌, ◌++◌, sym, ap, ◌∙◌, subst, arith}
use Rattle.std.specs.Prelude.{nat_le}
use Rattle.std.proofs.lemmas.Bool.{cases_lt}
use Rattle.std.proofs.lemmas.Bool.Decides.{nat_tests}
use Rattle.sp_order.specs.Precedence.{Tree, leaf, leaves, IsBefore}
use Rattle.job_lang.specs.declared.join.Order.{Order}
use Rattle.job_lang.specs.Meaning.{join_list}
use Rattle.job_lang.specs.Orders.{join_by}
use Rattle.job_lang.proofs.ExpandLemmas.Before.{total, IsBeforeIn}
use Rattle.job_lang.proofs.ExpandLemmas.Leaves.{total_is, total_append}
use Rattle.job_lang.proofs.ExpandLemmas.Joined.{before_left, before_right, before_cross}
use Rattle.joined_shapes.specs.Blocks.{Block, Blocks, BeginsAt, IsNested, is_series, is_shown, joined, shape_in, shape_of, shows, with_items, with_leaf}
use Rattle.joined_shapes.proofs.Leaves.{joined_total}
use Rattle.joined_shapes.proofs.Joined.{before_joined, before_whole, joined_before, whole_before}

-- the second items have what the first have, and as much before as they
pub record Grows (xs ys : List Tree) : Type 0 where
  pub more : total xs ≤ total ys
  pub keeps : (series : Bool) (first u v : ℕ) → IsBeforeIn series first xs u v → IsBeforeIn series first ys u v

grows_right : (xs zs : List Tree) → Grows xs (xs ++ zs)
grows_right xs zs = record {
  more = let all = total_append xs zs in omega (arith, all);
  keeps = λ series first u v h. before_left series first xs zs u v h;
}

grows_behind : (zs xs ys : List Tree) → Grows xs ys → Grows (zs ++ xs) (zs ++ ys)
grows_behind [] xs ys grows = grows
grows_behind (z ∷ zs) xs ys grows =
    let rest = grows_behind zs xs ys grows in
    let longer = rest.more in
    record { more = omega (arith, longer); keeps = keeps rest }
  where
    keeps : Grows (zs ++ xs) (zs ++ ys) → (series : Bool) (first u v : ℕ) → IsBeforeIn series first (z ∷ (zs ++ xs)) u v → IsBeforeIn series first (z ∷ (zs ++ ys)) u v
    keeps rest series first u v (inl a) = inl a
    keeps rest series first u v (inr (inl b)) = inr (inl (rest.keeps series (first + leaves z) u v b))
    keeps rest series first u v (inr (inr c)) = let longer = rest.more in let below = c.1.1.1 in inr (inr (c.0, (c.1.0, (c.1.1.0, omega (arith, longer, below)))))

grows_joined : (order : Order) (xs ys : List Tree) → Grows xs ys → Grows (join_list (join_by order) xs) (join_list (join_by order) ys)
grows_joined order xs ys grows = record {
  more = let a = joined_total order xs in let b = joined_total order ys in let longer = grows.more in omega (arith, a, b, longer);
  keeps = λ series first u v h. joined_before order series ys first u v (grows.keeps (is_series order) first u v (before_joined order series xs first u v h));
}

grown : (order : Order) (first : ℕ) (xs ys : List Tree) (around : List Block) (u v : ℕ) → Grows xs ys
    → IsBefore (shape_in (record { order = order; first = first; items = xs }) around) u v → IsBefore (shape_in (record { order = order; first = first; items = ys }) around) u v
grown order first xs ys [] u v grows h = whole_before order ys u v (grows.keeps (is_series order) 0 u v (before_whole order xs u v h))
grown order first xs ys (block ∷ around) u v grows h =
    grown block.order block.first (block.items ++ join_list (join_by order) xs) (block.items ++ join_list (join_by order) ys) around u v
    (grows_behind block.items (join_list (join_by order) xs) (join_list (join_by order) ys) (grows_joined order xs ys grows)) h

pub leaf_keeps : (blocks : Blocks) (u v : ℕ) → IsBefore (shape_of blocks) u v → IsBefore (shape_of (with_leaf blocks)) u v
leaf_keeps blocks u v h =
    grown blocks.inner.order blocks.inner.first blocks.inner.items (blocks.inner.items ++ leaf ∷ []) blocks.around u v (grows_right blocks.inner.items (leaf ∷ [])) h

-- what is before what in the innermost block is so in the shape
lifted : (inner : Block) (around : List Block) (u v : ℕ) → BeginsAt inner.first around → IsBeforeIn (is_series inner.order) inner.first inner.items u v → IsBefore (shape_in inner around) u v
lifted inner [] u v begins h = whole_before inner.order inner.items u v (subst (λ n. IsBeforeIn (is_series inner.order) n inner.items u v) begins h)
lifted inner (block ∷ around) u v begins h =
    let from : inner.first ≡ block.first + total block.items = let all = total_is block.items in let first = begins.0 in omega (arith, all, first) in
    lifted (with_items block (joined inner)) around u v begins.1
    (before_right (is_series block.order) block.first block.items (joined inner) u v
    (joined_before inner.order (is_series block.order) inner.items (block.first + total block.items) u v
    (subst (λ n. IsBeforeIn (is_series inner.order) n inner.items u v) from h)))

-- the test of the blocks, by whether the first of them holds the leaf

held : (block : Block) (around : List Block) (u : ℕ) → block.first ≤ u → shows (block ∷ around) u ≡ true → is_series block.order ≡ true
held block around u low shown =
    let on : nat_le block.first u ≡ true = grind (arith, nat_tests) in
    sym (ap (λ b. if b then is_series block.order else shows around u) on) ∙ shown

passed : (block : Block) (around : List Block) (u : ℕ) → u < block.first → shows (block ∷ around) u ≡ true → shows around u ≡ true
passed block around u less shown =
    let off : nat_le block.first u ≡ false = grind (arith, nat_tests) in
    sym (ap (λ b. if b then is_series block.order else shows around u) off) ∙ shown

-- u stands in a block that runs in series, and v behind it
crosses : (order : Order) (first : ℕ) (items more : List Tree) (u v : ℕ) → is_series order ≡ true → first ≤ u → u < first + total items → first + total items ≤ v
    → v < first + total items + total more → IsBeforeIn (is_series order) first (items ++ more) u v
crosses order first items more u v series low less behind below =
    subst (λ s. IsBeforeIn s first (items ++ more) u v) (sym series) (before_cross first items more u v low less behind below)

-- a leaf that a block around the innermost one shows is before each leaf of the innermost one
shown_around : (inner : Block) (around : List Block) (u v : ℕ) → BeginsAt inner.first around → u < inner.first → inner.first ≤ v → v < inner.first + total inner.items
    → shows around u ≡ true → IsBefore (shape_in inner around) u v
shown_around inner [] u v begins less low below shown = absurd cc
shown_around inner (block ∷ around) u v begins less low below shown =
    let from : inner.first ≡ block.first + total block.items = let all = total_is block.items in let first = begins.0 in omega (arith, all, first) in
    let same = joined_total inner.order inner.items in
    let longer = total_append block.items (joined inner) in
    elim (cases_lt u block.first) [
      | inl early ↦
          shown_around (with_items block (joined inner)) around u v begins.1 early (omega (arith, from, low)) (omega (arith, from, below, same, longer)) (passed block around u early shown)
      | inr late ↦
          lifted (with_items block (joined inner)) around u v begins.1
          (crosses block.order block.first block.items (joined inner) u v (held block around u late shown) late (omega (arith, from, less)) (omega (arith, from, low)) (omega (arith, from, below, same)))
    ]

pub shown_before : (blocks : Blocks) (u : ℕ) → IsNested blocks → u < blocks.leaves → is_shown blocks u ≡ true → IsBefore (shape_of (with_leaf blocks)) u blocks.leaves
shown_before blocks u is less shown =
    let inner = with_items blocks.inner (leaf ∷ []) in
    let count : blocks.leaves ≡ blocks.inner.first + total blocks.inner.items = let all = total_is blocks.inner.items in let counted = is.counted in omega (arith, all, counted) in
    let longer = total_append blocks.inner.items (leaf ∷ []) in
    elim (cases_lt u blocks.inner.first) [
      | inl early ↦
          shown_around inner blocks.around u blocks.leaves is.begins early (omega (arith, count)) (omega (arith, count, longer)) (passed blocks.inner blocks.around u early shown)
      | inr late ↦
          lifted inner blocks.around u blocks.leaves is.begins
          (crosses blocks.inner.order blocks.inner.first blocks.inner.items (leaf ∷ []) u blocks.leaves (held blocks.inner blocks.around u late shown) late (omega (arith, count, less)) (omega (arith, count)) (omega (arith, count)))
    ]
