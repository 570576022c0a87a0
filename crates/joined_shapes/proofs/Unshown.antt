-- Only a leaf that is shown is before the next one.
use Rattle.std.proofs.Common.{◌≡◌, ℕ, ◌+◌, ◌<◌, ◌≤◌, inl, inr, Bool, true, false, if◌then◌else◌, List, [], ◌∷◌, ◌++◌, Option, Some, None, sym, ap, ◌∙◌, subst, arith}
use Rattle.std.specs.Prelude.{nat_le}
use Rattle.std.proofs.lemmas.Bool.{cases_lt}
use Rattle.std.proofs.lemmas.Bool.Decides.{nat_tests}
use Rattle.sp_order.specs.Precedence.{Tree, leaf, leaves, IsBefore}
use Rattle.job_lang.specs.declared.join.Order.{Order}
use Rattle.job_lang.proofs.ExpandLemmas.Before.{total, IsBeforeIn}
use Rattle.job_lang.proofs.ExpandLemmas.Joined.{before_is_smaller}
use Rattle.job_lang.proofs.ExpandLemmas.Leaves.{total_is}
use Rattle.joined_shapes.specs.Blocks.{Block, Blocks, BeginsAt, IsNested, is_series, is_shown, joined, shape_in, shape_of, shows, with_items, with_leaf}
use Rattle.joined_shapes.proofs.Joined.{before_joined, before_whole}

-- of two leaves of which the first is before the second

from_first : (series : Bool) (first : ℕ) (items : List Tree) (u v : ℕ) → IsBeforeIn series first items u v → first ≤ u
from_first series first [] u v h = elim h [ ]
from_first series first (item ∷ items) u v (inl a) = (before_is_smaller item first u v a).0
from_first series first (item ∷ items) u v (inr (inl b)) = let later = from_first series (first + leaves item) items u v b in omega (arith, later)
from_first series first (item ∷ items) u v (inr (inr c)) = c.1.0.0

smaller : (shape : Option Tree) (u v : ℕ) → IsBefore shape u v → u < v
smaller None u v h = elim h [ ]
smaller (Some tree) u v h = (before_is_smaller tree 0 u v h).1.0

-- both stand behind the first items
behind : (series : Bool) (first : ℕ) (xs ys : List Tree) (u v : ℕ) → first + total xs ≤ u → IsBeforeIn series first (xs ++ ys) u v → IsBeforeIn series (first + total xs) ys u v
behind series first [] ys u v late h = let same : first ≡ first + 0 = omega arith in subst (λ n. IsBeforeIn series n ys u v) same h
behind series first (x ∷ xs) ys u v late (inl a) =
    let is = before_is_smaller x first u v a in let less = is.1.0 in let below = is.1.1 in absurd (omega (arith, less, below, late))
behind series first (x ∷ xs) ys u v late (inr (inl b)) =
    let same : first + leaves x + total xs ≡ first + (leaves x + total xs) = omega arith in
    subst (λ n. IsBeforeIn series n ys u v) same (behind series (first + leaves x) xs ys u v (omega (arith, late)) b)
behind series first (x ∷ xs) ys u v late (inr (inr c)) = let below = c.1.0.1 in absurd (omega (arith, below, late))

-- the first stands in the first items, and the second behind them
crossed : (series : Bool) (first : ℕ) (xs ys : List Tree) (u v : ℕ) → u < first + total xs → first + total xs ≤ v → IsBeforeIn series first (xs ++ ys) u v → series ≡ true
crossed series first [] ys u v early late h = let low = from_first series first ys u v h in absurd (omega (arith, low, early))
crossed series first (x ∷ xs) ys u v early late (inl a) = let below = (before_is_smaller x first u v a).1.1 in absurd (omega (arith, below, late))
crossed series first (x ∷ xs) ys u v early late (inr (inl b)) = crossed series (first + leaves x) xs ys u v (omega (arith, early)) (omega (arith, late)) b
crossed series first (x ∷ xs) ys u v early late (inr (inr c)) = c.0

begins_behind : (inner block : Block) (around : List Block) → BeginsAt inner.first (block ∷ around) → inner.first ≡ block.first + total block.items
begins_behind inner block around begins = let all = total_is block.items in let first = begins.0 in omega (arith, all, first)

-- what is before what in the shape is so in the innermost block, where it has both
in_block : (inner : Block) (around : List Block) (u v : ℕ) → BeginsAt inner.first around → inner.first ≤ u → IsBefore (shape_in inner around) u v
    → IsBeforeIn (is_series inner.order) inner.first inner.items u v
in_block inner [] u v begins low h = subst (λ n. IsBeforeIn (is_series inner.order) n inner.items u v) (sym begins) (before_whole inner.order inner.items u v h)
in_block inner (block ∷ around) u v begins low h =
    let from = begins_behind inner block around begins in
    let whole : IsBeforeIn (is_series block.order) block.first (block.items ++ joined inner) u v =
    in_block (with_items block (joined inner)) around u v begins.1 (omega (arith, low, from)) h in
    subst (λ n. IsBeforeIn (is_series inner.order) n inner.items u v) (sym from)
    (before_joined inner.order (is_series block.order) inner.items (block.first + total block.items) u v
    (behind (is_series block.order) block.first block.items (joined inner) u v (omega (arith, low, from)) whole))

shown_late : (order : Order) (first : ℕ) (xs ys : List Tree) (around : List Block) (u v : ℕ) → BeginsAt first around → u < first + total xs → first + total xs ≤ v → first ≤ u
    → IsBefore (shape_in (record { order = order; first = first; items = xs ++ ys }) around) u v → (if nat_le first u then is_series order else shows around u) ≡ true
shown_late order first xs ys around u v begins early late low h =
    let on : nat_le first u ≡ true = grind (arith, nat_tests) in
    let series : is_series order ≡ true =
    crossed (is_series order) first xs ys u v early late (in_block (record { order = order; first = first; items = xs ++ ys }) around u v begins low h) in
    ap (λ b. if b then is_series order else shows around u) on ∙ series

shown_if : (order : Order) (first : ℕ) (xs ys : List Tree) (around : List Block) (u v : ℕ) → BeginsAt first around → u < first + total xs → first + total xs ≤ v
    → IsBefore (shape_in (record { order = order; first = first; items = xs ++ ys }) around) u v → (if nat_le first u then is_series order else shows around u) ≡ true
shown_if order first xs ys [] u v begins early late h = shown_late order first xs ys [] u v begins early late (omega (arith, begins)) h
shown_if order first xs ys (block ∷ around) u v begins early late h =
    let inner : Block = record { order = order; first = first; items = xs ++ ys } in
    let from = begins_behind inner block around begins in
    elim (cases_lt u first) [
      | inl less ↦
          let off : nat_le first u ≡ false = grind (arith, nat_tests) in
          ap (λ b. if b then is_series order else shows (block ∷ around) u) off
          ∙ shown_if block.order block.first block.items (joined inner) around u v begins.1 (omega (arith, less, from)) (omega (arith, late, from)) h
      | inr low ↦ shown_late order first xs ys (block ∷ around) u v begins early late low h
    ]

pub before_shown : (blocks : Blocks) (u : ℕ) → IsNested blocks → IsBefore (shape_of (with_leaf blocks)) u blocks.leaves → is_shown blocks u ≡ true
before_shown blocks u is h =
    let inner = blocks.inner in
    let count : blocks.leaves ≡ inner.first + total inner.items = let all = total_is inner.items in let counted = is.counted in omega (arith, all, counted) in
    let less = smaller (shape_of (with_leaf blocks)) u blocks.leaves h in
    shown_if inner.order inner.first inner.items (leaf ∷ []) blocks.around u blocks.leaves is.begins (omega (arith, less, count)) (omega (arith, count)) h

pub hidden : (blocks : Blocks) (u : ℕ) → IsNested blocks → is_shown blocks u ≡ false → IsBefore (shape_of (with_leaf blocks)) u blocks.leaves → ⊥
hidden blocks u is not_shown h = let shown = before_shown blocks u is h in cc
