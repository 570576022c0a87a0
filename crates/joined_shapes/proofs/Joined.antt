-- What is before what in items, and in the one item that joins them: the same.
use Rattle.std.proofs.Common.{◌≡◌, ℕ, zero, suc, ◌+◌, ◌<◌, ◌≤◌, ◌⊎◌, inl, inr, Bool, true, false, List, [], ◌∷◌, ◌++◌, length, take, drop, Option, Some, None, refl, sym, subst, arith, length-take, length-drop, take-append-drop}
use Rattle.std.specs.Prelude.{option_to_list}
use Rattle.sp_order.specs.Precedence.{Tree, leaf_count, IsBefore, IsBeforeFrom}
use Rattle.job_lang.specs.declared.join.Order.{Order}
use Rattle.job_lang.specs.declared.join.Order.TheVariants.{Series, Parallel}
use Rattle.job_lang.specs.Joins.{join_within, join_of, both, half}
use Rattle.job_lang.specs.Meaning.{join_list}
use Rattle.job_lang.specs.Orders.{join_by}
use Rattle.job_lang.proofs.ExpandLemmas.Before.{total, kind_by, IsBeforeIn, IsBeforeOpt}
use Rattle.job_lang.proofs.ExpandLemmas.Joined.{before_left, before_right, before_cross, joined_of, joined_list}
use Rattle.joined_shapes.specs.Blocks.{is_series}
use Rattle.joined_shapes.proofs.Leaves.{within_leaves}

-- in a series, u stands in the first m leaves, and v in the k leaves behind them
abbrev Crosses : Bool → ℕ → ℕ → ℕ → ℕ → ℕ → Type 0
Crosses series first m k u v = (series ≡ true) × (((first ≤ u) × (u < first + m)) × ((first + m ≤ v) × (v < first + m + k)))

-- in the halves of a shape
in_halves : (series : Bool) (first m k u v : ℕ) (a b : Option Tree) → leaf_count a ≡ m → leaf_count b ≡ k → IsBeforeOpt first (both (kind_by series) a b) u v
    → IsBeforeOpt first a u v ⊎ (IsBeforeOpt (first + m) b u v ⊎ Crosses series first m k u v)
in_halves series first m k u v None b is is' h = elim h [ ]
in_halves series first m k u v (Some a) None is is' h = elim h [ ]
in_halves true first m k u v (Some a) (Some b) is is' (inl h) = inl h
in_halves true first m k u v (Some a) (Some b) is is' (inr (inl h)) = inr (inl (subst (λ n. IsBeforeFrom (first + n) b u v) is h))
in_halves true first m k u v (Some a) (Some b) is is' (inr (inr c)) =
    let x = c.0.0 in let y = c.0.1 in let z = c.1.0 in let w = c.1.1 in
    inr (inr (refl, ((x, omega (arith, y, is)), (omega (arith, z, is), omega (arith, w, is, is')))))
in_halves false first m k u v (Some a) (Some b) is is' (inl h) = inl h
in_halves false first m k u v (Some a) (Some b) is is' (inr h) = inr (inl (subst (λ n. IsBeforeFrom (first + n) b u v) is h))

crossing : (series : Bool) (first : ℕ) (xs ys : List Tree) (u v : ℕ) → Crosses series first (total xs) (total ys) u v → IsBeforeIn series first (xs ++ ys) u v
crossing series first xs ys u v c =
    subst (λ s. IsBeforeIn s first (xs ++ ys) u v) (sym c.0) (before_cross first xs ys u v c.1.0.0 c.1.0.1 c.1.1.0 c.1.1.1)

from_within : (series : Bool) (n : ℕ) (xs : List Tree) (first u v : ℕ) → length xs ≤ n → IsBeforeOpt first (join_within (kind_by series) n xs) u v → IsBeforeIn series first xs u v
from_within series zero [] first u v few h = elim h [ ]
from_within series zero (x ∷ xs) first u v few h = absurd (omega (arith, few))
from_within series (suc n) [] first u v few h = elim h [ ]
from_within series (suc n) (x ∷ []) first u v few h = inl h
from_within series (suc n) (x ∷ y ∷ zs) first u v few h =
    let kind = kind_by series in
    let xs : List Tree = x ∷ y ∷ zs in
    let at : ℕ = half (length xs) in
    let short : length (take at xs) ≤ n = simp length-take (omega (arith, few)) in
    let short' : length (drop at xs) ≤ n = simp length-drop (omega (arith, few)) in
    let parts : IsBeforeIn series first (take at xs ++ drop at xs) u v =
    elim (in_halves series first (total (take at xs)) (total (drop at xs)) u v (join_within kind n (take at xs)) (join_within kind n (drop at xs))
    (within_leaves series n (take at xs) short) (within_leaves series n (drop at xs) short') h) [
      | inl a ↦ before_left series first (take at xs) (drop at xs) u v (from_within series n (take at xs) first u v short a)
      | inr (inl b) ↦ before_right series first (take at xs) (drop at xs) u v (from_within series n (drop at xs) (first + total (take at xs)) u v short' b)
      | inr (inr c) ↦ crossing series first (take at xs) (drop at xs) u v c
    ] in
    subst (λ ts. IsBeforeIn series first ts u v) (take-append-drop at xs) parts

from_shape : (series : Bool) (xs : List Tree) (first u v : ℕ) → IsBeforeOpt first (join_of (kind_by series) xs) u v → IsBeforeIn series first xs u v
from_shape series xs first u v h = from_within series (length xs) xs first u v (omega arith) h

-- of one shape in a list
from_option : (outer : Bool) (shape : Option Tree) (first u v : ℕ) → IsBeforeIn outer first (option_to_list shape) u v → IsBeforeOpt first shape u v
from_option outer None first u v h = elim h [ ]
from_option outer (Some shape) first u v (inl h) = h
from_option outer (Some shape) first u v (inr (inl h)) = elim h [ ]
from_option outer (Some shape) first u v (inr (inr c)) = let a = c.1.1.0 in let b = c.1.1.1 in absurd (omega (arith, a, b))

-- by the order in which a block joins its items

pub joined_before : (order : Order) (outer : Bool) (items : List Tree) (first u v : ℕ) → IsBeforeIn (is_series order) first items u v → IsBeforeIn outer first (join_list (join_by order) items) u v
joined_before Series outer items first u v h = joined_list true outer items first u v h
joined_before Parallel outer items first u v h = joined_list false outer items first u v h

pub before_joined : (order : Order) (outer : Bool) (items : List Tree) (first u v : ℕ) → IsBeforeIn outer first (join_list (join_by order) items) u v → IsBeforeIn (is_series order) first items u v
before_joined Series outer items first u v h = from_shape true items first u v (from_option outer (join_of (kind_by true) items) first u v h)
before_joined Parallel outer items first u v h = from_shape false items first u v (from_option outer (join_of (kind_by false) items) first u v h)

at_zero : (shape : Option Tree) (u v : ℕ) → IsBeforeOpt 0 shape u v → IsBefore shape u v
at_zero None u v h = h
at_zero (Some tree) u v h = h

from_zero : (shape : Option Tree) (u v : ℕ) → IsBefore shape u v → IsBeforeOpt 0 shape u v
from_zero None u v h = h
from_zero (Some tree) u v h = h

pub whole_before : (order : Order) (items : List Tree) (u v : ℕ) → IsBeforeIn (is_series order) 0 items u v → IsBefore (join_of (join_by order) items) u v
whole_before Series items u v h = at_zero (join_of (kind_by true) items) u v (joined_of true items 0 u v h)
whole_before Parallel items u v h = at_zero (join_of (kind_by false) items) u v (joined_of false items 0 u v h)

pub before_whole : (order : Order) (items : List Tree) (u v : ℕ) → IsBefore (join_of (join_by order) items) u v → IsBeforeIn (is_series order) 0 items u v
before_whole Series items u v h = from_shape true items 0 u v (from_zero (join_of (kind_by true) items) u v h)
before_whole Parallel items u v h = from_shape false items 0 u v (from_zero (join_of (kind_by false) items) u v h)
