-- What is before what in a list of shapes, and in the shape that joins them in halves.
use Rattle.std.proofs.Common.{ℕ, zero, suc, ◌≡◌, ◌+◌, ◌<◌, ◌≤◌, ◌⊎◌, inl, inr, Bool, true, false, List, [], ◌∷◌, ◌++◌, length, take, drop, Option, Some, None, IsSome, arith, refl, sym, ◌∙◌, subst, length-take, length-drop, take-append-drop}
use Rattle.std.specs.Prelude.{option_to_list}
use Rattle.sp_order.specs.Precedence.{Tree, leaf, seq, par, leaves, leaf_count, IsBeforeFrom}
use Rattle.job_lang.specs.Joins.{join_within, join_of, both, half}
use Rattle.job_lang.specs.Meaning.{join_list}
use Rattle.job_lang.proofs.ExpandLemmas.Leaves.{total_is, total_append}
use Rattle.job_lang.proofs.ExpandLemmas.Leaves as count
use Rattle.job_lang.proofs.ExpandLemmas.Before.{total, kind_by, IsBeforeIn, IsBeforeOpt}
use Rattle.std.proofs.lemmas.Bool.{cases_lt}

-- u stands in the first m leaves, and v in the k leaves behind them
abbrev pub Cross : Bool → ℕ → ℕ → ℕ → ℕ → ℕ → Type 0
Cross series first m k u v = (series ≡ true) × (((first ≤ u) × (u < first + m)) × ((first + m ≤ v) × (v < first + m + k)))

-- what is before what in two lists, one behind the other
split : (series : Bool) (first : ℕ) (xs ys : List Tree) (u v : ℕ) → IsBeforeIn series first (xs ++ ys) u v
    → IsBeforeIn series first xs u v ⊎ (IsBeforeIn series (first + total xs) ys u v ⊎ Cross series first (total xs) (total ys) u v)
split series first [] ys u v h = let e : first ≡ first + 0 = omega arith in inr (inl (subst (λ f. IsBeforeIn series f ys u v) e h))
split series first (x ∷ xs) ys u v (inl a) = inl (inl a)
split series first (x ∷ xs) ys u v (inr (inl b)) =
    elim (split series (first + leaves x) xs ys u v b) [
      | inl l ↦ inl (inr (inl l))
      | inr (inl r) ↦
          let e : first + leaves x + total xs ≡ first + (leaves x + total xs) = omega arith in
          inr (inl (subst (λ f. IsBeforeIn series f ys u v) e r))
      | inr (inr c) ↦
          let a = c.1.0.0 in let b = c.1.0.1 in let d = c.1.1.0 in let e = c.1.1.1 in
          inr (inr (c.0, ((omega (arith, a), omega (arith, b)), (omega (arith, d), omega (arith, e)))))
    ]
split series first (x ∷ xs) ys u v (inr (inr c)) =
    let a = c.1.0.0 in let b = c.1.0.1 in let d = c.1.1.0 in let e = c.1.1.1 in
    let long = total_append xs ys in
    elim (cases_lt v (first + leaves x + total xs)) [
      | inl low ↦ inl (inr (inr (c.0, ((a, b), (d, low)))))
      | inr high ↦ inr (inr (c.0, ((a, omega (arith, b)), (omega (arith, high), omega (arith, e, long)))))
    ]

pub before_left : (series : Bool) (first : ℕ) (xs ys : List Tree) (u v : ℕ) → IsBeforeIn series first xs u v → IsBeforeIn series first (xs ++ ys) u v
before_left series first [] ys u v h = elim h [ ]
before_left series first (x ∷ xs) ys u v (inl a) = inl a
before_left series first (x ∷ xs) ys u v (inr (inl b)) = inr (inl (before_left series (first + leaves x) xs ys u v b))
before_left series first (x ∷ xs) ys u v (inr (inr c)) =
    let e = c.1.1.1 in let long = total_append xs ys in
    inr (inr (c.0, (c.1.0, (c.1.1.0, omega (arith, e, long)))))

pub before_right : (series : Bool) (first : ℕ) (xs ys : List Tree) (u v : ℕ) → IsBeforeIn series (first + total xs) ys u v → IsBeforeIn series first (xs ++ ys) u v
before_right series first [] ys u v h = let e : first + 0 ≡ first = omega arith in subst (λ f. IsBeforeIn series f ys u v) e h
before_right series first (x ∷ xs) ys u v h =
    let e : first + (leaves x + total xs) ≡ first + leaves x + total xs = omega arith in
    inr (inl (before_right series (first + leaves x) xs ys u v (subst (λ f. IsBeforeIn series f ys u v) e h)))

-- element i of a series is before element j > i
pub before_cross : (first : ℕ) (xs ys : List Tree) (u v : ℕ) → first ≤ u → u < first + total xs → first + total xs ≤ v → v < first + total xs + total ys → IsBeforeIn true first (xs ++ ys) u v
before_cross first [] ys u v a b d e = absurd (omega (arith, a, b))
before_cross first (x ∷ xs) ys u v a b d e =
    let long = total_append xs ys in
    elim (cases_lt u (first + leaves x)) [
      | inl low ↦ inr (inr (refl, ((a, low), (omega (arith, d), omega (arith, e, long)))))
      | inr high ↦ inr (inl (before_cross (first + leaves x) xs ys u v high (omega (arith, b)) (omega (arith, d)) (omega (arith, e))))
    ]

adds : (series : Bool) (a b : Tree) → leaves (kind_by series a b) ≡ leaves a + leaves b
adds true a b = refl
adds false a b = refl

join_within_leaves : (series : Bool) (n : ℕ) (xs : List Tree) → length xs ≤ n → (0 < length xs → IsSome (join_within (kind_by series) n xs)) × (leaf_count (join_within (kind_by series) n xs) ≡ total xs)
join_within_leaves series n xs few = let h = count.join_within_leaves (kind_by series) (adds series) n xs few in (h.0, h.1 ∙ sym (total_is xs))

both_before : (series : Bool) (first m k u v : ℕ) (a b : Option Tree) → IsSome a → IsSome b → leaf_count a ≡ m → leaf_count b ≡ k
    → IsBeforeOpt first a u v ⊎ (IsBeforeOpt (first + m) b u v ⊎ Cross series first m k u v) → IsBeforeOpt first (both (kind_by series) a b) u v
both_before series first m k u v None b some some' is is' h = cc
both_before series first m k u v (Some a) None some some' is is' h = cc
both_before true first m k u v (Some a) (Some b) some some' is is' (inl h) = inl h
both_before true first m k u v (Some a) (Some b) some some' is is' (inr (inl h)) = inr (inl (subst (λ n. IsBeforeFrom (first + n) b u v) (sym is) h))
both_before true first m k u v (Some a) (Some b) some some' is is' (inr (inr c)) =
    let x = c.1.0.0 in let y = c.1.0.1 in let z = c.1.1.0 in let w = c.1.1.1 in
    inr (inr ((x, omega (arith, y, is)), (omega (arith, z, is), omega (arith, w, is, is'))))
both_before false first m k u v (Some a) (Some b) some some' is is' (inl h) = inl h
both_before false first m k u v (Some a) (Some b) some some' is is' (inr (inl h)) = inr (subst (λ n. IsBeforeFrom (first + n) b u v) (sym is) h)
both_before false first m k u v (Some a) (Some b) some some' is is' (inr (inr c)) = let never : false ≡ true = c.0 in cc

-- what is before in the list is so in the joined shape
joined_within : (series : Bool) (n : ℕ) (xs : List Tree) (first u v : ℕ) → length xs ≤ n → IsBeforeIn series first xs u v → IsBeforeOpt first (join_within (kind_by series) n xs) u v
joined_within series zero [] first u v few h = elim h [ ]
joined_within series zero (x ∷ xs) first u v few h = absurd (omega (arith, few))
joined_within series (suc n) [] first u v few h = elim h [ ]
joined_within series (suc n) (x ∷ []) first u v few (inl h) = h
joined_within series (suc n) (x ∷ []) first u v few (inr (inl h)) = elim h [ ]
joined_within series (suc n) (x ∷ []) first u v few (inr (inr c)) = let d = c.1.1.0 in let e = c.1.1.1 in absurd (omega (arith, d, e))
joined_within series (suc n) (x ∷ y ∷ zs) first u v few h =
    let kind = kind_by series in
    let xs : List Tree = x ∷ y ∷ zs in
    let at : ℕ = half (length xs) in
    let short : length (take at xs) ≤ n = simp length-take (omega (arith, few)) in
    let short' : length (drop at xs) ≤ n = simp length-drop (omega (arith, few)) in
    let front = join_within_leaves series n (take at xs) short in
    let back = join_within_leaves series n (drop at xs) short' in
    let parts : IsBeforeIn series first (take at xs ++ drop at xs) u v = subst (λ ts. IsBeforeIn series first ts u v) (sym (take-append-drop at xs)) h in
    both_before series first (total (take at xs)) (total (drop at xs)) u v (join_within kind n (take at xs)) (join_within kind n (drop at xs))
    (front.0 (simp length-take (omega arith))) (back.0 (simp length-drop (omega arith))) front.1 back.1
    (elim (split series first (take at xs) (drop at xs) u v parts) [
      | inl l ↦ inl (joined_within series n (take at xs) first u v short l)
      | inr (inl r) ↦ inr (inl (joined_within series n (drop at xs) (first + total (take at xs)) u v short' r))
      | inr (inr c) ↦ inr (inr c)
    ])

pub joined_of : (series : Bool) (xs : List Tree) (first u v : ℕ) → IsBeforeIn series first xs u v → IsBeforeOpt first (join_of (kind_by series) xs) u v
joined_of series xs first u v h = joined_within series (length xs) xs first u v (omega arith) h

option_before : (series : Bool) (shape : Option Tree) (first u v : ℕ) → IsBeforeOpt first shape u v → IsBeforeIn series first (option_to_list shape) u v
option_before series None first u v h = elim h [ ]
option_before series (Some shape) first u v h = inl h

-- the same for a list of one shape, which stands in a list of either kind
pub joined_list : (series outer : Bool) (xs : List Tree) (first u v : ℕ) → IsBeforeIn series first xs u v → IsBeforeIn outer first (join_list (kind_by series) xs) u v
joined_list series outer xs first u v h = option_before outer (join_of (kind_by series) xs) first u v (joined_of series xs first u v h)

-- what is before has a smaller number, and both are leaves of the shape
pub before_is_smaller : (tree : Tree) (first u v : ℕ) → IsBeforeFrom first tree u v → (first ≤ u) × ((u < v) × (v < first + leaves tree))
before_is_smaller leaf first u v h = elim h [ ]
before_is_smaller (par left right) first u v (inl h) =
    let r = before_is_smaller left first u v h in let c = r.1.1 in (r.0, (r.1.0, omega (arith, c)))
before_is_smaller (par left right) first u v (inr h) =
    let r = before_is_smaller right (first + leaves left) u v h in let a = r.0 in let c = r.1.1 in (omega (arith, a), (r.1.0, omega (arith, c)))
before_is_smaller (seq left right) first u v (inl h) =
    let r = before_is_smaller left first u v h in let c = r.1.1 in (r.0, (r.1.0, omega (arith, c)))
before_is_smaller (seq left right) first u v (inr (inl h)) =
    let r = before_is_smaller right (first + leaves left) u v h in let a = r.0 in let c = r.1.1 in (omega (arith, a), (r.1.0, omega (arith, c)))
before_is_smaller (seq left right) first u v (inr (inr c)) =
    let a = c.0.0 in let b = c.0.1 in let d = c.1.0 in let e = c.1.1 in (a, (omega (arith, b, d), omega (arith, e)))
