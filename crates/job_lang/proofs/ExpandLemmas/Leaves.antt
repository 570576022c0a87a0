-- A job has an act for each leaf of its shape, and as many as `count` gives for its items.
use Rattle.std.proofs.Common.{◌≡◌, ℕ, zero, suc, ◌+◌, ◌*◌, ◌<◌, ◌≤◌, List, [], ◌∷◌, ◌++◌, length, take, drop, Option, Some, None, IsSome, refl, sym, ap, ◌∙◌, arith, length-take, length-drop, length-append}
use Rattle.std.specs.Prelude.{sum_by, option_to_list}
use Rattle.std.proofs.lemmas.List.Sums.{sum_by-take-drop, sum_by-cons}
use Rattle.sp_order.specs.Precedence.{Tree, seq, par, leaves, leaf_count}
use Rattle.job_lang.specs.Joins.{join_within, join_of, both, half}
use Rattle.job_syntax.specs.Grammar.{Items, nothing, leaf_then, block_then, BlockKind, seq_block, par_block, for_loop, pfor_loop, Leaf}
use Rattle.job_syntax.specs.Blocks.{word_number, copies_of}
use Rattle.job_lang.specs.Counts.{count}
use Rattle.job_lang.specs.Meaning.{shapes_in, acts_in, each_copy, in_block, each_leaf, join_list, join_in, copy_shapes}
use Rattle.job_lang.proofs.ExpandLemmas.Before.{total}
use Rattle.job_lang.proofs.ExpandLemmas.Blocks.{block_length}

module _ (kind : Tree → Tree → Tree) (adds : (a b : Tree) → leaves (kind a b) ≡ leaves a + leaves b) where
  both_leaves : (a b : Option Tree) → IsSome a → IsSome b → IsSome (both kind a b) × (leaf_count (both kind a b) ≡ leaf_count a + leaf_count b)
  both_leaves None b some some' = cc
  both_leaves (Some a) None some some' = cc
  both_leaves (Some a) (Some b) some some' = (refl, adds a b)

  pub join_within_leaves : (n : ℕ) (xs : List Tree) → length xs ≤ n → (0 < length xs → IsSome (join_within kind n xs)) × (leaf_count (join_within kind n xs) ≡ sum_by leaves xs)
  join_within_leaves zero [] few = (λ some. absurd (omega arith), refl)
  join_within_leaves zero (x ∷ xs) few = absurd (omega (arith, few))
  join_within_leaves (suc n) [] few = (λ some. absurd (omega arith), refl)
  join_within_leaves (suc n) (x ∷ []) few = (λ some. refl, omega arith)
  join_within_leaves (suc n) (x ∷ y ∷ zs) few =
      let xs : List Tree = x ∷ y ∷ zs in
      let at : ℕ = half (length xs) in
      let front = join_within_leaves n (take at xs) (simp length-take (omega (arith, few))) in
      let back = join_within_leaves n (drop at xs) (simp length-drop (omega (arith, few))) in
      let whole = both_leaves (join_within kind n (take at xs)) (join_within kind n (drop at xs)) (front.0 (simp length-take (omega arith))) (back.0 (simp length-drop (omega arith))) in
      (λ some. whole.0, whole.1 ∙ ap (λ m. m + leaf_count (join_within kind n (drop at xs))) front.1 ∙ ap (λ m. sum_by leaves (take at xs) + m) back.1 ∙ sum_by-take-drop leaves xs at)

  pub join_of_leaves : (xs : List Tree) → leaf_count (join_of kind xs) ≡ sum_by leaves xs
  join_of_leaves xs = (join_within_leaves (length xs) xs (omega arith)).1

option_leaves : (shape : Option Tree) → sum_by leaves (option_to_list shape) ≡ leaf_count shape
option_leaves None = refl
option_leaves (Some shape) = omega arith

pub series_leaves : (xs : List Tree) → sum_by leaves (join_list seq xs) ≡ sum_by leaves xs
series_leaves xs = option_leaves (join_of seq xs) ∙ join_of_leaves seq (λ a b. refl) xs

pub parallel_leaves : (xs : List Tree) → sum_by leaves (join_list par xs) ≡ sum_by leaves xs
parallel_leaves xs = option_leaves (join_of par xs) ∙ join_of_leaves par (λ a b. refl) xs

-- the leaves of a list of shapes, one by one
pub total_is : (xs : List Tree) → total xs ≡ sum_by leaves xs
total_is [] = refl
total_is (x ∷ xs) = ap (λ n. leaves x + n) (total_is xs) ∙ sym (sum_by-cons leaves x xs)

pub total_append : (xs ys : List Tree) → total (xs ++ ys) ≡ total xs + total ys
total_append [] ys = omega arith
total_append (x ∷ xs) ys = omega (arith, total_append xs ys)

series_total : (xs : List Tree) → total (join_list seq xs) ≡ total xs
series_total xs = total_is (join_list seq xs) ∙ series_leaves xs ∙ sym (total_is xs)

parallel_total : (xs : List Tree) → total (join_list par xs) ≡ total xs
parallel_total xs = total_is (join_list par xs) ∙ parallel_leaves xs ∙ sym (total_is xs)

pub joined_total : (kind : BlockKind) (xs : List Tree) → total (join_list (join_in kind) xs) ≡ total xs
joined_total seq_block xs = series_total xs
joined_total par_block xs = parallel_total xs
joined_total (for_loop n) xs = series_total xs
joined_total (pfor_loop n) xs = parallel_total xs

pub copy_total : (kind : BlockKind) (xs : List Tree) → total (copy_shapes kind xs) ≡ total xs
copy_total seq_block xs = refl
copy_total par_block xs = refl
copy_total (for_loop n) xs = series_total xs
copy_total (pfor_loop n) xs = series_total xs

pub each_total : (n m : ℕ) (g : ℕ → List Tree) → ((k : ℕ) → total (g k) ≡ m) → total (each_copy n g) ≡ n * m
each_total zero m g h = omega arith
each_total (suc n) m g h = total_append (each_copy n g) (g n) ∙ omega (arith, each_total n m g h, h n)

pub block_total : (kind : BlockKind) (c m : ℕ) (g : ℕ → List Tree) → ((k : ℕ) → total (g k) ≡ m) → total (in_block kind c g) ≡ copies_of kind * m
block_total seq_block c m g h = h c ∙ omega arith
block_total par_block c m g h = h c ∙ omega arith
block_total (for_loop n) c m g h = each_total (word_number n) m g h
block_total (pfor_loop n) c m g h = each_total (word_number n) m g h

-- there are as many leaves in the shapes, acts, and results of a rule as `count` gives
pub shapes_count : (items : Items) (c : ℕ) → total (shapes_in c items) ≡ count items
shapes_count nothing c = refl
shapes_count (leaf_then _ more) c = omega (arith, shapes_count more c)
shapes_count (block_then kind body more) c =
    let g : ℕ → List Tree = λ k. copy_shapes kind (shapes_in k body) in
    let e = block_total kind c (count body) g (λ k. copy_total kind (shapes_in k body) ∙ shapes_count body k) in
    total_append (join_list (join_in kind) (in_block kind c g)) (shapes_in c more) ∙ omega (arith, joined_total kind (in_block kind c g), e, shapes_count more c)

pub acts_count : (items : Items) (c : ℕ) → length (acts_in c items) ≡ count items
acts_count nothing c = refl
acts_count (leaf_then _ more) c = omega (arith, acts_count more c)
acts_count (block_then kind body more) c = simp length-append (omega (arith, block_length kind c (count body) (λ k. acts_in k body) (λ k. acts_count body k), acts_count more c))

pub each_leaf_count : {X : Type 0} (rule : Leaf → X) (items : Items) → length (each_leaf rule items) ≡ count items
each_leaf_count rule nothing = refl
each_leaf_count rule (leaf_then _ more) = omega (arith, each_leaf_count rule more)
each_leaf_count rule (block_then kind body more) =
    simp length-append (omega (arith, block_length kind 0 (count body) (λ k. each_leaf rule body) (λ k. each_leaf_count rule body), each_leaf_count rule more))

pub job_leaves : (items : Items) → leaf_count (join_of seq (shapes_in 0 items)) ≡ length (acts_in 0 items)
job_leaves items =
    join_of_leaves seq (λ a b. refl) (shapes_in 0 items) ∙ sym (total_is (shapes_in 0 items)) ∙ shapes_count items 0 ∙ sym (acts_count items 0)
