-- The leaves of items, and of the one item that joins them.
use Rattle.std.proofs.Common.{◌≡◌, ℕ, ◌+◌, ◌≤◌, List, ◌++◌, length, Bool, true, false, refl, sym, ◌∙◌, arith}
use Rattle.std.specs.Prelude.{sum_by}
use Rattle.sp_order.specs.Precedence.{Tree, seq, par, leaves, leaf_count}
use Rattle.job_lang.specs.declared.join.Order.{Order}
use Rattle.job_lang.specs.declared.join.Order.TheVariants.{Series, Parallel}
use Rattle.job_lang.specs.Joins.{join_within, join_of}
use Rattle.job_lang.specs.Meaning.{join_list}
use Rattle.job_lang.specs.Orders.{join_by}
use Rattle.job_lang.proofs.ExpandLemmas.Before.{total, kind_by}
use Rattle.job_lang.proofs.ExpandLemmas.Leaves.{join_within_leaves, join_of_leaves, series_leaves, parallel_leaves, total_is, total_append}

pub items_append : (xs ys : List Tree) → sum_by leaves (xs ++ ys) ≡ sum_by leaves xs + sum_by leaves ys
items_append xs ys = omega (arith, total_is xs, total_is ys, total_is (xs ++ ys), total_append xs ys)

pub joined_leaves : (order : Order) (items : List Tree) → sum_by leaves (join_list (join_by order) items) ≡ sum_by leaves items
joined_leaves Series items = series_leaves items
joined_leaves Parallel items = parallel_leaves items

pub joined_total : (order : Order) (items : List Tree) → total (join_list (join_by order) items) ≡ total items
joined_total order items = total_is (join_list (join_by order) items) ∙ joined_leaves order items ∙ sym (total_is items)

pub shape_leaves : (order : Order) (items : List Tree) → leaf_count (join_of (join_by order) items) ≡ sum_by leaves items
shape_leaves Series items = join_of_leaves seq (λ a b. refl) items
shape_leaves Parallel items = join_of_leaves par (λ a b. refl) items

adds : (series : Bool) (a b : Tree) → leaves (kind_by series a b) ≡ leaves a + leaves b
adds true a b = refl
adds false a b = refl

pub within_leaves : (series : Bool) (bound : ℕ) (items : List Tree) → length items ≤ bound → leaf_count (join_within (kind_by series) bound items) ≡ total items
within_leaves series bound items few = (join_within_leaves (kind_by series) (adds series) bound items few).1 ∙ sym (total_is items)
