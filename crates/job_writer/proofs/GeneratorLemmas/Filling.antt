-- The generated job fills its structures before it queries them.
use Rattle.std.proofs.Common.{◌≡◌, ℕ, zero, suc, ◌+◌, ◌-◌, ◌<◌, ◌≤◌, List, [], ◌∷◌, ◌++◌, length, map, take, drop, replicate, Option, Some, None, IsSome, inl, inr, refl, sym, ap, subst, ◌∙◌, arith, length-take, length-drop}
use Rattle.std.specs.Prelude.{sum_by, slice_get, option_to_list}
use Rattle.std.specs.List.{AllByRecursion}
use Rattle.std.proofs.lemmas.List.Sums.{sum_by-take-drop}
use Rattle.std.proofs.lemmas.List.{length-map}
use Rattle.std.proofs.lemmas.Option.{slice_get_within}
use Rattle.seq_objects.specs.declared.op.Op.{Op}
use Rattle.seq_objects.specs.declared.op.Op.TheVariants.{Pop, TreeFind, PqTake}
use Rattle.seq_objects.specs.Objects.{argument_of}
use Rattle.seq_objects.specs.declared.act.Act.TheVariants.{Call}
use Rattle.sp_order.specs.Precedence.{Tree, leaf, seq, par, leaves, leaf_count, IsBefore, IsBeforeFrom}
use Rattle.sp_order.specs.Totals.{pushes, pops, tree_inserts, tree_finds, queue_inserts, queue_takes, total}
use Rattle.sp_order.specs.Phases.{ComesBefore, others, filling_verbs, FillsFirst}
use Rattle.job_lang.specs.Joins.{half, both, join_within, join_of}
use Rattle.job_writer.specs.Generator.{growing_ops, finds_for, calls, pops_for, takes_for, part, all_ops, job_growing_by, generated}
use Rattle.job_writer.proofs.GeneratorLemmas.Sources.{none_each}
use Rattle.job_lang.proofs.ExpandLemmas.Leaves.{join_within_leaves}
use Rattle.seq_objects.proofs.Elements.{each_so}
use Rattle.job_writer.proofs.GeneratorLemmas.Phases.{total_append}
use Rattle.job_writer.proofs.GeneratorLemmas.Counts.{later_ops, later_parts, later_leaves, length_acts, each_leaf}
use Rattle.job_writer.proofs.GeneratorLemmas.Draws.{Grows, all_grow, length_growing, first_ops}
use Rattle.job_writer.proofs.GeneratorLemmas.Each.{each_later, all_unnamed}
use Rattle.std.proofs.lemmas.Bool.{cases_lt}

-- the tree of a shape that is present, with its number of leaves
there : (tree : Option Tree) (n : ℕ) → IsSome tree → leaf_count tree ≡ n → (t : Tree) × (tree ≡ Some t) × (leaves t ≡ n)
there None n some count = cc
there (Some t) n some count = (t, refl, count)

-- The tree has `all` leaves, and each of the first `first` is before each of the others. So it is where shapes are
-- joined in series.
pub record IsSeriesFrom (first : ℕ) (all : ℕ) (tree : Tree) : Type 0 where
  pub count : leaves tree ≡ all
  pub before : (u v : ℕ) → u < first → first ≤ v → v < all → IsBeforeFrom 0 tree u v

both_series : (first front back : ℕ) (left right : Tree) → first ≤ front → IsSeriesFrom first front left → leaves right ≡ back → IsSeriesFrom first (front + back) (seq left right)
both_series first front back left right within series count = record {
  count = omega (arith, series.count, count);
  before = λ u v low high less. elim (cases_lt v front) [
    | inl near ↦ inl (series.before u v low high near)
    | inr far ↦ inr (inr ((omega arith, omega (arith, low, within, series.count)), (omega (arith, far, series.count), omega (arith, less, series.count, count))))
  ];
}

sides_joined : (n at m : ℕ) (trees : List Tree) (left right : Tree) → at ≡ m → join_within seq n (take m trees) ≡ Some left → join_within seq n (drop m trees) ≡ Some right
    → both seq (join_within seq n (take at trees)) (join_within seq n (drop at trees)) ≡ Some (seq left right)
sides_joined n at m trees left right is l r =
    ap (λ k. both seq (join_within seq n (take k trees)) (join_within seq n (drop k trees))) is
    ∙ ap (λ o. both seq o (join_within seq n (drop m trees))) l
    ∙ ap (both seq (Some left)) r

series_from : (n : ℕ) (t : Tree) (ts : List Tree) → length (t ∷ ts) ≤ n → (tree : Tree) × (join_within seq n (t ∷ ts) ≡ Some tree) × IsSeriesFrom (leaves t) (leaves t + sum_by leaves ts) tree
series_from zero t ts few = absurd (omega (arith, few))
series_from (suc n) t [] few = (t, refl, record { count = omega arith; before = λ u v low high less. absurd (omega (arith, high, less)) })
series_from (suc n) t (x ∷ xs) few =
    let ts : List Tree = x ∷ xs in
    let at : ℕ = half (length (t ∷ ts)) in
    let m : ℕ = at - 1 in
    let front = series_from n t (take m ts) (simp length-take (omega (arith, few))) in
    let back = join_within_leaves seq (λ a b. refl) n (drop m ts) (simp length-drop (omega (arith, few))) in
    let right = there (join_within seq n (drop m ts)) (sum_by leaves (drop m ts)) (back.0 (simp length-drop (omega arith))) back.1 in
    let all : leaves t + sum_by leaves (take m ts) + sum_by leaves (drop m ts) ≡ leaves t + sum_by leaves ts = omega (arith, sum_by-take-drop leaves ts m) in (
      seq front.0 right.0,
      sides_joined n at (suc m) (t ∷ ts) front.0 right.0 (omega arith) front.1 right.1,
      subst (λ k. IsSeriesFrom (leaves t) k (seq front.0 right.0)) all
          (both_series (leaves t) (leaves t + sum_by leaves (take m ts)) (sum_by leaves (drop m ts)) front.0 right.0 (omega arith) front.2 right.2),
    )

-- each leaf of the first part of a job is before those of the other parts
starts : (ops : List Op) (parts : List Tree) → 0 < length ops → (u v : ℕ) → u < length ops → length ops ≤ v → v < length ops + sum_by leaves parts
    → IsBefore (join_of seq (part par ops ++ parts)) u v
starts ops parts some u v low high less =
    let trees : List Tree = map (λ op. leaf) ops in
    let joined = join_within_leaves par (λ a b. refl) (length trees) trees (omega arith) in
    let first = there (join_of par trees) (length ops) (joined.0 (omega (arith, length-map ops (λ op. leaf), some))) (joined.1 ∙ each_leaf ops) in
    let series = series_from (suc (length parts)) first.0 parts (omega arith) in
    let shape : join_of seq (part par ops ++ parts) ≡ Some series.0 = ap (λ o. join_of seq (option_to_list o ++ parts)) first.1 ∙ series.1 in
    subst (λ shape. IsBefore shape u v) (sym shape) (series.2.before u v (omega (arith, low, first.2)) (omega (arith, high, first.2)) (omega (arith, less, first.2)))

-- no operation of the list counts
abbrev pub Lacks : (Op → ℕ) → List Op → Type 0
Lacks count ops = AllByRecursion (λ op. count op ≡ 0) ops

lacks_at : (count : Op → ℕ) (ops : List Op) (u : ℕ) (op : Op) → Lacks count ops → slice_get (calls ops) u ≡ Some (Call op) → count op ≡ 0
lacks_at count [] u op lacks is = cc
lacks_at count (o ∷ ops) zero op lacks is = let same : o ≡ op = cc in ap count (sym same) ∙ lacks.0
lacks_at count (o ∷ ops) (suc u) op lacks is = lacks_at count ops u op lacks.1 is

-- where one of two lists has nothing that counts, an operation that counts is in the other
in_first : (count : Op → ℕ) (xs ys : List Op) (u : ℕ) (op : Op) → Lacks count ys → slice_get (calls (xs ++ ys)) u ≡ Some (Call op) → 1 ≤ count op → u < length xs
in_first count [] ys u op lacks is counts = absurd (omega (arith, counts, lacks_at count ys u op lacks is))
in_first count (x ∷ xs) ys zero op lacks is counts = omega arith
in_first count (x ∷ xs) ys (suc u) op lacks is counts = omega (arith, in_first count xs ys u op lacks is counts)

in_second : (count : Op → ℕ) (xs ys : List Op) (u : ℕ) (op : Op) → Lacks count xs → slice_get (calls (xs ++ ys)) u ≡ Some (Call op) → 1 ≤ count op → length xs ≤ u
in_second count [] ys u op lacks is counts = omega arith
in_second count (x ∷ xs) ys zero op lacks is counts = let same : x ≡ op = cc in absurd (omega (arith, counts, ap count (sym same), lacks.0))
in_second count (x ∷ xs) ys (suc u) op lacks is counts = omega (arith, in_second count xs ys u op lacks.1 is counts)

-- totals of lists where nothing counts
total_lacks : (count : Op → ℕ) (ops : List Op) → Lacks count ops → total count (calls ops) ≡ 0
total_lacks count [] lacks = refl
total_lacks count (op ∷ ops) lacks = omega (arith, lacks.0, total_lacks count ops lacks.1)

total_copies : (count : Op → ℕ) (n : ℕ) (op : Op) → count op ≡ 1 → total count (calls (replicate n op)) ≡ n
total_copies count zero op h = refl
total_copies count (suc n) op h = omega (arith, h, total_copies count n op h)

module _ (ops : List Op) (some : 0 < length ops) (grow : AllByRecursion Grows ops) where
  first_lacks : (count : Op → ℕ) → ((op : Op) → Grows op → count op ≡ 0) → Lacks count ops
  first_lacks count none = each_so Grows _ none ops grow

  later_lacks : (count : Op → ℕ) → ((key : ℕ) → count (TreeFind 0 key) ≡ 0) → count (Pop 0) ≡ 0 → count (PqTake 0) ≡ 0 → Lacks count (later_ops ops)
  later_lacks count find pop take = each_later (λ op. count op ≡ 0) ops (each_so Grows _ (λ op grows. find (argument_of op + 1)) ops grow) pop take

  comes_before : (early late : Op → ℕ) → Lacks early (later_ops ops) → Lacks late ops → ComesBefore (job_growing_by ops) early late
  comes_before early late later first = λ u v op op' is is' counts counts'.
      let low = in_first early ops (later_ops ops) u op later is counts in
      let high = in_second late ops (later_ops ops) v op' first is' counts' in
      let within = slice_get_within (calls (all_ops ops)) v (Call op') is' in
      starts ops (later_parts ops) some u v low high (omega (arith, within, length_acts ops, later_leaves ops))

  total_all : (count : Op → ℕ) → total count (job_growing_by ops).acts ≡ total count (calls ops) + total count (calls (later_ops ops))
  total_all count = total_append count ops (later_ops ops)

  total_first : (count : Op → ℕ) → Lacks count (later_ops ops) → total count (job_growing_by ops).acts ≡ total count (calls ops)
  total_first count lacks = omega (arith, total_all count, total_lacks count (later_ops ops) lacks)

  total_later : (count : Op → ℕ) → total count (calls (later_ops ops)) ≡ total count (calls (finds_for ops)) + (total count (calls (pops_for ops)) + total count (calls (takes_for ops)))
  total_later count = total_append count (finds_for ops) (pops_for ops ++ takes_for ops) ∙ ap (λ n. total count (calls (finds_for ops)) + n) (total_append count (pops_for ops) (takes_for ops))

  pub fills_first : FillsFirst (job_growing_by ops)
  fills_first = record {
    verbs = total_first (others filling_verbs) (later_lacks (others filling_verbs) (λ key. refl) refl refl) ∙ total_lacks (others filling_verbs) ops (first_lacks (others filling_verbs) (λ op grows. grows.fills));
    stack = comes_before pushes pops (later_lacks pushes (λ key. refl) refl refl) (first_lacks pops (λ op grows. grows.pops));
    queue = comes_before queue_inserts queue_takes (later_lacks queue_inserts (λ key. refl) refl refl) (first_lacks queue_takes (λ op grows. grows.takes));
    tree = comes_before tree_inserts tree_finds (later_lacks tree_inserts (λ key. refl) refl refl) (first_lacks tree_finds (λ op grows. grows.finds));
    empties_stack =
        omega (arith, total_first pushes (later_lacks pushes (λ key. refl) refl refl), total_all pops, total_later pops, total_copies pops (total pushes (calls ops) + 1) (Pop 0) refl);
    empties_queue =
        omega (arith, total_first queue_inserts (later_lacks queue_inserts (λ key. refl) refl refl), total_all queue_takes, total_later queue_takes, total_copies queue_takes (total queue_inserts (calls ops) + 1) (PqTake 0) refl);
    no_sources = none_each (length (calls (all_ops ops)));
    unnamed = all_unnamed ops (first_ops ops grow);
  }

pub generated_fills_first : (seed size : ℕ) → 1 ≤ size → FillsFirst (generated seed size)
generated_fills_first seed size some = fills_first (growing_ops seed size) (omega (arith, length_growing seed size, some)) (all_grow seed size)
