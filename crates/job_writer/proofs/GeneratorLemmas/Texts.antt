-- The generated job has a canonical text: its depth and its numbers are within the limits.
use Rattle.std.proofs.Common.{◌≡◌, ℕ, zero, suc, ◌+◌, ◌*◌, ◌^◌, ◌<◌, ◌≤◌, max, List, [], ◌∷◌, length, map, take, drop, Option, Some, None, refl, arith, length-append, length-take, length-drop}
use Rattle.std.specs.Prelude.{option_to_list}
use Rattle.std.specs.List.{AllByRecursion}
use Rattle.std.proofs.lemmas.List.{length-map}
use Rattle.seq_objects.specs.declared.op.Op.{Op}
use Rattle.seq_objects.specs.Parts.{argument_of, has_argument}
use Rattle.sp_order.specs.Precedence.{Tree, leaf, seq, par, leaf_count}
use Rattle.sp_order.specs.Depth.{tree_depth, depth_of}
use Rattle.sp_order.specs.Jobs.{IsJob}
use Rattle.sp_order.specs.Sources.{TakeReplies}
use Rattle.job_lang.specs.ActNumbers.{op_number, act_number, IsSmall, AreSmall}
use Rattle.job_writer.specs.Canonical.{written_leaves, canonical_text}
use Rattle.job_lang.specs.Joins.{half, both, join_within, join_of}
use Rattle.job_lang.specs.Language.{IsJobOf}
use Rattle.job_writer.specs.Generator.{growing_ops, finds_for, calls, pops_for, takes_for, part, all_ops, all_parts, job_growing_by, generated}
use Rattle.job_writer.proofs.GeneratorLemmas.Sources.{none_are_sources, none_each, none_take_replies}
use Rattle.job_writer.specs.Code.Smalls.{AreSmallLeaves}
use Rattle.job_writer.proofs.GeneratorLemmas.Counts.{answers, length_pops, length_takes, length_acts, later_some, few_acts, leaves_are_acts}
use Rattle.job_writer.proofs.GeneratorLemmas.Draws.{Grows, all_grow, length_growing, first_growing}
use Rattle.job_writer.proofs.GeneratorLemmas.Each.{each_op, each_call, all_unnamed}
use Rattle.sp_order.proofs.ObjectLemmas.{unnamed_are_named}
use Rattle.job_lang.proofs.LimitLemmas.SmallActs.{number_small}
use Rattle.job_lang.proofs.EachOf.{each_of_first, each_of_rest}
use Rattle.job_writer.proofs.WriterLemmas.Jobs.{canonical_is_job, plain_is_short, small_from}
use Rattle.seq_objects.proofs.Elements.{each_append, each_so}

-- trees of at most this depth
abbrev AreWithin : ℕ → List Tree → Type 0
AreWithin depth trees = AllByRecursion (λ tree. tree_depth tree ≤ depth) trees

-- A join of at most 2^k trees adds at most k to the depth.
module _ (kind : Tree → Tree → Tree) (deepens : (a b : Tree) → tree_depth (kind a b) ≡ 1 + max (tree_depth a) (tree_depth b)) where
  both_depth : (depth : ℕ) (a b : Option Tree) → depth_of a ≤ depth → depth_of b ≤ depth → depth_of (both kind a b) ≤ suc depth
  both_depth depth None b h g = omega arith
  both_depth depth (Some a) None h g = omega arith
  both_depth depth (Some a) (Some b) h g = omega (arith, deepens a b, h, g)

  join_depth : (depth n k : ℕ) (trees : List Tree) → length trees ≤ 2 ^ k → AreWithin depth trees → depth_of (join_within kind n trees) ≤ k + depth
  join_depth depth zero k trees few h = omega arith
  join_depth depth (suc n) k [] few h = omega arith
  join_depth depth (suc n) k (tree ∷ []) few h = omega (arith, h.0)
  join_depth depth (suc n) zero (x ∷ y ∷ more) few h = absurd (omega (arith, few))
  join_depth depth (suc n) (suc k) (x ∷ y ∷ more) few h =
      let trees : List Tree = x ∷ y ∷ more in
      let at : ℕ = half (length trees) in
      let twice : 2 ^ suc k ≡ 2 * 2 ^ k = omega arith in
      let front = join_depth depth n k (take at trees) (simp length-take (omega (arith, few, twice))) (each_of_first _ at trees h) in
      let back = join_depth depth n k (drop at trees) (simp length-drop (omega (arith, few, twice))) (each_of_rest _ at trees h) in
      omega (arith, both_depth (k + depth) (join_within kind n (take at trees)) (join_within kind n (drop at trees)) front back)

  all_leaves : (ops : List Op) → AreWithin 0 (map (λ op. leaf) ops)
  all_leaves [] = tt
  all_leaves (op ∷ ops) = (omega arith, all_leaves ops)

  option_within : (depth : ℕ) (tree : Option Tree) → depth_of tree ≤ depth → AreWithin depth (option_to_list tree)
  option_within depth None h = tt
  option_within depth (Some tree) h = (h, tt)

  part_within : (ops : List Op) → length ops ≤ 2 ^ 13 → AreWithin 13 (part kind ops)
  part_within ops few =
      let trees : List Tree = map (λ op. leaf) ops in
      let many : length trees ≤ 2 ^ 13 = omega (arith, length-map ops (λ op. leaf), few) in
      option_within 13 (join_of kind trees) (omega (arith, join_depth 0 (length trees) 13 trees many (all_leaves ops)))

one_at_most : (tree : Option Tree) → length (option_to_list tree) ≤ 1
one_at_most None = omega arith
one_at_most (Some tree) = omega arith

four_at_most : (ops : List Op) → length (all_parts ops) ≤ 2 ^ 2
four_at_most ops =
    let a = one_at_most (join_of par (map (λ op. leaf) ops)) in
    let b = one_at_most (join_of par (map (λ op. leaf) (finds_for ops))) in
    let c = one_at_most (join_of seq (map (λ op. leaf) (pops_for ops))) in
    let d = one_at_most (join_of seq (map (λ op. leaf) (takes_for ops))) in
    simp length-append (omega (arith, a, b, c, d))

all_within : (ops : List Op) → length ops ≤ 5000 → AreWithin 13 (all_parts ops)
all_within ops few =
    each_append _ (part par ops) _ (part_within par (λ a b. refl) ops (omega (arith, few)))
    (each_append _ (part par (finds_for ops)) _ (part_within par (λ a b. refl) (finds_for ops) (omega (arith, few, answers ops)))
    (each_append _ (part seq (pops_for ops)) _ (part_within seq (λ a b. refl) (pops_for ops) (omega (arith, few, length_pops ops, answers ops)))
    (part_within seq (λ a b. refl) (takes_for ops) (omega (arith, few, length_takes ops, answers ops)))))

depth_few : (ops : List Op) → length ops ≤ 5000 → depth_of (job_growing_by ops).shape ≤ 15
depth_few ops few = omega (arith, join_depth seq (λ a b. refl) 13 (length (all_parts ops)) 2 (all_parts ops) (four_at_most ops) (all_within ops few))

-- the numbers fit
pub all_small : (ops : List Op) → AllByRecursion Grows ops → AreSmall (calls (all_ops ops))
all_small ops grow =
    each_call (λ act. IsSmall (act_number act)) (all_ops ops)
    (each_op (λ op. IsSmall (op_number op)) ops (each_so Grows _ (λ op grows. number_small (has_argument op) (argument_of op) (omega (arith, grows.small))) ops grow) (each_so Grows _ (λ op grows. omega (arith, grows.small)) ops grow) tt tt)

-- what the laws say of the generated job
generated_is_job : (seed size : ℕ) → size ≤ 5000 → IsJob (generated seed size)
generated_is_job seed size few =
    let ops = growing_ops seed size in
    record { leaves = leaves_are_acts ops; most = omega (arith, few_acts ops, length_growing seed size, few); sources = none_are_sources (generated seed size).shape (generated seed size).acts; objects = unnamed_are_named (generated seed size).acts (all_unnamed ops (first_growing seed size)) }

pub generated_acts : (seed size : ℕ) → leaf_count (generated seed size).shape ≡ length (generated seed size).acts
generated_acts seed size = leaves_are_acts (growing_ops seed size)

pub generated_least : (seed size : ℕ) → size + 2 ≤ leaf_count (generated seed size).shape
generated_least seed size =
    let ops = growing_ops seed size in
    omega (arith, leaves_are_acts ops, length_acts ops, later_some ops, length_growing seed size)

pub generated_most : (seed size : ℕ) → leaf_count (generated seed size).shape ≤ 2 * size + 2
generated_most seed size =
    let ops = growing_ops seed size in
    omega (arith, leaves_are_acts ops, few_acts ops, length_growing seed size)

pub generated_depth : (seed size : ℕ) → size ≤ 5000 → depth_of (generated seed size).shape ≤ 15
generated_depth seed size few = depth_few (growing_ops seed size) (omega (arith, length_growing seed size, few))

generated_small : (seed size : ℕ) → size ≤ 5000 → AreSmallLeaves (written_leaves (generated seed size))
generated_small seed size few =
    let job = generated seed size in
    let most = (generated_is_job seed size few).most in
    small_from job.sources job.acts job.sources (omega (arith, most)) (all_small (growing_ops seed size) (all_grow seed size)) (none_each (length job.acts))

pub generated_short : (seed size : ℕ) → size ≤ 5000 → length (canonical_text (generated seed size)) < 700000
generated_short seed size few = plain_is_short (generated seed size) (generated_is_job seed size few) (generated_small seed size few) refl (none_each (length (generated seed size).acts))

pub generated_replies : (seed size : ℕ) → TakeReplies (generated seed size).acts (generated seed size).sources
generated_replies seed size = none_take_replies (generated seed size).acts

pub generated_text : (seed size : ℕ) → size ≤ 5000 → IsJobOf (canonical_text (generated seed size)) (generated seed size)
generated_text seed size few =
    canonical_is_job (generated seed size) (generated_is_job seed size few) (generated_replies seed size) (omega (arith, generated_depth seed size few)) (generated_small seed size few)
