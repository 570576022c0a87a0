-- The number of leaves of the generated job, and the totals of its acts.
use Rattle.std.proofs.Common.{◌≡◌, ◌+◌, ◌*◌, ◌≤◌, List, [], ◌∷◌, ◌++◌, length, map, refl, ap, ◌∙◌, arith, length-append}
use Rattle.std.specs.Prelude.{sum_by}
use Rattle.std.proofs.lemmas.List.{length-map, length-replicate}
use Rattle.std.proofs.lemmas.List.Sums.{sum_by-append, sum_by-cons}
use Rattle.seq_objects.specs.declared.op.Op.{Op}
use Rattle.seq_objects.specs.declared.op.Op.TheVariants.{CounterAdd, Pop, PqTake}
use Rattle.seq_objects.specs.declared.act.Act.TheVariants.{Call}
use Rattle.sp_order.specs.Precedence.{Tree, leaf, seq, par, leaves, leaf_count}
use Rattle.sp_order.specs.Totals.{pushes, queue_inserts, total}
use Rattle.job_writer.specs.Generator.{finds_for, calls, pops_for, takes_for, part, job_growing_by}
use Rattle.job_lang.proofs.ExpandLemmas.Leaves.{join_of_leaves, series_leaves, parallel_leaves}

-- the operations after the growing phase
abbrev pub later_ops : List Op → List Op
later_ops ops = finds_for ops ++ (pops_for ops ++ takes_for ops)

abbrev pub later_parts : List Op → List Tree
later_parts ops = part par (finds_for ops) ++ (part seq (pops_for ops) ++ part seq (takes_for ops))

pub length_calls : (ops : List Op) → length (calls ops) ≡ length ops
length_calls ops = length-map ops (λ op. Call op)

-- each find, and each pop and take but one of either kind, belongs to another operation of the growing phase
pub answers : (ops : List Op) → length (finds_for ops) + total pushes (calls ops) + total queue_inserts (calls ops) ≤ length ops
answers [] = omega arith
answers (CounterAdd number addend ∷ ops) = omega (arith, answers ops)
answers (_ ∷ ops) = omega (arith, answers ops)

pub length_pops : (ops : List Op) → length (pops_for ops) ≡ total pushes (calls ops) + 1
length_pops ops = length-replicate (total pushes (calls ops) + 1) (Pop 0)

pub length_takes : (ops : List Op) → length (takes_for ops) ≡ total queue_inserts (calls ops) + 1
length_takes ops = length-replicate (total queue_inserts (calls ops) + 1) (PqTake 0)

pub length_later : (ops : List Op) → length (later_ops ops) ≡ length (finds_for ops) + (length (pops_for ops) + length (takes_for ops))
length_later ops = simp length-append

pub length_acts : (ops : List Op) → length (job_growing_by ops).acts ≡ length ops + length (later_ops ops)
length_acts ops = length_calls (ops ++ later_ops ops) ∙ length-append ops (later_ops ops)

pub later_few : (ops : List Op) → length (later_ops ops) ≤ length ops + 2
later_few ops = omega (arith, length_later ops, length_pops ops, length_takes ops, answers ops)

pub later_some : (ops : List Op) → 2 ≤ length (later_ops ops)
later_some ops = omega (arith, length_later ops, length_pops ops, length_takes ops)

pub few_acts : (ops : List Op) → length (job_growing_by ops).acts ≤ 2 * length ops + 2
few_acts ops = omega (arith, length_acts ops, later_few ops)

-- a part has a leaf for each operation
pub each_leaf : (ops : List Op) → sum_by leaves (map (λ op. leaf) ops) ≡ length ops
each_leaf [] = refl
each_leaf (op ∷ ops) = sum_by-cons leaves leaf (map (λ o. leaf) ops) ∙ omega (arith, each_leaf ops)

pub parallel_part : (ops : List Op) → sum_by leaves (part par ops) ≡ length ops
parallel_part ops = parallel_leaves (map (λ op. leaf) ops) ∙ each_leaf ops

series_part : (ops : List Op) → sum_by leaves (part seq ops) ≡ length ops
series_part ops = series_leaves (map (λ op. leaf) ops) ∙ each_leaf ops

pub later_leaves : (ops : List Op) → sum_by leaves (later_parts ops) ≡ length (later_ops ops)
later_leaves ops =
    sum_by-append leaves (part par (finds_for ops)) (part seq (pops_for ops) ++ part seq (takes_for ops))
    ∙ ap (λ n. sum_by leaves (part par (finds_for ops)) + n) (sum_by-append leaves (part seq (pops_for ops)) (part seq (takes_for ops)))
    ∙ omega (arith, length_later ops, parallel_part (finds_for ops), series_part (pops_for ops), series_part (takes_for ops))

-- the job has an act for each leaf
pub leaves_are_acts : (ops : List Op) → leaf_count (job_growing_by ops).shape ≡ length (job_growing_by ops).acts
leaves_are_acts ops =
    join_of_leaves seq (λ a b. refl) (part par ops ++ later_parts ops)
    ∙ sum_by-append leaves (part par ops) (later_parts ops)
    ∙ omega (arith, parallel_part ops, later_leaves ops, length_acts ops)
