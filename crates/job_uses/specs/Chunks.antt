-- The chunks of a list, and the job that has a leaf of work for each.
use Rattle.std.specs.Prelude.{◌≡◌, ℕ, ◌*◌, List, drop, map, take}
use Rattle.std.specs.List.{range_with_len}
use Rattle.leaf_handles.specs.Handles.{HandleValue}
use Rattle.seq_objects.specs.declared.act.Act.TheVariants.{Work}
use Rattle.sp_order.specs.Jobs.{JobValue}
use Rattle.sp_order.specs.Phases.{HasNoSources}

-- the chunk with this number, where each chunk but the last has this many items
abbrev pub chunk_of : ℕ → List ℕ → ℕ → List ℕ
chunk_of width items number = take width (drop (number * width) items)

-- Each leaf works with its own number, without a source. These are the handles of all leaves, in order.
pub record HasChunks (chunks : ℕ) (job : JobValue) (leaves : List HandleValue) : Type 0 where
  pub acts : job.acts ≡ map Work (range_with_len 0 chunks)
  pub plain : HasNoSources job
  pub handles : leaves ≡ map (λ leaf. record { job = 0; leaf = leaf }) (range_with_len 0 chunks)
