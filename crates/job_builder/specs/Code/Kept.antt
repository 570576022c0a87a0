-- What is true of each draft, and of a leaf that may be added to it.
use Rattle.std.specs.Prelude.{◌≡◌, ℕ, ◌≤◌, true, List, length, Option, Some, None, map, slice_get, ⊤}
use Rattle.limits.specs.declared.TheConstants.{MOST_LEAVES, MOST_OPEN_BLOCKS}
use Rattle.seq_objects.specs.declared.act.Act.{Act}
use Rattle.sp_order.specs.Sources.{AreSources, MayTake}
use Rattle.job_lang.proofs.ExpandLemmas.Numbering.{AreNaming, Names}
use Rattle.named_objects.specs.declared.objects.Object.{Object}
use Rattle.named_objects.specs.Objects.{AreSpelled, IsSpelled, NamedObject, named_in}
use Rattle.joined_shapes.specs.Blocks.{Blocks, IsNested, is_shown, shape_of}
use Rattle.job_builder.specs.Drafts.{Draft}

-- the draft that a builder keeps as these
abbrev pub draft_of : ℕ → Blocks → List Act → List (Option ℕ) → List (Option Object) → Draft
draft_of job blocks acts sources objects = record { job = job; blocks = blocks; acts = acts; sources = sources; objects = map named_in objects }

pub record IsDraft (draft : Draft) : Type 0 where
  pub nested : IsNested draft.blocks
  pub counted : draft.blocks.leaves ≡ length draft.acts
  pub few_leaves : length draft.acts ≤ MOST_LEAVES
  pub few_blocks : length draft.blocks.around ≤ MOST_OPEN_BLOCKS
  pub naming : AreNaming draft.acts draft.objects
  pub spelled : AreSpelled draft.objects
  pub sources : AreSources (shape_of draft.blocks) draft.acts draft.sources

-- the act may have this source, if it has one
abbrev pub MayHave : Draft → Act → Option ℕ → Type 0
MayHave draft act None = ⊤
MayHave draft act (Some source) = (from : Act) × (slice_get draft.acts source ≡ Some from) × MayTake act from × (is_shown draft.blocks source ≡ true)

pub record MayAdd (draft : Draft) (act : Act) (source : Option ℕ) (object : Option NamedObject) : Type 0 where
  pub names : Names act object
  pub spelled : IsSpelled object
  pub sourced : MayHave draft act source
