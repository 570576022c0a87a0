-- A job while it is built: its open blocks, and the acts, the sources and the objects of its leaves so far.
use Rattle.std.specs.Prelude.{ℕ, Bool, true, false, is_some, ◌&&◌, ◌==◌, List, [], ◌∷◌, ◌++◌, length, Option, Some, None, slice_get}
use Rattle.seq_objects.specs.declared.act.Act.{Act}
use Rattle.seq_objects.specs.declared.act.Act.TheVariants.{Work, Call}
use Rattle.seq_objects.specs.declared.kind.Kind.{Kind}
use Rattle.job_names.specs.declared.name.Name.{Name}
use Rattle.job_lang.specs.declared.join.Order.{Order}
use Rattle.sp_order.specs.Jobs.{JobValue}
use Rattle.sp_order.specs.Objects.{with_numbers}
use Rattle.leaf_handles.specs.Handles.{HandleValue}
use Rattle.named_objects.specs.Objects.{NamedObject, names_of, numbers_of}
use Rattle.joined_shapes.specs.Blocks.{Blocks, outside, is_shown, shape_of}
use Rattle.joined_shapes.specs.Blocks as blocks

-- The number of the job, by which its handles are told from those of other jobs; its open blocks; and for each leaf its
-- act, the leaf whose value it takes, and the object that it names. A call that names an object has the number 0
-- until the job is finished.
pub record Draft : Type 0 where
  pub job : ℕ
  pub blocks : Blocks
  pub acts : List Act
  pub sources : List (Option ℕ)
  pub objects : List (Option NamedObject)

abbrev pub nothing : ℕ → Draft
nothing job = record { job = job; blocks = outside; acts = []; sources = []; objects = [] }

-- a leaf more in the innermost block
abbrev pub with_leaf : Draft → Act → Option ℕ → Option NamedObject → Draft
with_leaf draft act source object = record {
  job = draft.job;
  blocks = blocks.with_leaf draft.blocks;
  acts = draft.acts ++ act ∷ [];
  sources = draft.sources ++ source ∷ [];
  objects = draft.objects ++ object ∷ [];
}

abbrev pub with_blocks : Draft → Blocks → Draft
with_blocks draft others = record { job = draft.job; blocks = others; acts = draft.acts; sources = draft.sources; objects = draft.objects }

-- a block more
abbrev pub opened : Draft → Order → Draft
opened draft order = with_blocks draft (blocks.opened draft.blocks order)

-- the innermost block closed
abbrev pub closed : Draft → Draft
closed draft = with_blocks draft (blocks.closed draft.blocks)

-- the handle of the leaf that is added next
abbrev pub next_handle : Draft → HandleValue
next_handle draft = record { job = draft.job; leaf = length draft.acts }

-- whether a call here may take the value of a leaf: it is a leaf of this job, and before the leaf that is added next
abbrev pub may_use : Draft → HandleValue → Bool
may_use draft handle = handle.job == draft.job && (is_some (slice_get draft.acts handle.leaf) && is_shown draft.blocks handle.leaf)

abbrev pub is_call : Option Act → Bool
is_call None = false
is_call (Some (Work steps)) = false
is_call (Some (Call op)) = true

-- whether a leaf of work here may take the value of a leaf: a call may take it, and it is that of a reply
abbrev pub may_work_with : Draft → HandleValue → Bool
may_work_with draft handle = is_call (slice_get draft.acts handle.leaf) && may_use draft handle

-- the object of a kind with this name
abbrev pub object : Kind → Name → NamedObject
object kind name = record { kind = kind; name = name }

-- the job, where all blocks are closed
abbrev pub built : Draft → JobValue
built draft = record {
  shape = shape_of draft.blocks;
  acts = with_numbers draft.acts (numbers_of draft.objects);
  sources = draft.sources;
  names = names_of draft.objects;
}
