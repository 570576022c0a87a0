-- The causes for which a builder may refuse, by what is asked of it.
use Rattle.std.specs.Prelude.{◌≡◌, ◌≢◌, [], false, length, ⊤}
use Rattle.limits.specs.declared.TheConstants.{MOST_LEAVES, MOST_OPEN_BLOCKS}
use Rattle.job_builder.specs.declared.error.BuildError.{BuildError}
use Rattle.job_builder.specs.declared.error.BuildError.TheVariants.{Full, Nesting, NoBlock, Unclosed, NotVisible, Memory}
use Rattle.leaf_handles.specs.Handles.{HandleValue}
use Rattle.job_builder.specs.Drafts.{Draft, may_use, may_work_with}

-- to add a leaf
abbrev pub IsNoLeaf : Draft → BuildError → Type 0
IsNoLeaf draft Full = length draft.acts ≡ MOST_LEAVES
IsNoLeaf draft Nesting = ⊥
IsNoLeaf draft NoBlock = ⊥
IsNoLeaf draft Unclosed = ⊥
IsNoLeaf draft NotVisible = ⊥
IsNoLeaf draft Memory = ⊤

-- to add a call that takes the value of a leaf
abbrev pub IsNoUse : Draft → HandleValue → BuildError → Type 0
IsNoUse draft handle Full = length draft.acts ≡ MOST_LEAVES
IsNoUse draft handle Nesting = ⊥
IsNoUse draft handle NoBlock = ⊥
IsNoUse draft handle Unclosed = ⊥
IsNoUse draft handle NotVisible = may_use draft handle ≡ false
IsNoUse draft handle Memory = ⊤

-- to add a leaf of work that takes the value of a leaf
abbrev pub IsNoWork : Draft → HandleValue → BuildError → Type 0
IsNoWork draft handle Full = length draft.acts ≡ MOST_LEAVES
IsNoWork draft handle Nesting = ⊥
IsNoWork draft handle NoBlock = ⊥
IsNoWork draft handle Unclosed = ⊥
IsNoWork draft handle NotVisible = may_work_with draft handle ≡ false
IsNoWork draft handle Memory = ⊤

-- to open a block
abbrev pub IsNotOpened : Draft → BuildError → Type 0
IsNotOpened draft Full = ⊥
IsNotOpened draft Nesting = length draft.blocks.around ≡ MOST_OPEN_BLOCKS
IsNotOpened draft NoBlock = ⊥
IsNotOpened draft Unclosed = ⊥
IsNotOpened draft NotVisible = ⊥
IsNotOpened draft Memory = ⊤

-- to close one
abbrev pub IsNotClosed : Draft → BuildError → Type 0
IsNotClosed draft Full = ⊥
IsNotClosed draft Nesting = ⊥
IsNotClosed draft NoBlock = draft.blocks.around ≡ []
IsNotClosed draft Unclosed = ⊥
IsNotClosed draft NotVisible = ⊥
IsNotClosed draft Memory = ⊤

-- to finish the job
abbrev pub IsUnfinished : Draft → BuildError → Type 0
IsUnfinished draft Full = ⊥
IsUnfinished draft Nesting = ⊥
IsUnfinished draft NoBlock = ⊥
IsUnfinished draft Unclosed = draft.blocks.around ≢ []
IsUnfinished draft NotVisible = ⊥
IsUnfinished draft Memory = ⊤
