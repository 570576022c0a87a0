-- A draft to which leaves are added.
use Rattle.std.specs.Prelude.{◌≡◌, ℕ, ◌+◌, ◌<◌, ◌≤◌, length}
use Rattle.limits.specs.declared.TheConstants.{MOST_LEAVES, MOST_OPEN_BLOCKS}
use Rattle.job_lang.specs.declared.join.Order.TheVariants.{Series}
use Rattle.job_builder.specs.Drafts.{Draft}

-- the blocks have the leaves, of which there are no more than a job may have
pub record IsCounted (draft : Draft) : Type 0 where
  pub counted : draft.blocks.leaves ≡ length draft.acts
  pub few : length draft.acts ≤ MOST_LEAVES

-- and one block more may be opened
pub record MayGrow (draft : Draft) : Type 0 where
  pub is : IsCounted draft
  pub room : length draft.blocks.around < MOST_OPEN_BLOCKS

-- the second draft has so many leaves more than the first, in the same open block
pub record HasGrown (before after : Draft) (leaves : ℕ) : Type 0 where
  pub more : length after.acts ≡ length before.acts + leaves
  pub order : after.blocks.inner.order ≡ before.blocks.inner.order
  pub first : after.blocks.inner.first ≡ before.blocks.inner.first
  pub around : after.blocks.around ≡ before.blocks.around
  pub is : IsCounted after

-- the innermost block runs its items in series, and has all leaves
pub record IsInSeries (draft : Draft) : Type 0 where
  pub order : draft.blocks.inner.order ≡ Series
  pub first : draft.blocks.inner.first ≤ length draft.acts
