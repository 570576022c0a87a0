-- Refusals of a builder, as those of a whole job.
use Rattle.std.proofs.Common.{◌≡◌, ℕ, ◌<◌, ◌≤◌, true, false, length, sym, ◌∙◌, arith}
use Rattle.leaf_handles.specs.Handles.{HandleValue}
use Rattle.job_builder.specs.Drafts.{Draft, may_use}
use Rattle.job_builder.specs.Refusals.{IsNoLeaf, IsNoUse}
use Rattle.job_builder.specs.declared.error.BuildError.{BuildError}
use Rattle.job_builder.specs.declared.error.BuildError.TheVariants.{Full, Nesting, NoBlock, Unclosed, NotVisible, Memory}
use Rattle.job_uses.specs.Refusals.{IsNotBuilt}

-- a leaf of a job of more leaves than the draft has
pub no_leaf : (leaves : ℕ) (draft : Draft) (error : BuildError) → length draft.acts < leaves → IsNoLeaf draft error → IsNotBuilt leaves error
no_leaf leaves draft Full less is = omega (arith, less, is)
no_leaf leaves draft Nesting less is = absurd is
no_leaf leaves draft NoBlock less is = absurd is
no_leaf leaves draft Unclosed less is = absurd is
no_leaf leaves draft NotVisible less is = absurd is
no_leaf leaves draft Memory less is = tt

-- a call of such a job, which may take the value of its leaf
pub no_use : (leaves : ℕ) (draft : Draft) (handle : HandleValue) (error : BuildError) → length draft.acts < leaves → may_use draft handle ≡ true
    → IsNoUse draft handle error → IsNotBuilt leaves error
no_use leaves draft handle Full less may is = omega (arith, less, is)
no_use leaves draft handle Nesting less may is = absurd is
no_use leaves draft handle NoBlock less may is = absurd is
no_use leaves draft handle Unclosed less may is = absurd is
no_use leaves draft handle NotVisible less may is = let both : true ≡ false = sym may ∙ is in absurd cc
no_use leaves draft handle Memory less may is = tt

-- a part of a larger job
pub larger : (part leaves : ℕ) (error : BuildError) → part ≤ leaves → IsNotBuilt part error → IsNotBuilt leaves error
larger part leaves Full less is = omega (arith, less, is)
larger part leaves Nesting less is = absurd is
larger part leaves NoBlock less is = absurd is
larger part leaves Unclosed less is = absurd is
larger part leaves NotVisible less is = absurd is
larger part leaves Memory less is = tt
