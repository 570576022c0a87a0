-- What carries over from one represented state to the next.
use Rattle.std.proofs.Common.{ℕ}
use Rattle.sp_order.specs.Jobs.{JobValue}
use Rattle.core_model.proofs.Words.{core_job_with}
use Rattle.core_model.proofs.Inductive.Parts.{InductiveParts}
use Rattle.core_model.proofs.Inductive.FromParts.{parts_carried}
use Rattle.core_state.specs.declared.state.State.{State as StoredState}
use Rattle.core_state.specs.Abstraction.{state_of}
use Rattle.core_state.specs.Code.Representation.{RepInvariant}

pub kept_parts : {work : ℕ → ℕ} (job : JobValue) (workers : ℕ) (t : StoredState) → RepInvariant work job workers t → InductiveParts (core_job_with work job workers) (state_of t)
kept_parts {work} job workers t h = parts_carried (core_job_with work job workers) (state_of t) h.inv.parts
