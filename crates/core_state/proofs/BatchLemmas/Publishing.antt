-- The code of a publish: its preconditions hold, and it performs the event.
use Rattle.std.proofs.Common.{ℕ, ◌≡◌, false, true, Some, None, List, arith, refl, sym, subst, ◌∙◌, ap}
use Rattle.std.proofs.lemmas.Option.{same_Some}
use Rattle.sp_order.specs.Jobs.{JobValue}
use Rattle.core_model.proofs.Words.{Entry, Hold, core_job_with}
use Rattle.core_state.specs.Words.{Publish}
use Rattle.seq_objects.specs.declared.call.Call.{Call}
use Rattle.batch_history.specs.Book.{IsLegalFrom}
use Rattle.batch_history.specs.Serving.{served_book, calls_in}
use Rattle.launch_batch.specs.Calls.{MayServe, IsServiceOf}
use Rattle.core_state.specs.declared.hold.Hold.{Hold as StoredHold}
use Rattle.core_state.specs.declared.state.State.{State as StoredState}
use Rattle.core_model.specs.Events.{Needs, IsBatchOf}
use Rattle.core_model.specs.Invariant.Statuses.{IsAtCall, is_taken_by}
use Rattle.core_model.specs.Batches.{AreTakenCalls}
use Rattle.core_state.specs.Places.{at}
use Rattle.core_state.specs.Abstraction.{hold_of, state_of}
use Rattle.core_state.specs.Holds.{hold_view}
use Rattle.core_state.specs.Code.Representation.{RepInvariant}
use Rattle.core_model.proofs.BookLemmas.CallsIn.{call_within}
use Rattle.core_model.proofs.BatchLemmas.Made.{taken_at_call, owed_before, batch_made}
use Rattle.core_state.proofs.BatchLemmas.SameCalls.{taken_too}
use Rattle.core_state.proofs.BatchLemmas.Serving.{may_serve}
use Rattle.core_state.proofs.CodeLemmas.KeptParts.{kept_parts}

held : (t : StoredState) (hold : StoredHold) → t.hold ≡ Some hold → (state_of t).hold ≡ Some (hold_view hold)
unfolding state_of
held t hold there = rw there refl

objects_are : (t : StoredState) → (state_of t).objects ≡ served_book (state_of t).book
unfolding state_of
objects_are t = refl

module _ {work : ℕ → ℕ} {job : JobValue} {workers : ℕ} {t : StoredState} {hold : StoredHold} (w : ℕ) (h : RepInvariant work job workers t)
    (needs : Needs (core_job_with work job workers) (state_of t) w Publish) (there : t.hold ≡ Some hold) where
  same : needs.0 ≡ hold_view hold
  same = same_Some needs.0 (hold_view hold) (sym needs.1.0 ∙ held t hold there)

  unpublished : (hold_view hold).published ≡ false
  unpublished = ap (λ (x : Hold). x.published) (sym same) ∙ needs.4

  pub at_call : (v : ℕ) → at hold.taken false v ≡ true → IsAtCall (core_job_with work job workers) ((state_of t).task v)
  at_call v took = taken_at_call (core_job_with work job workers) (state_of t) (hold_view hold) (kept_parts job workers t h) (held t hold there) unpublished v took

  pub taken_owed : (v : ℕ) → at hold.taken false v ≡ true → is_taken_by (state_of t).hold v ≡ true
  taken_owed v took = owed_before (core_job_with work job workers) (state_of t) (hold_view hold) (kept_parts job workers t h) (held t hold there) unpublished v took

  some_taken : (u : ℕ) × (at hold.taken false u ≡ true)
  some_taken = (needs.3.0, ap (λ (x : Hold). x.taken needs.3.0) (sym same) ∙ needs.3.1)

  module _ {calls : List Call} (taken : AreTakenCalls (core_job_with work job workers) (state_of t).book (state_of t).task (at hold.taken false) calls) where
    -- the shop may serve the taken calls
    pub can_serve : MayServe (state_of t).book calls
    can_serve = may_serve (core_job_with work job workers) (state_of t) (hold_view hold) h.laws (kept_parts job workers t h) (held t hold there) unpublished calls taken
        some_taken h.few (λ leaf call. let low = call_within job.acts leaf call in let most = h.few_acts in omega (arith, low, most))

    -- and what it serves is a batch of the model
    pub served_batch : (batch : List Entry) → IsServiceOf (state_of t).book calls batch → IsBatchOf (core_job_with work job workers) (state_of t) batch
    served_batch batch is =
        batch_made (core_job_with work job workers) (state_of t) (hold_view hold) (kept_parts job workers t h) (held t hold there) batch some_taken
        (taken_too (core_job_with work job workers) (state_of t).book (state_of t).task (at hold.taken false) calls (calls_in batch) is.same taken) is.order
        (subst (λ o. IsLegalFrom o batch) (sym (objects_are t)) is.replies)

-- a worker that publishes has the flag
pub no_hold : (t : StoredState) (hd : Hold) → t.hold ≡ None → (state_of t).hold ≡ Some hd → ⊥
unfolding state_of
no_hold t hd none some = let e : None ≡ Some hd = sym (ap hold_of none) ∙ some in cc
