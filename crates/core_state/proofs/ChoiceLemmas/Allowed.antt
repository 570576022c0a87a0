-- The preconditions of an event's code: the tick and the looks have room, and a claimed node is at an end of its list.
use Rattle.std.proofs.Common.{ℕ, ◌≡◌, ◌<◌, ◌+◌, ◌^◌, Option, Some, None, IfSome, IsSome, arith, refl, sym, ◌∙◌, ap}
use Rattle.sp_order.specs.Jobs.{JobValue, job_tree}
use Rattle.core_model.proofs.Words.{Hold, core_job_with}
use Rattle.core_state.specs.Words.{Event, Claim, Take}
use Rattle.sp_order.specs.Preorder.{nodes_of}
use Rattle.core_state.specs.declared.hold.Hold.{Hold as StoredHold}
use Rattle.core_state.specs.declared.state.State.{State as StoredState}
use Rattle.core_model.specs.Events.{Needs}
use Rattle.core_model.specs.Choice.{choice}
use Rattle.core_model.specs.Ranges.{IsInRange}
use Rattle.ready_lists.specs.Ends.{IsAtOneEnd}
use Rattle.core_state.specs.Abstraction.{state_of, ready_of, core_state_of, hold_of}
use Rattle.core_state.specs.Code.Representation.{RepInvariant}
use Rattle.core_model.proofs.InvariantLemmas.InRange.{event_in}
use Rattle.core_model.proofs.InvariantLemmas.TickRoom.{tick_most}
use Rattle.core_state.proofs.ChoiceLemmas.ClaimEnds.{claim_ends}
use Rattle.core_model.proofs.ChoiceLemmas.Choices.{choice_needs}
use Rattle.core_state.proofs.CodeLemmas.KeptParts.{kept_parts}

tick_of : (t : StoredState) → (state_of t).tick ≡ t.tick
unfolding state_of
tick_of t = refl

held : (t : StoredState) → (state_of t).hold ≡ hold_of t.hold
unfolding state_of
held t = refl

some_held : (o : Option StoredHold) (hd : Hold) → hold_of o ≡ Some hd → IsSome o
some_held None hd is = cc
some_held (Some h) hd is = refl

-- if the model's state has a hold, so has the stored one
pub held_by_needs : (t : StoredState) (hd : Hold) → (state_of t).hold ≡ Some hd → IsSome t.hold
held_by_needs t hd is = some_held t.hold hd (sym (held t) ∙ is)

abbrev looks_of : Option Hold → ℕ
looks_of None = 0
looks_of (Some h) = h.looks

look_room : (o : Option StoredHold) (hd : Hold) → hold_of o ≡ Some hd → hd.looks < 32 → IfSome o (λ (h : StoredHold). h.looks < 32)
look_room None hd is room = tt
look_room (Some h) hd is room = let e : h.looks ≡ hd.looks = ap looks_of is in omega (arith, e, room)

module _ {work : ℕ → ℕ} (job : JobValue) (workers : ℕ) (t : StoredState) (w : ℕ) (h : RepInvariant work job workers t) where
  -- the tick stays below 2^64
  pub room : t.tick + 1 < 2 ^ 64
  room = let l = tick_most (core_job_with work job workers) (state_of t) h.laws (kept_parts job workers t h) in let m = h.most in let e = tick_of t in omega (arith, l, m, e)

  -- the looks stay below 32
  pub take_room : (u : ℕ) → Needs (core_job_with work job workers) (state_of t) w (Take u) → IfSome t.hold (λ (h : StoredHold). h.looks < 32)
  take_room u needs =
      let few = h.few in let at = needs.2 in let below = needs.3 in
      look_room t.hold needs.0 (sym (held t) ∙ needs.1.0) (omega (arith, few, at, below))

  module _ (below : w < workers) (event : Event) (chosen : choice (core_job_with work job workers) (core_state_of t) w ≡ Some event) where
    pub chosen_needs : Needs (core_job_with work job workers) (state_of t) w event
    chosen_needs = choice_needs (core_job_with work job workers) (core_state_of t) w event h.laws h.sources below (kept_parts job workers t h) h.inv.lists chosen

    pub chosen_in_range : IsInRange (nodes_of (job_tree job)).count workers event
    chosen_in_range = event_in (core_job_with work job workers) (state_of t) h.laws (kept_parts job workers t h) w event chosen_needs

    -- a claimed node stands at an end of its list
    pub chosen_at_end : (n : ℕ) → event ≡ Claim n → IsAtOneEnd n (ready_of t)
    chosen_at_end n claims =
        let needs : Needs (core_job_with work job workers) (state_of t) w (Claim n) = rw claims at chosen_needs in
        claim_ends (core_job_with work job workers) (core_state_of t) w n (kept_parts job workers t h) h.inv.lists needs.0 needs.1 (chosen ∙ ap Some claims)
