-- The inductive invariant of the ticks implies what the invariant says of them.
use Rattle.std.proofs.Common.{ℕ, ◌≡◌, ◌<◌, Option, Some, None, refl, inr, sym, ◌∙◌, ap}
use Rattle.core_model.specs.Invariant.Ticks.{IsStartedAs, Draw, start_of, end_of, start_by, end_by, IsDrawn, HasStart, HasEnd, TicksInvariant}
use Rattle.core_model.proofs.Words.{Nodes, Progress, Waiting, Ready, Taken, Done, Ran, Task, Idle, Run, Half, Started, Kept, Ended, Whole, Handed, names}
use Rattle.core_model.proofs.Inductive.Nodes.{InductiveTasks}
use Rattle.core_model.proofs.Inductive.Stamps.{started_held, stamped, stamped_end}
use Rattle.core_model.proofs.Inductive.Ticks.{stamp, stamp_in_task, stamp_by, stamps, Drawn, StartOf, EndOf, RanBefore, EndsBefore, StartsAt, EndsAt, InductiveTicks}

-- whose start or end a tick was drawn for: the worker's, while its task names the leaf, else the leaf's own
abbrev start_source : Progress → Option ℕ → ℕ → Draw
start_source Taken (Some w) n = start_by w
start_source Taken None n = start_of n
start_source Waiting o n = start_of n
start_source Ready o n = start_of n
start_source Done o n = start_of n
start_source (Ran w s e) o n = start_of n

abbrev end_source : Progress → Option ℕ → ℕ → Draw
end_source Taken (Some w) n = end_by w
end_source Taken None n = end_of n
end_source Waiting o n = end_of n
end_source Ready o n = end_of n
end_source Done o n = end_of n
end_source (Ran w s e) o n = end_of n

abbrev source : (ℕ → Progress) → (ℕ → Option ℕ) → Drawn → Draw
source node holder (StartOf n) = start_source (node n) (holder n) n
source node holder (EndOf n) = end_source (node n) (holder n) n

-- what has run before a tick has an end below it
ran_before : (x : Progress) (t : ℕ) → RanBefore x t → (v : ℕ) × (a : ℕ) × (e : ℕ) × (x ≡ Ran v a e) × (e < t)
ran_before (Ran v a e) t h = (v, a, e, refl, h)
ran_before _ t h = absurd h

module _ (plan : Nodes) (workers : ℕ) (node : ℕ → Progress) (mark : ℕ → ℕ) (tick : ℕ) (task : ℕ → Task) (holder : ℕ → Option ℕ)
    (tasks : InductiveTasks plan node mark task holder) (h : InductiveTicks plan workers node tick (stamps node task holder)) where
  abbrev has_stamp : (n w s : ℕ) → HasStart node task n w s
      → (d : Option ℕ) × (stamps node task holder n ≡ Some (stamp w s d)) × ((e : ℕ) → d ≡ Some e → HasEnd node task n w s e)
  has_stamp = stamped plan node mark task holder tasks

  -- the tick determines its draw
  drawn_is : (a : Draw) (t : ℕ) → IsDrawn node task a t → (a ≡ source node holder (h.draw t)) × (t < tick)
  drawn_is (start_of n) t d =
      let at = h.start_drawn n d.0 t (Some d.1) (rw d.2 refl) in
      (sym (ap (source node holder) at.0 ∙ (rw d.2 refl)), at.1)
  drawn_is (end_of n) t d =
      let at = h.end_drawn n d.0 d.1 t (rw d.2 refl) in
      (sym (ap (source node holder) at.0 ∙ (rw d.2 refl)), at.1)
  drawn_is (start_by w) t d =
      let held = started_held plan node mark task holder tasks w d.0 t d.1 in
      let stamp' = has_stamp d.0 w t (inr d.1) in
      let at = h.start_drawn d.0 w t stamp'.0 stamp'.1 in
      (sym (ap (source node holder) at.0 ∙ (rw (held.0, held.1) refl)), at.1)
  drawn_is (end_by w) t d =
      let held = started_held plan node mark task holder tasks w d.0 d.1 (rw d.2 (refl, refl)) in
      let at = h.end_drawn d.0 w d.1 t (stamped_end plan node mark task holder tasks d.0 w d.1 t (inr d.2)) in
      (sym (ap (source node holder) at.0 ∙ (rw (held.0, held.1) refl)), at.1)

  -- a start that was drawn is that of a leaf
  start_found : (n t : ℕ) (x : Progress) (o : Option ℕ) → node n ≡ x → holder n ≡ o → StartsAt (stamp_by x o task) t → (a : Draw) × IsDrawn node task a t
  start_found n t Waiting o at held s = absurd s
  start_found n t Ready o at held s = absurd s
  start_found n t Done o at held s = absurd s
  start_found n t Taken None at held s = absurd s
  start_found n t (Ran w a e) o at held s = (start_of n, (w, e, at ∙ ap (λ b. Ran w b e) s))
  start_found n t Taken (Some w) at held s = (start_by w, (n, starts (task w) (tasks.holders.holds w n held) s)) where
    starts : (x : Task) → names x ≡ Some n → StartsAt (stamp_in_task w x) t → IsStartedAs x n t
    starts Idle name s = absurd s
    starts (Run m) name s = absurd s
    starts (Half m) name s = absurd s
    starts (Started m a) name s = (cc, s)
    starts (Kept m a) name s = (cc, s)
    starts (Ended m a e) name s = (cc, s)
    starts (Whole m) name s = absurd s
    starts (Handed m) name s = absurd s

  -- an end that was drawn is that of a leaf
  end_found : (n t : ℕ) (x : Progress) (o : Option ℕ) → node n ≡ x → holder n ≡ o → EndsAt (stamp_by x o task) t → (a : Draw) × IsDrawn node task a t
  end_found n t Waiting o at held s = absurd s
  end_found n t Ready o at held s = absurd s
  end_found n t Done o at held s = absurd s
  end_found n t Taken None at held s = absurd s
  end_found n t (Ran w a e) o at held s = (end_of n, (w, a, let f : e ≡ t = cc in at ∙ ap (Ran w a) f))
  end_found n t Taken (Some w) at held s = (end_by w, ends (task w) refl (tasks.holders.holds w n held) s) where
    ends : (x : Task) → task w ≡ x → names x ≡ Some n → EndsAt (stamp_in_task w x) t → (m : ℕ) × (a : ℕ) × (task w ≡ Ended m a t)
    ends Idle mine name s = absurd s
    ends (Run m) mine name s = absurd s
    ends (Half m) mine name s = absurd s
    ends (Started m a) mine name s = cc
    ends (Kept m a) mine name s = cc
    ends (Ended m a e) mine name s = (m, a, let f : e ≡ t = cc in mine ∙ ap (Ended m a) f)
    ends (Whole m) mine name s = absurd s
    ends (Handed m) mine name s = absurd s

  -- each tick was drawn
  drawn_for : (t : ℕ) (d : Drawn) → h.draw t ≡ d → t < tick → (a : Draw) × IsDrawn node task a t
  drawn_for t (StartOf n) is low = start_found n t (node n) (holder n) refl refl (h.start_at t n low is)
  drawn_for t (EndOf n) is low = end_found n t (node n) (holder n) refl refl (h.end_at t n low is)

  -- an end that is before a tick
  ends_before : (n w s t : ℕ) (d : Option ℕ) → EndsBefore d t → ((e : ℕ) → d ≡ Some e → HasEnd node task n w s e) → (e : ℕ) × HasEnd node task n w s e × (e < t)
  ends_before n w s t None early ends = absurd early
  ends_before n w s t (Some e) early ends = (e, ends e refl, early)

  -- the ticks
  pub ticks_stand : TicksInvariant plan workers node tick task
  ticks_stand = record {
    distinct = λ a b t i j. (drawn_is a t i).0 ∙ sym (drawn_is b t j).0;
    only = λ a t i. (drawn_is a t i).1;
    each = λ t low. drawn_for t (h.draw t) refl low;
    starts_first = λ n w s e ends. (h.end_drawn n w s e (stamped_end plan node mark task holder tasks n w s e ends)).2;
    among = λ n w s e ran. h.workers_below n w s (Some e) (rw ran refl);
    in_order = λ n m w s leaf leaf' before starts.
        let at = has_stamp m w s starts in
        ran_before (node n) s (h.in_order n m w s at.0 (leaf.0, leaf.1, before) at.1);
    alone = λ n m w s t first second less.
        let at = has_stamp n w s first in
        let at' = has_stamp m w t second in
        ends_before n w s t at.0 (h.one_at_once n m w s t at.0 at'.0 at.1 at'.1 less) at.2;
  }
