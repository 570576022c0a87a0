-- The miss that a look at a table notes, and what holds of it.
use Rattle.std.proofs.Common.{ℕ, ◌≡◌, ◌≢◌, ◌≤◌, ◌+◌, List, [], ◌∷◌, length, get_or, arith, refl, sym, ap, subst}
use Rattle.std.specs.List.{AllByRecursion}
use mathlib.Core.Option.{some}
use lib.ListN.{get_elem?}
use Rattle.core_model.specs.declared.event.Event.{Event}
use Rattle.core_model.specs.State.{CoreJob}
use Rattle.seq_objects.proofs.Elements.{each_so}
use Rattle.table_rule.specs.declared.view.Miss.{Miss}
use Rattle.table_rule.specs.declared.view.View.{View}
use Rattle.table_rule.specs.Words.{stop_at}
use Rattle.table_rule.specs.Shows.{TableState, IsTrueIn, Shows}
use Rattle.table_rule.specs.Moments.{IsMomentOf, IsMissAt}
use Rattle.table_rule.specs.Tasks.{job_seen_with}
use Rattle.table_rule.proofs.TableLemmas.Traces.{IsNoted, true_now, within_trace}

-- the miss of a look at the word at `place`, by a pass of view v
abbrev pub miss_of : (job : CoreJob) (room : ℕ) (t : TableState) → Shows job room t → View → ℕ → Miss
miss_of job room t o v place = record { word = place; found = get_or t.words place 0; moment = length o.trace; events = length v.own.events }

-- no miss of a view is after the end of the trace
pub all_before : (job : CoreJob) (room : ℕ) (t : TableState) (o : Shows job room t) (id k : ℕ) (v : View) → get_elem? t.views id ≡ some v → v.own.worker ≤ k → k + 1 ≤ v.to
    → AllByRecursion (λ (m : Miss). m.moment ≤ length o.trace) v.misses
all_before job room t o id k v me low high = each_so (IsTrueIn job k o.trace) (λ (m : Miss). m.moment ≤ length o.trace) (λ m h. within_trace job k o.trace m h) v.misses (o.misses id v k me low (omega arith)).0

module _ (job : CoreJob) (room : ℕ) (t : TableState) (o : Shows job room t) (id k : ℕ) (v : View) (me : get_elem? t.views id ≡ some v) (from : v.own.worker ≡ k) (to : v.to ≡ k + 1) where
  now_true : (place : ℕ) → IsTrueIn job k o.trace (miss_of job room t o v place)
  now_true place = true_now job k o.trace record { state = o.state; ready = o.ready } (miss_of job room t o v place) o.reached refl
      (ap (λ (l : List Event). length l) (o.events id v k me (omega arith) (omega arith))) (t.words, o.words, refl)

  -- a miss at any other word than the stop word, and one at the stop word
  pub noted_at : (place : ℕ) → place ≢ stop_at job.workers → AllByRecursion (IsNoted job k o.trace (get_or t.words (stop_at job.workers) 0)) (miss_of job room t o v place ∷ [])
  noted_at place ne = (record { holds = now_true place; last = refl; stop = λ is. absurd (ne is) }, tt)

  pub noted_at_stop : get_or t.words (stop_at job.workers) 0 ≡ 0 → AllByRecursion (IsNoted job k o.trace (get_or t.words (stop_at job.workers) 0)) (miss_of job room t o v (stop_at job.workers) ∷ [])
  noted_at_stop zero = (record { holds = now_true (stop_at job.workers); last = refl; stop = λ is. (zero, zero) }, tt)

  now : IsMomentOf job room v (length o.trace)
  now = record { table = t; shown = o; seat = id; seated = me; long = refl; own = o.events id v v.own.worker me (omega arith) (omega arith); later = all_before job room t o id k v me (omega arith) (omega arith) }

  -- the moment of the look, and its miss, by the job and the room that the view tells
  pub moment_seen : job_seen_with job.work v ≡ job → v.room ≡ room → IsMomentOf (job_seen_with job.work v) v.room v (length o.trace)
  moment_seen seen roomy = subst (λ (j : CoreJob). IsMomentOf j v.room v (length o.trace)) (sym seen) (subst (λ (r : ℕ). IsMomentOf job r v (length o.trace)) (sym roomy) now)

  pub miss_seen : job_seen_with job.work v ≡ job → v.room ≡ room → (place : ℕ) → IsMissAt (job_seen_with job.work v) v.room v place (miss_of job room t o v place)
  unfolding now
  miss_seen seen roomy place = subst (λ (j : CoreJob). IsMissAt j v.room v place (miss_of job room t o v place)) (sym seen) (subst (λ (r : ℕ). IsMissAt job r v place (miss_of job room t o v place)) (sym roomy)
      record { word = refl; events = refl; at = now; found = refl })
