-- There are at most two ticks for each node, so the tick has room.
use Rattle.std.proofs.Common.{ℕ, zero, suc, ◌≡◌, ◌≢◌, ◌<◌, ◌≤◌, ◌+◌, ◌*◌, Option, Some, None, List, [], ◌∷◌, length, arith, refl, sym, ◌∙◌, ap}
use Rattle.std.specs.List.{AllByRecursion}
use Rattle.seq_objects.specs.Pairs.{AreDistinct}
use Rattle.core_model.proofs.Words.{IsPlan, CoreJob, State}
use Rattle.core_model.proofs.Inductive.Ticks.{Stamp, Drawn, StartOf, EndOf, StartsAt, EndsAt, stamps}
use Rattle.core_model.proofs.Inductive.Parts.{InductiveParts}
use Rattle.core_model.proofs.BookLemmas.Room.{distinct_few}
use Rattle.core_model.proofs.InvariantLemmas.InRange.{standing_in}
use Rattle.std.proofs.lemmas.Option.{same_Some}

abbrev code : Drawn → ℕ
code (StartOf n) = 2 * n
code (EndOf n) = 2 * n + 1

-- the codes of the draws of the ticks
abbrev codes : (ℕ → Drawn) → ℕ → List ℕ
codes draw zero = []
codes draw (suc k) = code (draw k) ∷ codes draw k

length_codes : (draw : ℕ → Drawn) (k : ℕ) → length (codes draw k) ≡ k
length_codes draw zero = refl
length_codes draw (suc k) = let h = length_codes draw k in omega (arith, h)

same_start : (s : Option Stamp) (t u : ℕ) → StartsAt s t → StartsAt s u → t ≡ u
same_start None t u a b = absurd a
same_start (Some s) t u a b = sym a ∙ b

same_end : (s : Option Stamp) (t u : ℕ) → EndsAt s t → EndsAt s u → t ≡ u
same_end None t u a b = absurd a
same_end (Some s) t u a b = same_Some t u (sym a ∙ b)

start_known : (s : Option Stamp) (t : ℕ) → StartsAt s t → s ≢ None
start_known None t a e = a
start_known (Some s) t a e = cc

end_known : (s : Option Stamp) (t : ℕ) → EndsAt s t → s ≢ None
end_known None t a e = a
end_known (Some s) t a e = cc

same_code : (a b : Drawn) → code a ≡ code b → a ≡ b
same_code (StartOf n) (StartOf m) e = ap StartOf (omega (arith, e))
same_code (StartOf n) (EndOf m) e = absurd (omega (arith, e))
same_code (EndOf n) (StartOf m) e = absurd (omega (arith, e))
same_code (EndOf n) (EndOf m) e = ap EndOf (omega (arith, e))

-- the codes of draws that differ are distinct
apart_codes : (draw : ℕ → Drawn) (j x : ℕ) → ((t : ℕ) → t < j → x ≢ code (draw t)) → AllByRecursion (λ y. x ≢ y) (codes draw j)
apart_codes draw zero x h = tt
apart_codes draw (suc j) x h = (h j (omega arith), apart_codes draw j x (λ t below. h t (omega (arith, below))))

distinct_codes : (draw : ℕ → Drawn) (k : ℕ) → ((t u : ℕ) → t < k → u < k → draw t ≡ draw u → t ≡ u) → AreDistinct (codes draw k)
distinct_codes draw zero h = tt
distinct_codes draw (suc k) h = (
  apart_codes draw k (code (draw k)) (λ t below e. let f = h k t (omega arith) (omega (arith, below)) (same_code (draw k) (draw t) e) in absurd (omega (arith, f, below))),
  distinct_codes draw k (λ t u a b. h t u (omega (arith, a)) (omega (arith, b))),
)

-- what holds of the code of each draw
each_code : (P : ℕ → Type 0) (draw : ℕ → Drawn) (k : ℕ) → ((t : ℕ) → t < k → P (code (draw t))) → AllByRecursion P (codes draw k)
each_code P draw zero h = tt
each_code P draw (suc k) h = (h k (omega arith), each_code P draw k (λ t below. h t (omega (arith, below))))

module _ (job : CoreJob) (s : State) (laws : IsPlan job.plan) (h : InductiveParts job s) where
  known_in : (n : ℕ) → stamps s.node s.task h.holder n ≢ None → n < job.plan.count
  known_in n known = standing_in job s laws h n (λ waits. known (rw waits refl))

  drawn_below : (t : ℕ) → t < s.tick → (d : Drawn) → h.ticks.draw t ≡ d → code d < 2 * job.plan.count
  drawn_below t below (StartOf n) e =
      let n_in = known_in n (start_known (stamps s.node s.task h.holder n) t (h.ticks.start_at t n below e)) in omega (arith, n_in)
  drawn_below t below (EndOf n) e =
      let n_in = known_in n (end_known (stamps s.node s.task h.holder n) t (h.ticks.end_at t n below e)) in omega (arith, n_in)

  drawn_once : (t u : ℕ) → t < s.tick → u < s.tick → (d : Drawn) → h.ticks.draw t ≡ d → h.ticks.draw u ≡ d → t ≡ u
  drawn_once t u a b (StartOf n) e f = same_start (stamps s.node s.task h.holder n) t u (h.ticks.start_at t n a e) (h.ticks.start_at u n b f)
  drawn_once t u a b (EndOf n) e f = same_end (stamps s.node s.task h.holder n) t u (h.ticks.end_at t n a e) (h.ticks.end_at u n b f)

  -- there are at most two ticks for each node
  pub tick_most : s.tick ≤ 2 * job.plan.count
  tick_most =
      let most = distinct_few (codes h.ticks.draw s.tick) (2 * job.plan.count)
      (distinct_codes h.ticks.draw s.tick (λ t u a b e. drawn_once t u a b (h.ticks.draw u) e refl))
      (each_code (λ c. c < 2 * job.plan.count) h.ticks.draw s.tick (λ t below. drawn_below t below (h.ticks.draw t) refl)) in
      rw (length_codes h.ticks.draw s.tick) at most
