-- The construction of all workers' ends: first their own ends one by one, from the pairs, then their reaches.
use Rattle.std.proofs.Common.{◌≡◌, ◌≢◌, ℕ, ◌+◌, ◌<◌, ◌≤◌, List, [], ◌∷◌, ◌++◌, length, set, get_or, replicate, sym, ap, ◌∙◌, subst, arith}
use Rattle.std.proofs.lemmas.List.{get_or-set_same, get_or-set_other, length-set, get_or_append_left, get_or_push, length_push}
use mathlib.Core.Logic.{dite}
use native.Mathlib.Decide.{ℕ_discrete}
use Rattle.std.specs.declared.alloc.Global.{Global}
use Rattle.crossbeam_deque.specs.Handles.{worker_deque, worker_capacity, worker_view, stealer_deque}
use Rattle.crossbeam_deque.specs.declared.handles.Worker.{Worker}
use Rattle.two_deques.specs.declared.rule.Part.{Part}
use Rattle.two_deques.specs.declared.rule.DequeRule.{DequeRule}
use Rattle.two_deques.specs.declared.ends.Ends.{Ends}
use Rattle.two_deques.specs.Reaches.{Thief, ReachEach}
use Rattle.two_deques.specs.Ends.{HeldEnds, held_ends, fresh_ends}
use Rattle.two_deques.specs.Pairs.{IsNewDeque}
use Rattle.two_deques.specs.Code.Opening.{IsNew, HasReaches, AreMade}

module _ {T : Type 0} where
  one_more : (n room : ℕ) (thieves : List (Thief T)) (all : List (Ends T)) (t : Thief T) (e : Ends T)
      → AreMade 0 n room thieves all → worker_deque e.own ≡ stealer_deque t → IsNew room e
      → AreMade 0 (n + 1) room (thieves ++ t ∷ []) (all ++ e ∷ [])
  one_more n room thieves all t e h deque new =
      let here : (w : ℕ) (v : Ends T) → w ≡ n → v ≡ get_or (all ++ e ∷ []) w v → e ≡ v =
      λ w v is at. sym (at ∙ get_or_push all e v w (h.ends_count ∙ sym is)) in
      let before : (w : ℕ) (v : Ends T) → w < n → v ≡ get_or (all ++ e ∷ []) w v → v ≡ get_or all w v =
      λ w v less at. at ∙ get_or_append_left all (e ∷ []) v w (omega (arith, h.ends_count, less)) in
      record {
        thieves_count = omega (arith, length_push thieves t, h.thieves_count);
        ends_count = omega (arith, length_push all e, h.ends_count);
        own = λ w u v lt at there. dite (ℕ_discrete w n)
            (λ (is : w ≡ n).
            let same : t ≡ u = sym (at ∙ get_or_push thieves t u w (h.thieves_count ∙ sym is)) in
            subst (λ (q : Thief T × Ends T). worker_deque q.1.own ≡ stealer_deque q.0) (λ k. (same k, here w v is there k)) deque)
            (λ (ne : w ≢ n).
            let less : w < n = omega (arith, lt, ne) in
            h.own w u v less (at ∙ get_or_append_left thieves (t ∷ []) u w (omega (arith, h.thieves_count, less))) (before w v less there));
        fresh = λ w v lt there. dite (ℕ_discrete w n)
            (λ (is : w ≡ n). subst (λ (q : Ends T). IsNew room q) (here w v is there) new)
            (λ (ne : w ≢ n). let less : w < n = omega (arith, lt, ne) in h.fresh w v less (before w v less there));
        reached = λ w v lt there. absurd (omega (arith, lt));
      }

  one_more_by : (n room : ℕ) (thieves then_thieves : List (Thief T)) (all then_all : List (Ends T)) (t : Thief T) (e : Ends T)
      → AreMade 0 n room thieves all → then_thieves ≡ thieves ++ t ∷ [] → then_all ≡ all ++ e ∷ []
      → stealer_deque t ≡ worker_deque e.own → room ≤ worker_capacity e.own → held_ends e ≡ fresh_ends T 0
      → AreMade 0 (n + 1) room then_thieves then_all
  one_more_by n room thieves then_thieves all then_all t e h first second same fits fresh =
      subst (λ (q : List (Thief T) × List (Ends T)). AreMade 0 (n + 1) room q.0 q.1) (λ k. (sym first k, sym second k))
      (one_more n room thieves all t e h (sym same) (
        fits,
        ap (λ (g : HeldEnds T). g.own) fresh,
        ap (λ (g : HeldEnds T). g.pushes) fresh,
        ap (λ (g : HeldEnds T). g.empty_pops) fresh,
      ))

  -- one new deque more, from the pair after those that were seen
  pub one_more_of : {P : Type 0} (seen : List P) (pair : P) (room : ℕ) (thieves then_thieves : List (Thief T)) (all then_all : List (Ends T)) (t : Thief T) (e : Ends T)
      → AreMade 0 (length seen) room thieves all → then_thieves ≡ thieves ++ t ∷ [] → then_all ≡ all ++ e ∷ []
      → IsNewDeque room e t → AreMade 0 (length (seen ++ pair ∷ [])) room then_thieves then_all
  one_more_of seen pair room thieves then_thieves all then_all t e h first second new =
      subst (λ (n : ℕ). AreMade 0 n room then_thieves then_all) (sym (length_push seen pair))
      (one_more_by (length seen) room thieves then_thieves all then_all t e h first second new.0 new.1 new.2)

  -- the next worker has its reaches, and its own end is unchanged
  next_reached : (k n room : ℕ) (thieves : List (Thief T)) (all : List (Ends T)) (e v : Ends T) → AreMade k n room thieves all
      → k < n → e ≡ get_or all k e → v.own ≡ e.own → v.empty_pops ≡ e.empty_pops → HasReaches n thieves v
      → AreMade (k + 1) n room thieves (set all k v)
  next_reached k n room thieves all e v h lt at own_same pops_same reached =
      let here : (w : ℕ) (u : Ends T) → w ≡ k → u ≡ get_or (set all k v) w u → v ≡ u =
      λ w u is there. sym (there ∙ ap (λ (j : ℕ). get_or (set all k v) j u) is
      ∙ get_or-set_same all k v u (omega (arith, lt, h.ends_count))) in
      let before : (w : ℕ) → w ≡ k → e ≡ get_or all w e = λ w is. at ∙ ap (λ (j : ℕ). get_or all j e) (sym is) in
      record {
        thieves_count = h.thieves_count;
        ends_count = length-set all k v ∙ h.ends_count;
        own = λ w t u lt' there_thief there. dite (ℕ_discrete w k)
            (λ (is : w ≡ k). subst (λ (q : Ends T). worker_deque q.own ≡ stealer_deque t) (here w u is there)
            (ap worker_deque own_same ∙ h.own w t e lt' there_thief (before w is)))
            (λ (ne : w ≢ k). h.own w t u lt' there_thief (there ∙ get_or-set_other all k w v u ne));
        fresh = λ w u lt' there. dite (ℕ_discrete w k)
            (λ (is : w ≡ k). let old = h.fresh w e lt' (before w is) in
            subst (λ (q : Ends T). IsNew room q) (here w u is there) (
              subst (λ (q : Worker T Global (Part T) DequeRule). room ≤ worker_capacity q) (sym own_same) old.0,
              ap (λ (q : Worker T Global (Part T) DequeRule). (worker_view q).tasks) own_same ∙ old.1,
              ap (λ (q : Worker T Global (Part T) DequeRule). (worker_view q).pushes) own_same ∙ old.2,
              pops_same ∙ old.3,
            ))
            (λ (ne : w ≢ k). h.fresh w u lt' (there ∙ get_or-set_other all k w v u ne));
        reached = λ w u lt' there. dite (ℕ_discrete w k)
            (λ (is : w ≡ k). subst (λ (q : Ends T). HasReaches n thieves q) (here w u is there) reached)
            (λ (ne : w ≢ k). h.reached w u (omega (arith, lt', ne)) (there ∙ get_or-set_other all k w v u ne));
      }

  pub next_reached_by : (k n room : ℕ) (thieves seen : List (Thief T)) (all : List (Ends T)) (e v : Ends T)
      → AreMade k n room thieves all → k < n → e ≡ get_or all k e → v.own ≡ e.own → v.empty_pops ≡ e.empty_pops
      → seen ≡ thieves → ReachEach seen v.reaches.items → (held_ends v).stolen ≡ replicate (length seen) []
      → (held_ends v).failed_steals ≡ replicate (length seen) 0 → AreMade (k + 1) n room thieves (set all k v)
  next_reached_by k n room thieves seen all e v h lt at own_same pops_same same each stolen failed_steals =
      let count : length seen ≡ n = ap length same ∙ h.thieves_count in
      next_reached k n room thieves all e v h lt at own_same pops_same (
        subst (λ (l : List (Thief T)). ReachEach l v.reaches.items) same each,
        stolen ∙ ap (λ m. replicate m []) count,
        failed_steals ∙ ap (λ m. replicate m 0) count,
      )

  -- the ends of all workers have their reaches, by whatever names the deques, their number and their room are known
  pub reached_all : (m n room room' : ℕ) (thieves seen : List (Thief T)) (ends all : List (Ends T)) → m ≡ n → room' ≡ room
      → seen ≡ thieves → AreMade 0 n room thieves ends
      → ((k : ℕ) → AreMade 0 (length seen) k seen ends → AreMade (length seen) (length seen) k seen all)
      → AreMade m m room' thieves all
  reached_all m n room room' thieves seen ends all count rooms same begun reached =
      let long : length seen ≡ n = ap length same ∙ begun.thieves_count in
      let start : AreMade 0 (length seen) room' seen ends =
      subst (λ (k : ℕ). AreMade 0 k room' seen ends) (sym long)
      (subst (λ (k : ℕ). AreMade 0 n k seen ends) (sym rooms)
      (subst (λ (l : List (Thief T)). AreMade 0 n room l ends) (sym same) begun)) in
      subst (λ (k : ℕ). AreMade k k room' thieves all) (long ∙ sym count)
      (subst (λ (l : List (Thief T)). AreMade (length seen) (length seen) room' l all) same (reached room' start))
