-- A steal changes the knowledge of one reach alone.
use Rattle.std.proofs.Common.{◌≡◌, ◌≢◌, ℕ, ◌<◌, false, Option, None, Some, IfSome, IfNone, List, [], ◌∷◌, ◌++◌, length, map, set, get_or, sym, ap, ◌∙◌, subst, arith}
use Rattle.std.proofs.lemmas.List.{map-set, get_or-set_same, get_or-set_other, get_or-map, length-set, get_or_default}
use Rattle.std.proofs.Math.Seq.{map-set_same}
use mathlib.Core.Logic.{dite}
use native.Mathlib.Decide.{ℕ_discrete}
use Rattle.crossbeam_deque.specs.Handles.{IsPassOf, stealer_deque}
use Rattle.two_deques.specs.declared.ends.Reach.{Reach}
use Rattle.two_deques.specs.Rule.{FoundAtMost}
use Rattle.two_deques.specs.Reaches.{Thief, ReachEach}
use Rattle.two_deques.specs.Ends.{HeldEnds, stolen_there, risen, after_steal, after_failed_steal}

module _ {T : Type 0} where
  pub reaches_kept : (thieves : List (Thief T)) (rs : List (Reach T)) (i : ℕ) (t : Thief T) (w : Reach T)
      → ReachEach thieves rs → i < length thieves → t ≡ get_or thieves i t → IsPassOf (stealer_deque t) w.pass
      → ReachEach thieves (set rs i w)
  reaches_kept thieves rs i t w h inside at pass = record {
    count = length-set rs i w ∙ h.count;
    each = λ j s u lt here there. dite (ℕ_discrete j i)
        (λ (e : j ≡ i).
        let same_thief : t ≡ s =
        at ∙ get_or_default thieves i t s inside ∙ sym (here ∙ ap (λ (k : ℕ). get_or thieves k s) e) in
        let same_reach : w ≡ u = sym (there ∙ ap (λ (k : ℕ). get_or (set rs i w) k u) e
        ∙ get_or-set_same rs i w u (omega (arith, h.count))) in
        subst (λ (q : Thief T × Reach T). IsPassOf (stealer_deque q.0) q.1.pass) (λ k. (same_thief k, same_reach k)) pass)
        (λ (ne : j ≢ i). h.each j s u lt here (there ∙ get_or-set_other rs i j w u ne));
  }

  -- the view of ends with these reaches and this knowledge of the own deque
  abbrev pub with_reaches : List T → ℕ → ℕ → List (Reach T) → HeldEnds T
  with_reaches own pushes empty_pops rs = record {
    own = own;
    pushes = pushes;
    empty_pops = empty_pops;
    stolen = map stolen_there rs;
    failed_steals = map (λ reach. reach.failed_steals) rs;
  }

  stolen_more : (rs : List (Reach T)) (i : ℕ) (r w : Reach T) (xs : List T) → i < length rs → r ≡ get_or rs i r
      → stolen_there w ≡ stolen_there r ++ xs
      → map stolen_there (set rs i w) ≡ set (map stolen_there rs) i (get_or (map stolen_there rs) i [] ++ xs)
  stolen_more rs i r w xs inside at more =
      map-set stolen_there rs i w
      ∙ ap (λ l. set (map stolen_there rs) i l)
      (more ∙ ap (λ l. l ++ xs) (sym (get_or-map stolen_there rs i r [] inside ∙ ap stolen_there (sym at))))

  part_same : {Y : Type 0} (f : Reach T → Y) (rs : List (Reach T)) (i : ℕ) (r w : Reach T) → i < length rs
      → r ≡ get_or rs i r → f w ≡ f r → map f (set rs i w) ≡ map f rs
  part_same f rs i r w inside at same = map-set_same f rs i w r (same ∙ ap f at)

  one_more : (rs : List (Reach T)) (i : ℕ) (r w : Reach T) → i < length rs → r ≡ get_or rs i r
      → w.failed_steals ≡ risen r.failed_steals
      → map (λ reach. reach.failed_steals) (set rs i w)
      ≡ set (map (λ reach. reach.failed_steals) rs) i (risen (get_or (map (λ reach. reach.failed_steals) rs) i 0))
  one_more rs i r w inside at more =
      let count : Reach T → ℕ = λ reach. reach.failed_steals in
      map-set count rs i w
      ∙ ap (λ n. set (map count rs) i n) (more ∙ ap risen (sym (get_or-map count rs i r 0 inside ∙ ap count (sym at))))

  pub then_stolen : (own : List T) (pushes empty_pops : ℕ) (rs : List (Reach T)) (i : ℕ) (r w : Reach T) (o : Option T)
      → i < length rs → r ≡ get_or rs i r
      → IfSome o (λ x. (stolen_there w ≡ stolen_there r ++ x ∷ []) × (w.failed_steals ≡ r.failed_steals))
      → IfSome o (λ x. with_reaches own pushes empty_pops (set rs i w) ≡ after_steal i x (with_reaches own pushes empty_pops rs))
  then_stolen own pushes empty_pops rs i r w None inside at h = h
  then_stolen own pushes empty_pops rs i r w (Some x) inside at h =
      let more = stolen_more rs i r w (x ∷ []) inside at h.0 in
      let same = part_same (λ (reach : Reach T). reach.failed_steals) rs i r w inside at h.1 in
      λ k. record { own = own; pushes = pushes; empty_pops = empty_pops; stolen = more k; failed_steals = same k }

  pub then_nothing : (own : List T) (pushes empty_pops : ℕ) (rs : List (Reach T)) (i : ℕ) (r w : Reach T) (o : Option T)
      → i < length rs → r ≡ get_or rs i r
      → IfNone o ((stolen_there w ≡ stolen_there r) × (w.failed_steals ≡ risen r.failed_steals))
      → IfNone o (with_reaches own pushes empty_pops (set rs i w)
      ≡ after_failed_steal i (with_reaches own pushes empty_pops rs))
  then_nothing own pushes empty_pops rs i r w (Some x) inside at h = h
  then_nothing own pushes empty_pops rs i r w None inside at h =
      let same = part_same stolen_there rs i r w inside at h.0 in
      let more = one_more rs i r w inside at h.1 in
      λ k. record { own = own; pushes = pushes; empty_pops = empty_pops; stolen = same k; failed_steals = more k }

  pub then_few : (rs : List (Reach T)) (i : ℕ) (r : Reach T) (o : Option T)
      → i < length rs → r ≡ get_or rs i r → IfNone o (FoundAtMost 1 false (stolen_there r))
      → IfNone o (FoundAtMost 1 false (get_or (map stolen_there rs) i []))
  then_few rs i r (Some x) inside at h = h
  then_few rs i r None inside at h =
      subst (λ (l : List T). FoundAtMost 1 false l)
      (ap stolen_there at ∙ sym (get_or-map stolen_there rs i r [] inside)) h
