-- The rule holds for a new board, and after a row is split off.
use Rattle.std.specs.List.{AllByRecursion}
use Rattle.std.proofs.Common.{◌≡◌, ◌≢◌, ◌⊎◌, ℕ, zero, suc, ◌+◌, ◌-◌, ◌*◌, ◌<◌, ◌≤◌, [], ◌∷◌, ◌++◌, length, replicate, get_or, set, cond, eqb, ltb, None, eq-eqb, ne_eqb, lt-ltb, le-ltb, length-append, length-set, sym, refl, ap, ◌∙◌, subst, inl, inr, ⊎_elim, arith}
use Rattle.std.proofs.lemmas.List.{length-map, length-replicate, get_or-replicate}
use Rattle.std.proofs.lemmas.List.Sums.{sum_by-append}
use mathlib.Core.Logic.{dite}
use mathlib.Core.Option.{some, some-ne-none, some-injective}
use native.Mathlib.Decide.{ℕ_discrete, dec_lt}
use lib.ListN.{get_elem?}
use Rattle.limits.specs.declared.TheConstants.{PLACES}
use Rattle.atomic_table.specs.Table.{Splits, opening}
use Rattle.atomic_table.proofs.Lists.{at_set}
use Rattle.piece_board.specs.declared.view.Content.TheVariants.{Nothing}
use Rattle.piece_board.specs.declared.view.View.{View}
use Rattle.piece_board.specs.Entries.{entry_at, AreApart}
use Rattle.piece_board.specs.Trace.{IsTrueIn, AreInOrder}
use Rattle.piece_board.specs.Rule.{one_at, claims_at, posts_at, fresh_view, first_view, first_row, without_first_row, IsKnown, IsKeptEmpty, ObeysRule}
use Rattle.piece_board.proofs.RuleLemmas.Entries.{none_is_not}
use Rattle.piece_board.proofs.RuleLemmas.Lists.{old_or_last, home_of_replicate}
use Rattle.piece_board.proofs.RuleLemmas.Places.{BoardState, stands_free}
use Rattle.piece_board.proofs.RuleLemmas.Counts.{sum_set}
use Rattle.piece_board.proofs.RuleLemmas.Traces.{trace_splits}

only : {I : Type 0} (u v : View I) (i : ℕ) → get_elem? (v ∷ []) i ≡ some u → (0 ≡ i) × (v ≡ u)
only u v zero at = (refl, some-injective v u at)
only u v (suc i) at = absurd (some-ne-none u (sym at))

zeros : (n k : ℕ) → let z : ℕ = 0 in get_or (replicate n z) k z ≡ z
zeros zero k = refl
zeros (suc n) zero = refl
zeros (suc n) (suc k) = zeros n k

module _ {I O : Type 0} (meets : I → O → Type 0) where
  -- a new board with `n` places and `rows` rows
  pub starts : (n rows : ℕ) → ObeysRule meets (opening (replicate n 0) (replicate n Nothing) (first_view rows))
  starts n rows =
      let s : BoardState I O = opening (replicate n 0) (replicate n Nothing) (first_view rows) in
      let homes : length s.homes ≡ n = length-map (replicate n Nothing) some ∙ length-replicate n Nothing in
      record {
        last = λ k. None;
        owner = λ k. 0;
        claimer = λ k. 0;
        as_many = length-replicate n 0 ∙ sym homes;
        seated = λ k. (omega arith, omega arith);
        places = λ k lt.
            let near : k < n = omega (arith, lt, homes) in
            stands_free meets s k None 0 0 (get_or-replicate n k 0 0 near) (λ v at away. home_of_replicate n k Nothing near);
        owned = λ i u k at low high. let t = only u (first_view rows) i at in (
          t.0,
          subst (λ (v : View I). IsKnown (get_or (replicate n 0) k 0) None
              (entry_at (k - PLACES * v.desk.row) v.desk.posted)) t.1 (zeros n k),
        );
        claims = λ i u k x at found.
            absurd (none_is_not x (ap (λ (v : View I). entry_at k v.desk.claims) (only u (first_view rows) i at).1 ∙ found));
        apart = λ i u at. subst (λ (v : View I). AreApart v.desk.posted × AreApart v.desk.claims)
            (only u (first_view rows) i at).1 (tt, tt);
        once = λ k lt.
            let word : one_at 1 (get_or (replicate n 0) k 0) ≡ 0 = ap (one_at 1) (zeros n k) in
            omega (arith, word);
        traced = record {
          trace = [];
          reached = λ k lt. zeros n k;
          events = λ i u at. ap (λ (v : View I). v.events) (only u (first_view rows) i at).1;
          seated = λ i past. refl;
          misses = λ i u at. subst (λ (v : View I). AllByRecursion (IsTrueIn i []) v.misses × AreInOrder v.misses)
              (only u (first_view rows) i at).1 (tt, tt);
        };
      }

  -- an initial seat splits off its first row
  pub cuts : (seat row end_row : ℕ) → row < end_row → Splits (ObeysRule meets) seat (fresh_view row end_row)
      (without_first_row (fresh_view row end_row)) (first_row (fresh_view row end_row))
  cuts seat row end_row some_left s o me =
      let v : View I = fresh_view row end_row in
      let z : ℕ = length s.views in
      let left : View I = without_first_row v in
      let right : View I = first_row v in
      let then : BoardState I O = record { words = s.words; homes = s.homes; views = set s.views seat left ++ right ∷ [] } in
      let cut_at : ℕ = PLACES * (row + 1) in
      let owner : ℕ → ℕ = λ k. cond (eqb (o.owner k) seat) (cond (ltb k cut_at) z (o.owner k)) (o.owner k) in
      let set_long : length (set s.views seat left) ≡ z = length-set s.views seat left in
      let long : length then.views ≡ z + 1 = omega (arith, length-append (set s.views seat left) (right ∷ []), set_long) in
      let other : (k : ℕ) → o.owner k ≢ seat → owner k ≡ o.owner k =
      λ k ne. ap (λ b. cond b (cond (ltb k cut_at) z (o.owner k)) (o.owner k)) (ne_eqb (o.owner k) seat ne) in
      let low : (k : ℕ) → o.owner k ≡ seat → k < cut_at → owner k ≡ z =
      λ k is lt. ap (λ b. cond b (cond (ltb k cut_at) z (o.owner k)) (o.owner k)) (eq-eqb (o.owner k) seat is)
      ∙ ap (λ b. cond b z (o.owner k)) (lt-ltb k cut_at lt) in
      let high : (k : ℕ) → o.owner k ≡ seat → cut_at ≤ k → owner k ≡ o.owner k =
      λ k is ge. ap (λ b. cond b (cond (ltb k cut_at) z (o.owner k)) (o.owner k)) (eq-eqb (o.owner k) seat is)
      ∙ ap (λ b. cond b z (o.owner k)) (le-ltb k cut_at ge) in
      let still : (k keeper : ℕ) → keeper < z → IsKeptEmpty s k keeper → IsKeptEmpty then k keeper =
      λ k keeper lt old u at away. ⊎_elim
      (λ t. ⊎_elim (λ q. old v (ap (λ (i : ℕ). get_elem? s.views i) q.0 ∙ me) (λ e. omega (arith, e))) (λ q. old u q.1 away)
      (at_set s.views seat keeper left u t))
      (λ t. absurd (omega (arith, t.1, set_long, lt))) (old_or_last (set s.views seat left) right u keeper at) in
      let which : (i : ℕ) (u : View I) → get_elem? then.views i ≡ some u
      → ((i ≡ seat) × (left ≡ u)) ⊎ (((i ≢ seat) × (get_elem? s.views i ≡ some u)) ⊎ ((right ≡ u) × (i ≡ z))) =
      λ i u at. ⊎_elim
      (λ t. ⊎_elim (λ q. inl q) (λ q. inr (inl q)) (at_set s.views seat i left u t))
      (λ t. inr (inr (t.0, t.1 ∙ set_long))) (old_or_last (set s.views seat left) right u i at) in
      record {
        last = o.last;
        owner = owner;
        claimer = o.claimer;
        as_many = o.as_many;
        seated = λ k. let was = o.seated k in (
          dite (ℕ_discrete (o.owner k) seat)
              (λ (is : o.owner k ≡ seat). dite (dec_lt k cut_at)
              (λ (lt : k < cut_at). let at = low k is lt in omega (arith, at, long))
              (λ (ge : k < cut_at → ⊥). let at = high k is (omega (arith, ge)) in omega (arith, at, long, was.0)))
              (λ (ne : o.owner k ≢ seat). let at = other k ne in omega (arith, at, long, was.0)),
          omega (arith, long, was.1),
        );
        places = λ k lt. let p = o.places k lt in record {
          few = p.few;
          free = λ e. dite (ℕ_discrete (o.owner k) seat)
              (λ (is : o.owner k ≡ seat) u at away.
              p.free e v (ap (λ (i : ℕ). get_elem? s.views i) is ∙ me) (λ h. omega (arith, h)))
              (λ (ne : o.owner k ≢ seat). subst (λ (i : ℕ). IsKeptEmpty then k i) (sym (other k ne))
              (still k (o.owner k) (o.seated k).0 (p.free e)));
          opened = p.opened;
          claimed = λ e. still k (o.claimer k) (o.seated k).1 (p.claimed e);
          full = p.full;
        };
        owned = λ i u k at from to. ⊎_elim
            (λ t.
            let from' : cut_at ≤ k = subst (λ (q : View I). PLACES * q.desk.row ≤ k) (sym t.1) from in
            let to' : k < PLACES * end_row = subst (λ (q : View I). k < PLACES * q.end_row) (sym t.1) to in
            let was = o.owned seat v k me (omega (arith, from')) to' in (
              high k was.0 from' ∙ was.0 ∙ sym t.0,
              subst (λ (q : View I). IsKnown (get_or s.words k 0) (o.last k)
                  (entry_at (k - PLACES * q.desk.row) q.desk.posted)) t.1 was.1,
            ))
            (λ r. ⊎_elim
            (λ t. let was = o.owned i u k t.1 from to in (other k (λ h. t.0 (sym was.0 ∙ h)) ∙ was.0, was.1))
            (λ t.
            let from' : PLACES * row ≤ k = subst (λ (q : View I). PLACES * q.desk.row ≤ k) (sym t.0) from in
            let to' : k < cut_at = subst (λ (q : View I). k < PLACES * q.end_row) (sym t.0) to in
            let was = o.owned seat v k me from' (omega (arith, to', some_left)) in (
              low k was.0 to' ∙ sym t.1,
              subst (λ (q : View I). IsKnown (get_or s.words k 0) (o.last k)
                  (entry_at (k - PLACES * q.desk.row) q.desk.posted)) t.0 was.1,
            )) r) (which i u at);
        claims = λ i u k x at found. ⊎_elim
            (λ t. absurd (none_is_not x (ap (λ (q : View I). entry_at k q.desk.claims) t.1 ∙ found)))
            (λ r. ⊎_elim (λ t. o.claims i u k x t.1 found)
            (λ t. absurd (none_is_not x (ap (λ (q : View I). entry_at k q.desk.claims) t.0 ∙ found))) r) (which i u at);
        apart = λ i u at. ⊎_elim
            (λ t. subst (λ (q : View I). AreApart q.desk.posted × AreApart q.desk.claims) t.1 (tt, tt))
            (λ r. ⊎_elim (λ t. o.apart i u t.1)
            (λ t. subst (λ (q : View I). AreApart q.desk.posted × AreApart q.desk.claims) t.0 (tt, tt)) r) (which i u at);
        once = λ k lt.
            let claims = sum_set (claims_at k) s.views seat v left me in
            let posts = sum_set (posts_at k) s.views seat v left me in
            omega (
              arith,
              o.once k lt,
              claims,
              posts,
              sum_by-append (claims_at k) (set s.views seat left) (right ∷ []),
              sum_by-append (posts_at k) (set s.views seat left) (right ∷ []),
            );
        traced = trace_splits s.words s.views o.traced seat v me left right refl refl refl refl refl;
      }
