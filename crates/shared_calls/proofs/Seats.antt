-- The table at the start, how seats are split off, and how they are joined.
use Rattle.std.proofs.Common.{◌≡◌, ◌≢◌, ◌⊎◌, ℕ, zero, suc, ◌+◌, ◌-◌, ◌<◌, ◌≤◌, List, [], ◌∷◌, ◌++◌, drop, length, get_or, set, replicate, false, cond, eqb, eq-eqb, ne_eqb, sym, refl, ap, ◌∙◌, subst, inl, inr, ⊎_elim, arith, length-set, length-append}
use mathlib.Core.Logic.{dite}
use mathlib.Core.Option.{some, some-injective, some-ne-none}
use native.Mathlib.Decide.{dec_le, ℕ_discrete}
use lib.ListN.{get_elem?}
use Rattle.std.proofs.lemmas.List.{get_or-append_right, get_or_append_left}
use Rattle.atomic_table.specs.Table.{State, Splits, Joins}
use Rattle.atomic_table.proofs.Lists.{at_set, set_again, set_else}
use Rattle.shared_calls.specs.declared.view.Entry.{Entry}
use Rattle.shared_calls.specs.declared.view.Request.TheVariants.{Retired}
use Rattle.shared_calls.specs.declared.view.Slot.{Slot}
use Rattle.shared_calls.specs.declared.view.View.{View}
use Rattle.shared_calls.specs.Serial.{SerialObject}
use Rattle.shared_calls.specs.Logs.{StartsWith}
use Rattle.shared_calls.specs.Stages.{Stage, served}
use Rattle.shared_calls.specs.Rule.{Stands, Sees, Keeps, newcomers, made_by}
use Rattle.shared_calls.specs.Plays.{first_caller, other_callers, note_of, hearing, spent_view, gathering}
use Rattle.shared_calls.proofs.Lists.{put, put_here, put_else, each_append}
use Rattle.shared_calls.proofs.Losses.{true_or, or_true, both_know, known_set, known_longer, known_moves, known_joins}
use Rattle.shared_calls.proofs.Moves.{true_false}

at_last_or : {A : Type 0} (l : List A) (a b : A) (j : ℕ) → get_elem? (l ++ a ∷ []) j ≡ some b → (get_elem? l j ≡ some b) ⊎ ((a ≡ b) × (j ≡ length l))
at_last_or [] a b zero e = inr (some-injective a b e, refl)
at_last_or [] a b (suc j) e = absurd (some-ne-none b (sym e))
at_last_or (x ∷ xs) a b zero e = inl e
at_last_or (x ∷ xs) a b (suc j) e = ⊎_elim (λ t. inl t) (λ t. inr (t.0, (let h = t.1 in omega arith))) (at_last_or xs a b j e)

-- the callers of one seat go to another
hand_over : (ℕ → ℕ) → ℕ → ℕ → ℕ → ℕ
hand_over f other id x = cond (eqb (f x) other) id (f x)

handed : (f : ℕ → ℕ) (other id x : ℕ) → f x ≡ other → hand_over f other id x ≡ id
unfolding hand_over
handed f other id x is = ap (λ b. cond b id (f x)) (eq-eqb (f x) other is)

unhanded : (f : ℕ → ℕ) (other id x : ℕ) → f x ≢ other → hand_over f other id x ≡ f x
unfolding hand_over
unhanded f other id x far = ap (λ b. cond b id (f x)) (ne_eqb (f x) other far)

pub only_one : {A : Type 0} (u v : A) (i : ℕ) → get_elem? (v ∷ []) i ≡ some u → (0 ≡ i) × (v ≡ u)
only_one u v zero e = (refl, some-injective _ _ e)
only_one u v (suc i) e = absurd (some-ne-none u (sym e))

pub nils : {X : Type 0} (n k : ℕ) → let z : List X = [] in get_or (replicate n z) k z ≡ z
nils zero k = refl
nils (suc n) zero = refl
nils (suc n) (suc k) = nils n k

module _ {O R : Type 0} where
  fewer : (n : ℕ) → let z : List (Entry O R) = [] in drop 1 (replicate n z) ≡ replicate (n - 1) z
  fewer zero = refl
  fewer (suc n) = ap (λ (m : ℕ). replicate m []) (omega arith)

  -- the two parts of newcomers are newcomers
  pub others_are : (f t c : ℕ) → let v : View O R = newcomers f t c in other_callers v ≡ newcomers (f + 1) t (c - 1)
  others_are f t c = ap (λ (m : List (List (Entry O R))). with_made (f + 1) t m) (fewer c) where
    with_made : ℕ → ℕ → List (List (Entry O R)) → View O R
    with_made from to m = record (newcomers from to 0) { made = m }

  pub first_is : (f t c : ℕ) → let v : View O R = newcomers f t c in first_caller v ≡ newcomers f (f + 1) 1
  first_is f t c = ap (λ (m : List (Entry O R)). with_made f (f + 1) (m ∷ [])) (nils c (f - f)) where
    with_made : ℕ → ℕ → List (List (Entry O R)) → View O R
    with_made from to m = record (newcomers from to 0) { made = m }

module _ {T O R : Type 0} (object : SerialObject O R) (content : T → object.State) (fails : T → List O → Type 0) where
  abbrev S : Type 0
  S = State (Slot T O R) (View O R)

  -- newcomers stand for a caller that is away and has made no call
  news : (p flag : ℕ) (log : List (Entry O R)) (stage : ℕ → Stage O R) (seat id f t c w f' t' c' : ℕ) → f ≤ w
      → Stands p flag log stage seat id (newcomers f t c) w → (id' : ℕ) (seat' : ℕ) → seat' ≡ id' → Stands p flag log stage seat' id' (newcomers f' t' c') w
  news p flag log stage seat id f t c w f' t' c' lo was id' seat' sits = record {
    sits = sits;
    asks = was.asks;
    made = was.made ∙ ap (λ l. l ++ served w (stage w)) (nils c (w - f) ∙ sym (nils c' (w - f')));
    own = λ _. sym (nils c' (w - f'));
    free = was.free;
    holds = λ e. absurd (true_false (sym e));
  }

  -- a caller is split off
  pub cuts : (p id f t c : ℕ) → f < t → let v : View O R = newcomers f t c in Splits (Keeps object content fails p) id v (newcomers (f + 1) t (c - 1)) (newcomers f (f + 1) 1)
  cuts p id f t c room s o me =
      let z = length s.views in
      let v : View O R = newcomers f t c in
      let l : View O R = newcomers (f + 1) t (c - 1) in
      let r : View O R = newcomers f (f + 1) 1 in
      let views : List (View O R) = set s.views id l ++ r ∷ [] in
      let seat : ℕ → ℕ = put o.seat f z in
      let long : length views ≡ z + 1 = omega (arith, length-append (set s.views id l) (r ∷ []), length-set s.views id l) in
      let here : seat f ≡ z = put_here o.seat f f z refl in
      let else : (w : ℕ) → w ≢ f → seat w ≡ o.seat w = λ w ne. put_else o.seat f w z ne in
      let mine = o.stands id v f me (omega arith) room in
      let flag : ℕ = get_or s.words p 0 in
      let find : (i : ℕ) (u : View O R) → get_elem? views i ≡ some u → ((i ≡ id) × (l ≡ u)) ⊎ (((i ≢ id) × (get_elem? s.views i ≡ some u)) ⊎ ((r ≡ u) × (i ≡ z))) = λ i u e.
      ⊎_elim (λ t. ⊎_elim (λ q. inl q) (λ q. inr (inl q)) (at_set s.views id i l u t)) (λ t. inr (inr (t.0, t.1 ∙ length-set s.views id l))) (at_last_or (set s.views id l) r u i e) in
      record {
        log = o.log;
        stage = o.stage;
        seat = seat;
        wide = o.wide;
        slots = o.slots;
        seated = λ w. let was = o.seated w in dite (ℕ_discrete w f) (λ e. subst (λ (m : ℕ). m < length views) (sym (ap seat e ∙ here)) (omega (arith, long))) (λ ne. subst (λ (m : ℕ). m < length views) (sym (else w ne)) (omega (arith, long, was)));
        stages = o.stages;
        serial = o.serial;
        known = o.known;
        few = o.few;
        home = o.home;
        none_taken = o.none_taken;
        none_owed = o.none_owed;
        cause = o.cause;
        told = λ lost. known_longer (set s.views id l) (r ∷ []) (known_set s.views id v l me (λ _ e. absurd (true_false (sym e))) (o.told lost));
        sees = λ i u e. elim (find i u e) [
          | inl q ↦ subst (Sees p flag o.log) q.1 (record { seen = (o.log, refl); heard = tt; lost = λ e. absurd (true_false (sym e)) })
          | inr (inl q) ↦ o.sees i u q.1
          | inr (inr q) ↦ subst (Sees p flag o.log) q.0 (record { seen = (o.log, refl); heard = tt; lost = λ e. absurd (true_false (sym e)) })
        ];
        stands = λ i u w e lo hi. elim (find i u e) [
          | inl q ↦
              let lo' : f + 1 ≤ w = subst (λ (m : ℕ). m ≤ w) (ap (λ (y : View O R). y.from) (sym q.1)) lo in
              let hi' : w < t = subst (λ (m : ℕ). w < m) (ap (λ (y : View O R). y.to) (sym q.1)) hi in
              let was = o.stands id v w me (omega arith) hi' in (
                was.0,
                subst (λ (y : View O R). Stands p flag o.log o.stage (seat w) i y w) q.1
                    (news p flag o.log o.stage (o.seat w) id f t c w (f + 1) t (c - 1) (omega arith) was.1 i (seat w) (else w (λ h. absurd (omega (arith, h, lo'))) ∙ (was.1.sits ∙ sym q.0))),
              )
          | inr (inl q) ↦
              let was = o.stands i u w q.1 lo hi in
              (was.0, record { sits = else w (λ h. q.0 (sym was.1.sits ∙ (ap o.seat h ∙ mine.1.sits))) ∙ was.1.sits; asks = was.1.asks; made = was.1.made; own = was.1.own; free = was.1.free; holds = was.1.holds })
          | inr (inr q) ↦
              let lo' : f ≤ w = subst (λ (m : ℕ). m ≤ w) (ap (λ (y : View O R). y.from) (sym q.0)) lo in
              let hi' : w < f + 1 = subst (λ (m : ℕ). w < m) (ap (λ (y : View O R). y.to) (sym q.0)) hi in
              let is : w ≡ f = omega arith in (
                subst (λ (m : ℕ). m < p) (sym is) mine.0,
                subst (λ (y : View O R). Stands p flag o.log o.stage (seat w) i y w) q.0 (subst (λ (m : ℕ). Stands p flag o.log o.stage (seat m) i r m) (sym is)
                    (news p flag o.log o.stage (o.seat f) id f t c f f (f + 1) 1 (omega arith) mine.1 i (seat f) (here ∙ sym q.1))),
              )
        ];
      }

  -- a note is split off
  pub tells : (p id : ℕ) (v : View O R) → Splits (Keeps object content fails p) id v v (note_of v)
  tells p id v s o me =
      let z = length s.views in
      let note : View O R = note_of v in
      let flag : ℕ = get_or s.words p 0 in
      subst (λ (vs : List (View O R)). Keeps object content fails p record { words = s.words; homes = s.homes; views = vs ++ note ∷ [] }) (sym (set_again s.views id v me)) record {
        log = o.log;
        stage = o.stage;
        seat = o.seat;
        wide = o.wide;
        slots = o.slots;
        seated = λ w. let was = o.seated w in let long = length-append s.views (note ∷ []) in omega (arith, was, long);
        stages = o.stages;
        serial = o.serial;
        known = o.known;
        few = o.few;
        home = o.home;
        none_taken = o.none_taken;
        none_owed = o.none_owed;
        cause = o.cause;
        told = λ lost. known_longer s.views (note ∷ []) (o.told lost);
        sees = λ i u e. ⊎_elim (λ t. o.sees i u t)
            (λ t. let was = o.sees id v me in subst (Sees p flag o.log) t.0 (record { seen = was.seen; heard = tt; lost = λ e. absurd (true_false (sym e)) })) (at_last_or s.views note u i e);
        stands = λ i u w e lo hi. ⊎_elim (λ t. o.stands i u w t lo hi)
            (λ t. let hi' : w < 0 = subst (λ (m : ℕ). w < m) (ap (λ (y : View O R). y.to) (sym t.0)) hi in absurd (omega arith)) (at_last_or s.views note u i e);
      }

  -- where the views are after a join
  joined : (views : List (View O R)) (id other : ℕ) (v w both spent : View O R) → ¬ (other ≡ id) → get_elem? views id ≡ some v → (i : ℕ) (u : View O R) → get_elem? (set (set views id both) other spent) i ≡ some u
      → ((i ≡ other) × (spent ≡ u)) ⊎ (((i ≡ id) × (both ≡ u)) ⊎ ((i ≢ other) × (i ≢ id) × (get_elem? views i ≡ some u)))
  joined views id other v w both spent ne me i u e = ⊎_elim (λ t. inl t)
      (λ t. ⊎_elim (λ q. inr (inl q)) (λ q. inr (inr (t.0, q.0, q.1))) (at_set views id i both u t.1)) (at_set (set views id both) other i spent u e)

  -- a note is taken in
  pub hears_note : (p id other : ℕ) (v w : View O R) → w.to ≡ 0 → Joins (Keeps object content fails p) id v other w (hearing v w) spent_view
  hears_note p id other v w none s o me ne there =
      let both : View O R = hearing v w in
      let spent : View O R = spent_view in
      let flag : ℕ = get_or s.words p 0 in
      let there' : get_elem? s.views other ≡ some w = sym (set_else s.views id other both ne) ∙ there in
      let find = joined s.views id other v w both spent ne me in
      let empty : (u : View O R) (x : ℕ) → spent ≡ u → x < u.to → ⊥ = λ u x is hi. let hi' : x < 0 = subst (λ (m : ℕ). x < m) (ap (λ (y : View O R). y.to) (sym is)) hi in absurd (omega arith) in
      record {
        log = o.log;
        stage = o.stage;
        seat = o.seat;
        wide = o.wide;
        slots = o.slots;
        seated = λ x. subst (λ (m : ℕ). o.seat x < m) (sym (length-set (set s.views id both) other spent ∙ length-set s.views id both)) (o.seated x);
        stages = o.stages;
        serial = o.serial;
        known = o.known;
        few = o.few;
        home = o.home;
        none_taken = o.none_taken;
        none_owed = o.none_owed;
        cause = o.cause;
        told = λ lost. known_joins s.views id other v w both spent ne me there' (λ less told. (less, told)) (λ less _. absurd (omega (arith, less, none))) (o.told lost);
        sees = λ i u e. elim (find i u e) [
          | inl q ↦ subst (Sees p flag o.log) q.1 (record { seen = (o.log, refl); heard = tt; lost = λ e. absurd (true_false (sym e)) })
          | inr (inl q) ↦ let was = o.sees id v me in subst (Sees p flag o.log) q.1 (record { seen = was.seen; heard = ((o.sees other w there').seen, tt); lost = was.lost })
          | inr (inr q) ↦ o.sees i u q.2
        ];
        stands = λ i u x e lo hi. elim (find i u e) [
          | inl q ↦ absurd (empty u x q.1 hi)
          | inr (inl q) ↦
              let was = o.stands id v x me (subst (λ (m : ℕ). m ≤ x) (ap (λ (y : View O R). y.from) (sym q.1)) lo) (subst (λ (m : ℕ). x < m) (ap (λ (y : View O R). y.to) (sym q.1)) hi) in (
                was.0,
                subst (λ (j : ℕ). Stands p flag o.log o.stage (o.seat x) j u x) (sym q.0) (subst (λ (y : View O R). Stands p flag o.log o.stage (o.seat x) id y x) q.1 (record {
                  sits = was.1.sits;
                  asks = was.1.asks;
                  made = was.1.made;
                  own = was.1.own;
                  free = was.1.free;
                  holds = λ h. let hx = was.1.holds h in record { flag_is = hx.flag_is; log_is = hx.log_is; takes = hx.takes; takes_once = hx.takes_once; takes_all = hx.takes_all; owes = hx.owes; owes_once = hx.owes_once; owes_all = hx.owes_all };
                })),
              )
          | inr (inr q) ↦ o.stands i u x q.2 lo hi
        ];
      }

  -- the seat of a caller goes on without its slots
  pub parts : (p id k : ℕ) (v : View O R) → v.from ≡ k → v.to ≡ k + 1 → Splits (Keeps object content fails p) id v spent_view v
  parts p id k v from to s o me =
      let z = length s.views in
      let spent : View O R = spent_view in
      let views : List (View O R) = set s.views id spent ++ v ∷ [] in
      let seat : ℕ → ℕ = put o.seat k z in
      let long : length views ≡ z + 1 = omega (arith, length-append (set s.views id spent) (v ∷ []), length-set s.views id spent) in
      let here : seat k ≡ z = put_here o.seat k k z refl in
      let else : (x : ℕ) → x ≢ k → seat x ≡ o.seat x = λ x ne. put_else o.seat k x z ne in
      let mine = o.stands id v k me (omega (arith, from)) (omega (arith, to)) in
      let flag : ℕ = get_or s.words p 0 in
      let find : (i : ℕ) (u : View O R) → get_elem? views i ≡ some u → ((i ≡ id) × (spent ≡ u)) ⊎ (((i ≢ id) × (get_elem? s.views i ≡ some u)) ⊎ ((v ≡ u) × (i ≡ z))) = λ i u e.
      ⊎_elim (λ t. ⊎_elim (λ q. inl q) (λ q. inr (inl q)) (at_set s.views id i spent u t)) (λ t. inr (inr (t.0, t.1 ∙ length-set s.views id spent))) (at_last_or (set s.views id spent) v u i e) in
      record {
        log = o.log;
        stage = o.stage;
        seat = seat;
        wide = o.wide;
        slots = o.slots;
        seated = λ x. let was = o.seated x in dite (ℕ_discrete x k) (λ e. subst (λ (m : ℕ). m < length views) (sym (ap seat e ∙ here)) (omega (arith, long))) (λ ne. subst (λ (m : ℕ). m < length views) (sym (else x ne)) (omega (arith, long, was)));
        stages = o.stages;
        serial = o.serial;
        known = o.known;
        few = o.few;
        home = o.home;
        none_taken = o.none_taken;
        none_owed = o.none_owed;
        cause = o.cause;
        told = λ lost. known_moves s.views id v spent me (o.told lost);
        sees = λ i u e. elim (find i u e) [
          | inl q ↦ subst (Sees p flag o.log) q.1 (record { seen = (o.log, refl); heard = tt; lost = λ e. absurd (true_false (sym e)) })
          | inr (inl q) ↦ o.sees i u q.1
          | inr (inr q) ↦ subst (Sees p flag o.log) q.0 (o.sees id v me)
        ];
        stands = λ i u x e lo hi. elim (find i u e) [
          | inl q ↦ let hi' : x < 0 = subst (λ (m : ℕ). x < m) (ap (λ (y : View O R). y.to) (sym q.1)) hi in absurd (omega arith)
          | inr (inl q) ↦
              let was = o.stands i u x q.1 lo hi in
              (was.0, record { sits = else x (λ h. q.0 (sym was.1.sits ∙ (ap o.seat h ∙ mine.1.sits))) ∙ was.1.sits; asks = was.1.asks; made = was.1.made; own = was.1.own; free = was.1.free; holds = was.1.holds })
          | inr (inr q) ↦
              let lo' : v.from ≤ x = subst (λ (m : ℕ). m ≤ x) (ap (λ (y : View O R). y.from) (sym q.0)) lo in
              let hi' : x < v.to = subst (λ (m : ℕ). x < m) (ap (λ (y : View O R). y.to) (sym q.0)) hi in
              let is : x ≡ k = omega (arith, from, to, lo', hi') in (
                subst (λ (m : ℕ). m < p) (sym is) mine.0,
                subst (λ (y : View O R). Stands p flag o.log o.stage (seat x) i y x) q.0 (subst (λ (m : ℕ). Stands p flag o.log o.stage (seat m) i v m) (sym is)
                    (record { sits = here ∙ sym q.1; asks = mine.1.asks; made = mine.1.made; own = mine.1.own; free = mine.1.free; holds = mine.1.holds })),
              )
        ];
      }

  -- a seat of callers that have retired takes in that of its neighbour
  module _ (p id other : ℕ) (v w : View O R) (retired_v : v.request ≡ Retired) (retired_w : w.request ≡ Retired) (idle_v : v.holds ≡ false) (idle_w : w.holds ≡ false)
      (some_v : v.from < v.to) (next : w.from ≡ v.to) (some_w : w.from < w.to) (many : length v.made ≡ v.to - v.from)
      (s : S) (o : Keeps object content fails p s) (me : get_elem? s.views id ≡ some v) (there : get_elem? s.views other ≡ some w) (ne : ¬ (other ≡ id)) where
    -- what the seat knows of a caller of either
    gathered : (x : ℕ) → v.from ≤ x → x < w.to → (x < p) × Stands p (get_or s.words p 0) o.log o.stage (hand_over o.seat other id x) id (gathering v w) x
    gathered x lo hi = dite (dec_le v.to x)
        (λ beyond.
        let was = o.stands other w x there (omega (arith, next, beyond)) hi in
        let right : made_by (gathering v w) x ≡ made_by w x = get_or-append_right v.made w.made (v.to - v.from) (x - v.from) [] many (omega (arith, beyond)) ∙ ap (λ (j : ℕ). get_or w.made j []) (omega (arith, some_v, next, beyond)) in (
          was.0,
          record {
            sits = handed o.seat other id x was.1.sits;
            asks = retired_v ∙ (sym retired_w ∙ was.1.asks);
            made = was.1.made ∙ ap (λ l. l ++ served x (o.stage x)) (sym right);
            own = λ single. absurd (omega (arith, single, some_v, next, some_w));
            free = λ _. was.1.free idle_w;
            holds = λ h. absurd (true_false (sym h ∙ idle_v));
          },
        ))
        (λ within.
        let was = o.stands id v x me lo (omega (arith, within)) in
        let left : made_by (gathering v w) x ≡ made_by v x = get_or_append_left v.made w.made [] (x - v.from) (omega (arith, many, lo, within)) in (
          was.0,
          record {
            sits = unhanded o.seat other id x (λ is. ne (sym is ∙ was.1.sits)) ∙ was.1.sits;
            asks = was.1.asks;
            made = was.1.made ∙ ap (λ l. l ++ served x (o.stage x)) (sym left);
            own = λ single. absurd (omega (arith, single, some_v, next, some_w));
            free = was.1.free;
            holds = λ h. absurd (true_false (sym h ∙ idle_v));
          },
        ))

  pub gathers : (p id other : ℕ) (v w : View O R) → v.request ≡ Retired → w.request ≡ Retired → v.holds ≡ false → w.holds ≡ false
      → v.from < v.to → w.from ≡ v.to → w.from < w.to → length v.made ≡ v.to - v.from
      → Joins (Keeps object content fails p) id v other w (gathering v w) spent_view
  gathers p id other v w retired_v retired_w idle_v idle_w some_v next some_w many s o me ne there =
      let both : View O R = gathering v w in
      let spent : View O R = spent_view in
      let flag : ℕ = get_or s.words p 0 in
      let there' : get_elem? s.views other ≡ some w = sym (set_else s.views id other both ne) ∙ there in
      let find = joined s.views id other v w both spent ne me in
      let seat : ℕ → ℕ = hand_over o.seat other id in
      let inside : id < length s.views = subst (λ (m : ℕ). m < length s.views) (o.stands id v v.from me (omega arith) some_v).1.sits (o.seated v.from) in
      record {
        log = o.log;
        stage = o.stage;
        seat = seat;
        wide = o.wide;
        slots = o.slots;
        seated = λ x. subst (λ (m : ℕ). seat x < m) (sym (length-set (set s.views id both) other spent ∙ length-set s.views id both)) (dite (ℕ_discrete (o.seat x) other)
            (λ is. subst (λ (m : ℕ). m < length s.views) (sym (handed o.seat other id x is)) inside) (λ far. subst (λ (m : ℕ). m < length s.views) (sym (unhanded o.seat other id x far)) (o.seated x)));
        stages = o.stages;
        serial = o.serial;
        known = o.known;
        few = o.few;
        home = o.home;
        none_taken = o.none_taken;
        none_owed = o.none_owed;
        cause = o.cause;
        told = λ lost. known_joins s.views id other v w both spent ne me there' (λ less told. (omega (arith, some_v, next, some_w), true_or v.lost w.lost told)) (λ less told. (omega (arith, some_v, next, some_w), or_true v.lost w.lost told)) (o.told lost);
        sees = λ i u e. elim (find i u e) [
          | inl q ↦ subst (Sees p flag o.log) q.1 (record { seen = (o.log, refl); heard = tt; lost = λ e. absurd (true_false (sym e)) })
          | inr (inl q) ↦
              let was = o.sees id v me in
              let its = o.sees other w there' in
              subst (Sees p flag o.log) q.1 (record { seen = was.seen; heard = each_append (StartsWith o.log) v.heard w.heard was.heard its.heard; lost = both_know v.lost w.lost v.log w.log o.log flag (p + 1) was.lost its.lost })
          | inr (inr q) ↦ o.sees i u q.2
        ];
        stands = λ i u x e lo hi. elim (find i u e) [
          | inl q ↦ let hi' : x < 0 = subst (λ (m : ℕ). x < m) (ap (λ (y : View O R). y.to) (sym q.1)) hi in absurd (omega arith)
          | inr (inl q) ↦
              let lo' : v.from ≤ x = subst (λ (m : ℕ). m ≤ x) (ap (λ (y : View O R). y.from) (sym q.1)) lo in
              let hi' : x < w.to = subst (λ (m : ℕ). x < m) (ap (λ (y : View O R). y.to) (sym q.1)) hi in
              let now = gathered p id other v w retired_v retired_w idle_v idle_w some_v next some_w many s o me there' ne x lo' hi' in (
                now.0,
                subst (λ (j : ℕ). Stands p flag o.log o.stage (seat x) j u x) (sym q.0) (subst (λ (y : View O R). Stands p flag o.log o.stage (seat x) id y x) q.1 now.1),
              )
          | inr (inr q) ↦
              let was = o.stands i u x q.2 lo hi in (
                was.0,
                record { sits = unhanded o.seat other id x (λ is. q.0 (sym was.1.sits ∙ is)) ∙ was.1.sits; asks = was.1.asks; made = was.1.made; own = was.1.own; free = was.1.free; holds = was.1.holds },
              )
        ];
      }
