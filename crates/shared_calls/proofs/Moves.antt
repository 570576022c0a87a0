-- Two forms of step: by a caller at its own word, and by the holder of the flag.
use Rattle.std.proofs.Common.{◌≡◌, ◌≢◌, ℕ, ◌+◌, ◌<◌, ◌≤◌, List, ◌++◌, length, get_or, set, true, false, sym, refl, ap, ◌∙◌, subst, ⊎_elim, arith, length-set}
use mathlib.Core.Logic.{dite}
use mathlib.Core.Option as M
use mathlib.Core.Option.{none, some}
use native.Mathlib.Decide.{ℕ_discrete}
use lib.ListN.{get_elem?}
use lib.Seq.{set-get_or}
use Rattle.std.specs.List.{AllByRecursion}
use Rattle.atomic_table.specs.Table.{State}
use Rattle.atomic_table.proofs.Lists.{at_set, set_here, set_again}
use Rattle.shared_calls.specs.declared.view.Entry.{Entry}
use Rattle.shared_calls.specs.declared.view.Asked.{Asked}
use Rattle.shared_calls.specs.declared.view.Slot.{Slot}
use Rattle.shared_calls.specs.declared.view.Slot.TheVariants.{Whole}
use Rattle.shared_calls.specs.declared.view.View.{View}
use Rattle.shared_calls.specs.Serial.{SerialObject}
use Rattle.shared_calls.specs.Logs.{calls_by, StartsWith, state_after, IsSerial}
use Rattle.shared_calls.specs.Stages.{Stage, taken, owed, word_of, request_of, served, IsFree, HomeIs}
use Rattle.shared_calls.specs.Rule.{IsLost, Holds, Stands, Sees, Keeps, made_by}
use Rattle.shared_calls.proofs.Lists.{put, put_here, put_else, each_so, each_append, starts_more}
use Rattle.shared_calls.proofs.Losses.{inside, known_set}

pub true_false : true ≡ false → ⊥
true_false e = cc

module _ {O R : Type 0} where
  pub free_not_taken : (s : Stage O R) (op : O) → IsFree s → s ≡ taken op → ⊥
  free_not_taken s op free is = subst IsFree is free

  pub free_not_owed : (s : Stage O R) (op : O) (reply : R) → IsFree s → s ≡ owed op reply → ⊥
  free_not_owed s op reply free is = subst IsFree is free

  -- what the holder knows stays where another's stage changes
  holds_still : (p flag flag' : ℕ) (log : List (Entry O R)) (stage : ℕ → Stage O R) (v : View O R) (w k : ℕ) (b : Stage O R) → flag' ≡ flag
      → IsFree (stage k) → IsFree b → Holds p flag log stage v w → Holds p flag' log (put stage k b) v w
  holds_still p flag flag' log stage v w k b same before after h =
      let far : (u : ℕ) (op : O) → stage u ≡ taken op → u ≢ k = λ u op is e. free_not_taken (stage k) op before (ap stage (sym e) ∙ is) in
      let far' : (u : ℕ) (op : O) (r : R) → stage u ≡ owed op r → u ≢ k = λ u op r is e. free_not_owed (stage k) op r before (ap stage (sym e) ∙ is) in
      record {
        flag_is = same ∙ h.flag_is;
        log_is = h.log_is;
        takes = each_so _ _ (λ (a : Asked O) t. (t.0, t.1, put_else stage k a.caller b (far a.caller a.op t.2) ∙ t.2)) v.taken h.takes;
        takes_once = h.takes_once;
        takes_all = λ u op less is. dite (ℕ_discrete u k) (λ e. absurd (free_not_taken b op after (sym (put_here stage k u b e) ∙ is)))
            (λ ne. h.takes_all u op less (sym (put_else stage k u b ne) ∙ is));
        owes = each_so _ _ (λ (e : Entry O R) t. (t.0, (put_else stage k e.caller b (far' e.caller e.op e.reply t.1) ∙ t.1))) v.owed h.owes;
        owes_once = h.owes_once;
        owes_all = λ u op r less is. dite (ℕ_discrete u k) (λ e. absurd (free_not_owed b op r after (sym (put_here stage k u b e) ∙ is)))
            (λ ne. h.owes_all u op r less (sym (put_else stage k u b ne) ∙ is));
      }

module _ {T O R : Type 0} (object : SerialObject O R) (content : T → object.State) (fails : T → List O → Type 0) where
  -- the caller of the seat is k alone
  module _ (p : ℕ) (s : State (Slot T O R) (View O R)) (o : Keeps object content fails p s) (k id : ℕ) (v : View O R) (me : get_elem? s.views id ≡ some v) (from : v.from ≡ k) (to : v.to ≡ k + 1) where
    pub my : (k < p) × Stands p (get_or s.words p 0) o.log o.stage (o.seat k) id v k
    my = o.stands id v k me (omega (arith, from)) (omega (arith, to))

    pub just : (x : ℕ) → v.from ≤ x → x < v.to → x ≡ k
    just x lo hi = omega (arith, from, to, lo, hi)

    pub other : (i x : ℕ) → i ≢ id → o.seat x ≡ i → x ≢ k
    other i x ne sits is = ne (sym sits ∙ (ap o.seat is ∙ my.1.sits))

  -- a step by a caller that does not hold the flag: its own stage becomes b
  pub own_step : (p : ℕ) (s : State (Slot T O R) (View O R)) (o : Keeps object content fails p s) (k id : ℕ) (v w : View O R) (ws : List ℕ) (hs : List (M.Option (Slot T O R))) (b : Stage O R)
      → get_elem? s.views id ≡ some v → v.from ≡ k → v.to ≡ k + 1 → v.holds ≡ false → (get_or s.words p 0 ≢ p + 1 → IsFree (o.stage k)) → IsFree b
      → w.from ≡ v.from → w.to ≡ v.to → w.holds ≡ false → w.lost ≡ v.lost → length ws ≡ p + 1 → length hs ≡ p + 1
      → ((u : ℕ) → u ≢ k → get_or ws u 0 ≡ get_or s.words u 0) → ((u : ℕ) → u ≢ k → get_elem? hs u ≡ get_elem? s.homes u)
      → get_or ws k 0 ≡ word_of b → HomeIs b (get_elem? hs k) → w.request ≡ request_of b
      → calls_by k o.log ≡ made_by w k ++ served k b → calls_by k w.seen ≡ made_by w k
      → Sees p (get_or s.words p 0) o.log w
      → Keeps object content fails p record { words = ws; homes = hs; views = set s.views id w }
  own_step p s o k id v w ws hs b me from to idle before after from' to' idle' lost' wide slots words homes here home asks made own sees =
      let m = my p s o k id v me from to in
      let less : k < p = m.0 in
      let stage : ℕ → Stage O R = put o.stage k b in
      let flag_same : get_or ws p 0 ≡ get_or s.words p 0 = words p (λ e. absurd (omega (arith, e, less))) in
      let home_same : get_elem? hs p ≡ get_elem? s.homes p = homes p (λ e. absurd (omega (arith, e, less))) in
      record {
        log = o.log;
        stage = stage;
        seat = o.seat;
        wide = wide;
        slots = slots;
        seated = λ x. subst (λ (n : ℕ). o.seat x < n) (sym (length-set s.views id w)) (o.seated x);
        stages = λ u below. dite (ℕ_discrete u k)
            (λ e. (
              ap (λ x. get_or ws x 0) e ∙ (here ∙ ap word_of (sym (put_here o.stage k u b e))),
              subst (λ x. HomeIs x (get_elem? hs u)) (sym (put_here o.stage k u b e)) (subst (λ x. HomeIs b (get_elem? hs x)) (sym e) home),
            ))
            (λ ne. (
              words u ne ∙ ((o.stages u below).0 ∙ ap word_of (sym (put_else o.stage k u b ne))),
              subst (λ x. HomeIs x (get_elem? hs u)) (sym (put_else o.stage k u b ne)) (subst (λ x. HomeIs (o.stage u) x) (sym (homes u ne)) (o.stages u below).1),
            ));
        serial = o.serial;
        known = o.known;
        few = subst (λ (n : ℕ). n ≤ p + 1) (sym flag_same) o.few;
        home = λ zero_flag. let h = o.home (sym flag_same ∙ zero_flag) in (h.0, h.1, home_same ∙ h.2, h.3);
        none_taken = λ zero_flag u below. dite (ℕ_discrete u k) (λ e. subst IsFree (sym (put_here o.stage k u b e)) after)
            (λ ne. subst IsFree (sym (put_else o.stage k u b ne)) (o.none_taken (sym flag_same ∙ zero_flag) u below));
        cause = λ lost. o.cause (sym flag_same ∙ lost);
        told = λ lost. known_set s.views id v w me (λ less told. (omega (arith, less, from', to'), lost' ∙ told)) (o.told (sym flag_same ∙ lost));
        none_owed = λ lost u op r below is. dite (ℕ_discrete u k) (λ e. free_not_owed b op r after (sym (put_here o.stage k u b e) ∙ is))
            (λ ne. o.none_owed (sym flag_same ∙ lost) u op r below (sym (put_else o.stage k u b ne) ∙ is));
        sees = λ i u e. subst (λ (n : ℕ). Sees p n o.log u) (sym flag_same) (⊎_elim (λ t. subst (Sees p (get_or s.words p 0) o.log) t.1 sees) (λ t. o.sees i u t.1) (at_set s.views id i w u e));
        stands = λ i u x e lo hi. ⊎_elim
            (λ t.
            let lo' : v.from ≤ x = subst (λ (n : ℕ). n ≤ x) (ap (λ (z : View O R). z.from) (sym t.1) ∙ from') lo in
            let hi' : x < v.to = subst (λ (n : ℕ). x < n) (ap (λ (z : View O R). z.to) (sym t.1) ∙ to') hi in
            let is : x ≡ k = just p s o k id v me from to x lo' hi' in (
              subst (λ (n : ℕ). n < p) (sym is) less,
              subst (λ (j : ℕ). Stands p (get_or ws p 0) o.log stage (o.seat x) j u x) (sym t.0)
                  (subst (λ (z : View O R). Stands p (get_or ws p 0) o.log stage (o.seat x) id z x) t.1
                  (subst (λ (y : ℕ). Stands p (get_or ws p 0) o.log stage (o.seat y) id w y) (sym is) (record {
                    sits = m.1.sits;
                    asks = asks ∙ ap request_of (sym (put_here o.stage k k b refl));
                    made = made ∙ ap (λ z. made_by w k ++ served k z) (sym (put_here o.stage k k b refl));
                    own = λ _. own;
                    free = λ _ h. m.1.free idle (sym flag_same ∙ h);
                    holds = λ h. absurd (true_false (sym h ∙ idle'));
                  }))),
            ))
            (λ t.
            let was = o.stands i u x t.1 lo hi in
            let far : x ≢ k = other p s o k id v me from to i x t.0 was.1.sits in (
              was.0,
              record {
                sits = was.1.sits;
                asks = was.1.asks ∙ ap request_of (sym (put_else o.stage k x b far));
                made = was.1.made ∙ ap (λ z. made_by u x ++ served x z) (sym (put_else o.stage k x b far));
                own = was.1.own;
                free = λ f h. was.1.free f (sym flag_same ∙ h);
                holds = λ h.
                    let held = was.1.holds h in
                    let flag_is = held.flag_is in
                    let below = was.0 in
                    holds_still p (get_or s.words p 0) (get_or ws p 0) o.log o.stage u x k b flag_same (before (λ lost. absurd (omega (arith, lost, flag_is, below)))) after held;
              },
            )) (at_set s.views id i w u e);
      }

  -- a step by the holder of the flag, or by which a caller becomes it
  pub held_step : (p : ℕ) (s : State (Slot T O R) (View O R)) (o : Keeps object content fails p s) (k id : ℕ) (v w : View O R) (ws : List ℕ) (hs : List (M.Option (Slot T O R))) (more : List (Entry O R)) (stage : ℕ → Stage O R)
      → let flag' : ℕ = get_or ws p 0 in
      let log' : List (Entry O R) = o.log ++ more in
      get_elem? s.views id ≡ some v → v.from ≡ k → v.to ≡ k + 1
      → ((x : ℕ) → x < p → x ≢ k → get_or s.words p 0 ≢ x + 1) → get_or s.words p 0 ≢ p + 1
      → w.from ≡ v.from → w.to ≡ v.to → w.request ≡ v.request → ((x : ℕ) → made_by w x ≡ made_by v x) → w.seen ≡ v.seen → w.heard ≡ v.heard
      → length ws ≡ p + 1 → length hs ≡ p + 1
      → ((u : ℕ) → u < p → (get_or ws u 0 ≡ word_of (stage u)) × HomeIs (stage u) (get_elem? hs u))
      → IsSerial object log' → AllByRecursion (λ (e : Entry O R). e.caller < p) more → flag' ≤ p + 1
      → (flag' ≡ 0 → (t : T) × (rs : _) × (get_elem? hs p ≡ some (some (Whole t rs))) × (content t ≡ state_after object log'))
      → (flag' ≡ 0 → (u : ℕ) → u < p → IsFree (stage u))
      → (flag' ≡ p + 1 → (u : ℕ) (op : O) (r : R) → u < p → stage u ≢ owed op r) → (flag' ≡ p + 1 → IsLost object content fails log' × (w.lost ≡ true))
      → ((x : ℕ) → x < p → request_of (stage x) ≡ request_of (o.stage x))
      → ((x : ℕ) → x < p → (m : List (Entry O R)) → calls_by x o.log ≡ m ++ served x (o.stage x) → calls_by x log' ≡ m ++ served x (stage x))
      → ((x : ℕ) → x < p → x ≢ k → flag' ≢ x + 1)
      → (w.lost ≡ true → (flag' ≡ p + 1) × (log' ≡ w.log)) → (w.holds ≡ false → flag' ≢ k + 1) → (w.holds ≡ true → Holds p flag' log' stage w k)
      → Keeps object content fails p record { words = ws; homes = hs; views = set s.views id w }
  held_step p s o k id v w ws hs more stage me from to alone sound from' to' asks' made' seen' heard' wide slots stages serial known few home none_taken none_owed cause asks made others lost free holds =
      let m = my p s o k id v me from to in
      let log' : List (Entry O R) = o.log ++ more in
      record {
        log = log';
        stage = stage;
        seat = o.seat;
        wide = wide;
        slots = slots;
        seated = λ x. subst (λ (n : ℕ). o.seat x < n) (sym (length-set s.views id w)) (o.seated x);
        stages = stages;
        serial = serial;
        known = each_append (λ (e : Entry O R). e.caller < p) o.log more o.known known;
        few = few;
        home = home;
        none_taken = none_taken;
        none_owed = none_owed;
        cause = λ lost. (cause lost).0;
        told = λ lost. (id, w, set_here s.views id w (inside s.views id v me), omega (arith, from, to, from', to'), (cause lost).1);
        sees = λ i u e. ⊎_elim
            (λ t.
            let was = o.sees id v me in
            subst (Sees p (get_or ws p 0) log') t.1 (record {
              seen = starts_more o.log more w.seen (subst (StartsWith o.log) (sym seen') was.seen);
              heard = each_so _ _ (λ l h. starts_more o.log more l h) w.heard (subst (AllByRecursion (StartsWith o.log)) (sym heard') was.heard);
              lost = lost;
            }))
            (λ t.
            let was = o.sees i u t.1 in record {
              seen = starts_more o.log more u.seen was.seen;
              heard = each_so _ _ (λ l h. starts_more o.log more l h) u.heard was.heard;
              lost = λ h. absurd (sound (was.lost h).0);
            }) (at_set s.views id i w u e);
        stands = λ i u x e lo hi. ⊎_elim
            (λ t.
            let lo' : v.from ≤ x = subst (λ (n : ℕ). n ≤ x) (ap (λ (z : View O R). z.from) (sym t.1) ∙ from') lo in
            let hi' : x < v.to = subst (λ (n : ℕ). x < n) (ap (λ (z : View O R). z.to) (sym t.1) ∙ to') hi in
            let is : x ≡ k = just p s o k id v me from to x lo' hi' in (
              subst (λ (n : ℕ). n < p) (sym is) m.0,
              subst (λ (j : ℕ). Stands p (get_or ws p 0) log' stage (o.seat x) j u x) (sym t.0)
                  (subst (λ (z : View O R). Stands p (get_or ws p 0) log' stage (o.seat x) id z x) t.1
                  (subst (λ (y : ℕ). Stands p (get_or ws p 0) log' stage (o.seat y) id w y) (sym is) (record {
                    sits = m.1.sits;
                    asks = asks' ∙ (m.1.asks ∙ sym (asks k m.0));
                    made = made k m.0 (made_by w k) (m.1.made ∙ ap (λ l. l ++ served k (o.stage k)) (sym (made' k)));
                    own = λ _. ap (calls_by k) seen' ∙ (m.1.own (omega (arith, from, to)) ∙ sym (made' k));
                    free = free;
                    holds = holds;
                  }))),
            ))
            (λ t.
            let was = o.stands i u x t.1 lo hi in
            let far : x ≢ k = other p s o k id v me from to i x t.0 was.1.sits in (
              was.0,
              record {
                sits = was.1.sits;
                asks = was.1.asks ∙ sym (asks x was.0);
                made = made x was.0 (made_by u x) was.1.made;
                own = was.1.own;
                free = λ _. others x was.0 far;
                holds = λ h. absurd (alone x was.0 far (was.1.holds h).flag_is);
              },
            )) (at_set s.views id i w u e);
      }

  -- a look that changes nothing
  pub alike : (p : ℕ) (s : State (Slot T O R) (View O R)) (o : Keeps object content fails p s) (i id : ℕ) (v : View O R) → get_elem? s.views id ≡ some v
      → Keeps object content fails p record { words = set s.words i (get_or s.words i 0); homes = s.homes; views = set s.views id v }
  alike p s o i id v me =
      subst (λ (ws : List ℕ). Keeps object content fails p record { words = ws; homes = s.homes; views = set s.views id v }) (sym (set-get_or s.words i 0))
      (subst (λ (vs : List (View O R)). Keeps object content fails p record { words = s.words; homes = s.homes; views = vs }) (sym (set_again s.views id v me)) o)
