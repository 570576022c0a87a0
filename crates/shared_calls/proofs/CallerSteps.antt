-- The steps of a caller that does not hold the flag keep the rule.
use Rattle.std.proofs.Common.{append-nil, ◌≡◌, ◌≢◌, ◌⊎◌, ℕ, ◌+◌, ◌-◌, ◌<◌, ◌≤◌, List, [], ◌∷◌, ◌++◌, length, get_or, set, true, false, eqb, sym, refl, ap, ◌∙◌, subst, ⊎_elim, arith, length-set, get_or-set_other, get_or-set_same}
use mathlib.Core.Logic.{dite}
use mathlib.Core.Option as M
use mathlib.Core.Option.{none, some}
use native.Mathlib.Decide.{ℕ_discrete}
use lib.ListN.{get_elem?}
use lib.Seq.{set-get_or}
use prog.Atomic.{either}
use Rattle.std.specs.List.{AllByRecursion}
use Rattle.atomic_table.specs.Table.{State, step, Act, keeps, takes, gives, Valid, carried_after, stepped, Allows}
use Rattle.atomic_table.proofs.Lists.{at_set, set_here, set_else, exchanged}
use Rattle.shared_calls.specs.declared.view.Entry.{Entry}
use Rattle.shared_calls.specs.declared.view.Request.{Request}
use Rattle.shared_calls.specs.declared.view.Request.TheVariants.{Absent, Nothing, Asks}
use Rattle.shared_calls.specs.declared.view.Slot.{Slot}
use Rattle.shared_calls.specs.declared.view.Slot.TheVariants.{Vacant, Posted, Answered, Whole}
use Rattle.shared_calls.specs.declared.view.View.{View}
use Rattle.shared_calls.specs.Serial.{SerialObject}
use Rattle.shared_calls.specs.Logs.{entry, calls_by, StartsWith, IsSerial}
use Rattle.shared_calls.specs.Stages.{Stage, away, idle, posted, taken, owed, answered, retired, word_of, request_of, served, IsFree, HomeIs}
use Rattle.shared_calls.specs.Rule.{Stands, Sees, Keeps, made_by}
use Rattle.shared_calls.specs.Plays.{with_request, found_lost, own_calls, leaving, winning, heard_view, retiring, KnowsItsCalls, Enrolls, Posts, Leaves, Wins, Hears, Retires}
use Rattle.shared_calls.proofs.Lists.{calls_since}
use Rattle.shared_calls.proofs.Losses.{known_set}
use Rattle.shared_calls.proofs.Moves.{true_false, my, own_step, held_step, alike}

module _ {O R : Type 0} where
  request_of_away : (s : Stage O R) → request_of s ≡ Absent → s ≡ away
  request_of_away away is = refl
  request_of_away idle is = cc
  request_of_away (posted op) is = cc
  request_of_away (taken op) is = cc
  request_of_away (owed op r) is = cc
  request_of_away (answered op r) is = cc
  request_of_away retired is = cc

  request_of_idle : (s : Stage O R) → request_of s ≡ Nothing → s ≡ idle
  request_of_idle away is = cc
  request_of_idle idle is = refl
  request_of_idle (posted op) is = cc
  request_of_idle (taken op) is = cc
  request_of_idle (owed op r) is = cc
  request_of_idle (answered op r) is = cc
  request_of_idle retired is = cc

  -- a caller whose word is 2 has a reply
  word_answered : (s : Stage O R) → word_of s ≡ 2 → (op : O) × (r : R) × (s ≡ answered op r)
  word_answered away is = absurd (omega (arith, is))
  word_answered idle is = absurd (omega (arith, is))
  word_answered (posted op) is = absurd (omega (arith, is))
  word_answered (taken op) is = absurd (omega (arith, is))
  word_answered (owed op r) is = absurd (omega (arith, is))
  word_answered (answered op r) is = (op, r, refl)
  word_answered retired is = absurd (omega (arith, is))

  -- a call that is neither owed nor answered was not served
  unserved : (s : Stage O R) (x : ℕ) → word_of s ≢ 2 → ((op : O) (r : R) → s ≢ owed op r) → served x s ≡ []
  unserved away x ne never = refl
  unserved idle x ne never = refl
  unserved (posted op) x ne never = refl
  unserved (taken op) x ne never = refl
  unserved (owed op r) x ne never = absurd (never op r refl)
  unserved (answered op r) x ne never = absurd (ne refl)
  unserved retired x ne never = refl

module _ {T O R : Type 0} (object : SerialObject O R) (content : T → object.State) (fails : T → List O → Type 0) where
  abbrev S : Type 0
  S = State (Slot T O R) (View O R)

  -- a seat's view after a step of its own that changes the stage alone
  module _ (p : ℕ) (s : S) (o : Keeps object content fails p s) (k id : ℕ) (v : View O R) (me : get_elem? s.views id ≡ some v) (from : v.from ≡ k) (to : v.to ≡ k + 1) where
    mine : (k < p) × Stands p (get_or s.words p 0) o.log o.stage (o.seat k) id v k
    mine = my object content fails p s o k id v me from to

    here : (n : ℕ) → get_or (set s.words k n) k 0 ≡ n
    here n = let less = mine.0 in let wide = o.wide in get_or-set_same s.words k n 0 (omega (arith, less, wide))

    home_here : (x : M.Option (Slot T O R)) → get_elem? (set s.homes k x) k ≡ some x
    home_here x = let less = mine.0 in let slots = o.slots in set_here s.homes k x (omega (arith, less, slots))

    -- the stage a becomes b, between which no call is served
    changes : (a b : Stage O R) (r : Request O) (n : ℕ) (homes : List (M.Option (Slot T O R))) → o.stage k ≡ a → v.holds ≡ false → IsFree a → IsFree b → served k a ≡ served k b
        → n ≡ word_of b → r ≡ request_of b → length homes ≡ p + 1 → ((u : ℕ) → u ≢ k → get_elem? homes u ≡ get_elem? s.homes u) → HomeIs b (get_elem? homes k)
        → Keeps object content fails p record { words = set s.words k n; homes = homes; views = set s.views id (with_request r v) }
    changes a b r n homes is idle_v before after calls word asks slots else home =
        own_step object content fails p s o k id v (with_request r v) (set s.words k n) homes b me from to idle_v (λ _. subst IsFree (sym is) before) after refl refl idle_v refl
        (length-set s.words k n ∙ o.wide) slots (λ u ne. get_or-set_other s.words k u n 0 ne) else (here n ∙ word) home asks
        (mine.1.made ∙ ap (λ l. made_by v k ++ l) (ap (served k) is ∙ calls)) (mine.1.own (omega (arith, from, to)))
        (let was = o.sees id v me in record { seen = was.seen; heard = was.heard; lost = was.lost })

  -- a caller takes its slot
  pub enrolls : (p n id : ℕ) (v : View O R) (k : ℕ) → v.from ≡ k → v.to ≡ k + 1 → v.holds ≡ false → v.request ≡ Absent
      → Allows (Keeps object content fails p) n id (v, []) k (λ _. 0) (λ _. Enrolls (step n k 0 0 none) (v, []) 0)
  enrolls p n id v k from to idle_v absent s o wide me fits =
      let m = my object content fails p s o k id v me from to in
      let is : o.stage k ≡ away = request_of_away (o.stage k) (sym m.1.asks ∙ absent) in
      let home : get_elem? s.homes k ≡ some (some Vacant) = subst (λ (x : Stage O R). HomeIs x (get_elem? s.homes k)) is (o.stages k m.0).1 in (
        with_request Nothing v,
        takes k Vacant,
        home,
        changes p s o k id v me from to away idle Nothing 0 (set s.homes k none) is idle_v tt tt refl refl refl (length-set s.homes k none ∙ o.slots) (λ u ne. set_else s.homes k u none ne) tt,
        refl,
      )

  -- a caller posts its call
  pub posts : (p n id : ℕ) (v : View O R) (k : ℕ) (op : O) → v.from ≡ k → v.to ≡ k + 1 → v.holds ≡ false → v.request ≡ Nothing
      → Allows (Keeps object content fails p) n id (v, (k, Posted op) ∷ []) k (λ _. 1) (λ _. Posts (step n k 1 0 none) (v, (k, Posted op) ∷ []) 1)
  posts p n id v k op from to idle_v nothing s o wide me fits =
      let m = my object content fails p s o k id v me from to in
      let is : o.stage k ≡ idle = request_of_idle (o.stage k) (sym m.1.asks ∙ nothing) in (
        with_request (Asks op) v,
        gives,
        tt,
        changes p s o k id v me from to idle (posted op) (Asks op) 1 (set s.homes k (some (Posted op))) is idle_v tt tt refl refl refl (length-set s.homes k (some (Posted op)) ∙ o.slots) (λ u ne. set_else s.homes k u (some (Posted op)) ne)
            (home_here p s o k id v me from to (some (Posted op))),
        λ op' e. ap (λ (x : Slot T O R). (with_request (asked_in x) v, [])) (first_slot (k, Posted op) (k, Posted op') _ _ e),
      )
    where
      asked_in : Slot T O R → Request O
      asked_in (Posted x) = Asks x
      asked_in Vacant = Nothing
      asked_in (Answered r) = Nothing
      asked_in (Whole t rs) = Nothing

      first_slot : (a b : ℕ × Slot T O R) (xs ys : List (ℕ × Slot T O R)) → a ∷ xs ≡ b ∷ ys → a.1 ≡ b.1
      first_slot a b xs ys e = ap (λ (l : List (ℕ × Slot T O R)). (get_or l 0 a).1) e

  -- a caller takes its reply
  pub leaves : (p n id : ℕ) (v : View O R) (xs : List (ℕ × Slot T O R)) (k : ℕ) → v.from ≡ k → v.to ≡ k + 1 → v.holds ≡ false
      → Allows (Keeps object content fails p) n id (v, xs) k (λ y. either (eqb y 2) 0 y) (Leaves object (step n k 2 0 none) (v, xs))
  leaves p n id v xs k from to idle_v s o wide me fits =
      let m = my object content fails p s o k id v me from to in
      let sees = o.sees id v me in
      let seen = sees.seen in
      let serial : IsSerial object (v.seen ++ seen.0) = subst (IsSerial object) seen.1 o.serial in
      let own = m.1.own (omega (arith, from, to)) in
      exchanged (get_or s.words k 0) 2 0 (λ y. (w : View O R) × (a : Act (Slot T O R)) × Valid s.homes xs a × Keeps object content fails p (stepped s k y id xs w a) × Leaves object (step n k 2 0 none) (v, xs) (get_or s.words k 0) (w, carried_after xs a))
      (λ is.
      let got = word_answered (o.stage k) (sym (o.stages k m.0).0 ∙ is) in
      let op : O = got.0 in
      let r : R = got.1 in
      let w : View O R = leaving v op r (v.seen ++ seen.0) in
      let home : get_elem? s.homes k ≡ some (some (Answered r)) = subst (λ (x : Stage O R). HomeIs x (get_elem? s.homes k)) got.2 (o.stages k m.0).1 in
      let made : calls_by k o.log ≡ made_by v k ++ entry k op r ∷ [] = m.1.made ∙ ap (λ x. made_by v k ++ served k x) got.2 in
      let zero_at : k - v.from ≡ 0 = omega (arith, from) in
      let at : made_by v k ≡ own_calls v = ap (λ (j : ℕ). get_or v.made j []) zero_at in
      let now : made_by w k ≡ own_calls v ++ entry v.from op r ∷ [] = ap (λ (j : ℕ). get_or w.made j []) zero_at in
      let own_now : calls_by k o.log ≡ made_by w k = made ∙ (ap (λ l. l ++ entry k op r ∷ []) at ∙ (ap (λ (j : ℕ). own_calls v ++ entry j op r ∷ []) (sym from) ∙ sym now)) in
      let since : calls_by v.from seen.0 ≡ entry v.from op r ∷ [] = subst (λ (j : ℕ). calls_by j seen.0 ≡ entry j op r ∷ []) (sym from) (calls_since k o.log v.seen seen.0 (made_by v k) (entry k op r ∷ []) seen.1 made own) in (
        w,
        takes k (Answered r),
        home,
        own_step object content fails p s o k id v w (set s.words k 0) (set s.homes k none) idle me from to idle_v (λ _. subst IsFree (sym got.2) tt) tt refl refl idle_v refl
            (length-set s.words k 0 ∙ o.wide) (length-set s.homes k none ∙ o.slots) (λ u ne. get_or-set_other s.words k u 0 0 ne) (λ u ne. set_else s.homes k u none ne)
            (here p s o k id v me from to 0) tt refl (own_now ∙ sym (append-nil (made_by w k))) (ap (calls_by k) (sym seen.1) ∙ own_now)
            (record { seen = ([], seen.1 ∙ sym (append-nil (v.seen ++ seen.0))); heard = sees.heard; lost = sees.lost }),
        (
          (λ _. (
            r,
            w,
            (
              op,
              seen.0,
              m.1.asks ∙ ap request_of got.2,
              serial,
              since,
              refl,
              λ lost. (
                sym (sees.lost lost).1 ∙ seen.1,
                ap (λ (j : ℕ). calls_by j v.log) from ∙ (ap (calls_by k) (sym (sees.lost lost).1) ∙ (own_now ∙ now)),
              ),
            ),
            refl,
          )),
          λ ne. absurd (ne is),
        ),
      ))
      (λ ne. (
        v,
        keeps,
        tt,
        alike object content fails p s o k id v me,
        (
          (λ is. absurd (ne is)),
          λ _. (
            refl,
            λ lost.
                let not_served : served k (o.stage k) ≡ [] = unserved (o.stage k) k (λ e. ne ((o.stages k m.0).0 ∙ e)) (λ op r is. o.none_owed (sees.lost lost).0 k op r m.0 is) in
                let all : calls_by k o.log ≡ made_by v k ++ [] = m.1.made ∙ ap (λ l. made_by v k ++ l) not_served in
                let zero_at : k - v.from ≡ 0 = omega (arith, from) in (
                  seen.0,
                  serial,
                  subst (λ (j : ℕ). calls_by j seen.0 ≡ []) (sym from) (calls_since k o.log v.seen seen.0 (made_by v k) [] seen.1 all own),
                  sym (sees.lost lost).1 ∙ seen.1,
                  ap (λ (j : ℕ). calls_by j v.log) from ∙ (ap (calls_by k) (sym (sees.lost lost).1) ∙ (all ∙ (append-nil (made_by v k) ∙ ap (λ (j : ℕ). get_or v.made j []) zero_at))),
                ),
          ),
        ),
      ))

  -- a look at word i that changes the view alone
  module _ (p : ℕ) (s : S) (o : Keeps object content fails p s) (k id : ℕ) (v w : View O R) (i : ℕ) (me : get_elem? s.views id ≡ some v) (from : v.from ≡ k) (to : v.to ≡ k + 1) where
    seeing : v.holds ≡ false → IsFree (o.stage k) → w.from ≡ v.from → w.to ≡ v.to → w.holds ≡ false → w.lost ≡ v.lost → w.request ≡ v.request → made_by w k ≡ made_by v k → calls_by k w.seen ≡ made_by w k
        → Sees p (get_or s.words p 0) o.log w
        → Keeps object content fails p record { words = set s.words i (get_or s.words i 0); homes = s.homes; views = set s.views id w }
    seeing idle_v free from' to' idle_w lost' request made own sees =
        let m = my object content fails p s o k id v me from to in
        subst (λ (ws : List ℕ). Keeps object content fails p record { words = ws; homes = s.homes; views = set s.views id w }) (sym (set-get_or s.words i 0))
        (own_step object content fails p s o k id v w s.words s.homes (o.stage k) me from to idle_v (λ _. free) free from' to' idle_w lost' o.wide o.slots (λ u ne. refl) (λ u ne. refl)
        (o.stages k m.0).0 (o.stages k m.0).1 (request ∙ m.1.asks) (m.1.made ∙ ap (λ l. l ++ served k (o.stage k)) (sym made)) own sees)

  -- a caller hears the note that it took in
  pub hears : (p n id : ℕ) (v : View O R) (xs : List (ℕ × Slot T O R)) (k i : ℕ) → v.from ≡ k → v.to ≡ k + 1 → v.holds ≡ false → v.request ≡ Nothing
      → Allows (Keeps object content fails p) n id (v, xs) i (λ y. y) (Hears object (step n i 0 0 none) (v, xs))
  hears p n id v xs k i from to idle_v nothing s o wide me fits =
      let m = my object content fails p s o k id v me from to in
      let is : o.stage k ≡ idle = request_of_idle (o.stage k) (sym m.1.asks ∙ nothing) in
      let sees = o.sees id v me in
      let seen = sees.seen in
      let own = m.1.own (omega (arith, from, to)) in
      let all : calls_by k o.log ≡ made_by v k = m.1.made ∙ (ap (λ x. made_by v k ++ served k x) is ∙ append-nil (made_by v k)) in
      let since : calls_by k seen.0 ≡ [] = calls_since k o.log v.seen seen.0 (made_by v k) [] seen.1 (all ∙ sym (append-nil (made_by v k))) own in
      let w : View O R = heard_view v (v.seen ++ seen.0) in (
        w,
        keeps,
        tt,
        seeing p s o k id v w i me from to idle_v (subst IsFree (sym is) tt) refl refl idle_v refl refl refl (ap (calls_by k) (sym seen.1) ∙ all)
            (record { seen = ([], seen.1 ∙ sym (append-nil (v.seen ++ seen.0))); heard = tt; lost = sees.lost }),
        (seen.0, subst (IsSerial object) seen.1 o.serial, subst (λ l. AllByRecursion (StartsWith l) v.heard) seen.1 sees.heard, subst (λ (j : ℕ). calls_by j seen.0 ≡ []) (sym from) since, refl),
      )

  -- a caller retires: it asks nothing, or the structure is lost and its call was not served
  pub retires : (p n id : ℕ) (v : View O R) (xs : List (ℕ × Slot T O R)) (k : ℕ) → v.from ≡ k → v.to ≡ k + 1 → v.holds ≡ false → (v.request ≡ Nothing) ⊎ ((v.lost ≡ true) × KnowsItsCalls v)
      → Allows (Keeps object content fails p) n id (v, xs) k (λ _. 3) (λ _. Retires (step n k 3 0 none) (v, xs) 3)
  retires p n id v xs k from to idle_v asks s o wide me fits =
      let m = my object content fails p s o k id v me from to in
      let sees = o.sees id v me in
      let own = m.1.own (omega (arith, from, to)) in
      let w : View O R = retiring v in
      let zero_at : k - v.from ≡ 0 = omega (arith, from) in
      let at : made_by v k ≡ own_calls v = ap (λ (j : ℕ). get_or v.made j []) zero_at in
      let now : made_by w k ≡ own_calls v = ap (λ (j : ℕ). get_or w.made j []) zero_at in
      let all : calls_by k o.log ≡ own_calls v = ⊎_elim
      (λ nothing. m.1.made ∙ (ap (λ x. made_by v k ++ served k x) (request_of_idle (o.stage k) (sym m.1.asks ∙ nothing)) ∙ (append-nil (made_by v k) ∙ at)))
      (λ lost. ap (calls_by k) (sees.lost lost.0).1 ∙ subst (λ (j : ℕ). calls_by j v.log ≡ own_calls v) from lost.1) asks in
      let free : get_or s.words p 0 ≢ p + 1 → IsFree (o.stage k) = λ sound. ⊎_elim
      (λ nothing. subst IsFree (sym (request_of_idle (o.stage k) (sym m.1.asks ∙ nothing))) tt)
      (λ lost. absurd (sound (sees.lost lost.0).0)) asks in (
        w,
        keeps,
        tt,
        own_step object content fails p s o k id v w (set s.words k 3) s.homes retired me from to idle_v free tt refl refl idle_v refl
            (length-set s.words k 3 ∙ o.wide) o.slots (λ u ne. get_or-set_other s.words k u 3 0 ne) (λ u ne. refl) (here p s o k id v me from to 3) tt refl
            (all ∙ (sym now ∙ sym (append-nil (made_by w k)))) (own ∙ (at ∙ sym now)) (record { seen = sees.seen; heard = (sees.seen, tt); lost = sees.lost }),
        refl,
      )

  -- a caller wins the flag, or finds it held, or the structure lost
  pub wins : (p n id : ℕ) (v : View O R) (k : ℕ) → v.from ≡ k → v.to ≡ k + 1 → v.holds ≡ false
      → Allows (Keeps object content fails p) n id (v, []) p (λ y. either (eqb y 0) (k + 1) y) (Wins object content fails (step n p 0 (k + 1) none) (v, []))
  wins p n id v k from to idle_v s o wide me fits =
      let m = my object content fails p s o k id v me from to in
      let less = m.0 in
      let sees = o.sees id v me in
      exchanged (get_or s.words p 0) 0 (k + 1) (λ y. (w : View O R) × (a : Act (Slot T O R)) × Valid s.homes [] a × Keeps object content fails p (stepped s p y id [] w a) × Wins object content fails (step n p 0 (k + 1) none) (v, []) (get_or s.words p 0) (w, carried_after [] a))
      (λ zero_flag.
      let t = o.home zero_flag in
      let w : View O R = winning v o.log in
      let flag_now : get_or (set s.words p (k + 1)) p 0 ≡ k + 1 = let wide' = o.wide in get_or-set_same s.words p (k + 1) 0 (omega (arith, wide')) in (
        w,
        takes p (Whole t.0 t.1),
        t.2,
        subst (λ (l : List (Entry O R)). Keeps object content fails p record { words = set s.words p (k + 1); homes = set s.homes p none; views = set s.views id (winning v l) }) (append-nil o.log)
            (held_step object content fails p s o k id v (winning v (o.log ++ [])) (set s.words p (k + 1)) (set s.homes p none) [] o.stage me from to
            (λ x below ne is. absurd (omega (arith, is, zero_flag))) (λ is. absurd (omega (arith, is, zero_flag))) refl refl refl (λ x. refl) refl refl
            (length-set s.words p (k + 1) ∙ o.wide) (length-set s.homes p none ∙ o.slots)
            (λ u below. let ne : u ≢ p = λ e. absurd (omega (arith, e, below)) in
            (get_or-set_other s.words p u (k + 1) 0 ne ∙ (o.stages u below).0, subst (HomeIs (o.stage u)) (sym (set_else s.homes p u none ne)) (o.stages u below).1))
            (subst (IsSerial object) (sym (append-nil o.log)) o.serial) tt (omega (arith, flag_now, less))
            (λ e. absurd (omega (arith, e, flag_now))) (λ e. absurd (omega (arith, e, flag_now))) (λ e. absurd (omega (arith, e, flag_now, less))) (λ e. absurd (omega (arith, e, flag_now, less)))
            (λ x below. refl) (λ x below m is. ap (calls_by x) (append-nil o.log) ∙ is) (λ x below ne is. ne (omega (arith, is, flag_now)))
            (λ e. let f = (sees.lost e).0 in absurd (omega (arith, f, zero_flag))) (λ e. absurd (true_false e))
            (λ _. record {
              flag_is = flag_now;
              log_is = refl;
              takes = tt;
              takes_once = tt;
              takes_all = λ u op below is. absurd (subst IsFree is (o.none_taken zero_flag u below));
              owes = tt;
              owes_once = tt;
              owes_all = λ u op r below is. absurd (subst IsFree is (o.none_taken zero_flag u below));
            })),
        (
          (λ _. (t.0, t.1, o.log, t.3, refl)),
          (λ e. absurd (omega (arith, e, zero_flag))),
          λ ne. absurd (ne zero_flag),
        ),
      ))
      (λ ne. dite (ℕ_discrete (get_or s.words p 0) (p + 1))
      (λ lost. (
        found_lost v o.log,
        keeps,
        tt,
        lost_now s o me lost,
        ((λ zero_flag. absurd (ne zero_flag)), (λ _. (o.log, o.cause lost, refl)), λ _ other. absurd (other lost)),
      ))
      (λ other. (v, keeps, tt, alike object content fails p s o p id v me, ((λ zero_flag. absurd (ne zero_flag)), (λ lost. absurd (other lost)), λ _ _. refl))))
    where
      lost_now : (s : S) (o : Keeps object content fails p s) → get_elem? s.views id ≡ some v → get_or s.words p 0 ≡ p + 1
          → Keeps object content fails p record { words = set s.words p (get_or s.words p 0); homes = s.homes; views = set s.views id (found_lost v o.log) }
      lost_now s o me lost =
          let m = my object content fails p s o k id v me from to in
          let less = m.0 in
          let sees = o.sees id v me in
          let w : View O R = found_lost v o.log in
          subst (λ (ws : List ℕ). Keeps object content fails p record { words = ws; homes = s.homes; views = set s.views id w }) (sym (set-get_or s.words p 0)) record {
            log = o.log;
            stage = o.stage;
            seat = o.seat;
            wide = o.wide;
            slots = o.slots;
            seated = λ x. subst (λ (n : ℕ). o.seat x < n) (sym (length-set s.views id w)) (o.seated x);
            stages = o.stages;
            serial = o.serial;
            known = o.known;
            few = o.few;
            home = o.home;
            none_taken = o.none_taken;
            none_owed = o.none_owed;
            cause = o.cause;
            told = λ _. known_set s.views id v w me (λ less _. (less, refl)) (o.told lost);
            sees = λ i u e. ⊎_elim (λ t. subst (Sees p (get_or s.words p 0) o.log) t.1 (record { seen = sees.seen; heard = sees.heard; lost = λ _. (lost, refl) })) (λ t. o.sees i u t.1) (at_set s.views id i w u e);
            stands = λ i u x e lo hi. ⊎_elim
                (λ t.
                let lo' : v.from ≤ x = subst (λ (n : ℕ). n ≤ x) (ap (λ (z : View O R). z.from) (sym t.1)) lo in
                let hi' : x < v.to = subst (λ (n : ℕ). x < n) (ap (λ (z : View O R). z.to) (sym t.1)) hi in
                let was = o.stands id v x me lo' hi' in (
                  was.0,
                  subst (λ (j : ℕ). Stands p (get_or s.words p 0) o.log o.stage (o.seat x) j u x) (sym t.0)
                      (subst (λ (z : View O R). Stands p (get_or s.words p 0) o.log o.stage (o.seat x) id z x) t.1
                      (record { sits = was.1.sits; asks = was.1.asks; made = was.1.made; own = was.1.own; free = was.1.free; holds = λ h. absurd (true_false (sym h ∙ idle_v)) })),
                ))
                (λ t. o.stands i u x t.1 lo hi) (at_set s.views id i w u e);
          }
