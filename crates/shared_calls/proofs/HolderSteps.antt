-- The steps of the holder of the flag keep the rule.
use Rattle.std.proofs.Common.{append_assoc, append-nil, ◌≡◌, ◌≢◌, ◌⊎◌, ℕ, zero, suc, ◌+◌, ◌<◌, ◌≤◌, List, [], ◌∷◌, ◌++◌, map, drop, length, get_or, set, Vec, Global, Bool, true, false, sym, refl, ap, ◌∙◌, subst, inl, inr, arith, length-set, get_or-set_other, get_or-set_same}
use Rattle.std.specs.Prelude.{Contains}
use Rattle.std.specs.List.{AllByRecursion}
use mathlib.Core.Logic.{dite}
use mathlib.Core.Option as M
use mathlib.Core.Option.{none, some}
use native.Mathlib.Decide.{ℕ_discrete}
use lib.ListN.{get_elem?}
use lib.Seq.{set-get_or}
use Rattle.std.proofs.lemmas.List.{length-map}
use Rattle.atomic_table.specs.Table.{State, step, keeps, takes, gives, Allows}
use Rattle.atomic_table.proofs.Lists.{set_here, set_else}
use Rattle.shared_calls.specs.declared.view.Entry.{Entry}
use Rattle.shared_calls.specs.declared.view.Asked.{Asked}
use Rattle.shared_calls.specs.declared.view.Slot.{Slot}
use Rattle.shared_calls.specs.declared.view.Slot.TheVariants.{Posted, Answered, Whole}
use Rattle.shared_calls.specs.declared.view.View.{View}
use Rattle.shared_calls.specs.Serial.{SerialObject, replies_to_all, IsServedInSomeOrder}
use Rattle.shared_calls.specs.Logs.{entry, ask, entries_of, calls_by, state_after, IsSerial}
use Rattle.shared_calls.specs.Stages.{Stage, away, idle, posted, taken, owed, answered, retired, word_of, request_of, served, IsFree, HomeIs}
use Rattle.shared_calls.specs.Rule.{IsLost, Holds, Keeps, AllPairs, OfOthers}
use Rattle.shared_calls.specs.Plays.{taking, publishing, answering, releasing, losing, Looks, Publishes, Answers, Releases, Loses}
use Rattle.shared_calls.proofs.Lists.{put, put_here, put_else, each_so, each_push, each_at, pairs_push, none_in, there_push, last_there, calls_append, entries_each, entries_pairs, entries_far, after_batch, batch_far, batch_each, batch_adds, find, batch_serial, batch_state}
use Rattle.shared_calls.proofs.Moves.{true_false, my, held_step, alike}
use Rattle.shared_calls.proofs.Batches.{same_calls, served_entries, every_shuffled}

module _ {O R : Type 0} where
  -- a caller whose word is 1 has posted its call, where the holder has not taken it
  word_posted : (s : Stage O R) → word_of s ≡ 1 → ((op : O) → s ≢ taken op) → ((op : O) (r : R) → s ≢ owed op r) → (op : O) × (s ≡ posted op)
  word_posted away is nt nd = absurd (omega (arith, is))
  word_posted idle is nt nd = absurd (omega (arith, is))
  word_posted (posted op) is nt nd = (op, refl)
  word_posted (taken op) is nt nd = absurd (nt op refl)
  word_posted (owed op r) is nt nd = absurd (nd op r refl)
  word_posted (answered op r) is nt nd = absurd (omega (arith, is))
  word_posted retired is nt nd = absurd (omega (arith, is))

  all_free : (s : Stage O R) → ((op : O) → s ≢ taken op) → ((op : O) (r : R) → s ≢ owed op r) → IsFree s
  all_free away nt nd = tt
  all_free idle nt nd = tt
  all_free (posted op) nt nd = tt
  all_free (taken op) nt nd = nt op refl
  all_free (owed op r) nt nd = nd op r refl
  all_free (answered op r) nt nd = tt
  all_free retired nt nd = tt

  tail_in : (e : Entry O R) (es : List (Entry O R)) (x : Entry O R) → x.caller ≢ e.caller → Contains (e ∷ es) x → Contains es x
  tail_in e es x ne c = at c.0 c.1 c.2 where
    at : (j : ℕ) → j < suc (length es) → get_or (e ∷ es) j x ≡ x → Contains es x
    at zero less is = absurd (ne (ap (λ (y : Entry O R). y.caller) (sym is)))
    at (suc j) less is = (j, omega (arith, less), is)

module _ {T O R : Type 0} (object : SerialObject O R) (content : T → object.State) (fails : T → List O → Type 0) where
  abbrev S : Type 0
  S = State (Slot T O R) (View O R)

  module _ (p : ℕ) (s : S) (o : Keeps object content fails p s) (k id : ℕ) (v : View O R) (me : get_elem? s.views id ≡ some v) (from : v.from ≡ k) (to : v.to ≡ k + 1) (held : v.holds ≡ true) where
    flag : ℕ
    flag = get_or s.words p 0

    hold : Holds p (get_or s.words p 0) o.log o.stage v k
    hold = (my object content fails p s o k id v me from to).1.holds held

    unlost : v.lost ≡ false
    unlost = by_case v.lost refl where
      by_case : (b : Bool) → v.lost ≡ b → b ≡ false
      by_case false e = refl
      by_case true e = let f = ((o.sees id v me).lost e).0 in let g = hold.flag_is in let less = (my object content fails p s o k id v me from to).0 in absurd (omega (arith, f, g, less))

    alone : (x : ℕ) → x < p → x ≢ k → get_or s.words p 0 ≢ x + 1
    alone x below ne is = let g = hold.flag_is in ne (omega (arith, is, g))

    sound : get_or s.words p 0 ≢ p + 1
    sound is = let g = hold.flag_is in let less = (my object content fails p s o k id v me from to).0 in absurd (omega (arith, is, g, less))

  -- the holder looks at a caller
  pub looks : (p n id : ℕ) (v : View O R) (xs : List (ℕ × Slot T O R)) (k u : ℕ) → v.from ≡ k → v.to ≡ k + 1 → v.holds ≡ true → u < p → v.looks ≤ u → v.owed ≡ []
      → Allows (Keeps object content fails p) n id (v, xs) u (λ y. y) (Looks (step n u 0 0 none) (v, xs))
  looks p n id v xs k u from to held less next none_due s o wide me fits = dite (ℕ_discrete (get_or s.words u 0) 1)
      (λ one.
      let h = hold p s o k id v me from to held in
      let m = my object content fails p s o k id v me from to in
      let mless = m.0 in
      let flag_is = h.flag_is in
      let got = word_posted (o.stage u) (sym (o.stages u less).0 ∙ one)
      (λ op is. let t = each_at _ v.taken (ask u op) (h.takes_all u op less is) h.takes in let b = t.1 in absurd (omega (arith, b, next)))
      (λ op r is. none_in v.owed (entry u op r) none_due (h.owes_all u op r less is)) in
      let op : O = got.0 in
      let home : get_elem? s.homes u ≡ some (some (Posted op)) = subst (λ (x : Stage O R). HomeIs x (get_elem? s.homes u)) got.1 (o.stages u less).1 in
      let stage : ℕ → Stage O R = put o.stage u (taken op) in
      let here : stage u ≡ taken op = put_here o.stage u u (taken op) refl in
      let else : (x : ℕ) → x ≢ u → stage x ≡ o.stage x = λ x ne. put_else o.stage u x (taken op) ne in
      let w : View O R = taking v u op in
      let homes : List (M.Option (Slot T O R)) = set s.homes u none in (
        w,
        takes u (Posted op),
        home,
        subst (λ (ws : List ℕ). Keeps object content fails p record { words = ws; homes = homes; views = set s.views id w }) (sym (set-get_or s.words u 0))
            (held_step object content fails p s o k id v w s.words homes [] stage me from to (alone p s o k id v me from to held) (sound p s o k id v me from to held)
            refl refl refl (λ x. refl) refl refl o.wide (length-set s.homes u none ∙ o.slots)
            (λ x below. dite (ℕ_discrete x u)
            (λ e. (ap (λ y. get_or s.words y 0) e ∙ (one ∙ ap word_of (sym (ap stage e ∙ here))), subst (λ y. HomeIs y (get_elem? homes x)) (sym (ap stage e ∙ here)) tt))
            (λ ne. ((o.stages x below).0 ∙ ap word_of (sym (else x ne)), subst (λ y. HomeIs y (get_elem? homes x)) (sym (else x ne)) (subst (HomeIs (o.stage x)) (sym (set_else s.homes u x none ne)) (o.stages x below).1))))
            (subst (IsSerial object) (sym (append-nil o.log)) o.serial) tt o.few
            (λ e. absurd (omega (arith, e, flag_is))) (λ e. absurd (omega (arith, e, flag_is))) (λ e. absurd (sound p s o k id v me from to held e)) (λ e. absurd (sound p s o k id v me from to held e))
            (λ x below. dite (ℕ_discrete x u) (λ e. ap request_of (ap stage e ∙ here) ∙ sym (ap request_of (ap o.stage e ∙ got.1))) (λ ne. ap request_of (else x ne)))
            (λ x below m is. ap (calls_by x) (append-nil o.log) ∙ (is ∙ ap (λ l. m ++ l) (dite (ℕ_discrete x u)
            (λ e. ap (served x) (ap o.stage e ∙ got.1) ∙ sym (ap (served x) (ap stage e ∙ here))) (λ ne. ap (served x) (sym (else x ne))))))
            (alone p s o k id v me from to held) (λ e. absurd (true_false (sym e ∙ unlost p s o k id v me from to held))) (λ e. absurd (true_false (sym held ∙ e)))
            (λ _. record {
              flag_is = h.flag_is;
              log_is = append-nil o.log ∙ h.log_is;
              takes = each_push _ v.taken (ask u op) (each_so _ _ (λ (a : Asked O) t. let b = t.1 in (t.0, omega (arith, b, next), else a.caller (λ e. absurd (omega (arith, b, next, e))) ∙ t.2)) v.taken h.takes) (less, omega arith, here);
              takes_once = pairs_push _ v.taken (ask u op) h.takes_once (each_so _ (λ (a : Asked O). a.caller ≢ u) (λ (a : Asked O) t e. let b = t.1 in absurd (omega (arith, b, next, e))) v.taken h.takes);
              takes_all = λ x op' below is. dite (ℕ_discrete x u)
                  (λ e. subst (λ (a : Asked O). Contains (v.taken ++ ask u op ∷ []) a) (ap (λ (y : O). ask u y) (taken_op op op' (sym here ∙ (ap stage (sym e) ∙ is))) ∙ ap (λ (y : ℕ). ask y op') (sym e)) (last_there v.taken (ask u op)))
                  (λ ne. there_push v.taken (ask x op') (ask u op) (h.takes_all x op' below (sym (else x ne) ∙ is)));
              owes = subst (AllByRecursion _) (sym none_due) tt;
              owes_once = h.owes_once;
              owes_all = λ x op' r below is. dite (ℕ_discrete x u)
                  (λ e. absurd (taken_owed op op' r (sym here ∙ (ap stage (sym e) ∙ is))))
                  (λ ne. h.owes_all x op' r below (sym (else x ne) ∙ is));
            })),
        ((λ _. (op, refl)), λ ne. absurd (ne one)),
      ))
      (λ ne. (v, keeps, tt, alike object content fails p s o u id v me, ((λ one. absurd (ne one)), λ _. refl)))
    where
      taken_op : (a b : O) → let x : Stage O R = taken a in x ≡ taken b → a ≡ b
      taken_op a b e = cc

      taken_owed : (a b : O) (r : R) → let x : Stage O R = taken a in x ≡ owed b r → ⊥
      taken_owed a b r e = cc

  -- the batch counts as served
  pub publishes : (p n id : ℕ) (v : View O R) (t : T) (rs : Vec R Global) (more : List (ℕ × Slot T O R)) (k : ℕ) → v.from ≡ k → v.to ≡ k + 1 → v.holds ≡ true → v.owed ≡ []
      → IsServedInSomeOrder object (state_after object v.log) (map (λ (a : Asked O). a.op) v.taken) rs.items (content t)
      → Allows (Keeps object content fails p) n id (v, (p, Whole t rs) ∷ more) p (λ y. y) (Publishes object content (step n p 0 0 none) (v, (p, Whole t rs) ∷ more))
  publishes p n id v t rs more k from to held none_due is s o wide me fits =
      let h = hold p s o k id v me from to held in
      let m = my object content fails p s o k id v me from to in
      let flag_is = h.flag_is in
      let es : List (Entry O R) = entries_of v.taken rs.items in
      let got = served_entries object (state_after object v.log) v.taken rs.items (content t) is in
      let batch : List (Entry O R) = got.0 in
      let each : AllByRecursion (λ (e : Entry O R). (e.caller < p) × (o.stage e.caller ≡ taken e.op)) es = entries_each (λ c op. (c < p) × (o.stage c ≡ taken op)) v.taken rs.items
      (each_so _ _ (λ (a : Asked O) x. (x.0, x.2)) v.taken h.takes) in
      let takes_each : AllByRecursion (λ (e : Entry O R). o.stage e.caller ≡ taken e.op) es = each_so _ _ (λ (e : Entry O R) x. x.1) es each in
      let once : AllPairs OfOthers es = entries_pairs v.taken rs.items h.takes_once in
      let owed_each = batch_each es o.stage once in
      let stage : ℕ → Stage O R = after_batch es o.stage in
      let w : View O R = publishing v batch rs.items in
      let same : (x : ℕ) → ((e : Entry O R) × ((e.caller ≡ x) × ((o.stage x ≡ taken e.op) × ((stage x ≡ owed e.op e.reply) × Contains es e)))) ⊎ (AllByRecursion (λ (e : Entry O R). e.caller ≢ x) es × (stage x ≡ o.stage x)) = λ x. elim (find es x) [
        | inl f ↦ inl (f.0, (f.1.0, (ap o.stage (sym f.1.0) ∙ each_at _ es f.0 f.1.1 takes_each, (ap stage (sym f.1.0) ∙ each_at _ es f.0 f.1.1 owed_each, f.1.1))))
        | inr far ↦ inr (far, batch_far es o.stage x far)
      ] in
      let serial : IsSerial object (o.log ++ batch) = batch_serial object o.log batch o.serial (got.2 ∙ ap (λ l. replies_to_all object (state_after object l) (map (λ (e : Entry O R). e.op) batch)) (sym h.log_is)) in
      let known : AllByRecursion (λ (e : Entry O R). e.caller < p) batch = every_shuffled (λ (e : Entry O R). e.caller < p) es batch got.1 (each_so _ _ (λ (e : Entry O R) x. x.0) es each) in
      let content_is : content t ≡ state_after object (v.log ++ batch) = got.3 ∙ sym (batch_state object v.log batch) in (
        w,
        keeps,
        tt,
        subst (λ (ws : List ℕ). Keeps object content fails p record { words = ws; homes = s.homes; views = set s.views id w }) (sym (set-get_or s.words p 0))
            (held_step object content fails p s o k id v w s.words s.homes batch stage me from to (alone p s o k id v me from to held) (sound p s o k id v me from to held)
            refl refl refl (λ x. refl) refl refl o.wide o.slots
            (λ x below. elim (same x) [
              | inl f ↦ ((o.stages x below).0 ∙ (ap word_of f.1.1.0 ∙ sym (ap word_of f.1.1.1.0)), subst (λ y. HomeIs y (get_elem? s.homes x)) (sym f.1.1.1.0) tt)
              | inr g ↦ ((o.stages x below).0 ∙ ap word_of (sym g.1), subst (λ y. HomeIs y (get_elem? s.homes x)) (sym g.1) (o.stages x below).1)
            ])
            serial known o.few (λ e. absurd (omega (arith, e, flag_is))) (λ e. absurd (omega (arith, e, flag_is))) (λ e. absurd (sound p s o k id v me from to held e)) (λ e. absurd (sound p s o k id v me from to held e))
            (λ x below. elim (same x) [
              | inl f ↦ ap request_of f.1.1.1.0 ∙ sym (ap request_of f.1.1.0)
              | inr g ↦ ap request_of g.1
            ])
            (λ x below m was. calls_append x o.log batch ∙ (ap (λ l. l ++ calls_by x batch) was ∙ (append_assoc m (served x (o.stage x)) (calls_by x batch)
            ∙ ap (λ l. m ++ l) (ap (λ l. served x (o.stage x) ++ l) (same_calls es batch x once got.1) ∙ batch_adds es o.stage x takes_each once))))
            (alone p s o k id v me from to held) (λ e. absurd (true_false (sym e ∙ unlost p s o k id v me from to held))) (λ e. absurd (true_false (sym held ∙ e)))
            (λ _. record {
              flag_is = h.flag_is;
              log_is = ap (λ (l : List (Entry O R)). l ++ batch) h.log_is;
              takes = tt;
              takes_once = tt;
              takes_all = λ u op below is'. elim (same u) [
                | inl f ↦ absurd (owed_taken f.0.op op f.0.reply (sym f.1.1.1.0 ∙ is'))
                | inr g ↦ absurd (each_at _ v.taken (ask u op) (h.takes_all u op below (sym g.1 ∙ is')) (entries_far u v.taken rs.items (got_count v rs is) g.0) refl)
              ];
              owes = both (λ (e : Entry O R). e.caller < p) (λ (e : Entry O R). stage e.caller ≡ owed e.op e.reply) (λ (e : Entry O R). o.stage e.caller ≡ taken e.op) es each owed_each;
              owes_once = once;
              owes_all = λ u op r below is'. elim (same u) [
                | inl f ↦
                    let e = f.0 in
                    let x = owed_same e.op op e.reply r (sym f.1.1.1.0 ∙ is') in
                    subst (Contains es) (ap (λ c. entry c e.op e.reply) f.1.0 ∙ (ap (λ y. entry u y e.reply) x.0 ∙ ap (entry u op) x.1)) f.1.1.1.1
                | inr g ↦ absurd (none_in v.owed (entry u op r) none_due (h.owes_all u op r below (sym g.1 ∙ is')))
              ];
            })),
        λ t' rs' e. let x = same_whole t t' rs rs' _ _ e in
            (batch, ap content (sym x.0) ∙ content_is, ap (λ y. (publishing v batch y, (p, Whole t rs) ∷ more)) (ap (λ y. y.items) x.1)),
      )
    where
      got_count : (v : View O R) (rs : Vec R Global) → IsServedInSomeOrder object (state_after object v.log) (map (λ (a : Asked O). a.op) v.taken) rs.items (content t) → length rs.items ≡ length v.taken
      got_count v rs is = is.count ∙ length-map v.taken (λ (a : Asked O). a.op)

      owed_taken : (a b : O) (r : R) → let x : Stage O R = owed a r in x ≡ taken b → ⊥
      owed_taken a b r e = cc

      owed_same : (a b : O) (r q : R) → let x : Stage O R = owed a r in x ≡ owed b q → (a ≡ b) × (r ≡ q)
      owed_same a b r q e = (cc, cc)

      same_whole : (a b : T) (rs qs : Vec R Global) (xs ys : List (ℕ × Slot T O R)) → (p, Whole a rs) ∷ xs ≡ (p, Whole b qs) ∷ ys → (a ≡ b) × (rs ≡ qs)
      same_whole a b rs qs xs ys e = let h = ap (λ (l : List (ℕ × Slot T O R)). (get_or l 0 (p, Whole a rs)).1) e in (cc, cc)

      both : (P Q F : Entry O R → Type 0) (es : List (Entry O R)) → AllByRecursion (λ e. P e × F e) es → AllByRecursion Q es → AllByRecursion (λ e. P e × Q e) es
      both P Q F [] a b = tt
      both P Q F (e ∷ es) a b = ((a.0.0, b.0), both P Q F es a.1 b.1)

  -- the holder answers a caller
  pub answers : (p n id : ℕ) (v : View O R) (xs : List (ℕ × Slot T O R)) (k : ℕ) (e : Entry O R) (es : List (Entry O R)) → v.from ≡ k → v.to ≡ k + 1 → v.holds ≡ true → v.owed ≡ e ∷ es
      → Allows (Keeps object content fails p) n id (v, (e.caller, Answered e.reply) ∷ xs) e.caller (λ _. 2) (λ _. Answers (step n e.caller 2 0 none) (v, (e.caller, Answered e.reply) ∷ xs) 2)
  answers p n id v xs k e es from to held due s o wide me fits =
      let h = hold p s o k id v me from to held in
      let m = my object content fails p s o k id v me from to in
      let flag_is = h.flag_is in
      let j : ℕ = e.caller in
      let slot : M.Option (Slot T O R) = some (Answered e.reply) in
      let owes : AllByRecursion (λ (e : Entry O R). (e.caller < p) × (o.stage e.caller ≡ owed e.op e.reply)) (e ∷ es) = subst (AllByRecursion _) due h.owes in
      let once : AllPairs OfOthers (e ∷ es) = subst (AllPairs OfOthers) due h.owes_once in
      let less : j < p = owes.0.0 in
      let ws : List ℕ = set s.words j 2 in
      let homes : List (M.Option (Slot T O R)) = set s.homes j slot in
      let now : Stage O R = answered e.op e.reply in
      let stage : ℕ → Stage O R = put o.stage j now in
      let here : stage j ≡ now = put_here o.stage j j now refl in
      let else : (x : ℕ) → x ≢ j → stage x ≡ o.stage x = λ x ne. put_else o.stage j x now ne in
      let word_here : get_or ws j 0 ≡ 2 = let wide' = o.wide in get_or-set_same s.words j 2 0 (omega (arith, less, wide')) in
      let home_here : get_elem? homes j ≡ some slot = let slots = o.slots in set_here s.homes j slot (omega (arith, less, slots)) in
      let flag_same : get_or ws p 0 ≡ get_or s.words p 0 = get_or-set_other s.words j p 2 0 (λ is. absurd (omega (arith, is, less))) in
      let w : View O R = answering v in
      let rest_is : w.owed ≡ es = ap (λ (l : List (Entry O R)). drop 1 l) due in (
        w,
        gives,
        tt,
        held_step object content fails p s o k id v w ws homes [] stage me from to (alone p s o k id v me from to held) (sound p s o k id v me from to held)
            refl refl refl (λ x. refl) refl refl (length-set s.words j 2 ∙ o.wide) (length-set s.homes j slot ∙ o.slots)
            (λ x below. dite (ℕ_discrete x j)
            (λ is. (ap (λ y. get_or ws y 0) is ∙ (word_here ∙ ap word_of (sym (ap stage is ∙ here))), subst (λ y. HomeIs y (get_elem? homes x)) (sym (ap stage is ∙ here)) (ap (λ y. get_elem? homes y) is ∙ home_here)))
            (λ ne. (get_or-set_other s.words j x 2 0 ne ∙ ((o.stages x below).0 ∙ ap word_of (sym (else x ne))), subst (λ y. HomeIs y (get_elem? homes x)) (sym (else x ne)) (subst (HomeIs (o.stage x)) (sym (set_else s.homes j x slot ne)) (o.stages x below).1))))
            (subst (IsSerial object) (sym (append-nil o.log)) o.serial) tt (subst (λ (y : ℕ). y ≤ p + 1) (sym flag_same) o.few)
            (λ z. absurd (omega (arith, z, flag_same, flag_is))) (λ z. absurd (omega (arith, z, flag_same, flag_is))) (λ z. absurd (sound p s o k id v me from to held (sym flag_same ∙ z))) (λ z. absurd (sound p s o k id v me from to held (sym flag_same ∙ z)))
            (λ x below. dite (ℕ_discrete x j) (λ is. ap request_of (ap stage is ∙ here) ∙ sym (ap request_of (ap o.stage is ∙ owes.0.1))) (λ ne. ap request_of (else x ne)))
            (λ x below m was. ap (calls_by x) (append-nil o.log) ∙ (was ∙ ap (λ l. m ++ l) (dite (ℕ_discrete x j)
            (λ is. ap (served x) (ap o.stage is ∙ owes.0.1) ∙ sym (ap (served x) (ap stage is ∙ here))) (λ ne. ap (served x) (sym (else x ne))))))
            (λ x below ne is. alone p s o k id v me from to held x below ne (sym flag_same ∙ is)) (λ z. absurd (true_false (sym z ∙ unlost p s o k id v me from to held))) (λ z. absurd (true_false (sym held ∙ z)))
            (λ _. record {
              flag_is = flag_same ∙ h.flag_is;
              log_is = append-nil o.log ∙ h.log_is;
              takes = each_so _ _ (λ (a : Asked O) t. (t.0, t.1, else a.caller (λ is. taken_not_owed a.op e.op e.reply (sym t.2 ∙ (ap o.stage is ∙ owes.0.1))) ∙ t.2)) v.taken h.takes;
              takes_once = h.takes_once;
              takes_all = λ u op below is. dite (ℕ_discrete u j) (λ at. absurd (answered_taken e.op op e.reply (sym here ∙ (ap stage (sym at) ∙ is)))) (λ ne. h.takes_all u op below (sym (else u ne) ∙ is));
              owes = subst (AllByRecursion _) (sym rest_is) (others_owed es once.0 o.stage stage owes.1 else);
              owes_once = subst (AllPairs OfOthers) (sym rest_is) once.1;
              owes_all = λ u op r below is. dite (ℕ_discrete u j)
                  (λ at. absurd (answered_owed e.op op e.reply r (sym here ∙ (ap stage (sym at) ∙ is))))
                  (λ ne. subst (λ (l : List (Entry O R)). Contains l (entry u op r)) (sym rest_is) (tail_in e es (entry u op r) ne (subst (λ (l : List (Entry O R)). Contains l (entry u op r)) due (h.owes_all u op r below (sym (else u ne) ∙ is)))));
            }),
        refl,
      )
    where
      taken_not_owed : (a b : O) (r : R) → let x : Stage O R = taken a in x ≡ owed b r → ⊥
      taken_not_owed a b r e = cc

      answered_taken : (a b : O) (r : R) → let x : Stage O R = answered a r in x ≡ taken b → ⊥
      answered_taken a b r e = cc

      answered_owed : (a b : O) (r q : R) → let x : Stage O R = answered a r in x ≡ owed b q → ⊥
      answered_owed a b r q e = cc

      others_owed : (xs : List (Entry O R)) → AllByRecursion (λ (b : Entry O R). e.caller ≢ b.caller) xs → (before after : ℕ → Stage O R) → AllByRecursion (λ (b : Entry O R). (b.caller < p) × (before b.caller ≡ owed b.op b.reply)) xs
          → ((x : ℕ) → x ≢ e.caller → after x ≡ before x)
          → AllByRecursion (λ (b : Entry O R). (b.caller < p) × (after b.caller ≡ owed b.op b.reply)) xs
      others_owed [] a before after b else = tt
      others_owed (x ∷ xs) a before after b else = ((b.0.0, else x.caller (λ is. a.0 (sym is)) ∙ b.0.1), others_owed xs a.1 before after b.1 else)

  -- the holder gives the flag back
  pub releases : (p n id : ℕ) (v : View O R) (t : T) (rs : Vec R Global) (k : ℕ) → v.from ≡ k → v.to ≡ k + 1 → v.holds ≡ true → v.taken ≡ [] → v.owed ≡ [] → content t ≡ state_after object v.log
      → Allows (Keeps object content fails p) n id (v, (p, Whole t rs) ∷ []) p (λ _. 0) (λ _. Releases (step n p 0 0 none) (v, (p, Whole t rs) ∷ []) 0)
  releases p n id v t rs k from to held none_taken none_due content_is s o wide me fits =
      let h = hold p s o k id v me from to held in
      let slot : M.Option (Slot T O R) = some (Whole t rs) in
      let flag_now : get_or (set s.words p 0) p 0 ≡ 0 = let wide' = o.wide in get_or-set_same s.words p 0 0 (omega (arith, wide')) in
      let home : get_elem? (set s.homes p slot) p ≡ some slot = let slots = o.slots in set_here s.homes p slot (omega (arith, slots)) in
      let log_is : o.log ++ [] ≡ v.log = append-nil o.log ∙ h.log_is in (
        releasing v,
        gives,
        tt,
        held_step object content fails p s o k id v (releasing v) (set s.words p 0) (set s.homes p slot) [] o.stage me from to (alone p s o k id v me from to held) (sound p s o k id v me from to held)
            refl refl refl (λ x. refl) refl refl (length-set s.words p 0 ∙ o.wide) (length-set s.homes p slot ∙ o.slots)
            (λ u below. let ne : u ≢ p = λ e. absurd (omega (arith, e, below)) in
            (get_or-set_other s.words p u 0 0 ne ∙ (o.stages u below).0, subst (HomeIs (o.stage u)) (sym (set_else s.homes p u slot ne)) (o.stages u below).1))
            (subst (IsSerial object) (sym (append-nil o.log)) o.serial) tt (omega (arith, flag_now))
            (λ _. (t, rs, home, content_is ∙ ap (state_after object) (sym log_is)))
            (λ _ u below. all_free (o.stage u) (λ op is. none_in v.taken (ask u op) none_taken (h.takes_all u op below is)) (λ op r is. none_in v.owed (entry u op r) none_due (h.owes_all u op r below is)))
            (λ e. absurd (omega (arith, e, flag_now))) (λ e. absurd (omega (arith, e, flag_now)))
            (λ x below. refl) (λ x below m is. ap (calls_by x) (append-nil o.log) ∙ is) (λ x below ne is. absurd (omega (arith, is, flag_now)))
            (λ e. absurd (true_false (sym e ∙ unlost p s o k id v me from to held))) (λ _ is. absurd (omega (arith, is, flag_now))) (λ e. absurd (true_false (sym e))),
        refl,
      )

  -- the holder marks the structure as lost
  pub loses : (p n id : ℕ) (v : View O R) (xs : List (ℕ × Slot T O R)) (k : ℕ) → v.from ≡ k → v.to ≡ k + 1 → v.holds ≡ true → v.owed ≡ [] → IsLost object content fails v.log
      → Allows (Keeps object content fails p) n id (v, xs) p (λ _. p + 1) (λ _. Loses (step n p (p + 1) 0 none) (v, xs) (p + 1))
  loses p n id v xs k from to held none_due lost s o wide me fits =
      let h = hold p s o k id v me from to held in
      let m = my object content fails p s o k id v me from to in
      let less = m.0 in
      let flag_now : get_or (set s.words p (p + 1)) p 0 ≡ p + 1 = let wide' = o.wide in get_or-set_same s.words p (p + 1) 0 (omega (arith, wide')) in (
        losing v,
        keeps,
        tt,
        held_step object content fails p s o k id v (losing v) (set s.words p (p + 1)) s.homes [] o.stage me from to (alone p s o k id v me from to held) (sound p s o k id v me from to held)
            refl refl refl (λ x. refl) refl refl (length-set s.words p (p + 1) ∙ o.wide) o.slots
            (λ u below. let ne : u ≢ p = λ e. absurd (omega (arith, e, below)) in (get_or-set_other s.words p u (p + 1) 0 ne ∙ (o.stages u below).0, (o.stages u below).1))
            (subst (IsSerial object) (sym (append-nil o.log)) o.serial) tt (omega (arith, flag_now))
            (λ e. absurd (omega (arith, e, flag_now))) (λ e. absurd (omega (arith, e, flag_now)))
            (λ _ u op r below is. none_in v.owed (entry u op r) none_due (h.owes_all u op r below is)) (λ _. (subst (IsLost object content fails) (sym (append-nil o.log ∙ h.log_is)) lost, refl))
            (λ x below. refl) (λ x below m is. ap (calls_by x) (append-nil o.log) ∙ is) (λ x below ne is. absurd (omega (arith, is, flag_now, below)))
            (λ _. (flag_now, append-nil o.log ∙ h.log_is)) (λ _ is. absurd (omega (arith, is, flag_now, less))) (λ e. absurd (true_false (sym e))),
        refl,
      )
