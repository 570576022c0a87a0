-- Lists of calls, and what a batch adds to them.
use Rattle.std.proofs.Common.{append_assoc, append-nil, ◌≡◌, ◌≢◌, ◌⊎◌, ℕ, zero, suc, ◌+◌, ◌<◌, ◌≤◌, List, [], ◌∷◌, ◌++◌, map, length, get_or, Bool, true, false, cond, eqb, ◌==◌, if◌then◌else◌, sym, refl, ap, ◌∙◌, subst, inl, inr, arith, eq-eqb, ne_eqb}
use Rattle.std.specs.Prelude.{Contains}
use Rattle.std.specs.List.{AllByRecursion}
use mathlib.Core.Logic.{dite}
use native.Mathlib.Decide.{ℕ_discrete}
use Rattle.shared_calls.specs.declared.view.Entry.{Entry}
use Rattle.shared_calls.specs.declared.view.Asked.{Asked}
use Rattle.shared_calls.specs.Serial.{SerialObject, after_all, replies_to_all}
use Rattle.shared_calls.specs.Logs.{entry, entries_of, calls_by, StartsWith, state_after, IsSerial}
use Rattle.shared_calls.specs.Stages.{Stage, taken, owed, served}
use Rattle.shared_calls.specs.Rule.{AllPairs, OfOthers}

pub put : {X : Type 0} → (ℕ → X) → ℕ → X → ℕ → X
put f k x u = cond (eqb u k) x (f u)

pub put_here : {X : Type 0} (f : ℕ → X) (k u : ℕ) (x : X) → u ≡ k → put f k x u ≡ x
unfolding put
put_here f k u x is = ap (λ b. cond b x (f u)) (eq-eqb u k is)

pub put_else : {X : Type 0} (f : ℕ → X) (k u : ℕ) (x : X) → u ≢ k → put f k x u ≡ f u
unfolding put
put_else f k u x ne = ap (λ b. cond b x (f u)) (ne_eqb u k ne)

pub each_so : {X : Type 0} (P Q : X → Type 0) → ((x : X) → P x → Q x) → (xs : List X) → AllByRecursion P xs → AllByRecursion Q xs
each_so P Q f [] h = tt
each_so P Q f (x ∷ xs) h = (f x h.0, each_so P Q f xs h.1)

pub each_push : {X : Type 0} (P : X → Type 0) (xs : List X) (x : X) → AllByRecursion P xs → P x → AllByRecursion P (xs ++ x ∷ [])
each_push P [] x h g = (g, tt)
each_push P (y ∷ xs) x h g = (h.0, each_push P xs x h.1 g)

pub each_append : {X : Type 0} (P : X → Type 0) (xs ys : List X) → AllByRecursion P xs → AllByRecursion P ys → AllByRecursion P (xs ++ ys)
each_append P [] ys h g = g
each_append P (x ∷ xs) ys h g = (h.0, each_append P xs ys h.1 g)

pub pairs_push : {X : Type 0} (R : X → X → Type 0) (xs : List X) (x : X) → AllPairs R xs → AllByRecursion (λ y. R y x) xs → AllPairs R (xs ++ x ∷ [])
pairs_push R [] x h g = (tt, tt)
pairs_push R (y ∷ xs) x h g = (each_push (R y) xs x h.0 g.0, pairs_push R xs x h.1 g.1)

pub each_at : {X : Type 0} (P : X → Type 0) (xs : List X) (x : X) → Contains xs x → AllByRecursion P xs → P x
each_at P xs x c h = at xs c.0 c.1 c.2 h where
  at : (ys : List _) (k : ℕ) → k < length ys → get_or ys k x ≡ x → AllByRecursion P ys → P x
  at [] k less is h = absurd (omega (arith, less))
  at (y ∷ ys) zero less is h = subst P is h.0
  at (y ∷ ys) (suc k) less is h = at ys k (omega (arith, less)) is h.1

pub none_in : {X : Type 0} (xs : List X) (x : X) → xs ≡ [] → Contains xs x → ⊥
none_in [] x is c = let less = c.1 in absurd (omega (arith, less))
none_in (y ∷ xs) x is c = cc

pub there_push : {X : Type 0} (xs : List X) (x y : X) → Contains xs x → Contains (xs ++ y ∷ []) x
there_push xs x y c = at xs c.0 c.1 c.2 where
  at : (ys : List _) (k : ℕ) → k < length ys → get_or ys k x ≡ x → Contains (ys ++ y ∷ []) x
  at [] k less is = absurd (omega (arith, less))
  at (z ∷ ys) zero less is = (0, omega arith, is)
  at (z ∷ ys) (suc k) less is = let h = at ys k (omega (arith, less)) is in let l = h.1 in (suc h.0, omega (arith, l), h.2)

pub last_there : {X : Type 0} (xs : List X) (y : X) → Contains (xs ++ y ∷ []) y
last_there [] y = (0, omega arith, refl)
last_there (x ∷ xs) y = let h = last_there xs y in let l = h.1 in (suc h.0, omega (arith, l), h.2)

pub cancel : {X : Type 0} (xs ys zs : List X) → xs ++ ys ≡ xs ++ zs → ys ≡ zs
cancel [] ys zs is = is
cancel (x ∷ xs) ys zs is = cancel xs ys zs (ap (λ l. Rattle.std.proofs.Common.drop 1 l) is)

pub map_append : {X Y : Type 0} (f : X → Y) (xs ys : List X) → map f (xs ++ ys) ≡ map f xs ++ map f ys
map_append f [] ys = refl
map_append f (x ∷ xs) ys = ap (λ l. f x ∷ l) (map_append f xs ys)

module _ {O R : Type 0} where
  by_test : (b : Bool) (e : Entry O R) (whole xs ys : List (Entry O R)) → whole ≡ xs ++ ys → (if b then e ∷ whole else whole) ≡ (if b then e ∷ xs else xs) ++ ys
  by_test true e whole xs ys is = ap (λ l. e ∷ l) is
  by_test false e whole xs ys is = is

  pub calls_append : (w : ℕ) (xs ys : List (Entry O R)) → calls_by w (xs ++ ys) ≡ calls_by w xs ++ calls_by w ys
  calls_append w [] ys = refl
  calls_append w (e ∷ xs) ys = by_test (e.caller == w) e (calls_by w (xs ++ ys)) (calls_by w xs) (calls_by w ys) (calls_append w xs ys)

  pub calls_here : (w : ℕ) (e : Entry O R) (es : List (Entry O R)) → e.caller ≡ w → calls_by w (e ∷ es) ≡ e ∷ calls_by w es
  calls_here w e es is = ap (λ b. if b then e ∷ calls_by w es else calls_by w es) (eq-eqb e.caller w is)

  pub calls_else : (w : ℕ) (e : Entry O R) (es : List (Entry O R)) → e.caller ≢ w → calls_by w (e ∷ es) ≡ calls_by w es
  calls_else w e es ne = ap (λ b. if b then e ∷ calls_by w es else calls_by w es) (ne_eqb e.caller w ne)

  pub starts_more : (log more front : List (Entry O R)) → StartsWith log front → StartsWith (log ++ more) front
  starts_more log more front is = (is.0 ++ more, ap (λ l. l ++ more) is.1 ∙ append_assoc front is.0 more)

  -- what came since, of one caller, where all calls and those before are known
  pub calls_since : (w : ℕ) (log seen more made own : List (Entry O R)) → log ≡ seen ++ more → calls_by w log ≡ made ++ own → calls_by w seen ≡ made → calls_by w more ≡ own
  calls_since w log seen more made own is all before =
      cancel made (calls_by w more) own (ap (λ l. l ++ calls_by w more) (sym before) ∙ (sym (calls_append w seen more) ∙ (ap (calls_by w) (sym is) ∙ all)))

  -- the entries of what was asked
  pub entries_each : (P : ℕ → O → Type 0) (asked : List (Asked O)) (replies : List R) → AllByRecursion (λ (a : Asked O). P a.caller a.op) asked
      → AllByRecursion (λ (e : Entry O R). P e.caller e.op) (entries_of asked replies)
  entries_each P [] replies h = tt
  entries_each P (a ∷ asked) [] h = tt
  entries_each P (a ∷ asked) (r ∷ replies) h = (h.0, entries_each P asked replies h.1)

  pub entries_pairs : (asked : List (Asked O)) (replies : List R) → AllPairs (λ (a b : Asked O). a.caller ≢ b.caller) asked
      → AllPairs OfOthers (entries_of asked replies)
  entries_pairs [] replies h = tt
  entries_pairs (a ∷ asked) [] h = tt
  entries_pairs (a ∷ asked) (r ∷ replies) h = (entries_each (λ c op. a.caller ≢ c) asked replies h.0, entries_pairs asked replies h.1)

  pub entries_far : (u : ℕ) (asked : List (Asked O)) (replies : List R) → length replies ≡ length asked
      → AllByRecursion (λ (e : Entry O R). e.caller ≢ u) (entries_of asked replies) → AllByRecursion (λ (a : Asked O). a.caller ≢ u) asked
  entries_far u [] replies same h = tt
  entries_far u (a ∷ asked) [] same h = absurd (omega (arith, same))
  entries_far u (a ∷ asked) (r ∷ replies) same h = (h.0, entries_far u asked replies (omega (arith, same)) h.1)

  pub entries_ops : (asked : List (Asked O)) (replies : List R) → length replies ≡ length asked
      → map (λ (e : Entry O R). e.op) (entries_of asked replies) ≡ map (λ (a : Asked O). a.op) asked
  entries_ops [] replies same = refl
  entries_ops (a ∷ asked) [] same = absurd (omega (arith, same))
  entries_ops (a ∷ asked) (r ∷ replies) same = ap (λ l. a.op ∷ l) (entries_ops asked replies (omega (arith, same)))

  pub entries_replies : (asked : List (Asked O)) (replies : List R) → length replies ≡ length asked
      → map (λ (e : Entry O R). e.reply) (entries_of asked replies) ≡ replies
  entries_replies [] [] same = refl
  entries_replies [] (r ∷ replies) same = absurd (omega (arith, same))
  entries_replies (a ∷ asked) [] same = absurd (omega (arith, same))
  entries_replies (a ∷ asked) (r ∷ replies) same = ap (λ l. r ∷ l) (entries_replies asked replies (omega (arith, same)))

  pub entries_callers : (asked : List (Asked O)) (replies : List R) → length replies ≡ length asked
      → map (λ (e : Entry O R). e.caller) (entries_of asked replies) ≡ map (λ (a : Asked O). a.caller) asked
  entries_callers [] replies same = refl
  entries_callers (a ∷ asked) [] same = absurd (omega (arith, same))
  entries_callers (a ∷ asked) (r ∷ replies) same = ap (λ l. a.caller ∷ l) (entries_callers asked replies (omega (arith, same)))

  -- the stages after a batch
  pub after_batch : List (Entry O R) → (ℕ → Stage O R) → ℕ → Stage O R
  after_batch [] f u = f u
  after_batch (e ∷ es) f u = cond (eqb u e.caller) (owed e.op e.reply) (after_batch es f u)

  batch_here : (e : Entry O R) (es : List (Entry O R)) (f : ℕ → Stage O R) (u : ℕ) → u ≡ e.caller → after_batch (e ∷ es) f u ≡ owed e.op e.reply
  unfolding after_batch
  batch_here e es f u is = ap (λ b. cond b (owed e.op e.reply) (after_batch es f u)) (eq-eqb u e.caller is)

  batch_else : (e : Entry O R) (es : List (Entry O R)) (f : ℕ → Stage O R) (u : ℕ) → u ≢ e.caller → after_batch (e ∷ es) f u ≡ after_batch es f u
  unfolding after_batch
  batch_else e es f u ne = ap (λ b. cond b (owed e.op e.reply) (after_batch es f u)) (ne_eqb u e.caller ne)

  pub batch_far : (es : List (Entry O R)) (f : ℕ → Stage O R) (u : ℕ) → AllByRecursion (λ (e : Entry O R). e.caller ≢ u) es → after_batch es f u ≡ f u
  unfolding after_batch
  batch_far [] f u h = refl
  batch_far (e ∷ es) f u h = batch_else e es f u (λ is. h.0 (sym is)) ∙ batch_far es f u h.1

  -- each call of a batch is owed
  pub batch_each : (es : List (Entry O R)) (f : ℕ → Stage O R) → AllPairs OfOthers es
      → AllByRecursion (λ (e : Entry O R). after_batch es f e.caller ≡ owed e.op e.reply) es
  batch_each [] f h = tt
  batch_each (e ∷ es) f h = (batch_here e es f e.caller refl, both es h.0 (batch_each es f h.1)) where
    both : (xs : List (Entry O R)) → AllByRecursion (λ (b : Entry O R). e.caller ≢ b.caller) xs → AllByRecursion (λ (b : Entry O R). after_batch es f b.caller ≡ owed b.op b.reply) xs
        → AllByRecursion (λ (b : Entry O R). after_batch (e ∷ es) f b.caller ≡ owed b.op b.reply) xs
    both [] a b = tt
    both (x ∷ xs) a b = (batch_else e es f x.caller (λ is. a.0 (sym is)) ∙ b.0, both xs a.1 b.1)

  -- a caller is of an entry of the batch, or of none
  pub find : (es : List (Entry O R)) (u : ℕ) → ((e : Entry O R) × ((e.caller ≡ u) × Contains es e)) ⊎ AllByRecursion (λ (e : Entry O R). e.caller ≢ u) es
  find [] u = inr tt
  find (e ∷ es) u = dite (ℕ_discrete e.caller u)
      (λ is. inl (e, (is, (0, omega arith, refl))))
      (λ ne. elim (find es u) [
        | inl h ↦ inl (h.0, (h.1.0, (suc h.1.1.0, (let less = h.1.1.1 in omega (arith, less)), h.1.1.2)))
        | inr h ↦ inr (ne, h)
      ])

  pub no_calls : (xs : List (Entry O R)) (u : ℕ) → AllByRecursion (λ (b : Entry O R). u ≢ b.caller) xs → calls_by u xs ≡ []
  no_calls [] u h = refl
  no_calls (b ∷ xs) u h = calls_else u b xs (λ is. h.0 (sym is)) ∙ no_calls xs u h.1

  -- what a batch adds to a caller's calls: the call that it has taken
  pub batch_adds : (es : List (Entry O R)) (stage : ℕ → Stage O R) (x : ℕ) → AllByRecursion (λ (e : Entry O R). stage e.caller ≡ taken e.op) es
      → AllPairs OfOthers es → served x (stage x) ++ calls_by x es ≡ served x (after_batch es stage x)
  unfolding after_batch
  batch_adds [] stage x each once = append-nil (served x (stage x))
  batch_adds (e ∷ es) stage x each once = dite (ℕ_discrete x e.caller)
      (λ is.
      let none : served x (stage x) ≡ [] = ap (served x) (ap stage is ∙ each.0) in
      let rest : calls_by x es ≡ [] = no_calls es x (subst (λ u. AllByRecursion (λ (b : Entry O R). u ≢ b.caller) es) (sym is) once.0) in
      let b : calls_by x (e ∷ es) ≡ e ∷ [] = calls_here x e es (sym is) ∙ ap (λ l. e ∷ l) rest in
      let c : served x (after_batch (e ∷ es) stage x) ≡ entry x e.op e.reply ∷ [] = ap (served x) (batch_here e es stage x is) in
      ap (λ l. l ++ calls_by x (e ∷ es)) none ∙ (b ∙ (ap (λ u. entry u e.op e.reply ∷ []) (sym is) ∙ sym c)))
      (λ ne.
      ap (λ l. served x (stage x) ++ l) (calls_else x e es (λ is. ne (sym is))) ∙ (batch_adds es stage x each.1 once.1
      ∙ ap (served x) (sym (batch_else e es stage x ne))))

  module _ (object : SerialObject O R) where
    pub after_append : (s : object.State) (xs ys : List O) → after_all object s (xs ++ ys) ≡ after_all object (after_all object s xs) ys
    after_append s [] ys = refl
    after_append s (x ∷ xs) ys = after_append (object.after s x) xs ys

    replies_append : (s : object.State) (xs ys : List O) → replies_to_all object s (xs ++ ys) ≡ replies_to_all object s xs ++ replies_to_all object (after_all object s xs) ys
    replies_append s [] ys = refl
    replies_append s (x ∷ xs) ys = ap (λ l. object.reply s x ∷ l) (replies_append (object.after s x) xs ys)

    pub replies_length : (s : object.State) (xs : List O) → length (replies_to_all object s xs) ≡ length xs
    replies_length s [] = refl
    replies_length s (x ∷ xs) = ap suc (replies_length (object.after s x) xs)

    -- calls that the object serves keep the list serial
    pub batch_serial : (log batch : List (Entry O R)) → IsSerial object log
        → map (λ (e : Entry O R). e.reply) batch ≡ replies_to_all object (state_after object log) (map (λ (e : Entry O R). e.op) batch)
        → IsSerial object (log ++ batch)
    batch_serial log batch serial are =
        let op : Entry O R → O = λ e. e.op in
        let reply : Entry O R → R = λ e. e.reply in
        map_append reply log batch ∙ (ap (λ l. map reply log ++ l) are
        ∙ (ap (λ l. l ++ replies_to_all object (state_after object log) (map op batch)) serial
        ∙ (sym (replies_append object.opening (map op log) (map op batch)) ∙ ap (replies_to_all object object.opening) (sym (map_append op log batch)))))

    pub batch_state : (log batch : List (Entry O R))
        → state_after object (log ++ batch) ≡ after_all object (state_after object log) (map (λ (e : Entry O R). e.op) batch)
    batch_state log batch =
        let op : Entry O R → O = λ e. e.op in
        ap (after_all object object.opening) (map_append op log batch) ∙ after_append object.opening (map op log) (map op batch)
