-- A batch that was served in an order of its own.
use Rattle.std.proofs.Common.{◌≡◌, ◌≢◌, ℕ, zero, suc, ◌<◌, List, [], ◌∷◌, map, length, get_or, set, sym, refl, ap, ◌∙◌, subst, inl, inr, arith, cond, eqb, eq-eqb, ne_eqb}
use Rattle.std.specs.Prelude.{Contains, IsPermutation, zip, sum_by}
use Rattle.std.specs.List.{AllByRecursion, swap}
use Rattle.std.specs.List.Sorted.{apply_swaps, SwapsInRange}
use mathlib.Core.Logic.{dite}
use native.Mathlib.Decide.{ℕ_discrete}
use lib.ListN.{get_or-map, length-map}
use lib.Seq.{map-set}
use Rattle.std.proofs.lemmas.List.Sums.{sum_by-cons}
use Rattle.std.proofs.lemmas.List.Sorted.{sum_by-IsPermutation}
use Rattle.std.proofs.lemmas.List.Edits.{swap_is}
use Rattle.std.proofs.lemmas.List.Elements.{All-from_recursion, recursion_from_All}
use Rattle.std.proofs.lemmas.List.Sorted.{length_permutation, All-permutation}
use Rattle.shared_calls.specs.declared.view.Entry.{Entry}
use Rattle.shared_calls.specs.declared.view.Asked.{Asked}
use Rattle.shared_calls.specs.Serial.{SerialObject, replies_to_all, after_all, IsServedInSomeOrder}
use Rattle.shared_calls.specs.Logs.{entries_of, calls_by}
use Rattle.shared_calls.specs.Rule.{AllPairs, OfOthers}
use Rattle.shared_calls.proofs.Lists.{each_at, each_so, calls_here, calls_else, no_calls, find}

module _ {P X : Type 0} (f : P → X) where
  map_swap : (l : List P) (i j : ℕ) → i < length l → j < length l → map f (swap l i j) ≡ swap (map f l) i j
  map_swap [] i j p q = absurd (omega (arith, p))
  map_swap (d ∷ ds) i j p q =
      let l : List P = d ∷ ds in
      let long : length (map f l) ≡ length l = length-map l f in
      ap (map f) (sym (swap_is l i j d p q)) ∙ (map-set f (set l i (get_or l j d)) j (get_or l i d)
      ∙ (ap (λ us. set us j (f (get_or l i d))) (map-set f l i (get_or l j d) ∙ ap (set (map f l) i) (sym (get_or-map f l j d)))
      ∙ (ap (set (set (map f l) i (get_or (map f l) j (f d))) j) (sym (get_or-map f l i d)) ∙ swap_is (map f l) i j (f d) (omega (arith, long, p)) (omega (arith, long, q)))))

  -- an order of what a list shows is one of the list
  pub lifted : (ps : List P) (qs : List X) → IsPermutation (map f ps) qs → (rs : List P) × IsPermutation ps rs × (map f rs ≡ qs)
  lifted ps qs s =
      let t = through s.moves (subst (λ (n : ℕ). SwapsInRange n s.moves) (length-map ps f) s.below) in
      (apply_swaps ps s.moves, record { moves = s.moves; below = subst (λ (n : ℕ). SwapsInRange n s.moves) (length-map ps f) s.below; is = refl }, t ∙ sym s.is) where
        through : (ms : List (ℕ × ℕ)) → SwapsInRange (length ps) ms → map f (apply_swaps ps ms) ≡ apply_swaps (map f ps) ms
        through [] below = refl
        through (m ∷ ms) below =
            let long : length (apply_swaps ps ms) ≡ length ps = length_permutation ps (apply_swaps ps ms) record { moves = ms; below = below.2; is = refl } in
            let a = below.0 in let b = below.1 in
            map_swap (apply_swaps ps ms) m.0 m.1 (omega (arith, long, a)) (omega (arith, long, b)) ∙ ap (λ l. swap l m.0 m.1) (through ms below.2)

pub every_shuffled : {X : Type 0} (P : X → Type 0) (xs ys : List X) → IsPermutation xs ys → AllByRecursion P xs → AllByRecursion P ys
every_shuffled P xs ys s h = recursion_from_All P ys (All-permutation P xs ys s (All-from_recursion P xs h))

module _ {O R : Type 0} where
  pairs_of : (asked : List (Asked O)) (replies : List R) → map (λ (e : Entry O R). (e.op, e.reply)) (entries_of asked replies) ≡ zip (map (λ (a : Asked O). a.op) asked) replies
  pairs_of [] replies = refl
  pairs_of (a ∷ asked) [] = refl
  pairs_of (a ∷ asked) (r ∷ replies) = ap (λ l. (a.op, r) ∷ l) (pairs_of asked replies)

  -- the entries of a batch in the order in which it was served
  pub served_entries : (object : SerialObject O R) (before : object.State) (asked : List (Asked O)) (replies : List R) (after : object.State)
      → IsServedInSomeOrder object before (map (λ (a : Asked O). a.op) asked) replies after
      → (batch : List (Entry O R)) × IsPermutation (entries_of asked replies) batch
      × (map (λ (e : Entry O R). e.reply) batch ≡ replies_to_all object before (map (λ (e : Entry O R). e.op) batch))
      × (after ≡ after_all object before (map (λ (e : Entry O R). e.op) batch))
  served_entries object before asked replies after is =
      let t = lifted (λ (e : Entry O R). (e.op, e.reply)) (entries_of asked replies) is.served (subst (λ l. IsPermutation l is.served) (sym (pairs_of asked replies)) is.order) in
      let ops : map (λ (e : Entry O R). e.op) t.0 ≡ map (λ x. x.0) is.served = sym (twice (λ (e : Entry O R). (e.op, e.reply)) (λ x. x.0) t.0) ∙ ap (map (λ x. x.0)) t.2 in
      let rs : map (λ (e : Entry O R). e.reply) t.0 ≡ map (λ x. x.1) is.served = sym (twice (λ (e : Entry O R). (e.op, e.reply)) (λ x. x.1) t.0) ∙ ap (map (λ x. x.1)) t.2 in
      (t.0, t.1, rs ∙ (is.replies_are ∙ ap (replies_to_all object before) (sym ops)), is.after_is ∙ ap (after_all object before) (sym ops)) where
        twice : {A B C : Type 0} (f : A → B) (g : B → C) (xs : List A) → map g (map f xs) ≡ map (λ x. g (f x)) xs
        twice f g [] = refl
        twice f g (x ∷ xs) = ap (λ l. g (f x) ∷ l) (twice f g xs)

  one : ℕ → Entry O R → ℕ
  one x e = cond (eqb e.caller x) 1 0

  count : (x : ℕ) (es : List (Entry O R)) → length (calls_by x es) ≡ sum_by (one x) es
  unfolding one
  count x [] = refl
  count x (e ∷ es) = dite (ℕ_discrete e.caller x)
      (λ is.
      let a = ap (λ (l : List (Entry O R)). length l) (calls_here x e es is) in
      let b = count x es in
      let c = sum_by-cons (one x) e es in
      let d : one x e ≡ 1 = ap (λ b. cond b 1 0) (eq-eqb e.caller x is) in
      omega (arith, a, b, c, d))
      (λ ne.
      let a = ap (λ (l : List (Entry O R)). length l) (calls_else x e es ne) in
      let b = count x es in
      let c = sum_by-cons (one x) e es in
      let d : one x e ≡ 0 = ap (λ b. cond b 1 0) (ne_eqb e.caller x ne) in
      omega (arith, a, b, c, d))

  none_left : (es : List (Entry O R)) → length es ≡ 0 → es ≡ []
  none_left [] is = refl
  none_left (e ∷ es) is = absurd (omega (arith, is))

  only : (x : ℕ) (e : Entry O R) (es : List (Entry O R)) → AllByRecursion (λ (y : Entry O R). y.caller ≡ x → y ≡ e) es → length (calls_by x es) ≡ 1 → calls_by x es ≡ e ∷ []
  only x e [] h is = absurd (omega (arith, is))
  only x e (y ∷ es) h is = dite (ℕ_discrete y.caller x)
      (λ same.
      let a = ap (λ (l : List (Entry O R)). length l) (calls_here x y es same) in
      calls_here x y es same ∙ (ap (λ z. z ∷ calls_by x es) (h.0 same) ∙ ap (λ l. e ∷ l) (none_left (calls_by x es) (omega (arith, a, is)))))
      (λ ne. calls_else x y es ne ∙ only x e es h.1 (sym (ap (λ (l : List (Entry O R)). length l) (calls_else x y es ne)) ∙ is))

  unique : (es : List (Entry O R)) (e : Entry O R) → AllPairs OfOthers es → Contains es e → AllByRecursion (λ (y : Entry O R). y.caller ≡ e.caller → y ≡ e) es × (calls_by e.caller es ≡ e ∷ [])
  unique es e once c = at es c.0 c.1 c.2 once where
    at : (ys : List (Entry O R)) (k : ℕ) → k < length ys → get_or ys k e ≡ e → AllPairs OfOthers ys → AllByRecursion (λ (y : Entry O R). y.caller ≡ e.caller → y ≡ e) ys × (calls_by e.caller ys ≡ e ∷ [])
    at [] k less is once = absurd (omega (arith, less))
    at (y ∷ ys) zero less is once = (
      ((λ _. is), each_so (OfOthers y) (λ (z : Entry O R). z.caller ≡ e.caller → z ≡ e) (λ (z : Entry O R) ne same. absurd (ne (ap (λ (w : Entry O R). w.caller) is ∙ sym same))) ys once.0),
      calls_here e.caller y ys (ap (λ (w : Entry O R). w.caller) is) ∙ (ap (λ z. z ∷ calls_by e.caller ys) is
          ∙ ap (λ l. e ∷ l) (no_calls ys e.caller (subst (λ (j : ℕ). AllByRecursion (λ (b : Entry O R). j ≢ b.caller) ys) (ap (λ (w : Entry O R). w.caller) is) once.0))),
    )
    at (y ∷ ys) (suc k) less is once =
        let r = at ys k (omega (arith, less)) is once.1 in
        let ne : y.caller ≢ e.caller = each_at (λ (b : Entry O R). y.caller ≢ b.caller) ys e (k, omega (arith, less), is) once.0 in
        (((λ same. absurd (ne same)), r.0), calls_else e.caller y ys ne ∙ r.1)

  -- an order of its own changes no caller's calls, of which a batch has one at most
  pub same_calls : (es batch : List (Entry O R)) (x : ℕ) → AllPairs OfOthers es → IsPermutation es batch → calls_by x batch ≡ calls_by x es
  same_calls es batch x once s = elim (find es x) [
    | inl f ↦
        let e = f.0 in
        let u = unique es e once f.1.1 in
        let each : AllByRecursion (λ (y : Entry O R). y.caller ≡ x → y ≡ e) batch = every_shuffled _ es batch s (subst (λ (j : ℕ). AllByRecursion (λ (y : Entry O R). y.caller ≡ j → y ≡ e) es) f.1.0 u.0) in
        let mine : calls_by x es ≡ e ∷ [] = subst (λ (j : ℕ). calls_by j es ≡ e ∷ []) f.1.0 u.1 in
        let a = count x batch in
        let b = count x es in
        let c = sum_by-IsPermutation (one x) es batch s in
        let d = ap (λ (l : List (Entry O R)). length l) mine in
        only x e batch each (omega (arith, a, b, c, d)) ∙ sym mine
    | inr far ↦
        let none_of : (l : List (Entry O R)) → AllByRecursion (λ (y : Entry O R). y.caller ≢ x) l → calls_by x l ≡ [] = λ l h. no_calls l x (each_so (λ (y : Entry O R). y.caller ≢ x) (λ (y : Entry O R). x ≢ y.caller) (λ (y : Entry O R) ne is. ne (sym is)) l h) in
        none_of batch (every_shuffled _ es batch s far) ∙ sym (none_of es far)
  ]
