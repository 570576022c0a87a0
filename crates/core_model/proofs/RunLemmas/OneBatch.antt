-- The calls that are taken make one batch only, and so an event makes one state only of a state.
use Rattle.std.proofs.Common.{ℕ, ◌≡◌, ◌≢◌, ◌⊎◌, true, List, [], ◌∷◌, ◌++◌, map, refl, inl, inr, subst, sym, ◌∙◌, ap}
use Rattle.std.specs.Prelude.{Contains}
use Rattle.std.specs.List.{AllByRecursion}
use Rattle.seq_objects.specs.Stores.{Store, store_after, store_reply}
use Rattle.seq_objects.specs.BatchOrder.{ComesFirst}
use Rattle.core_model.proofs.Words.{Op, Entry, Event, Publish, CoreJob, State}
use Rattle.seq_objects.specs.Pairs.{AllPairsByRecursion, AreDistinct}
use Rattle.batch_history.specs.Book.{IsLegalFrom}
use Rattle.core_model.specs.Serving.{served}
use Rattle.core_model.specs.Events.{has_taken, IsTakenCall, IsBatchOf, published, Does}
use Rattle.seq_objects.proofs.CallOrder.{one_way}
use Rattle.seq_objects.proofs.Elements.{each_so, each_both, each_at}

-- an entry of the list has this worker
abbrev HasWorker : List Entry → ℕ → Type 0
HasWorker [] w = ⊥
HasWorker (x ∷ xs) w = (x.worker ≡ w) ⊎ HasWorker xs w

workers_had : (xs : List Entry) → AllByRecursion (HasWorker xs) (map (λ (e : Entry). e.worker) xs)
workers_had [] = tt
workers_had (x ∷ xs) = (inl refl, each_so (HasWorker xs) (HasWorker (x ∷ xs)) (λ w h. inr h) (map (λ (e : Entry). e.worker) xs) (workers_had xs))

contains_had : (xs : List Entry) (w : ℕ) → Contains (map (λ (e : Entry). e.worker) xs) w → HasWorker xs w
contains_had xs w h = each_at (HasWorker xs) (map (λ (e : Entry). e.worker) xs) w (workers_had xs) h

-- what holds of all entries holds of the one with this worker
find : (P : Entry → Type 0) (xs : List Entry) (w : ℕ) → AllByRecursion P xs → HasWorker xs w → (e : Entry) × (e.worker ≡ w) × P e
find P [] w all h = absurd h
find P (x ∷ xs) w all (inl e) = (x, e, all.0)
find P (x ∷ xs) w all (inr h) = find P xs w all.1 h

unmapped : (P : ℕ → Type 0) (xs : List Entry) → AllByRecursion P (map (λ (e : Entry). e.worker) xs) → AllByRecursion (λ (e : Entry). P e.worker) xs
unmapped P [] h = tt
unmapped P (x ∷ xs) h = (h.0, unmapped P xs h.1)

entry_same : (a b : Entry) → a.worker ≡ b.worker → a.leaf ≡ b.leaf → a.op ≡ b.op → a.reply ≡ b.reply → a ≡ b
entry_same a b w l o r = λ i. record { worker = w i; leaf = l i; op = o i; reply = r i }

abbrev IsFirst : Entry → Entry → Type 0
IsFirst a b = ComesFirst a.op a.worker b.op b.worker

-- lists of entries in which the worker determines the leaf and the operation
module _ (P : Entry → Type 0) (tells : (a b : Entry) → P a → P b → a.worker ≡ b.worker → (a.leaf ≡ b.leaf) × (a.op ≡ b.op)) where
  first_or : (x y : Entry) (ys : List Entry) → P x → AllByRecursion P ys → AllByRecursion (IsFirst y) ys → HasWorker (y ∷ ys) x.worker → (x.worker ≡ y.worker) ⊎ IsFirst y x
  first_or x y ys is all later (inl e) = inl (sym e)
  first_or x y ys is all later (inr h) =
      let found = find (λ (e : Entry). P e × IsFirst y e) ys x.worker (each_both P (IsFirst y) ys all later) h in
      let op : found.0.op ≡ x.op = (tells found.0 x found.2.0 is found.1).1 in
      inr (subst (λ (o : Op). ComesFirst y.op y.worker o x.worker) op (subst (λ (v : ℕ). ComesFirst y.op y.worker found.0.op v) found.1 found.2.1))

  heads_same : (x y : Entry) (xs ys : List Entry) → P x → P y → AllByRecursion P xs → AllByRecursion P ys → AllByRecursion (IsFirst x) xs → AllByRecursion (IsFirst y) ys
      → HasWorker (x ∷ xs) y.worker → HasWorker (y ∷ ys) x.worker → x.worker ≡ y.worker
  heads_same x y xs ys p q all_x all_y later_x later_y in_x in_y = elim (first_or x y ys p all_y later_y in_y) [
    | inl e ↦ e
    | inr before ↦ elim (first_or y x xs q all_x later_x in_x) [
      | inl e ↦ sym e
      | inr after ↦ absurd (one_way y.op x.op y.worker x.worker before after)
    ]
  ]

  -- a list whose entries have these workers, in batch order
  record Ordered (Q : ℕ → Type 0) (store : Store) (xs : List Entry) : Type 0 where
    calls : AllByRecursion P xs
    only : AllByRecursion (λ (e : Entry). Q e.worker) xs
    each : (w : ℕ) → Q w → HasWorker xs w
    order : AllPairsByRecursion (λ (a b : Entry). IsFirst a b) xs
    workers : AreDistinct (map (λ (e : Entry). e.worker) xs)
    legal : IsLegalFrom store xs

  tail_each : (Q : ℕ → Type 0) (x : Entry) (xs : List Entry) → ((w : ℕ) → Q w → HasWorker (x ∷ xs) w) → (w : ℕ) → Q w × (x.worker ≢ w) → HasWorker xs w
  tail_each Q x xs each w q = elim (each w q.0) [ inl e ↦ absurd (q.1 e) | inr h ↦ h ]

  tail : (Q : ℕ → Type 0) (store : Store) (x : Entry) (xs : List Entry) → Ordered Q store (x ∷ xs) → Ordered (λ w. Q w × (x.worker ≢ w)) (store_after store x.op) xs
  tail Q store x xs h = record {
    calls = h.calls.1;
    only = each_both (λ (e : Entry). Q e.worker) (λ (e : Entry). x.worker ≢ e.worker) xs h.only.1 (unmapped (λ w. x.worker ≢ w) xs h.workers.0);
    each = tail_each Q x xs h.each;
    order = h.order.1;
    workers = h.workers.1;
    legal = h.legal.1;
  }

  one_order : (Q : ℕ → Type 0) (store : Store) (xs ys : List Entry) → Ordered Q store xs → Ordered Q store ys → xs ≡ ys
  one_order Q store [] [] h g = refl
  one_order Q store [] (y ∷ ys) h g = absurd (h.each y.worker g.only.0)
  one_order Q store (x ∷ xs) [] h g = absurd (g.each x.worker h.only.0)
  one_order Q store (x ∷ xs) (y ∷ ys) h g =
      let worker : x.worker ≡ y.worker = heads_same x y xs ys h.calls.0 g.calls.0 h.calls.1 g.calls.1 h.order.0 g.order.0 (h.each y.worker g.only.0) (g.each x.worker h.only.0) in
      let told = tells x y h.calls.0 g.calls.0 worker in
      let reply : x.reply ≡ y.reply = h.legal.0 ∙ (ap (store_reply store) told.1 ∙ sym g.legal.0) in
      let head : x ≡ y = entry_same x y worker told.0 told.1 reply in
      let rest = tail Q store y ys g in
      let more : Ordered (λ w. Q w × (x.worker ≢ w)) (store_after store x.op) ys = subst (λ (z : Entry). Ordered (λ w. Q w × (z.worker ≢ w)) (store_after store z.op) ys) (sym head) rest in
      let same : xs ≡ ys = one_order (λ w. Q w × (x.worker ≢ w)) (store_after store x.op) xs ys (tail Q store x xs h) more in
      λ i. head i ∷ same i

-- the worker of a taken call determines its leaf and its operation
taken_tells : (job : CoreJob) (s : State) (a b : Entry) → IsTakenCall job s a → IsTakenCall job s b → a.worker ≡ b.worker → (a.leaf ≡ b.leaf) × (a.op ≡ b.op)
taken_tells job s a b p q same =
    let task = p.started.2 in
    let task' = q.started.2 in
    let kind = p.started.0 in
    let kind' = q.started.0 in
    let node : p.node ≡ q.node = cc in
    let leaf : a.leaf ≡ b.leaf = cc in
    let op = p.operation in
    let op' = q.operation in
    (leaf, cc)

ordered : (job : CoreJob) (s : State) (batch : List Entry) → IsBatchOf job s batch → Ordered (IsTakenCall job s) (taken_tells job s) (λ w. has_taken s.hold w ≡ true) s.objects batch
ordered job s batch h = record {
  calls = h.only;
  only = each_so (IsTakenCall job s) (λ (e : Entry). has_taken s.hold e.worker ≡ true) (λ e is. is.taken) batch h.only;
  each = λ w took. contains_had batch w (h.each w took);
  order = h.is_batch.order;
  workers = h.is_batch.workers;
  legal = h.replies;
}

-- the calls that are taken make one batch
pub one_batch : (job : CoreJob) (s : State) (a b : List Entry) → IsBatchOf job s a → IsBatchOf job s b → a ≡ b
one_batch job s a b h g = one_order (IsTakenCall job s) (taken_tells job s) (λ w. has_taken s.hold w ≡ true) s.objects a b (ordered job s a h) (ordered job s b g)

abbrev published_state : State → List Entry → State
published_state s batch = record s { book = s.book ++ batch ∷ []; objects = served s.objects batch; hold = published s.hold }

-- an event makes one state of a state
pub one_state : (job : CoreJob) (s : State) (w : ℕ) (event : Event) (a b : State) → Does job s w event a → Does job s w event b → a ≡ b
one_state job s w Publish a b h g = h.2 ∙ (ap (published_state s) (one_batch job s h.0 g.0 h.1 g.1) ∙ sym g.2)
one_state job s w _ a b h g = h ∙ sym g
