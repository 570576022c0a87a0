-- A batch that one serial object serves is served by another one, whose operations, replies and states stand for those of the
-- first.
use Rattle.std.proofs.Common.{◌≡◌, ℕ, zero, suc, ◌<◌, List, [], ◌∷◌, length, map, get_or, refl, sym, ap, ◌∙◌, subst, arith}
use Rattle.std.specs.Prelude.{zip, IsPermutation}
use Rattle.std.specs.List.{swap}
use Rattle.std.proofs.Math.ListN.{set}
use Rattle.std.proofs.lemmas.List.{map-set, length-map}
use Rattle.std.proofs.lemmas.List.Sorted.{IsPermutation-refl, IsPermutation-swap, IsPermutation-trans, IsPermutation-keeps, IsPermutation-map}
use Rattle.shared_calls.specs.Serial.{SerialObject, after_all, replies_to_all, IsServedInSomeOrder}

mapped_at : {X Y : Type 0} (f : X → Y) (xs : List X) (k : ℕ) (d : X) → get_or (map f xs) k (f d) ≡ f (get_or xs k d)
mapped_at f [] k d = refl
mapped_at f (x ∷ xs) zero d = refl
mapped_at f (x ∷ xs) (suc k) d = mapped_at f xs k d

swap_mapped : {X Y : Type 0} (f : X → Y) (xs : List X) (i j : ℕ) → swap (map f xs) i j ≡ map f (swap xs i j)
swap_mapped f [] i j = refl
swap_mapped f (x ∷ xs) i j =
    let l = x ∷ xs in
    let a = get_or l j x in
    let b = get_or l i x in
    let first : set (map f l) i (get_or (map f l) j (f x)) ≡ map f (set l i a) =
    ap (λ y. set (map f l) i y) (mapped_at f l j x) ∙ sym (map-set f l i a) in
    ap (λ y. set (set (map f l) i (get_or (map f l) j (f x))) j y) (mapped_at f l i x)
    ∙ (ap (λ m. set m j (f b)) first ∙ sym (map-set f (set l i a) j b))

-- where the image of a list is mixed, the list is mixed so
abbrev Mixes : {X Y : Type 0} → (X → Y) → List X → List Y → Type 0
Mixes {X} f xs ys = (zs : List X) × IsPermutation xs zs × (ys ≡ map f zs)

mixes : {X Y : Type 0} (f : X → Y) (xs : List X) (ys : List Y) → IsPermutation (map f xs) ys → Mixes f xs ys
mixes f xs ys mixed =
    IsPermutation-keeps (map f xs) (Mixes f xs) (xs, IsPermutation-refl xs, refl)
    (λ l i j near far mixed_so.
    let zs : List _ = mixed_so.0 in
    let long : length l ≡ length zs = ap length mixed_so.2 ∙ length-map zs f in
    let first : i < length zs = omega (arith, near, long) in
    let second : j < length zs = omega (arith, far, long) in (
      swap zs i j,
      IsPermutation-trans xs zs (swap zs i j) mixed_so.1 (IsPermutation-swap zs (swap zs i j) i j first second refl),
      ap (λ m. swap m i j) mixed_so.2 ∙ swap_mapped f zs i j,
    ))
    ys mixed

module _ {P Q O R : Type 0} (own : SerialObject P Q) (whole : SerialObject O R) (op : P → O) (answer : R → Q)
    (state : own.State → whole.State) (back : whole.State → own.State) (returns : (s : own.State) → back (state s) ≡ s)
    (steps : (s : own.State) (p : P) → whole.after (state s) (op p) ≡ state (own.after s p))
    (replies : (s : own.State) (p : P) → answer (whole.reply (state s) (op p)) ≡ own.reply s p) where
  same_after : (s : own.State) (ps : List P) → after_all whole (state s) (map op ps) ≡ state (after_all own s ps)
  same_after s [] = refl
  same_after s (p ∷ ps) = ap (λ t. after_all whole t (map op ps)) (steps s p) ∙ same_after (own.after s p) ps

  same_replies : (s : own.State) (ps : List P) → map answer (replies_to_all whole (state s) (map op ps)) ≡ replies_to_all own s ps
  same_replies s [] = refl
  same_replies s (p ∷ ps) =
      let later = λ (t : whole.State). map answer (replies_to_all whole t (map op ps)) in
      ap (λ q. q ∷ later (whole.after (state s) (op p))) (replies s p)
      ∙ ap (λ l. own.reply s p ∷ l) (ap later (steps s p) ∙ same_replies (own.after s p) ps)

  abbrev as_asked : P × R → O × R
  as_asked x = (op x.0, x.1)

  abbrev as_answered : P × R → P × Q
  as_answered x = (x.0, answer x.1)

  asked_zip : (ps : List P) (rs : List R) → zip (map op ps) rs ≡ map as_asked (zip ps rs)
  asked_zip [] rs = refl
  asked_zip (p ∷ ps) [] = refl
  asked_zip (p ∷ ps) (r ∷ rs) = ap (λ l. (op p, r) ∷ l) (asked_zip ps rs)

  answered_zip : (ps : List P) (rs : List R) → zip ps (map answer rs) ≡ map as_answered (zip ps rs)
  answered_zip [] rs = refl
  answered_zip (p ∷ ps) [] = refl
  answered_zip (p ∷ ps) (r ∷ rs) = ap (λ l. (p, answer r) ∷ l) (answered_zip ps rs)

  ops_asked : (zs : List (P × R)) → map (λ (x : O × R). x.0) (map as_asked zs) ≡ map op (map (λ (x : P × R). x.0) zs)
  ops_asked [] = refl
  ops_asked (z ∷ zs) = ap (λ l. op z.0 ∷ l) (ops_asked zs)

  replies_asked : (zs : List (P × R)) → map (λ (x : O × R). x.1) (map as_asked zs) ≡ map (λ (x : P × R). x.1) zs
  replies_asked [] = refl
  replies_asked (z ∷ zs) = ap (λ l. z.1 ∷ l) (replies_asked zs)

  ops_answered : (zs : List (P × R)) → map (λ (x : P × Q). x.0) (map as_answered zs) ≡ map (λ (x : P × R). x.0) zs
  ops_answered [] = refl
  ops_answered (z ∷ zs) = ap (λ l. z.0 ∷ l) (ops_answered zs)

  replies_answered : (zs : List (P × R)) → map (λ (x : P × Q). x.1) (map as_answered zs) ≡ map answer (map (λ (x : P × R). x.1) zs)
  replies_answered [] = refl
  replies_answered (z ∷ zs) = ap (λ l. answer z.1 ∷ l) (replies_answered zs)

  pub carried : (before : own.State) (ops : List P) (rs : List R) (now : whole.State) → IsServedInSomeOrder whole (state before) (map op ops) rs now
      → IsServedInSomeOrder own before ops (map answer rs) (back now)
  carried before ops rs now is =
      let found = mixes as_asked (zip ops rs) is.served (subst (λ l. IsPermutation l is.served) (asked_zip ops rs) is.order) in
      let zs = found.0 in
      let asked : map (λ (x : O × R). x.0) is.served ≡ map op (map (λ (x : P × R). x.0) zs) = ap (map (λ (x : O × R). x.0)) found.2 ∙ ops_asked zs in
      let answered : map (λ (x : O × R). x.1) is.served ≡ map (λ (x : P × R). x.1) zs = ap (map (λ (x : O × R). x.1)) found.2 ∙ replies_asked zs in
      let ps = map (λ (x : P × R). x.0) zs in
      record {
        served = map as_answered zs;
        order = subst (λ l. IsPermutation l (map as_answered zs)) (sym (answered_zip ops rs)) (IsPermutation-map as_answered (zip ops rs) zs found.1);
        count = length-map rs answer ∙ (is.count ∙ length-map ops op);
        replies_are = replies_answered zs ∙ (ap (map answer) (sym answered ∙ (is.replies_are ∙ ap (replies_to_all whole (state before)) asked))
            ∙ (same_replies before ps ∙ ap (replies_to_all own before) (sym (ops_answered zs))));
        after_is = ap back (is.after_is ∙ (ap (after_all whole (state before)) asked ∙ same_after before ps))
            ∙ (returns (after_all own before ps) ∙ ap (after_all own before) (sym (ops_answered zs)));
      }
