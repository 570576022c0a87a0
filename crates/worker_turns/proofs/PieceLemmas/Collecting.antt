-- Results are collected one by one, in the order of the posts.
use Rattle.std.proofs.Common.{◌≡◌, ℕ, zero, suc, ◌+◌, ◌<◌, ◌==◌, eq-eqb, true, Option, Some, List, [], ◌∷◌, ◌++◌, length, map, take, drop, get_or, sym, refl, ap, ◌∙◌, subst, arith}
use Rattle.std.proofs.lemmas.List.{length-map}
use Rattle.std.specs.Prelude.{IsSomeAnd}
use Rattle.seq_objects.specs.Pieces.{AllMeet}
use Rattle.piece_board.specs.Entries.{entry_at}

-- what stands at a place of a list
pub at_place : {X : Type 0} (xs : List X) (k : ℕ) → k < length xs
    → (e : X) × (drop k xs ≡ e ∷ drop (suc k) xs) × (take (suc k) xs ≡ take k xs ++ e ∷ []) × ((d : X) → get_or xs k d ≡ e)
at_place [] k h = absurd (omega (arith, h))
at_place (x ∷ xs) zero h = (x, refl, refl, λ d. refl)
at_place (x ∷ xs) (suc k) h = let r = at_place xs k (omega (arith, h)) in (r.0, r.1, ap (λ l. x ∷ l) r.2, r.3)

pub drop_map : {X Y : Type 0} (f : X → Y) (k : ℕ) (xs : List X) → drop k (map f xs) ≡ map f (drop k xs)
drop_map f zero xs = refl
drop_map f (suc k) [] = refl
drop_map f (suc k) (x ∷ xs) = drop_map f k xs

pub map_at : {X Y : Type 0} (f : X → Y) (xs : List X) (k : ℕ) (d : Y) (e : X) → k < length xs → get_or xs k e ≡ e → get_or (map f xs) k d ≡ f e
map_at f [] k d e h at = absurd (omega (arith, h))
map_at f (x ∷ xs) zero d e h at = ap f at
map_at f (x ∷ xs) (suc k) d e h at = map_at f xs k d e (omega (arith, h)) at

module _ {In Out : Type 0} (meets : In → Out → Type 0) where
  pub meet_more : (ins : List In) (outs : List Out) (x : In) (out : Out) → AllMeet meets ins outs → meets x out → AllMeet meets (ins ++ x ∷ []) (outs ++ out ∷ [])
  meet_more [] [] x out all one = (one, tt)
  meet_more [] (o ∷ outs) x out all one = absurd all
  meet_more (i ∷ ins) [] x out all one = absurd all
  meet_more (i ∷ ins) (o ∷ outs) x out all one = (all.0, meet_more ins outs x out all.1 one)

  -- the result at the first place meets what was posted there
  pub first_meets : (n : ℕ) (posted : List (ℕ × In)) (x : In) (rest : List (ℕ × In)) (out : Out)
      → IsSomeAnd (entry_at n posted) (λ y. meets y out) → posted ≡ (n, x) ∷ rest → meets x out
  first_meets n posted x rest out h is =
      let hit : (n == n) ≡ true = eq-eqb n n refl in
      let there : entry_at n ((n, x) ∷ rest) ≡ Some x = rw hit refl in
      subst (λ (o : Option In). IsSomeAnd o (λ y. meets y out)) (ap (entry_at n) is ∙ there) h

pub firsts : {X : Type 0} (f : X → ℕ) (xs : List X) → map (λ (e : ℕ × X). e.0) (map (λ x. (f x, x)) xs) ≡ map f xs
firsts f [] = refl
firsts f (x ∷ xs) = ap (λ l. f x ∷ l) (firsts f xs)

-- whatever pieces are said to be posted, the places are theirs
pub named_for : {X : Type 0} (f : X → ℕ) (places : List ℕ) (posted : List (ℕ × X)) (xs ys : List X) → places ≡ map f xs
    → posted ≡ map (λ x. (f x, x)) xs → posted ≡ map (λ x. (f x, x)) ys → places ≡ map f ys
named_for f places posted xs ys named one other =
    named ∙ sym (firsts f xs) ∙ ap (map (λ e. e.0)) (sym one ∙ other) ∙ firsts f ys

-- the piece of the k-th place is the first that is not collected
pub next_posted : {X : Type 0} (f : X → ℕ) (places : List ℕ) (init now : List (ℕ × X)) (xs : List X) (k : ℕ) → places ≡ map f xs
    → init ≡ map (λ x. (f x, x)) xs → now ≡ drop k init → k < length places
    → (x : X) × (rest : List (ℕ × X)) × (now ≡ (get_or places k 0, x) ∷ rest) × (take (k + 1) xs ≡ take k xs ++ x ∷ []) × ((d : X) → get_or xs k d ≡ x) × (k < length xs)
next_posted {X} f places init now xs k named is left inside =
    let within : k < length xs = (let n = ap (λ (l : List ℕ). length l) named in let m = length-map xs f in omega (arith, inside, n, m)) in
    let p = at_place xs k within in
    let e : X = p.0 in
    let one : k + 1 ≡ suc k = omega arith in
    let here : get_or places k 0 ≡ f e = ap (λ (l : List ℕ). get_or l k 0) named ∙ map_at f xs k 0 e within (p.3 e) in (
      e,
      map (λ x. (f x, x)) (drop (suc k) xs),
      left ∙ ap (drop k) is ∙ drop_map (λ x. (f x, x)) k xs ∙ ap (map (λ x. (f x, x))) p.1 ∙ ap (λ (n : ℕ). (n, e) ∷ map (λ x. (f x, x)) (drop (suc k) xs)) (sym here),
      ap (λ (n : ℕ). take n xs) one ∙ p.2,
      p.3,
      within,
    )

pub next_place : {X : Type 0} (f : X → ℕ) (places : List ℕ) (xs : List X) (k : ℕ) (x : X) → places ≡ map f xs → k < length xs → get_or xs k x ≡ x
    → get_or places k 0 ≡ f x
next_place f places xs k x named within at = ap (λ (l : List ℕ). get_or l k 0) named ∙ map_at f xs k 0 x within at
