-- The pieces are posted one by one, at ascending places.
use Rattle.std.proofs.Common.{◌≡◌, ℕ, zero, suc, ◌<◌, None, List, [], ◌∷◌, ◌++◌, length, map, get_or, sym, refl, subst, arith}
use Rattle.std.proofs.lemmas.Bool.Decides.{nat_tests}
use Rattle.std.specs.List.{AllByRecursion}
use Rattle.seq_objects.specs.Orders.{StrictlyAscends}
use Rattle.piece_board.specs.Entries.{entry_at}

module _ {X : Type 0} (f : X → ℕ) where
  abbrev pub pairs : List X → List (ℕ × X)
  pairs xs = map (λ x. (f x, x)) xs

  above : (y : ℕ) (front rest : List X) (x : X) → AllByRecursion (λ z. y < z) (map f (front ++ x ∷ rest)) → y < f x
  above y [] rest x all = all.0
  above y (z ∷ front) rest x all = above y front rest x all.1

  -- the place of the next piece is free
  pub next_free : (front rest : List X) (x : X) → StrictlyAscends (map f (front ++ x ∷ rest)) → entry_at (f x) (pairs front) ≡ None
  next_free [] rest x up = refl
  next_free (y ∷ front) rest x up =
      let less : f y < f x = above (f y) front rest x up.0 in
      let free = next_free front rest x up.1 in
      grind (arith, nat_tests, less, free)

  pub at_below : (n : ℕ) (xs : List X) (k : ℕ) (x : X) → AllByRecursion (λ z. f z < n) xs → k < length xs → x ≡ get_or xs k x → f x < n
  at_below n [] k x all inside at = absurd (omega (arith, inside))
  at_below n (z ∷ zs) zero x all inside at = subst (λ q. f q < n) (sym at) all.0
  at_below n (z ∷ zs) (suc k) x all inside at = at_below n zs k x all.1 (omega (arith, inside)) at
