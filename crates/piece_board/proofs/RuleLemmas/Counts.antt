-- The counts of all seats' claims and posts at a place, after one seat's view is replaced.
use Rattle.std.proofs.Common.{◌≡◌, ◌≢◌, ℕ, zero, suc, ◌+◌, List, [], ◌∷◌, set, if◌then◌else◌, eq-eqb, ne_eqb, sym, ap, arith}
use Rattle.std.specs.List.{sum_by}
use Rattle.std.proofs.lemmas.List.Sums.{sum_by-cons, sum_by-append}
use mathlib.Core.Option.{some, some-ne-none, some-injective}
use lib.ListN.{get_elem?}
use Rattle.piece_board.specs.declared.view.View.{View}
use Rattle.piece_board.specs.Desks.{number_of, after_post, after_claim}
use Rattle.piece_board.specs.Rule.{one_at, claims_at, posts_at}
use Rattle.piece_board.specs.Steps.{then_desk, then_desk_with}

pub sum_set : {X : Type 0} (f : X → ℕ) (xs : List X) (i : ℕ) (x y : X) → get_elem? xs i ≡ some x
    → sum_by f (set xs i y) + f x ≡ sum_by f xs + f y
sum_set f [] i x y at = absurd (some-ne-none x (sym at))
sum_set f (z ∷ xs) zero x y at =
    let same : f z ≡ f x = ap f (some-injective z x at) in
    omega (arith, sum_by-cons f z xs, sum_by-cons f y xs, same)
sum_set f (z ∷ xs) (suc i) x y at =
    omega (arith, sum_by-cons f z xs, sum_by-cons f z (set xs i y), sum_set f xs i x y at)

pub one_here : (k n : ℕ) → n ≡ k → one_at k n ≡ 1
one_here k n is = ap (λ b. if b then 1 else 0) (eq-eqb n k is)

pub none_else : (k n : ℕ) → n ≢ k → one_at k n ≡ 0
none_else k n ne = ap (λ b. if b then 1 else 0) (ne_eqb n k ne)

module _ {I : Type 0} where
  pub posts_more : (j k place : ℕ) (x : I) (v : View I)
      → posts_at j (then_desk k (after_post place x) v) ≡ posts_at j v + one_at j (number_of v.desk.row place)
  posts_more j k place x v =
      omega (arith, sum_by-append (λ (i : ℕ). one_at j (number_of v.desk.row i)) v.desk.posts (place ∷ []))

  pub claims_more : (j k row place : ℕ) (x : I) (v : View I)
      → claims_at j (then_desk_with k (after_claim row place x) v) ≡ claims_at j v + one_at j (number_of row place)
  claims_more j k row place x v =
      omega (arith, sum_by-append (λ (spot : ℕ × ℕ). one_at j (number_of spot.0 spot.1)) v.desk.given ((row, place) ∷ []))
