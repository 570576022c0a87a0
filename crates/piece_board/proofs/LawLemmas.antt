-- The consequences of the rule of a board for its places.
use Rattle.std.proofs.Common.{◌≡◌, ◌≢◌, ℕ, ◌+◌, ◌<◌, length, get_or, Some, sym, ap, ◌∙◌, arith}
use Rattle.std.specs.List.{sum_by, AllByRecursion}
use mathlib.Core.Option.{some}
use lib.ListN.{get_elem?}
use Rattle.piece_board.specs.declared.view.View.{View}
use Rattle.piece_board.specs.Entries.{entry_at}
use Rattle.piece_board.specs.Trace.{IsTrueIn, AreInOrder}
use Rattle.piece_board.specs.Rule.{one_at, claims_at, posts_at, ObeysRule}
use Rattle.piece_board.proofs.RuleLemmas.Places.{BoardState}
use Rattle.piece_board.proofs.RuleLemmas.Counts.{none_else}

module _ {I O : Type 0} (meets : I → O → Type 0) (s : BoardState I O) where
  pub all_claimed : (k : ℕ) → ObeysRule meets s → k < length s.homes → get_or s.words k 0 ≢ 1
      → sum_by (claims_at k) s.views ≡ sum_by (posts_at k) s.views
  all_claimed k o inside not_open =
      omega (arith, o.once k inside, none_else 1 (get_or s.words k 0) not_open)

  pub all_but_one_claimed : (k : ℕ) → ObeysRule meets s → k < length s.homes → get_or s.words k 0 ≡ 1
      → sum_by (claims_at k) s.views + 1 ≡ sum_by (posts_at k) s.views
  all_but_one_claimed k o inside is_open =
      let one : one_at 1 (get_or s.words k 0) ≡ 1 = ap (one_at 1) is_open in omega (arith, o.once k inside, one)

  pub claimed_by_one : (seat other k : ℕ) (v w : View I) (x y : I) → ObeysRule meets s → get_elem? s.views seat ≡ some v
      → get_elem? s.views other ≡ some w → entry_at k v.desk.claims ≡ Some x → entry_at k w.desk.claims ≡ Some y
      → (seat ≡ other) × (get_or s.words k 0 ≢ 1)
  claimed_by_one seat other k v w x y o me you mine yours =
      let first = o.claims seat v k x me mine in
      let second = o.claims other w k y you yours in
      (sym first.0 ∙ second.0, λ is_open. omega (arith, first.1, is_open))

  pub missed_truly : (o : ObeysRule meets s) (seat : ℕ) (v : View I) → get_elem? s.views seat ≡ some v
      → AllByRecursion (IsTrueIn seat o.traced.trace) v.misses × AreInOrder v.misses
  missed_truly o seat v me = o.traced.misses seat v me
