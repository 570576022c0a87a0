-- What is read off the paths of a trapped worker's turn.
use Rattle.std.proofs.Common.{◌≡◌, ℕ, ◌<◌, Some, List, [], ◌∷◌, ◌++◌, length, map, get_or, sym, refl, ap, ◌∙◌, subst, inl, inr, append-nil, append_assoc}
use Rattle.std.proofs.lemmas.List.{map-append}
use Rattle.two_deques.specs.declared.spot.Spot.{Spot}
use Rattle.two_deques.specs.Ends.{HeldEnds, risen}
use Rattle.worker_crew.specs.Words.{Receipt}
use Rattle.worker_turns.specs.declared.attempts.PieceAttempt.{PieceAttempt}
use Rattle.worker_turns.specs.declared.attempts.PieceAttempt.TheVariants.{Ran, Stale, Empty}
use Rattle.worker_turns.specs.declared.trapped.Trapped.TheVariants.{Left, Piece, Nothing}
use Rattle.table_rule.specs.declared.view.PassView.{PassView}
use Rattle.table_rule.specs.Passes.{finding_none}
use Rattle.worker_turns.specs.Trapped.{IsLeft}
use Rattle.worker_crew.specs.Workers.{WorkerView}
use Rattle.worker_turns.specs.Stops.{unstopped}
use Rattle.worker_turns.specs.Pieces.{Desk, spot_of, desk_after, NotRan, IsPop, IsOwnPiece, IsOtherPiece}
use Rattle.worker_turns.specs.Trapped.{IsTrappedTurn, refused_both}
use Rattle.worker_turns.specs.Meanings.Gains.{GrewBy, on_board, Gained, next_victim, HasEachEnd, HasAllEnds}
use Rattle.worker_turns.specs.Meanings.Trapped.{OwnGaveNone, StealGaveNone, DidNothing, DidLeave, DidPiece}
use Rattle.worker_turns.proofs.MeaningLemmas.Gains.{listed, Popped, popped, took_none, took_from, Stole, stole, failed_rose, victim_below}

-- the desk after these spots were refused
abbrev pub refusing_spots : List Spot → Desk → Desk
refusing_spots spots d = record d { refused = d.refused ++ map on_board spots }

pub not_ran_desk : (t : PieceAttempt) (d : Desk) → NotRan t → desk_after t d ≡ refusing_spots (listed (spot_of t)) d
not_ran_desk (Ran s) d unrun = absurd unrun
not_ran_desk (Stale s) d unrun = refl
not_ran_desk Empty d unrun = λ i. record d { refused = sym (append-nil d.refused) i }

-- the worker after its look at the stop word, and after the own deque of pieces gave none that could be run
abbrev pub after_own : List Spot → HeldEnds Spot → WorkerView → WorkerView
after_own lost batch m = record m { pass = finding_none m.pass; batch = batch; desk = refusing_spots lost m.desk }

pub own_none : (t : PieceAttempt) (old a : WorkerView) → NotRan t → IsOwnPiece t (unstopped old) a → a ≡ after_own (listed (spot_of t)) a.batch old
own_none t old a unrun is = is.same ∙ ap (λ (d : Desk). record (unstopped old) { batch = a.batch; desk = d }) (not_ran_desk t old.desk unrun)

own_gave_none : (t : PieceAttempt) (old new : HeldEnds Spot) → NotRan t → IsPop (spot_of t) old new → OwnGaveNone (listed (spot_of t)) old new
own_gave_none (Ran s) old new unrun is = absurd unrun
own_gave_none (Stale s) old new unrun is = inr (s, refl)
own_gave_none Empty old new unrun is = inl (ap (λ (e : HeldEnds Spot). e.empty_pops) is)

gave_none_then : (lost : List Spot) (old mid new : HeldEnds Spot) → new.empty_pops ≡ mid.empty_pops → OwnGaveNone lost old mid → OwnGaveNone lost old new
gave_none_then lost old mid new is (inl rose) = inl (is ∙ rose)
gave_none_then lost old mid new is (inr one) = inr one

-- what the one steal of pieces changed
record Others (t : PieceAttempt) (old new : WorkerView) : Type 0 where
  pub stole : Stole (next_victim old) (listed (spot_of t)) old.batch new.batch
  pub desk : new.desk ≡ desk_after t old.desk
  pub pass : new.pass ≡ old.pass

others : (t : PieceAttempt) (old new : WorkerView) → 0 < old.tries.workers → HasEachEnd old.tries.workers old.batch → IsOtherPiece t old new → Others t old new
others t old new some ends (inl alone) = subst (λ (u : PieceAttempt). Others u old new) (sym alone.1) (record {
  stole = record {
    own = ap (λ (m : WorkerView). m.batch.own) alone.2;
    pops = ap (λ (m : WorkerView). m.batch.empty_pops) alone.2;
    took = took_none (next_victim old) old.batch new.batch (ap (λ (m : WorkerView). m.batch.stolen) alone.2);
  };
  desk = ap (λ (m : WorkerView). m.desk) alone.2;
  pass = ap (λ (m : WorkerView). m.pass) alone.2;
})
others t old new some ends (inr s) = record {
  stole = stole (next_victim old) (spot_of t) old.batch new.batch (subst (λ (n : ℕ). next_victim old < n) (sym ends.stolen) (victim_below old.tries some)) s.steal;
  desk = ap (λ (m : WorkerView). m.desk) s.same;
  pass = ap (λ (m : WorkerView). m.pass) s.same;
}

steal_gave_none : (t : PieceAttempt) (old new : WorkerView) → NotRan t → 0 < old.tries.workers → HasEachEnd old.tries.workers old.batch → IsOtherPiece t old new → StealGaveNone (listed (spot_of t)) old new
steal_gave_none (Ran s) old new unrun some ends is = absurd unrun
steal_gave_none (Stale s) old new unrun some ends is = inr (inr (s, refl))
steal_gave_none Empty old new unrun some ends (inl alone) = inl alone.0
steal_gave_none Empty old new unrun some ends (inr s) =
    inr (inl (failed_rose (next_victim old) old.batch new.batch (subst (λ (n : ℕ). next_victim old < n) (sym ends.failed) (victim_below old.tries some)) s.steal))

-- the worker when it comes to steal
abbrev at_steal : List Spot → HeldEnds Spot → WorkerView → WorkerView
at_steal lost batch old = refused_both (after_own lost batch old)

steal_none_from : (taken lost : List Spot) (batch : HeldEnds Spot) (old new : WorkerView) → batch.failed_steals ≡ old.batch.failed_steals
    → StealGaveNone taken (at_steal lost batch old) new → StealGaveNone taken old new
steal_none_from taken lost batch old new same (inl one) = inl one
steal_none_from taken lost batch old new same (inr (inl rose)) =
    inr (inl (rose ∙ ap (λ (l : List ℕ). risen (get_or l (next_victim old) 0)) same))
steal_none_from taken lost batch old new same (inr (inr one)) = inr (inr one)

each_end : (n : ℕ) (lost : List Spot) (old new : HeldEnds Spot) → Popped lost old new → HasEachEnd n old → HasEachEnd n new
each_end n lost old new p ends = record { stolen = ap length p.stolen ∙ ends.stolen; failed = ap length p.failed ∙ ends.failed }

-- the spots that a pop and a steal gave
both_gained : (victim : ℕ) (lost taken : List Spot) (old mid new : HeldEnds Spot) → Popped lost old mid → Stole victim taken mid new → Gained victim lost taken old new
both_gained victim lost taken old mid new p s = record {
  own = p.own ∙ ap (λ l. l ++ lost) (sym s.own);
  took = took_from victim taken old mid new p.stolen s.took;
}

grew_twice : (lost taken : List Spot) (old new : List (ℕ × ℕ)) → new ≡ (old ++ map on_board lost) ++ map on_board taken → GrewBy (map on_board (lost ++ taken)) old new
grew_twice lost taken old new is = is ∙ append_assoc old (map on_board lost) (map on_board taken) ∙ ap (λ l. old ++ l) (sym (map-append on_board lost taken))

did_nothing : (lost : List Spot) (batch : HeldEnds Spot) (other : PieceAttempt) (old new : WorkerView) → HasAllEnds old → Popped lost old.batch batch
    → OwnGaveNone lost old.batch batch → NotRan other → IsOtherPiece other (at_steal lost batch old) new → DidNothing old new
did_nothing lost batch other old new ends p own unrun is =
    let mid = at_steal lost batch old in
    let some = ends.some in
    let each : HasEachEnd old.tries.workers batch = each_end _ lost old.batch batch p ends.batch in
    let o = others other mid new some each is in record {
      lost = lost;
      taken = listed (spot_of other);
      spots = both_gained _ lost _ old.batch batch new.batch p o.stole;
      dropped = grew_twice lost (listed (spot_of other)) old.desk.refused new.desk.refused (ap (λ (d : Desk). d.refused) (o.desk ∙ not_ran_desk other mid.desk unrun));
      own = gave_none_then lost old.batch batch new.batch o.stole.pops own;
      refused = record { leaves = ap (λ (q : PassView). q.refused_leaves) o.pass; wins = ap (λ (q : PassView). q.refused_wins) o.pass };
      steal = steal_none_from _ lost batch old new p.failed (steal_gave_none other mid new unrun some each is);
    }

pub nothing_means : (workers : ℕ) (old new : WorkerView) → HasAllEnds old → IsTrappedTurn workers Nothing old new → DidNothing old new
nothing_means workers old new ends (own, other, a, unrun, not, p, q) =
    did_nothing (listed (spot_of own)) a.batch other old new ends (popped (spot_of own) old.batch a.batch p.pop) (own_gave_none own old.batch a.batch unrun p.pop) not
    (subst (λ (m : WorkerView). IsOtherPiece other (refused_both m) new) (own_none own old a unrun p) q)

pub left_means : (workers : ℕ) (receipt : Receipt) (old new : WorkerView) → HasAllEnds old → IsTrappedTurn workers (Left receipt) old new → DidLeave receipt old new
left_means workers receipt old new ends (own, a, unrun, p, left, same) =
    let batch : new.batch ≡ a.batch = ap (λ (m : WorkerView). m.batch) same in
    let pop : IsPop (spot_of own) old.batch new.batch = subst (λ (e : HeldEnds Spot). IsPop (spot_of own) old.batch e) (sym batch) p.pop in
    let lost = popped (spot_of own) old.batch new.batch pop in record {
      left = subst (λ (q : PassView). IsLeft receipt q new.pass) (ap (λ (m : WorkerView). m.pass) p.same) left;
      lost = listed (spot_of own);
      spots = record { own = lost.own; took = took_none _ old.batch new.batch lost.stolen };
      dropped = ap (λ (m : WorkerView). m.desk.refused) (same ∙ ap (λ (m : WorkerView). record m { pass = new.pass }) (own_none own old a unrun p));
      own = own_gave_none own old.batch new.batch unrun pop;
      failed = lost.failed;
      tries = ap (λ (m : WorkerView). m.tries) same ∙ ap (λ (m : WorkerView). m.tries) p.same;
    }

stole_piece : (lost : List Spot) (batch : HeldEnds Spot) (spot : Spot) (old new : WorkerView) → HasAllEnds old → Popped lost old.batch batch
    → OwnGaveNone lost old.batch batch → IsOtherPiece (Ran spot) (at_steal lost batch old) new → DidPiece old new
stole_piece lost batch spot old new ends p own is =
    let mid = at_steal lost batch old in
    let o = others (Ran spot) mid new ends.some (each_end _ lost old.batch batch p ends.batch) is in record {
      spot = spot;
      lost = lost;
      taken = spot ∷ [];
      others = lost;
      spots = both_gained _ lost _ old.batch batch new.batch p o.stole;
      each = refl;
      given = ap (λ (d : Desk). d.given) o.desk;
      dropped = ap (λ (d : Desk). d.refused) o.desk;
      finishes = ap (λ (d : Desk). d.finishes) o.desk;
      posts = ap (λ (d : Desk). d.posts) o.desk;
      came = inr (
        refl,
        gave_none_then lost old.batch batch new.batch o.stole.pops own,
        record { leaves = ap (λ (q : PassView). q.refused_leaves) o.pass; wins = ap (λ (q : PassView). q.refused_wins) o.pass },
      );
    }

pub piece_means : (workers : ℕ) (old new : WorkerView) → HasAllEnds old → IsTrappedTurn workers Piece old new → DidPiece old new
piece_means workers old new ends (inl (spot, p)) =
    let lost = popped (Some spot) old.batch new.batch p.pop in record {
      spot = spot;
      lost = spot ∷ [];
      taken = [];
      others = [];
      spots = record { own = lost.own; took = took_none _ old.batch new.batch lost.stolen };
      each = refl;
      given = ap (λ (m : WorkerView). m.desk.given) p.same;
      dropped = ap (λ (m : WorkerView). m.desk.refused) p.same ∙ sym (append-nil _);
      finishes = ap (λ (m : WorkerView). m.desk.finishes) p.same;
      posts = ap (λ (m : WorkerView). m.desk.posts) p.same;
      came = inl (refl, refl, ap (λ (m : WorkerView). m.pass) p.same, ap (λ (m : WorkerView). m.tries) p.same);
    }
piece_means workers old new ends (inr (own, spot, a, unrun, p, q)) =
    stole_piece (listed (spot_of own)) a.batch spot old new ends (popped (spot_of own) old.batch a.batch p.pop) (own_gave_none own old.batch a.batch unrun p.pop)
    (subst (λ (m : WorkerView). IsOtherPiece (Ran spot) (refused_both m) new) (own_none own old a unrun p) q)
