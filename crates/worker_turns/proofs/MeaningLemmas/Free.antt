-- What is read off the paths of a free worker's turn.
use Rattle.std.proofs.Common.{◌≡◌, ℕ, ◌+◌, ◌<◌, ◌⊎◌, Some, List, [], ◌∷◌, ◌++◌, length, get_or, sym, refl, ap, ◌∙◌, subst, inl, inr, arith, append-nil}
use Rattle.two_deques.specs.declared.spot.Spot.{Spot}
use Rattle.two_deques.specs.declared.tries.Deck.{Deck}
use Rattle.two_deques.specs.Ends.{HeldEnds, after_empty_pop}
use Rattle.worker_turns.specs.declared.attempts.PieceAttempt.TheVariants.{Ran, Stale, Empty}
use Rattle.worker_turns.specs.declared.attempts.NodeAttempt.TheVariants.{Claimed, Refused, NoNode}
use Rattle.worker_turns.specs.declared.attempts.StealAttempt.{StealAttempt}
use Rattle.worker_turns.specs.declared.attempts.StealAttempt.TheVariants.{NoVictim, Node, Piece}
use Rattle.worker_turns.specs.declared.free.Did.TheVariants as did
use Rattle.table_rule.specs.declared.view.PassView.{PassView}
use Rattle.table_rule.specs.Passes.{finding_none}
use Rattle.worker_crew.specs.Workers.{WorkerView}
use Rattle.worker_turns.specs.Stops.{unstopped}
use Rattle.worker_turns.specs.Pieces.{IsOwnPiece, IsSteal}
use Rattle.worker_turns.specs.Free.{IsOwnNode, IsOther, StoleNothing, RanToIdle, IsFreeTurn}
use Rattle.worker_turns.specs.Meanings.Gains.{Took, Gained, HasAllEnds}
use Rattle.worker_turns.specs.Meanings.Free.{next_worker, TryFailed, CameBy, DidRun, DidRunPiece, DidFindNothing}
use Rattle.worker_turns.proofs.MeaningLemmas.Gains.{popped, took_none, took_from, stole, failed_rose, try_below}

-- the worker after its look at the stop word and an empty pop of its own deque of nodes; and after an empty pop of its
-- own deque of pieces too
abbrev pub no_node : WorkerView → WorkerView
no_node m = record m { pass = finding_none m.pass; core = after_empty_pop m.core }

abbrev pub none_own : WorkerView → WorkerView
none_own m = record m { pass = finding_none m.pass; core = after_empty_pop m.core; batch = after_empty_pop m.batch }

pub is_no_node : (old a : WorkerView) → IsOwnNode NoNode (unstopped old) a → a ≡ no_node old
is_no_node old a p = p.same ∙ ap (λ (e : HeldEnds ℕ). record (unstopped old) { core = e }) p.pop

pub is_none_own : (old a b : WorkerView) → IsOwnNode NoNode (unstopped old) a → IsOwnPiece Empty a b → b ≡ none_own old
is_none_own old a b p q =
    q.same ∙ ap (λ (e : HeldEnds Spot). record a { batch = e }) q.pop
    ∙ ap (λ (m : WorkerView). record m { batch = after_empty_pop m.batch }) (is_no_node old a p)

module _ {T : Type 0} where
  -- the own deque lost this task
  lost_one : (victim : ℕ) (x : T) (old new : HeldEnds T) → old ≡ record new { own = new.own ++ x ∷ [] } → Gained victim (x ∷ []) [] old new
  lost_one victim x old new is =
      let p = popped (Some x) old new is in record { own = p.own; took = took_none victim old new p.stolen }

  -- the hand took this task
  took_one : (victim : ℕ) (x : T) (old new : HeldEnds T) → victim < length old.stolen → IsSteal victim (Some x) (after_empty_pop old) new → Gained victim [] (x ∷ []) old new
  took_one victim x old new below is =
      let s = stole victim (Some x) (after_empty_pop old) new below is in record {
        own = sym s.own ∙ sym (append-nil _);
        took = took_from victim (x ∷ []) old (after_empty_pop old) new refl s.took;
      }

-- the worker of the next try is one that the worker has an end of
core_below : (m : WorkerView) → HasAllEnds m → next_worker m < length m.core.stolen
core_below m ends = subst (λ (n : ℕ). next_worker m < n) (sym ends.core.stolen) (try_below m.tries ends.some)

batch_below : (m : WorkerView) → HasAllEnds m → next_worker m < length m.batch.stolen
batch_below m ends = subst (λ (n : ℕ). next_worker m < n) (sym ends.batch.stolen) (try_below m.tries ends.some)

came_then : (node : ℕ) (old mid new : WorkerView) → new.core.stolen ≡ mid.core.stolen
    → ((old.core.own ≡ mid.core.own ++ node ∷ []) × (mid.core.stolen ≡ old.core.stolen))
    ⊎ ((mid.core.own ≡ old.core.own) × Took (next_worker old) (node ∷ []) old.core mid.core)
    → CameBy node mid.core.own old new
came_then node old mid new is (inl own) = inl (own.0, is ∙ own.1)
came_then node old mid new is (inr other) = inr (
  other.0,
  record {
    there = ap (λ (l : List (List ℕ)). get_or l (next_worker old) []) is ∙ other.1.there;
    elsewhere = λ u not. ap (λ (l : List (List ℕ)). get_or l u []) is ∙ other.1.elsewhere u not;
  },
)

-- a node was claimed, and then carried on
ran : (node : ℕ) (old mid new : WorkerView) → mid.pass.claims ≡ old.pass.claims + 1 → mid.pass.claimed ≡ old.pass.claimed ++ node ∷ []
    → mid.pass.refused_nodes ≡ old.pass.refused_nodes → mid.pass.opened ≡ old.pass.opened
    → ((old.core.own ≡ mid.core.own ++ node ∷ []) × (mid.core.stolen ≡ old.core.stolen))
    ⊎ ((mid.core.own ≡ old.core.own) × Took (next_worker old) (node ∷ []) old.core mid.core)
    → RanToIdle mid new → DidRun old new
ran node old mid new claims claimed refused opened came c = record {
  node = node;
  claims = c.claims ∙ claims;
  claimed = c.claimed ∙ claimed;
  refused = c.refused ∙ refused;
  opened = c.nodes;
  opens = c.opened ∙ ap (λ l. l ++ c.nodes) opened;
  rest = mid.core.own;
  own = ap (λ (e : HeldEnds ℕ). e.own) c.core;
  came = came_then node old mid new (ap (λ (e : HeldEnds ℕ). e.stolen) c.core) came;
}

ran_other : (node : ℕ) (old mid new : WorkerView) → HasAllEnds old → IsOther (Node (Claimed node)) (none_own old) mid → RanToIdle mid new → DidRun old new
ran_other node old mid new ends (deck, steal, same) c =
    let took = took_one (next_worker old) node old.core mid.core (core_below old ends) steal in
    let pass = ap (λ (m : WorkerView). m.pass) same in
    ran node old mid new (ap (λ (p : PassView). p.claims) pass) (ap (λ (p : PassView). p.claimed) pass) (ap (λ (p : PassView). p.refused_nodes) pass)
    (ap (λ (p : PassView). p.opened) pass) (inr (sym (took.own ∙ append-nil _), took.took)) c

pub ran_means : (old new : WorkerView) → HasAllEnds old → IsFreeTurn did.Ran old new → DidRun old new
ran_means old new ends (inl (node, a, p, c)) =
    let pass = ap (λ (m : WorkerView). m.pass) p.same in
    ran node old a new (ap (λ (q : PassView). q.claims) pass) (ap (λ (q : PassView). q.claimed) pass) (ap (λ (q : PassView). q.refused_nodes) pass)
    (ap (λ (q : PassView). q.opened) pass) (inl (ap (λ (e : HeldEnds ℕ). e.own) p.pop, sym (ap (λ (e : HeldEnds ℕ). e.stolen) p.pop))) c
ran_means old new ends (inr (node, a, b, d, p, q, o, c)) =
    ran_other node old d new ends (subst (λ (m : WorkerView). IsOther (Node (Claimed node)) m d) (is_none_own old a b p q) o) c

-- a piece was run
ran_own_piece : (spot : Spot) (old new : WorkerView) → IsOwnPiece (Ran spot) (no_node old) new → DidRunPiece old new
ran_own_piece spot old new p = record {
  spot = spot;
  finishes = ap (λ (m : WorkerView). m.desk.finishes) p.same;
  posts = ap (λ (m : WorkerView). m.desk.posts) p.same;
  none = record { claims = ap (λ (m : WorkerView). m.pass.claims) p.same; claimed = ap (λ (m : WorkerView). m.pass.claimed) p.same };
  nodes = record { own = ap (λ (m : WorkerView). m.core.own) p.same; stolen = ap (λ (m : WorkerView). m.core.stolen) p.same };
  got = inl (lost_one (next_worker old) spot old.batch new.batch p.pop);
  given = ap (λ (m : WorkerView). m.desk.given) p.same;
  refused_nodes = ap (λ (m : WorkerView). m.pass.refused_nodes) p.same;
  refused = ap (λ (m : WorkerView). m.desk.refused) p.same;
}

ran_other_piece : (spot : Spot) (old new : WorkerView) → HasAllEnds old → IsOther (Piece (Ran spot)) (none_own old) new → DidRunPiece old new
ran_other_piece spot old new ends (deck, steal, same) = record {
  spot = spot;
  finishes = ap (λ (m : WorkerView). m.desk.finishes) same;
  posts = ap (λ (m : WorkerView). m.desk.posts) same;
  none = record { claims = ap (λ (m : WorkerView). m.pass.claims) same; claimed = ap (λ (m : WorkerView). m.pass.claimed) same };
  nodes = record { own = ap (λ (m : WorkerView). m.core.own) same; stolen = ap (λ (m : WorkerView). m.core.stolen) same };
  got = inr (took_one (next_worker old) spot old.batch new.batch (batch_below old ends) steal);
  given = ap (λ (m : WorkerView). m.desk.given) same;
  refused_nodes = ap (λ (m : WorkerView). m.pass.refused_nodes) same;
  refused = ap (λ (m : WorkerView). m.desk.refused) same;
}

pub piece_means : (old new : WorkerView) → HasAllEnds old → IsFreeTurn did.Piece old new → DidRunPiece old new
piece_means old new ends (inl (spot, a, p, q)) =
    ran_own_piece spot old new (subst (λ (m : WorkerView). IsOwnPiece (Ran spot) m new) (is_no_node old a p) q)
piece_means old new ends (inr (spot, a, b, p, q, o)) =
    ran_other_piece spot old new ends (subst (λ (m : WorkerView). IsOther (Piece (Ran spot)) m new) (is_none_own old a b p q) o)

-- one task was found, and refused
refused_node : (node : ℕ) (old new : WorkerView) → IsOwnNode (Refused node) (unstopped old) new → DidFindNothing old new
refused_node node old new p = record {
  none = record { claims = ap (λ (m : WorkerView). m.pass.claims) p.same; claimed = ap (λ (m : WorkerView). m.pass.claimed) p.same };
  found = inr (inl (record {
    node = node;
    got = inl (lost_one (next_worker old) node old.core new.core p.pop);
    refused_nodes = ap (λ (m : WorkerView). m.pass.refused_nodes) p.same;
    spots = record { own = ap (λ (m : WorkerView). m.batch.own) p.same; stolen = ap (λ (m : WorkerView). m.batch.stolen) p.same };
    refused = ap (λ (m : WorkerView). m.desk.refused) p.same;
  }));
}

refused_spot : (spot : Spot) (old new : WorkerView) → IsOwnPiece (Stale spot) (no_node old) new → DidFindNothing old new
refused_spot spot old new p = record {
  none = record { claims = ap (λ (m : WorkerView). m.pass.claims) p.same; claimed = ap (λ (m : WorkerView). m.pass.claimed) p.same };
  found = inr (inr (record {
    spot = spot;
    got = inl (lost_one (next_worker old) spot old.batch new.batch p.pop);
    refused = ap (λ (m : WorkerView). m.desk.refused) p.same;
    nodes = record { own = ap (λ (m : WorkerView). m.core.own) p.same; stolen = ap (λ (m : WorkerView). m.core.stolen) p.same };
    refused_nodes = ap (λ (m : WorkerView). m.pass.refused_nodes) p.same;
  }));
}

-- what the steal gave after both own deques gave nothing
no_other : (other : StealAttempt) (old new : WorkerView) → HasAllEnds old → StoleNothing other → IsOther other (none_own old) new → DidFindNothing old new
no_other NoVictim old new ends unrun (one, same) = record {
  none = record { claims = ap (λ (m : WorkerView). m.pass.claims) same; claimed = ap (λ (m : WorkerView). m.pass.claimed) same };
  found = inl (record {
    nodes = record { own = ap (λ (m : WorkerView). m.core.own) same; stolen = ap (λ (m : WorkerView). m.core.stolen) same };
    spots = record { own = ap (λ (m : WorkerView). m.batch.own) same; stolen = ap (λ (m : WorkerView). m.batch.stolen) same };
    refused_nodes = ap (λ (m : WorkerView). m.pass.refused_nodes) same;
    refused = ap (λ (m : WorkerView). m.desk.refused) same;
    core_pops = ap (λ (m : WorkerView). m.core.empty_pops) same;
    batch_pops = ap (λ (m : WorkerView). m.batch.empty_pops) same;
    steal = λ more. absurd (omega (arith, one, more));
  });
}
no_other (Node (Claimed n)) old new ends unrun o = absurd unrun
no_other (Node (Refused n)) old new ends unrun (deck, steal, same) = record {
  none = record { claims = ap (λ (m : WorkerView). m.pass.claims) same; claimed = ap (λ (m : WorkerView). m.pass.claimed) same };
  found = inr (inl (record {
    node = n;
    got = inr (took_one (next_worker old) n old.core new.core (core_below old ends) steal);
    refused_nodes = ap (λ (m : WorkerView). m.pass.refused_nodes) same;
    spots = record { own = ap (λ (m : WorkerView). m.batch.own) same; stolen = ap (λ (m : WorkerView). m.batch.stolen) same };
    refused = ap (λ (m : WorkerView). m.desk.refused) same;
  }));
}
no_other (Node NoNode) old new ends unrun (deck, steal, same) = record {
  none = record { claims = ap (λ (m : WorkerView). m.pass.claims) same; claimed = ap (λ (m : WorkerView). m.pass.claimed) same };
  found = inl (record {
    nodes = record { own = ap (λ (e : HeldEnds ℕ). e.own) steal; stolen = ap (λ (e : HeldEnds ℕ). e.stolen) steal };
    spots = record { own = ap (λ (m : WorkerView). m.batch.own) same; stolen = ap (λ (m : WorkerView). m.batch.stolen) same };
    refused_nodes = ap (λ (m : WorkerView). m.pass.refused_nodes) same;
    refused = ap (λ (m : WorkerView). m.desk.refused) same;
    core_pops = ap (λ (e : HeldEnds ℕ). e.empty_pops) steal;
    batch_pops = ap (λ (m : WorkerView). m.batch.empty_pops) same;
    steal = λ more. subst (λ (d : Deck). TryFailed d (next_worker old) old new) (sym deck)
        (failed_rose (next_worker old) (after_empty_pop old.core) new.core (subst (λ (n : ℕ). next_worker old < n) (sym ends.core.failed) (try_below old.tries ends.some)) steal);
  });
}
no_other (Piece (Ran s)) old new ends unrun o = absurd unrun
no_other (Piece (Stale s)) old new ends unrun (deck, steal, same) = record {
  none = record { claims = ap (λ (m : WorkerView). m.pass.claims) same; claimed = ap (λ (m : WorkerView). m.pass.claimed) same };
  found = inr (inr (record {
    spot = s;
    got = inr (took_one (next_worker old) s old.batch new.batch (batch_below old ends) steal);
    refused = ap (λ (m : WorkerView). m.desk.refused) same;
    nodes = record { own = ap (λ (m : WorkerView). m.core.own) same; stolen = ap (λ (m : WorkerView). m.core.stolen) same };
    refused_nodes = ap (λ (m : WorkerView). m.pass.refused_nodes) same;
  }));
}
no_other (Piece Empty) old new ends unrun (deck, steal, same) = record {
  none = record { claims = ap (λ (m : WorkerView). m.pass.claims) same; claimed = ap (λ (m : WorkerView). m.pass.claimed) same };
  found = inl (record {
    nodes = record { own = ap (λ (m : WorkerView). m.core.own) same; stolen = ap (λ (m : WorkerView). m.core.stolen) same };
    spots = record { own = ap (λ (e : HeldEnds Spot). e.own) steal; stolen = ap (λ (e : HeldEnds Spot). e.stolen) steal };
    refused_nodes = ap (λ (m : WorkerView). m.pass.refused_nodes) same;
    refused = ap (λ (m : WorkerView). m.desk.refused) same;
    core_pops = ap (λ (m : WorkerView). m.core.empty_pops) same;
    batch_pops = ap (λ (e : HeldEnds Spot). e.empty_pops) steal;
    steal = λ more. subst (λ (d : Deck). TryFailed d (next_worker old) old new) (sym deck)
        (failed_rose (next_worker old) (after_empty_pop old.batch) new.batch (subst (λ (n : ℕ). next_worker old < n) (sym ends.batch.failed) (try_below old.tries ends.some)) steal);
  });
}

pub nothing_means : (old new : WorkerView) → HasAllEnds old → IsFreeTurn did.Nothing old new → DidFindNothing old new
nothing_means old new ends (inl (node, p)) = refused_node node old new p
nothing_means old new ends (inr (inl (spot, a, p, q))) =
    refused_spot spot old new (subst (λ (m : WorkerView). IsOwnPiece (Stale spot) m new) (is_no_node old a p) q)
nothing_means old new ends (inr (inr (other, a, b, unrun, p, q, o))) =
    no_other other old new ends unrun (subst (λ (m : WorkerView). IsOther other m new) (is_none_own old a b p q) o)
