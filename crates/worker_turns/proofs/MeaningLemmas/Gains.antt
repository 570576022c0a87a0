-- What one pop and one steal change, and what a worker has of the deques.
use Rattle.std.proofs.Common.{◌≡◌, ℕ, ◌<◌, Option, None, Some, List, [], ◌∷◌, ◌++◌, length, get_or, sym, ap, ◌∙◌, arith, append-nil}
use Rattle.std.proofs.lemmas.List.{get_or-set_same, get_or-set_other, length-map}
use Rattle.two_deques.specs.declared.decks.Decks.{Decks}
use Rattle.two_deques.specs.declared.hand.Hand.{Hand}
use Rattle.two_deques.specs.declared.tries.Deck.{Deck}
use Rattle.two_deques.specs.declared.tries.Deck.TheVariants.{CoreDeck, BatchDeck}
use Rattle.two_deques.specs.declared.tries.Try.{Try}
use Rattle.two_deques.specs.Ends.{HeldEnds}
use Rattle.two_deques.specs.Hands.{held, workers_of, IsHandOf}
use Rattle.two_deques.specs.Tries.{TriesView, try_of, after_try}
use Rattle.piece_board.specs.declared.view.DeskView.{DeskView}
use Rattle.launch_batch.specs.declared.piece.PieceIn.{PieceIn}
use Rattle.table_rule.specs.declared.view.PassView.{PassView}
use Rattle.worker_turns.specs.Pieces.{IsPop, IsSteal, by_deck, piece_try}
use Rattle.worker_turns.specs.Meanings.Gains.{Took, HasAllEnds, FailedRose}

-- what a pop or a steal gave, as a list
abbrev pub listed : {T : Type 0} → Option T → List T
listed None = []
listed (Some x) = x ∷ []

module _ {T : Type 0} where
  -- these left the own list, and nothing was stolen
  pub record Popped (lost : List T) (old new : HeldEnds T) : Type 0 where
    pub own : old.own ≡ new.own ++ lost
    pub stolen : new.stolen ≡ old.stolen
    pub failed : new.failed_steals ≡ old.failed_steals

  pub popped : (o : Option T) (old new : HeldEnds T) → IsPop o old new → Popped (listed o) old new
  popped None old new is = record {
    own = sym (append-nil _ ∙ ap (λ (e : HeldEnds T). e.own) is);
    stolen = ap (λ (e : HeldEnds T). e.stolen) is;
    failed = ap (λ (e : HeldEnds T). e.failed_steals) is;
  }
  popped (Some x) old new is = record {
    own = ap (λ (e : HeldEnds T). e.own) is;
    stolen = sym (ap (λ (e : HeldEnds T). e.stolen) is);
    failed = sym (ap (λ (e : HeldEnds T). e.failed_steals) is);
  }

  pub took_none : (victim : ℕ) (old new : HeldEnds T) → new.stolen ≡ old.stolen → Took victim [] old new
  took_none victim old new is = record {
    there = ap (λ (l : List (List T)). get_or l victim []) is ∙ sym (append-nil _);
    elsewhere = λ u other. ap (λ (l : List (List T)). get_or l u []) is;
  }

  pub took_from : (victim : ℕ) (taken : List T) (old mid new : HeldEnds T) → mid.stolen ≡ old.stolen → Took victim taken mid new → Took victim taken old new
  took_from victim taken old mid new is t = record {
    there = t.there ∙ ap (λ (l : List (List T)). get_or l victim [] ++ taken) is;
    elsewhere = λ u other. t.elsewhere u other ∙ ap (λ (l : List (List T)). get_or l u []) is;
  }

  -- a steal changes nothing of the own deque
  pub record Stole (victim : ℕ) (taken : List T) (old new : HeldEnds T) : Type 0 where
    pub own : new.own ≡ old.own
    pub pops : new.empty_pops ≡ old.empty_pops
    pub took : Took victim taken old new

  pub stole : (victim : ℕ) (o : Option T) (old new : HeldEnds T) → victim < length old.stolen → IsSteal victim o old new → Stole victim (listed o) old new
  stole victim None old new below is = record {
    own = ap (λ (e : HeldEnds T). e.own) is;
    pops = ap (λ (e : HeldEnds T). e.empty_pops) is;
    took = took_none victim old new (ap (λ (e : HeldEnds T). e.stolen) is);
  }
  stole victim (Some x) old new below is =
      let now = ap (λ (e : HeldEnds T). e.stolen) is in record {
        own = ap (λ (e : HeldEnds T). e.own) is;
        pops = ap (λ (e : HeldEnds T). e.empty_pops) is;
        took = record {
          there = ap (λ (l : List (List T)). get_or l victim []) now ∙ get_or-set_same old.stolen victim _ [] below;
          elsewhere = λ u other. ap (λ (l : List (List T)). get_or l u []) now ∙ get_or-set_other old.stolen victim u _ [] other;
        };
      }

  pub failed_rose : (victim : ℕ) (old new : HeldEnds T) → victim < length old.failed_steals → IsSteal victim None old new → FailedRose victim old new
  failed_rose victim old new below is =
      ap (λ (e : HeldEnds T). get_or e.failed_steals victim 0) is ∙ get_or-set_same old.failed_steals victim _ 0 below

-- the next victim is a worker
below_by_deck : (d : Deck) (x y : Try) (n : ℕ) → x.victim < n → y.victim < n → (by_deck d x y).victim < n
below_by_deck CoreDeck x y n p q = p
below_by_deck BatchDeck x y n p q = q

pub try_below : (t : TriesView) → 0 < t.workers → (try_of t).victim < t.workers
try_below t some = omega arith

pub victim_below : (t : TriesView) → 0 < t.workers → (piece_try t).victim < t.workers
victim_below t some =
    below_by_deck (try_of t).deck (try_of (after_try t)) (try_of t) t.workers (try_below (after_try t) some) (try_below t some)

pub has_all_ends : (decks : Decks) (hand : Hand) (pass : PassView) (desk : DeskView PieceIn) (tries : TriesView)
    → IsHandOf decks hand → tries.workers ≡ workers_of decks
    → HasAllEnds (record { pass = pass; core = (held hand).core; batch = (held hand).batch; desk = desk; tries = tries })
has_all_ends decks hand pass desk tries is workers =
    let below = is.below in record {
      some = omega (arith, below, workers);
      core = record {
        stolen = length-map _ _ ∙ is.core.reaches.count ∙ sym workers;
        failed = length-map _ _ ∙ is.core.reaches.count ∙ sym workers;
      };
      batch = record {
        stolen = length-map _ _ ∙ is.batch.reaches.count ∙ is.alike ∙ sym workers;
        failed = length-map _ _ ∙ is.batch.reaches.count ∙ is.alike ∙ sym workers;
      };
    }
