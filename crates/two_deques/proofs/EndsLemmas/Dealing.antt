-- The pair at hand, and the construction of a hand from the ends of one worker.
use Rattle.std.proofs.Common.{◌≡◌, ◌≢◌, ℕ, ◌+◌, ◌<◌, List, [], ◌∷◌, ◌++◌, length, get_or, drop, take, sym, ap, ◌∙◌, subst, arith}
use Rattle.std.proofs.lemmas.List.{get_or_append_left, get_or_push, length_push, get_or-drop, drop-drop}
use Rattle.std.proofs.lemmas.List.Elements.{All-head, All-tail}
use Rattle.std.specs.List.{All}
use mathlib.Core.Logic.{dite}
use native.Mathlib.Decide.{ℕ_discrete}
use Rattle.two_deques.specs.declared.ends.Ends.{Ends}
use Rattle.two_deques.specs.declared.hand.Hand.{Hand}
use Rattle.two_deques.specs.declared.spot.Spot.{Spot}
use Rattle.two_deques.specs.declared.decks.Decks.{Decks}
use Rattle.two_deques.specs.Reaches.{Thief}
use Rattle.two_deques.specs.Ends.{held_ends, fresh_ends}
use Rattle.two_deques.specs.Hands.{held, fresh_hand, AreEndsOf, IsHandOf, AreHandsUpTo}
use Rattle.two_deques.specs.Code.Opening.{AreMade}

-- what holds of all holds of the one after `before`
pub at_hand : {X : Type 0} (P : X → Type 0) (before rest : List X) (x : X) → All P (before ++ x ∷ rest) → P x
at_hand P [] rest x each = All-head P x rest each
at_hand P (b ∷ before) rest x each = at_hand P before rest x (All-tail P b (before ++ x ∷ rest) each)

ends_of_made : {T : Type 0} (n room w : ℕ) (thieves : List (Thief T)) (all : List (Ends T)) (e : Ends T)
    → AreMade n n room thieves all → w < n → e ≡ get_or all w e
    → AreEndsOf thieves room w e × (held_ends e ≡ fresh_ends T n)
ends_of_made n room w thieves all e h lt at =
    let reached = h.reached w e lt at in
    let fresh = h.fresh w e lt at in (
      record { own = λ t here. h.own w t e lt here at; fits = fresh.0; reaches = reached.0 },
      λ k. record {
        own = fresh.1 k;
        pushes = fresh.2 k;
        empty_pops = fresh.3 k;
        stolen = reached.1 k;
        failed_steals = reached.2 k;
      },
    )

one_hand_more : (w workers : ℕ) (d : Decks) (hands : List Hand) (h : Hand) → AreHandsUpTo w workers d hands
    → IsHandOf d h → held h ≡ fresh_hand w workers → AreHandsUpTo (w + 1) workers d (hands ++ h ∷ [])
one_hand_more w workers d hands h so_far hand fresh = record {
  count = omega (arith, length_push hands h, so_far.count);
  each = λ v g lt at. dite (ℕ_discrete v w)
      (λ (e : v ≡ w).
      let same : h ≡ g = sym (at ∙ get_or_push hands h g v (so_far.count ∙ sym e)) in
      subst (λ (q : Hand). IsHandOf d q × (held q ≡ fresh_hand v workers)) same
      (hand, fresh ∙ ap (λ (k : ℕ). fresh_hand k workers) (sym e)))
      (λ (ne : v ≢ w).
      let less : v < w = omega (arith, lt, ne) in
      so_far.each v g less (at ∙ get_or_append_left hands (h ∷ []) g v (omega (arith, so_far.count, less))));
}

-- the first of the remaining elements is the one at index `w` of the whole list
pub next_of : {X : Type 0} (xs left : List X) (w : ℕ) (x : X) → left ≡ drop w xs → w < length xs → x ≡ get_or left 0 x
    → x ≡ get_or xs w x
next_of xs left w x is lt at =
    at ∙ ap (λ l. get_or l 0 x) is ∙ get_or-drop w xs 0 x ∙ ap (λ (k : ℕ). get_or xs k x) (omega arith)

-- when the first is removed, the elements from index `w + 1` on remain
pub left_then : {X : Type 0} (xs left rest : List X) (w : ℕ) → left ≡ drop w xs → rest ≡ take 0 left ++ drop (0 + 1) left
    → rest ≡ drop (w + 1) xs
left_then xs left rest w is taken =
    taken ∙ ap (λ l. drop 1 l) is ∙ drop-drop 1 w xs ∙ ap (λ (k : ℕ). drop k xs) (omega arith)

pub hand_made : (workers w : ℕ) (d : Decks) (cores : List (Ends ℕ)) (batches : List (Ends Spot)) (hands : List Hand)
    (h : Hand) → AreMade workers workers d.core_room d.core.items cores
    → AreMade workers workers d.batch_room d.batch.items batches → w < workers → h.worker ≡ w
    → h.core ≡ get_or cores w h.core → h.batch ≡ get_or batches w h.batch → AreHandsUpTo w workers d hands
    → AreHandsUpTo (w + 1) workers d (hands ++ h ∷ [])
hand_made workers w d cores batches hands h core_made batch_made lt named core_at batch_at so_far =
    let core = ends_of_made workers d.core_room w d.core.items cores h.core core_made lt core_at in
    let batch = ends_of_made workers d.batch_room w d.batch.items batches h.batch batch_made lt batch_at in
    one_hand_more w workers d hands h so_far (record {
      below = omega (arith, lt, named, core_made.thieves_count);
      alike = batch_made.thieves_count ∙ sym core_made.thieves_count;
      core = subst (λ (k : ℕ). AreEndsOf d.core.items d.core_room k h.core) (sym named) core.0;
      batch = subst (λ (k : ℕ). AreEndsOf d.batch.items d.batch_room k h.batch) (sym named) batch.0;
    }) (λ k. record { worker = named k; core = core.1 k; batch = batch.1 k })
