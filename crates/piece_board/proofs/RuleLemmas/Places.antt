-- The state of each place after a step, at the step's own place and elsewhere.
use Rattle.std.proofs.Common.{◌≡◌, ◌≢◌, ℕ, ◌+◌, ◌<◌, get_or, set, Option, None, Some, get_or-set_other, sym, ap, ◌∙◌, subst, ⊎_elim, arith}
use mathlib.Core.Option.{Option as Home, some, some-injective}
use lib.ListN.{get_elem?}
use Rattle.atomic_table.specs.Table.{State}
use Rattle.atomic_table.proofs.Lists.{at_set, set_else}
use Rattle.piece_board.specs.declared.view.Content.{Content}
use Rattle.piece_board.specs.declared.view.Content.TheVariants.{Input, Output}
use Rattle.piece_board.specs.declared.view.View.{View}
use Rattle.piece_board.specs.Rule.{IsKnown, IsKeptEmpty, PlaceStands}

abbrev pub BoardState : Type 0 → Type 0 → Type 0
BoardState I O = State (Content I O) (View I)

module _ {I O : Type 0} where
  -- the board with a new word and slot at place `k`, and a new view of the seat that made the step
  abbrev pub after_step : BoardState I O → ℕ → ℕ → ℕ → View I → Home (Content I O) → BoardState I O
  after_step s k n seat w h = record { words = set s.words k n; homes = set s.homes k h; views = set s.views seat w }

module _ {I O : Type 0} (meets : I → O → Type 0) where
  still_empty : (s : BoardState I O) (k seat : ℕ) (v w : View I) (n : ℕ) (h : Home (Content I O)) (j keeper : ℕ) → j ≢ k
      → get_elem? s.views seat ≡ some v → v.in_hand ≢ j + 1 → IsKeptEmpty s j keeper
      → IsKeptEmpty (after_step s k n seat w h) j keeper
  still_empty s k seat v w n h j keeper ne me other old u at away =
      set_else s.homes k j h ne
      ∙ ⊎_elim (λ t. old v (ap (λ (i : ℕ). get_elem? s.views i) t.0 ∙ me) other) (λ t. old u t.1 away)
      (at_set s.views seat keeper w u at)

  -- the state of another place is unchanged
  pub stands_still : (s : BoardState I O) (k seat : ℕ) (v w : View I) (n : ℕ) (h : Home (Content I O)) (j : ℕ)
      (last : Option I) (owner claimer : ℕ) → j ≢ k → get_elem? s.views seat ≡ some v → v.in_hand ≢ j + 1
      → PlaceStands meets s j last owner claimer → PlaceStands meets (after_step s k n seat w h) j last owner claimer
  stands_still s k seat v w n h j last owner claimer ne me other p =
      let at : get_or (set s.words k n) j 0 ≡ get_or s.words j 0 = get_or-set_other s.words k j n 0 ne in record {
        few = subst (λ (y : ℕ). y < 4) (sym at) p.few;
        free = λ e. still_empty s k seat v w n h j owner ne me other (p.free (sym at ∙ e));
        opened = λ e. let t = p.opened (sym at ∙ e) in (t.0, t.1, set_else s.homes k j h ne ∙ t.2);
        claimed = λ e. still_empty s k seat v w n h j claimer ne me other (p.claimed (sym at ∙ e));
        full = λ e. let t = p.full (sym at ∙ e) in (t.0, t.1, t.2, set_else s.homes k j h ne ∙ t.3, t.4);
      }

  module _ (s : BoardState I O) (k : ℕ) (last : Option I) (owner claimer : ℕ) where
    pub stands_free : get_or s.words k 0 ≡ 0 → IsKeptEmpty s k owner → PlaceStands meets s k last owner claimer
    stands_free e empty = record {
      few = omega (arith, e);
      free = λ _. empty;
      opened = λ f. absurd (omega (arith, e, f));
      claimed = λ f. absurd (omega (arith, e, f));
      full = λ f. absurd (omega (arith, e, f));
    }

    pub stands_open : get_or s.words k 0 ≡ 1 → (x : I) → last ≡ Some x → get_elem? s.homes k ≡ some (some (Input x))
        → PlaceStands meets s k last owner claimer
    stands_open e x is home = record {
      few = omega (arith, e);
      free = λ f. absurd (omega (arith, e, f));
      opened = λ _. (x, is, home);
      claimed = λ f. absurd (omega (arith, e, f));
      full = λ f. absurd (omega (arith, e, f));
    }

    pub stands_claimed : get_or s.words k 0 ≡ 2 → IsKeptEmpty s k claimer → PlaceStands meets s k last owner claimer
    stands_claimed e empty = record {
      few = omega (arith, e);
      free = λ f. absurd (omega (arith, e, f));
      opened = λ f. absurd (omega (arith, e, f));
      claimed = λ _. empty;
      full = λ f. absurd (omega (arith, e, f));
    }

    pub stands_full : get_or s.words k 0 ≡ 3 → (x : I) (y : O) → last ≡ Some x
        → get_elem? s.homes k ≡ some (some (Output y)) → meets x y → PlaceStands meets s k last owner claimer
    stands_full e x y is home fits = record {
      few = omega (arith, e);
      free = λ f. absurd (omega (arith, e, f));
      opened = λ f. absurd (omega (arith, e, f));
      claimed = λ f. absurd (omega (arith, e, f));
      full = λ _. (x, y, is, home, fits);
    }

-- a slot in this seat's hand satisfies `IsKeptEmpty`
pub kept_in_hand : {I O : Type 0} (s : BoardState I O) (k seat : ℕ) (w : View I) → get_elem? s.views seat ≡ some w
    → w.in_hand ≡ k + 1 → IsKeptEmpty s k seat
kept_in_hand s k seat w me hand u at away =
    absurd (away (ap (λ (z : View _). z.in_hand) (some-injective u w (sym at ∙ me)) ∙ hand))

-- if a place was not free and still is not, its owner's knowledge stays right
pub known_still : {I : Type 0} (entry : Option I) (n m : ℕ) (last : Option I) → n ≢ 0 → m ≢ 0 → IsKnown n last entry
    → IsKnown m last entry
known_still None n m last a b known = absurd (a known)
known_still (Some x) n m last a b known = (b, known.1)

-- the owner's entry for a place that is not free is its last post
pub known_last : {I : Type 0} (entry : Option I) (n : ℕ) (last : Option I) (x : I) → n ≢ 0 → IsKnown n last entry
    → last ≡ Some x → entry ≡ Some x
known_last None n last x ne known e = absurd (ne known)
known_last (Some y) n last x ne known e = sym known.1 ∙ e
