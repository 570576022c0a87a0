-- The steps at a seat as the calls have it: under the key of the table, and with the slots that it has in hand.
use Rattle.std.proofs.Common.{◌≡◌, ℕ, List, ◌∷◌, get_or, Vec, Global, sym, ap, ◌∙◌, subst}
use Rattle.atomic_table.specs.Table.{Me, Allows, rest}
use Rattle.shared_calls.specs.declared.view.Slot.{Slot}
use Rattle.shared_calls.specs.declared.view.Slot.TheVariants.{Posted, Answered, Whole}
use Rattle.shared_calls.specs.declared.view.View.{View}
use Rattle.shared_calls.specs.Serial.{SerialObject}
use Rattle.shared_calls.specs.Rule.{Keeps}

-- the first slot in hand
pub first_in : {S : Type 0} (l : List (ℕ × S)) (k : ℕ) (x : S) (xs : List (ℕ × S)) → l ≡ (k, x) ∷ xs → l ≡ (k, x) ∷ rest l
first_in {S = S} l k x xs is = is ∙ ap (λ (t : List (ℕ × S)). (k, x) ∷ t) (sym (ap rest is))

module _ {S V : Type 0} where
  -- the seat after its first slot was written
  pub written : (v : V) (old : Me S V) (new : Me S V) (k : ℕ) (x y : S) (xs : List (ℕ × S)) → old ≡ (v, (k, x) ∷ xs) → new ≡ (old.0, (k, y) ∷ rest old.1) → new ≡ (v, (k, y) ∷ xs)
  written v old new k x y xs is to = to ∙ ap (λ (m : Me S V). (m.0, (k, y) ∷ rest m.1)) is

  -- the content of the first slot
  pub content_in : (old : Me S V) (v : V) (k j : ℕ) (x y : S) (xs : List (ℕ × S)) → old ≡ (v, (k, x) ∷ xs) → old.1 ≡ (j, y) ∷ rest old.1 → y ≡ x
  content_in old v k j x y xs is to = ap (λ (l : List (ℕ × S)). (get_or l 0 (j, y)).1) (sym to ∙ ap (λ (m : Me S V). m.1) is)

module _ {T O R : Type 0} (object : SerialObject O R) (content : T → object.State) (fails : T → List O → Type 0) where
  pub allowed : (q p : ℕ) → q ≡ p → (n id i : ℕ) (f : ℕ → ℕ) (P : Me (Slot T O R) (View O R) → ℕ → Me (Slot T O R) (View O R) → Type 0) (me me' : Me (Slot T O R) (View O R)) → me ≡ me'
      → Allows (Keeps object content fails p) n id me' i f (P me') → Allows (Keeps object content fails q) n id me i f (P me)
  allowed q p same n id i f P me me' is h =
      subst (λ (k : ℕ). Allows (Keeps object content fails k) n id me i f (P me)) (sym same)
      (subst (λ (m : Me (Slot T O R) (View O R)). Allows (Keeps object content fails p) n id m i f (P m)) (sym is) h)

module _ {T O R : Type 0} where
  pub same_reply : (a b : R) → let x : Slot T O R = Answered a in x ≡ Answered b → a ≡ b
  same_reply a b e = cc

  pub same_op : (a b : O) → let x : Slot T O R = Posted a in x ≡ Posted b → a ≡ b
  same_op a b e = cc

  pub same_whole : (t u : T) (rs qs : Vec R Global) → let x : Slot T O R = Whole t rs in x ≡ Whole u qs → (t ≡ u) × (rs ≡ qs)
  same_whole t u rs qs e = (cc, cc)
