-- The last members taken out of rows.
use Rattle.std.proofs.Common.{ℕ, zero, suc, ◌≡◌, ◌<◌, ◌≤◌, ◌+◌, Option, option_to_list, List, [], ◌∷◌, ◌++◌, length, take, drop, get_or, slice_set, map, refl, ap, sym, ◌∙◌, arith, append_assoc}
use Rattle.object_rows.specs.declared.members.Members.{Members}
use Rattle.object_rows.specs.declared.members.Members.TheVariants.{One}
use Rattle.object_rows.specs.Rows.{list_of, members}
use Rattle.object_rows.specs.Code.Lasts.{last_of, front_of, lasts, fronts, last_at, without_last}

module _ {X : Type 0} (last : Option X) (row now : Members X) (taken : option_to_list last ≡ last_of (list_of row)) (left : list_of now ≡ front_of (list_of row)) where
  pub taken_there : (rows : List (Members X)) (place : ℕ) → place < length rows → row ≡ get_or rows place row → option_to_list last ≡ last_at place (members rows)
  taken_there [] place below at = absurd (omega (arith, below))
  taken_there (v ∷ rows) zero below at = taken ∙ ap (λ (r : Members X). last_of (list_of r)) at
  taken_there (v ∷ rows) (suc place) below at = taken_there rows place (omega (arith, below)) at

  pub left_there : (rows : List (Members X)) (place : ℕ) → place < length rows → row ≡ get_or rows place row → members (slice_set rows place now) ≡ without_last place (members rows)
  left_there [] place below at = absurd (omega (arith, below))
  left_there (v ∷ rows) zero below at = ap (λ l. l ∷ members rows) (left ∙ ap (λ (r : Members X). front_of (list_of r)) at)
  left_there (v ∷ rows) (suc place) below at = ap (λ l. list_of v ∷ l) (left_there rows place (omega (arith, below)) at)

pub taken_beyond : {X : Type 0} (rows : List (Members X)) (place : ℕ) → length rows ≤ place → [] ≡ last_at place (members rows)
taken_beyond [] place beyond = refl
taken_beyond (v ∷ rows) zero beyond = absurd (omega (arith, beyond))
taken_beyond (v ∷ rows) (suc place) beyond = taken_beyond rows place (omega (arith, beyond))

pub left_beyond : {X : Type 0} (rows : List (Members X)) (place : ℕ) → length rows ≤ place → members rows ≡ without_last place (members rows)
left_beyond [] place beyond = refl
left_beyond (v ∷ rows) zero beyond = absurd (omega (arith, beyond))
left_beyond (v ∷ rows) (suc place) beyond = ap (λ l. list_of v ∷ l) (left_beyond rows place (omega (arith, beyond)))

no_lasts : {X : Type 0} (count : ℕ) → lasts {X = X} count [] ≡ []
no_lasts zero = refl
no_lasts (suc count) = refl

no_fronts : {X : Type 0} (count : ℕ) → fronts {X = X} count [] ≡ []
no_fronts zero = refl
no_fronts (suc count) = refl

lasts_at : {X : Type 0} (place count : ℕ) (rows : List (List X)) → lasts (suc count) (drop place rows) ≡ last_at place rows ++ lasts count (drop (suc place) (without_last place rows))
lasts_at zero count [] = sym (no_lasts count)
lasts_at (suc place) count [] = sym (no_lasts count)
lasts_at zero count (row ∷ rows) = refl
lasts_at (suc place) count (row ∷ rows) = lasts_at place count rows

fronts_at : {X : Type 0} (place count : ℕ) (rows : List (List X)) → take place rows ++ fronts (suc count) (drop place rows)
    ≡ take (suc place) (without_last place rows) ++ fronts count (drop (suc place) (without_last place rows))
fronts_at zero count [] = sym (no_fronts count)
fronts_at (suc place) count [] = sym (no_fronts count)
fronts_at zero count (row ∷ rows) = refl
fronts_at (suc place) count (row ∷ rows) = ap (λ l. row ∷ l) (fronts_at place count rows)

-- one more row has lost its last member
pub lasts_step : {X : Type 0} (place next left more : ℕ) (taken : List X) (rows : List (List X)) → next ≡ place + 1 → more ≡ left + 1
    → (taken ++ last_at place rows) ++ lasts left (drop next (without_last place rows)) ≡ taken ++ lasts more (drop place rows)
lasts_step place next left more taken rows is one =
    let next_is : next ≡ suc place = omega (arith, is) in
    let more_is : more ≡ suc left = omega (arith, one) in
    rw (next_is, more_is) (append_assoc taken (last_at place rows) (lasts left (drop (suc place) (without_last place rows))) ∙ ap (λ l. taken ++ l) (sym (lasts_at place left rows)))

pub fronts_step : {X : Type 0} (place next left more : ℕ) (rows : List (List X)) → next ≡ place + 1 → more ≡ left + 1
    → take next (without_last place rows) ++ fronts left (drop next (without_last place rows)) ≡ take place rows ++ fronts more (drop place rows)
fronts_step place next left more rows is one =
    let next_is : next ≡ suc place = omega (arith, is) in
    let more_is : more ≡ suc left = omega (arith, one) in
    rw (next_is, more_is) (sym (fronts_at place left rows))

-- the last members of rows that have one each
pub lasts_ones : {X : Type 0} (count : ℕ) (list : List X) → count ≡ length list → lasts count (members (map One list)) ≡ list
lasts_ones zero [] is = refl
lasts_ones (suc count) [] is = absurd (omega (arith, is))
lasts_ones zero (x ∷ xs) is = absurd (omega (arith, is))
lasts_ones (suc count) (x ∷ xs) is = ap (λ rest. x ∷ rest) (lasts_ones count xs (omega (arith, is)))
