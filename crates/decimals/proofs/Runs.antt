-- Runs at the front of a text, and what follows them.
use Rattle.std.proofs.Common.{◌≡◌, ℕ, ◌+◌, ◌≤◌, Bool, true, false, List, [], ◌∷◌, ◌++◌, length, take, drop, refl, sym, ap, ◌∙◌, one-add}
use Rattle.std.specs.Prelude.{cond}
use Rattle.std.specs.List.{prefix_len}
use Rattle.std.proofs.lemmas.List.{take-append-drop}
use Rattle.std.proofs.lemmas.List.Sums.{prefix_len-le-length}
use Rattle.decimals.specs.Runs.{AllBelong, BeginsOutside}

-- a text splits into bytes that belong and a rest that begins outside in one way only
pub runs_apart : (belongs : ℕ → Bool) (xs ys r s : List ℕ) → AllBelong belongs xs → AllBelong belongs ys → BeginsOutside belongs r → BeginsOutside belongs s → xs ++ r ≡ ys ++ s → (xs ≡ ys) × (r ≡ s)
runs_apart belongs [] [] r s bx by er es is = (refl, is)
runs_apart belongs [] (y ∷ ys) [] s bx by er es is = cc
runs_apart belongs [] (y ∷ ys) (b ∷ r) s bx by er es is = cc (by.0)
runs_apart belongs (x ∷ xs) [] r [] bx by er es is = cc
runs_apart belongs (x ∷ xs) [] r (b ∷ s) bx by er es is = cc (bx.0)
runs_apart belongs (x ∷ xs) (y ∷ ys) r s bx by er es is =
    let head : x ≡ y = cc in
    let tail : xs ++ r ≡ ys ++ s = cc in
    let more = runs_apart belongs xs ys r s bx.1 by.1 er es tail in
    (cc (more.0), more.1)

run_at : (belongs : ℕ → Bool) (byte : ℕ) (text : List ℕ) (is : Bool) (n : ℕ) → belongs byte ≡ is → AllBelong belongs (take n text) → BeginsOutside belongs (drop n text)
    → AllBelong belongs (take (cond is (1 + n) 0) (byte ∷ text)) × BeginsOutside belongs (drop (cond is (1 + n) 0) (byte ∷ text))
run_at belongs byte text true n is all ends = rw one-add ((is, all), ends)
run_at belongs byte text false n is all ends = (tt, is)

run_is : (belongs : ℕ → Bool) (text : List ℕ) → AllBelong belongs (take (prefix_len belongs text) text) × BeginsOutside belongs (drop (prefix_len belongs text) text)
run_is belongs [] = (tt, tt)
run_is belongs (byte ∷ text) =
    let rest = run_is belongs text in
    run_at belongs byte text (belongs byte) (prefix_len belongs text) refl rest.0 rest.1

-- where a text is split behind its run
module _ (belongs : ℕ → Bool) (k : ℕ) (text : List ℕ) (is : k ≡ prefix_len belongs text) where
  pub run_within : k ≤ length text
  run_within = rw is (prefix_len-le-length belongs text)

  -- the text behind the run begins outside
  pub run_ends : (back : List ℕ) → back ≡ drop k text → BeginsOutside belongs back
  run_ends back behind = rw (behind, is) (run_is belongs text).1

  -- a text that is bytes that belong and a rest that begins outside is split into them
  pub run_split : (front rest : List ℕ) → AllBelong belongs front → BeginsOutside belongs rest → front ++ rest ≡ text → (take k text ≡ front) × (drop k text ≡ rest)
  run_split front rest all ends parts =
      let run = run_is belongs text in
      runs_apart belongs (take k text) front (drop k text) rest (rw is run.0) all (rw is run.1) ends (take-append-drop k text ∙ sym parts)

-- the two parts of a text that is split
pub split_parts : (k : ℕ) (text front back : List ℕ) → front ≡ take k text → back ≡ drop k text → front ++ back ≡ text
split_parts k text front back at behind = ap (λ t. t ++ back) at ∙ ap (λ t. take k text ++ t) behind ∙ take-append-drop k text
