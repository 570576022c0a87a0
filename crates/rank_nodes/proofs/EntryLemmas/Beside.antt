-- Operations with a key on a map act on the part that is on the key's side of another key.
use Rattle.std.proofs.Common.{◌≡◌, ℕ, ◌<◌, ◌≤◌, Bool, true, false, ◌==◌, nat_lt, if◌then◌else◌, List, [], ◌∷◌, ◌++◌, Some, None, refl, sym, ap, ◌∙◌, append_assoc, arith}
use Rattle.std.proofs.lemmas.Bool.Decides.{nat_tests}
use Rattle.keyed_pieces.specs.Keyed.{AreBelow, AreFrom}
use Rattle.rank_nodes.specs.declared.entry.Entry.{Entry}
use Rattle.rank_nodes.specs.Maps.{key_of, Ascends, value_at, with_entry, without_entry}
use Rattle.rank_nodes.proofs.EntryLemmas.Ascending.{all_at, ascends_front, ascends_after, below_entry, from_entry}

-- the same entries appended to both sides
pub around : (x y low a b : List Entry) (m key j : Entry) → x ++ m ∷ y ≡ low ++ key ∷ a → x ++ m ∷ (y ++ j ∷ b) ≡ low ++ key ∷ (a ++ j ∷ b)
around x y low a b m key j e = sym (append_assoc x (m ∷ y) (j ∷ b)) ∙ ap (λ z. z ++ j ∷ b) e ∙ append_assoc low (key ∷ a) (j ∷ b)

-- a key below all keys of a list
value_none : (key b : ℕ) (entries : List Entry) → key < b → AreFrom key_of b entries → value_at key entries ≡ None
value_none key b [] less up = refl
value_none key b (e ∷ entries) less up =
    let test : (key == e.key) ≡ false = grind (arith, nat_tests, up.0) in
    rw test (value_none key b entries less up.1)

without_none : (key b : ℕ) (entries : List Entry) → key < b → AreFrom key_of b entries → without_entry key entries ≡ entries
without_none key b [] less up = refl
without_none key b (e ∷ entries) less up =
    let test : (key == e.key) ≡ false = grind (arith, nat_tests, up.0) in
    rw test (ap (λ zs. e ∷ zs) (without_none key b entries less up.1))

with_first : (key val b : ℕ) (entries : List Entry) → key < b → AreFrom key_of b entries → with_entry key val entries ≡ record { key = key; val = val } ∷ entries
with_first key val b [] less up = refl
with_first key val b (e ∷ entries) less up =
    let test : nat_lt key e.key ≡ true = grind (arith, nat_tests, up.0) in
    rw test refl

-- a key above the first of a list
pub value_past : (key : ℕ) (e : Entry) (entries : List Entry) → e.key < key → value_at key (e ∷ entries) ≡ value_at key entries
value_past key e entries less =
    let test : (key == e.key) ≡ false = grind (arith, nat_tests, less) in
    rw test refl

pub with_past : (key val : ℕ) (e : Entry) (entries : List Entry) → e.key < key → with_entry key val (e ∷ entries) ≡ e ∷ with_entry key val entries
with_past key val e entries less =
    let test : nat_lt key e.key ≡ false = grind (arith, nat_tests, less) in
    let test' : (key == e.key) ≡ false = grind (arith, nat_tests, less) in
    rw (test, test') refl

pub without_past : (key : ℕ) (e : Entry) (entries : List Entry) → e.key < key → without_entry key (e ∷ entries) ≡ e ∷ without_entry key entries
without_past key e entries less =
    let test : (key == e.key) ≡ false = grind (arith, nat_tests, less) in
    rw test refl

-- the value of a key on either side
pub value_low : (key b : ℕ) (low high : List Entry) → key < b → AreFrom key_of b high → value_at key (low ++ high) ≡ value_at key low
value_low key b [] high less up = value_none key b high less up
value_low key b (e ∷ low) high less up = ap (λ rest. if key == e.key then Some e.val else rest) (value_low key b low high less up)

pub value_high : (key b : ℕ) (low high : List Entry) → b ≤ key → AreBelow key_of b low → value_at key (low ++ high) ≡ value_at key high
value_high key b [] high le down = refl
value_high key b (e ∷ low) high le down = value_past key e (low ++ high) (omega (arith, le, down.0)) ∙ value_high key b low high le down.1

pub value_left : (key : ℕ) (k : Entry) (xs ys : List Entry) → key < k.key → Ascends (xs ++ k ∷ ys) → value_at key (xs ++ k ∷ ys) ≡ value_at key xs
value_left key k xs ys less up = value_low key k.key xs (k ∷ ys) less (from_entry xs k ys up)

pub value_right : (key : ℕ) (k : Entry) (xs ys : List Entry) → k.key < key → Ascends (xs ++ k ∷ ys) → value_at key (xs ++ k ∷ ys) ≡ value_at key ys
value_right key k xs ys less up = value_high key k.key xs (k ∷ ys) (omega (arith, less)) (below_entry xs k ys up) ∙ value_past key k ys less

pub value_here : (key : ℕ) (k : Entry) (xs ys : List Entry) → key ≡ k.key → Ascends (xs ++ k ∷ ys) → value_at key (xs ++ k ∷ ys) ≡ Some k.val
value_here key k xs ys is up =
    let test : (key == k.key) ≡ true = grind (arith, nat_tests, is) in
    value_high key k.key xs (k ∷ ys) (omega (arith, is)) (below_entry xs k ys up) ∙ (rw test refl)

-- insertion on either side
pub with_low : (key val b : ℕ) (low high : List Entry) → key < b → AreFrom key_of b high → with_entry key val (low ++ high) ≡ with_entry key val low ++ high
with_low key val b [] high less up = with_first key val b high less up
with_low key val b (e ∷ low) high less up = step (nat_lt key e.key) (key == e.key) (with_low key val b low high less up) where
  step : (first same : Bool) → with_entry key val (low ++ high) ≡ with_entry key val low ++ high
      → (if first then record { key = key; val = val } ∷ e ∷ (low ++ high) else (if same then record { key = key; val = val } ∷ (low ++ high) else e ∷ with_entry key val (low ++ high)))
      ≡ (if first then record { key = key; val = val } ∷ e ∷ low else (if same then record { key = key; val = val } ∷ low else e ∷ with_entry key val low)) ++ high
  step true same rest = refl
  step false true rest = refl
  step false false rest = ap (λ zs. e ∷ zs) rest

pub with_high : (key val b : ℕ) (low high : List Entry) → b ≤ key → AreBelow key_of b low → with_entry key val (low ++ high) ≡ low ++ with_entry key val high
with_high key val b [] high le down = refl
with_high key val b (e ∷ low) high le down = with_past key val e (low ++ high) (omega (arith, le, down.0)) ∙ ap (λ zs. e ∷ zs) (with_high key val b low high le down.1)

pub with_left : (key val : ℕ) (k : Entry) (xs ys : List Entry) → key < k.key → Ascends (xs ++ k ∷ ys) → with_entry key val (xs ++ k ∷ ys) ≡ with_entry key val xs ++ k ∷ ys
with_left key val k xs ys less up = with_low key val k.key xs (k ∷ ys) less (from_entry xs k ys up)

pub with_right : (key val : ℕ) (k : Entry) (xs ys : List Entry) → k.key < key → Ascends (xs ++ k ∷ ys) → with_entry key val (xs ++ k ∷ ys) ≡ xs ++ k ∷ with_entry key val ys
with_right key val k xs ys less up =
    with_high key val k.key xs (k ∷ ys) (omega (arith, less)) (below_entry xs k ys up) ∙ ap (λ zs. xs ++ zs) (with_past key val k ys less)

pub with_here : (key val : ℕ) (k : Entry) (xs ys : List Entry) → key ≡ k.key → Ascends (xs ++ k ∷ ys) → with_entry key val (xs ++ k ∷ ys) ≡ xs ++ record { key = key; val = val } ∷ ys
with_here key val k xs ys is up =
    let test : nat_lt key k.key ≡ false = grind (arith, nat_tests, is) in
    let test' : (key == k.key) ≡ true = grind (arith, nat_tests, is) in
    with_high key val k.key xs (k ∷ ys) (omega (arith, is)) (below_entry xs k ys up) ∙ (rw (test, test') refl)

-- removal on either side
pub without_low : (key b : ℕ) (low high : List Entry) → key < b → AreFrom key_of b high → without_entry key (low ++ high) ≡ without_entry key low ++ high
without_low key b [] high less up = without_none key b high less up
without_low key b (e ∷ low) high less up = step (key == e.key) (without_low key b low high less up) where
  step : (same : Bool) → without_entry key (low ++ high) ≡ without_entry key low ++ high
      → (if same then low ++ high else e ∷ without_entry key (low ++ high)) ≡ (if same then low else e ∷ without_entry key low) ++ high
  step true rest = refl
  step false rest = ap (λ zs. e ∷ zs) rest

pub without_high : (key b : ℕ) (low high : List Entry) → b ≤ key → AreBelow key_of b low → without_entry key (low ++ high) ≡ low ++ without_entry key high
without_high key b [] high le down = refl
without_high key b (e ∷ low) high le down = without_past key e (low ++ high) (omega (arith, le, down.0)) ∙ ap (λ zs. e ∷ zs) (without_high key b low high le down.1)

pub without_left : (key : ℕ) (k : Entry) (xs ys : List Entry) → key < k.key → Ascends (xs ++ k ∷ ys) → without_entry key (xs ++ k ∷ ys) ≡ without_entry key xs ++ k ∷ ys
without_left key k xs ys less up = without_low key k.key xs (k ∷ ys) less (from_entry xs k ys up)

pub without_right : (key : ℕ) (k : Entry) (xs ys : List Entry) → k.key < key → Ascends (xs ++ k ∷ ys) → without_entry key (xs ++ k ∷ ys) ≡ xs ++ k ∷ without_entry key ys
without_right key k xs ys less up =
    without_high key k.key xs (k ∷ ys) (omega (arith, less)) (below_entry xs k ys up) ∙ ap (λ zs. xs ++ zs) (without_past key k ys less)

pub without_here : (key : ℕ) (k : Entry) (xs ys : List Entry) → key ≡ k.key → Ascends (xs ++ k ∷ ys) → without_entry key (xs ++ k ∷ ys) ≡ xs ++ ys
without_here key k xs ys is up =
    let test : (key == k.key) ≡ true = grind (arith, nat_tests, is) in
    without_high key k.key xs (k ∷ ys) (omega (arith, is)) (below_entry xs k ys up) ∙ (rw test refl)

pub ruleset looking = (value_left, value_right, value_here, ascends_front, ascends_after)
