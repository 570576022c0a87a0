-- Serving operations with keys independently on the two sides of a key.
use Rattle.std.proofs.Common.{◌≡◌, ℕ, inl, inr, true, false, nat_lt, if◌then◌else◌, List, [], ◌∷◌, ◌++◌, get_or, drop, refl, ap, arith}
use Rattle.std.proofs.lemmas.Bool.Decides.{nat_tests}
use Rattle.std.proofs.lemmas.Bool.{cases_lt}
use Rattle.keyed_pieces.specs.Keyed.{AreKeyed, AreBelow, AreFrom, after_each, replies_to_each}
use Rattle.keyed_pieces.specs.Ranges.{below, from}

-- the replies of both sides, in the order of the operations
abbrev pub shared : {O R : Type 0} → R → (O → ℕ) → ℕ → List O → List R → List R → List R
shared none key b [] lows highs = []
shared none key b (op ∷ ops) lows highs =
    if nat_lt (key op) b then get_or lows 0 none ∷ shared none key b ops (drop 1 lows) highs else get_or highs 0 none ∷ shared none key b ops lows (drop 1 highs)

pub halves_after : {E O R : Type 0} (at : E → ℕ) (key : O → ℕ) (after : List E → O → List E) (reply : List E → O → R) → AreKeyed at key after reply
    → (b : ℕ) (ops : List O) (low high : List E) → AreBelow at b low → AreFrom at b high
    → after_each after (low ++ high) ops ≡ after_each after low (below key b ops) ++ after_each after high (from key b ops)
halves_after at key after reply laws b [] low high down up = refl
halves_after at key after reply laws b (op ∷ ops) low high down up = elim (cases_lt (key op) b) [
  | inl less ↦
      let test : nat_lt (key op) b ≡ true = grind (arith, nat_tests) in
      let rest = halves_after at key after reply laws b ops (after low op) high (laws.keeps_low b low op less down) up in
      rw (test, laws.low_after b low high op less down up) rest
  | inr le ↦
      let test : nat_lt (key op) b ≡ false = grind (arith, nat_tests) in
      let rest = halves_after at key after reply laws b ops low (after high op) down (laws.keeps_high b high op le up) in
      rw (test, laws.high_after b low high op le down up) rest
]

pub halves_replies : {E O R : Type 0} (at : E → ℕ) (key : O → ℕ) (after : List E → O → List E) (reply : List E → O → R) → AreKeyed at key after reply
    → (none : R) (b : ℕ) (ops : List O) (low high : List E) → AreBelow at b low → AreFrom at b high
    → replies_to_each after reply (low ++ high) ops ≡ shared none key b ops (replies_to_each after reply low (below key b ops)) (replies_to_each after reply high (from key b ops))
halves_replies at key after reply laws none b [] low high down up = refl
halves_replies at key after reply laws none b (op ∷ ops) low high down up = elim (cases_lt (key op) b) [
  | inl less ↦
      let test : nat_lt (key op) b ≡ true = grind (arith, nat_tests) in
      let rest = halves_replies at key after reply laws none b ops (after low op) high (laws.keeps_low b low op less down) up in
      rw (test, laws.low_reply b low high op less down up, laws.low_after b low high op less down up) (ap (λ rs. reply low op ∷ rs) rest)
  | inr le ↦
      let test : nat_lt (key op) b ≡ false = grind (arith, nat_tests) in
      let rest = halves_replies at key after reply laws none b ops low (after high op) down (laws.keeps_high b high op le up) in
      rw (test, laws.high_reply b low high op le down up, laws.high_after b low high op le down up) (ap (λ rs. reply high op ∷ rs) rest)
]
