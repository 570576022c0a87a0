-- Operations that have a key each, and touch only what is at that key.
use Rattle.std.specs.Prelude.{◌≡◌, ℕ, ◌<◌, ◌≤◌, List, [], ◌∷◌, ◌++◌, ⊤}
use Rattle.std.specs.List.{AllByRecursion}

-- the keys strictly ascend: that of each entry is below those of all later ones
abbrev pub AscendsBy : {E : Type 0} → (E → ℕ) → List E → Type 0
AscendsBy at [] = ⊤
AscendsBy at (e ∷ entries) = AllByRecursion (λ later. at e < at later) entries × AscendsBy at entries

-- all keys are below `start`
abbrev pub AreBelow : {E : Type 0} → (E → ℕ) → ℕ → List E → Type 0
AreBelow at start entries = AllByRecursion (λ e. at e < start) entries

-- no key is below `start`
abbrev pub AreFrom : {E : Type 0} → (E → ℕ) → ℕ → List E → Type 0
AreFrom at start entries = AllByRecursion (λ e. start ≤ at e) entries

-- Each operation touches only what is at its own key. For a cut at any key, an operation whose key is below the cut
-- leaves the entries from the cut on as they are, has the effect and the reply that it has on the low entries alone,
-- and leaves all of these below the cut. The same holds of an operation whose key is not below the cut, with the sides
-- exchanged.
pub record AreKeyed {E O R : Type 0} (at : E → ℕ) (key : O → ℕ) (after : List E → O → List E) (reply : List E → O → R) : Type 0 where
  pub low_after : (cut : ℕ) (low high : List E) (op : O) → key op < cut → AreBelow at cut low → AreFrom at cut high
      → after (low ++ high) op ≡ after low op ++ high
  pub low_reply : (cut : ℕ) (low high : List E) (op : O) → key op < cut → AreBelow at cut low → AreFrom at cut high
      → reply (low ++ high) op ≡ reply low op
  pub high_after : (cut : ℕ) (low high : List E) (op : O) → cut ≤ key op → AreBelow at cut low → AreFrom at cut high
      → after (low ++ high) op ≡ low ++ after high op
  pub high_reply : (cut : ℕ) (low high : List E) (op : O) → cut ≤ key op → AreBelow at cut low → AreFrom at cut high
      → reply (low ++ high) op ≡ reply high op
  pub keeps_low : (cut : ℕ) (low : List E) (op : O) → key op < cut → AreBelow at cut low → AreBelow at cut (after low op)
  pub keeps_high : (cut : ℕ) (high : List E) (op : O) → cut ≤ key op → AreFrom at cut high → AreFrom at cut (after high op)

-- the entries after operations that are applied one after another
abbrev pub after_each : {E O : Type 0} → (List E → O → List E) → List E → List O → List E
after_each after entries [] = entries
after_each after entries (op ∷ operations) = after_each after (after entries op) operations

-- the replies to operations, each applied to the entries that the earlier ones leave
abbrev pub replies_to_each : {E O R : Type 0} → (List E → O → List E) → (List E → O → R) → List E → List O → List R
replies_to_each after reply entries [] = []
replies_to_each after reply entries (op ∷ operations) =
    reply entries op ∷ replies_to_each after reply (after entries op) operations
