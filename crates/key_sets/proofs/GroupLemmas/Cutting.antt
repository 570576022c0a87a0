-- Ascending keys, divided into groups of consecutive keys.
use Rattle.std.proofs.Common.{◌≡◌, ℕ, zero, suc, ◌<◌, ◌≤◌, false, List, [], ◌∷◌, ◌++◌, length, map, get_or, take, drop, slice_get, Some, refl, sym, ap, ◌∙◌, subst, append-nil, arith}
use Rattle.std.specs.List.{AllByRecursion}
use Rattle.std.proofs.lemmas.Grind.{common_steps}
use Rattle.key_sets.specs.Keys.{StrictlyAscends, has}
use Rattle.key_sets.specs.Groups.{AreGroups, AreStarts, least_of, starts_of}
use Rattle.key_sets.proofs.KeyLemmas.Sides.{above_too}
use Rattle.key_sets.proofs.KeyLemmas.Beside.{has_high}

-- a property of all keys, for the key at an index
pub all_get : (P : ℕ → Type 0) (xs : List ℕ) (i x : ℕ) → AllByRecursion P xs → slice_get xs i ≡ Some x
    → P x
all_get P [] i x each is = absurd (cc)
all_get P (y ∷ xs) zero x each is = let same : y ≡ x = cc in subst P same each.0
all_get P (y ∷ xs) (suc i) x each is = all_get P xs i x each.1 is

pub absent_above : (key b : ℕ) (low : List ℕ) → b ≤ key → AllByRecursion (λ k. k < b) low
    → has key low ≡ false
absent_above key b low le down = let whole = has_high key b low [] le down in rw append-nil at whole

-- ascending keys, cut before the key `b`
pub record AreApart (b : ℕ) (low high : List ℕ) : Type 0 where
  pub down : AllByRecursion (λ k. k < b) low
  pub up : AllByRecursion (λ k. b ≤ k) high
  pub ascends : StrictlyAscends high

pub apart : (size b : ℕ) (keys : List ℕ) → StrictlyAscends keys → slice_get keys size ≡ Some b
    → AreApart b (take size keys) (drop size keys)
apart size b [] up is = absurd (cc)
apart zero b (k ∷ keys) up is =
    let same : k ≡ b = cc in
    record { down = tt; up = (omega (arith, same), above_too b k keys (omega (arith, same)) up.0); ascends = up }
apart (suc size) b (k ∷ keys) up is =
    let rest = apart size b keys up.1 is in
    record { down = (all_get (λ j. k < j) keys size b up.0 is, rest.down); up = rest.up; ascends = rest.ascends }

pub take_drop : (size : ℕ) (keys : List ℕ) → take size keys ++ drop size keys ≡ keys
take_drop size keys = grind (arith, common_steps)

pub all_take : (P : ℕ → Type 0) (size : ℕ) (keys : List ℕ) → AllByRecursion P keys
    → AllByRecursion P (take size keys)
all_take P zero keys each = tt
all_take P (suc size) [] each = tt
all_take P (suc size) (k ∷ keys) each = (each.0, all_take P size keys each.1)

pub get_drop : (size : ℕ) (keys : List ℕ) → slice_get (drop size keys) 0 ≡ slice_get keys size
get_drop zero keys = refl
get_drop (suc size) [] = refl
get_drop (suc size) (k ∷ keys) = get_drop size keys

pub get_take : (size : ℕ) (keys : List ℕ) → 0 < size → slice_get (take size keys) 0 ≡ slice_get keys 0
get_take zero keys some = absurd (omega arith)
get_take (suc size) [] some = refl
get_take (suc size) (k ∷ keys) some = refl

pub get_less : (keys : List ℕ) (i x : ℕ) → slice_get keys i ≡ Some x → i < length keys
get_less [] i x is = absurd (cc)
get_less (k ∷ keys) zero x is = omega arith
get_less (k ∷ keys) (suc i) x is = omega (arith, get_less keys i x is)

pub first_index : (b : ℕ) (keys : List ℕ) → slice_get keys 0 ≡ Some b → get_or keys 0 0 ≡ b
first_index b [] is = absurd (cc)
first_index b (k ∷ keys) is = cc

-- the groups that begin at the given starts, `size` keys each but the last
abbrev pub groups_by : ℕ → List ℕ → List ℕ → List (List ℕ)
groups_by size keys [] = keys ∷ []
groups_by size keys (start ∷ starts) = take size keys ∷ groups_by size (drop size keys) starts

pub groups_are : (size : ℕ) (keys starts : List ℕ) → 0 < length keys → AreStarts size keys starts
    → AreGroups size keys (groups_by size keys starts)
groups_are size keys [] some short =
    let all : keys ≡ take size keys = grind (arith, common_steps) in
    let none : drop size keys ≡ [] = grind (arith, common_steps) in
    (some, all, none)
groups_are size keys (start ∷ starts) some are =
    let less : size < length keys = get_less keys size start are.0 in
    let left : 0 < length (drop size keys) = grind (arith, common_steps) in
    (some, refl, groups_are size (drop size keys) starts left are.1)

pub least_is : (size b : ℕ) (keys starts : List ℕ) → 0 < size → slice_get keys 0 ≡ Some b
    → least_of (groups_by size keys starts) ≡ Some b
least_is size b keys [] some is = is
least_is size b keys (start ∷ starts) some is = get_take size keys some ∙ is

-- the starts of groups ascend as the keys do
all_drop : (P : ℕ → Type 0) (size : ℕ) (keys : List ℕ) → AllByRecursion P keys
    → AllByRecursion P (drop size keys)
all_drop P zero keys each = each
all_drop P (suc size) [] each = tt
all_drop P (suc size) (k ∷ keys) each = all_drop P size keys each.1

all_starts : (P : ℕ → Type 0) (size : ℕ) (keys starts : List ℕ) → AllByRecursion P keys
    → AreStarts size keys starts → AllByRecursion P starts
all_starts P size keys [] each are = tt
all_starts P size keys (b ∷ starts) each are = (all_get P keys size b each are.0, all_starts P size (drop size keys) starts (all_drop P size keys each) are.1)

starts_above : (size b : ℕ) (keys starts : List ℕ) → 0 < size → slice_get keys 0 ≡ Some b
    → StrictlyAscends keys → AreStarts size keys starts → AllByRecursion (λ k. b < k) starts
starts_above size b keys [] some is up are = tt
starts_above zero b keys (c ∷ starts) some is up are = absurd (omega arith)
starts_above (suc size) b [] (c ∷ starts) some is up are = absurd (cc)
starts_above (suc size) b (k ∷ keys) (c ∷ starts) some is up are =
    let same : k ≡ b = cc in
    let above = subst (λ x. AllByRecursion (λ j. x < j) keys) same up.0 in
    (all_get (λ j. b < j) keys size c above are.0, all_starts (λ j. b < j) (suc size) (drop size keys) starts (all_drop (λ j. b < j) size keys above) are.1)

pub starts_up : (size : ℕ) (keys starts : List ℕ) → 0 < size → StrictlyAscends keys
    → AreStarts size keys starts → StrictlyAscends starts
starts_up size keys [] some up are = tt
starts_up size keys (b ∷ starts) some up are =
    let cut = apart size b keys up are.0 in
    (starts_above size b (drop size keys) starts some (get_drop size keys ∙ are.0) cut.ascends are.1, starts_up size (drop size keys) starts some cut.ascends are.1)

pub first_is : (keys : List ℕ) → 0 < length keys → slice_get keys 0 ≡ Some (get_or keys 0 0)
first_is [] some = absurd (omega arith)
first_is (k ∷ keys) some = refl

pub next_start : (size : ℕ) (keys next : List ℕ) → 0 < size → 0 < length (drop size keys)
    → next ≡ take size (drop size keys)
    → (slice_get next 0 ≡ Some (get_or next 0 0)) × (slice_get keys size ≡ Some (get_or next 0 0))
next_start size keys next some left is =
    let long : 0 < length next = rw is (grind (arith, common_steps)) in
    let first = first_is next long in
    let same : slice_get next 0 ≡ slice_get keys size = rw is (get_take size (drop size keys) some ∙ get_drop size keys) in
    (first, sym same ∙ first)

pub starts_again : (size : ℕ) (keys starts : List ℕ) → 0 < size → AreStarts size keys starts
    → starts_of (groups_by size keys starts) ≡ starts
starts_again size keys [] some are = refl
starts_again size keys (b ∷ starts) some are =
    let next = least_is size b (drop size keys) starts some (get_drop size keys ∙ are.0) in
    begun starts next (starts_again size (drop size keys) starts some are.1) where
      begun : (starts : List ℕ) → least_of (groups_by size (drop size keys) starts) ≡ Some b
          → starts_of (groups_by size (drop size keys) starts) ≡ starts
          → map (λ next. get_or next 0 0) (groups_by size (drop size keys) starts) ≡ b ∷ starts
      begun [] next rest = ap (λ k. k ∷ []) (first_index b (drop size keys) next)
      begun (c ∷ starts) next rest = rw (first_index b (take size (drop size keys)) next, rest) refl

pub all_from_0 : (keys : List ℕ) → AllByRecursion (λ k. 0 ≤ k) keys
all_from_0 [] = tt
all_from_0 (k ∷ keys) = (omega arith, all_from_0 keys)
