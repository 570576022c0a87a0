-- The key at an index, and its rank.
use Rattle.std.proofs.Common.{◌≡◌, ℕ, zero, suc, ◌<◌, ◌≤◌, ◌↔◌, Bool, true, false, ◌==◌, if◌then◌else◌, List, [], ◌∷◌, length, Some, None, IsSome, refl, ap, subst, ◌∙◌, arith}
use Rattle.std.specs.List.{AllByRecursion}
use Rattle.std.specs.declared.option.Option.{Option}
use Rattle.std.proofs.lemmas.Bool.Decides.{nat_tests}
use Rattle.rank_nodes.specs.declared.entry.Entry.{Entry}
use Rattle.rank_nodes.specs.Maps.{Ascends, value_at, rank_of, key_at}
use Rattle.rank_nodes.proofs.EntryLemmas.Ranks.{rank_left, rank_right}

-- of entries whose keys are all above m, the key at an index is, and so is each key that has a value
index_above : (m : ℕ) (entries : List Entry) (i key : ℕ) → AllByRecursion (λ (e : Entry). m < e.key) entries → key_at i entries ≡ Some key → m < key
index_above m [] i key above is = cc
index_above m (e ∷ entries) zero key above is = let same : e.key ≡ key = cc in subst (λ k. m < k) same above.0
index_above m (e ∷ entries) (suc i) key above is = index_above m entries i key above.1 is

value_above : (m : ℕ) (entries : List Entry) (key : ℕ) → AllByRecursion (λ (e : Entry). m < e.key) entries → IsSome (value_at key entries) → m < key
value_above m [] key above is = cc
value_above m (e ∷ entries) key above is = step (key == e.key) refl is (λ there. value_above m entries key above.1 there) where
  step : (same : Bool) → (key == e.key) ≡ same → IsSome (if same then Some e.val else value_at key entries) → (IsSome (value_at key entries) → m < key) → m < key
  step true test here later = let one : key ≡ e.key = grind (arith, nat_tests) in rw one above.0
  step false test there later = later there

-- the key at an index has a value, and the index is its rank
index_is_rank : (entries : List Entry) (i key : ℕ) → Ascends entries → key_at i entries ≡ Some key → IsSome (value_at key entries) × (rank_of key entries ≡ i)
index_is_rank [] i key up is = cc
index_is_rank (e ∷ entries) zero key up is =
    let same : e.key ≡ key = cc in
    let test : (key == e.key) ≡ true = grind (arith, nat_tests) in
    (rw test refl, rank_left key e [] entries (omega (arith, same)) up)
index_is_rank (e ∷ entries) (suc i) key up is =
    let above : e.key < key = index_above e.key entries i key up.0 is in
    let test : (key == e.key) ≡ false = grind (arith, nat_tests, above) in
    let rest = index_is_rank entries i key up.1 is in
    (rw test rest.0, omega (arith, rank_right key e [] entries above up, rest.1))

-- a key that has a value stands at its rank
stands_at_rank : (entries : List Entry) (key : ℕ) → Ascends entries → IsSome (value_at key entries) → key_at (rank_of key entries) entries ≡ Some key
stands_at_rank [] key up is = cc
stands_at_rank (e ∷ entries) key up is = step (key == e.key) refl is (λ there. stands_at_rank entries key up.1 there) where
  step : (same : Bool) → (key == e.key) ≡ same → IsSome (if same then Some e.val else value_at key entries)
      → (IsSome (value_at key entries) → key_at (rank_of key entries) entries ≡ Some key) → key_at (rank_of key (e ∷ entries)) (e ∷ entries) ≡ Some key
  step true test here stands =
      let one : key ≡ e.key = grind (arith, nat_tests) in
      let first : rank_of key (e ∷ entries) ≡ 0 = rank_left key e [] entries (omega (arith, one)) up in
      rw first (ap Some (omega (arith, one)))
  step false test there stands =
      let above : e.key < key = value_above e.key entries key up.0 there in
      let later : rank_of key (e ∷ entries) ≡ suc (rank_of key entries) = omega (arith, rank_right key e [] entries above up) in
      rw later (stands there)

pub stands : (entries : List Entry) (i key : ℕ) → Ascends entries → (key_at i entries ≡ Some key) ↔ (IsSome (value_at key entries) × (rank_of key entries ≡ i))
stands entries i key up =
    (index_is_rank entries i key up, λ has. subst (λ j. key_at j entries ≡ Some key) has.1 (stands_at_rank entries key up has.0))

pub past : (entries : List Entry) (i : ℕ) → (key_at i entries ≡ None) ↔ (length entries ≤ i)
past [] i = (λ none. omega arith, λ le. refl)
past (e ∷ entries) zero = (λ none. cc, λ le. absurd (omega (arith, le)))
past (e ∷ entries) (suc i) = let rest = past entries i in (λ none. omega (arith, rest.0 none), λ le. rest.1 (omega (arith, le)))
