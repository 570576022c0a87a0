-- Cutting off one more part, and appending one more part.
use Rattle.std.proofs.Common.{◌≡◌, ℕ, ◌+◌, ◌<◌, List, [], ◌∷◌, ◌++◌, length, drop, get_or, ap, sym, ◌∙◌, append_assoc}
use Rattle.std.proofs.lemmas.List.{drop_more}
use Rattle.key_sets.specs.Keys.{StrictlyAscends, AllBelow}
use Rattle.key_sets.specs.Splits.{IsSplit}
use Rattle.key_sets.proofs.KeyLemmas.Ascending.{all_front, all_back}
use Rattle.key_sets.proofs.KeyLemmas.Sides.{split_sides}
use Rattle.keyed_pieces.specs.Ranges.{below, from, ranges}

-- the ranges of a set of keys
abbrev pub ranges_in : List ℕ → List ℕ → List (List ℕ)
ranges_in starts set = ranges (λ key. key) starts set

pub one_more : (starts : List ℕ) (i : ℕ) (set low high : List ℕ) (before all : List (List ℕ)) → i < length starts
    → IsSplit (get_or starts i 0) set low high → before ++ ranges_in (drop i starts) set ≡ all
    → (before ++ low ∷ []) ++ ranges_in (drop (i + 1) starts) high ≡ all
one_more starts i set low high before all less cut told =
    let here = drop_more starts i 0 less in
    let sides = split_sides (get_or starts i 0) set low high cut in
    let told' = rw (here, sides.0, sides.1) at told in
    append_assoc before (low ∷ []) (ranges_in (drop (i + 1) starts) high) ∙ told'

-- in an ascending list, the keys of a part are below those of the next
pub below_next : (first next others : List ℕ) → StrictlyAscends (first ++ (next ++ others)) → AllBelow first next
below_next [] next others up = tt
below_next (k ∷ first) next others up =
    (all_front (λ j. k < j) next others (all_back (λ j. k < j) first (next ++ others) up.0), below_next first next others up.1)
