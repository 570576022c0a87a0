-- The starts of a batch, and the range in which an index falls.
use Rattle.std.proofs.Common.{◌≡◌, ℕ, zero, suc, ◌+◌, ◌<◌, ◌≤◌, Bool, true, false, not, nat_lt, if◌then◌else◌, List, [], ◌∷◌, ◌++◌, length, drop, get_or, refl, ap, ap₂, sym, subst, ◌∙◌, append_assoc, append-nil, length-append, arith}
use Rattle.std.proofs.lemmas.Grind.{flat_map-append}
use Rattle.std.proofs.lemmas.Bool.Decides.{nat_tests}
use Rattle.key_sets.specs.Keys.{StrictlyAscends}
use Rattle.key_sets.specs.Groups.{group_of, group_size, AreStarts}
use Rattle.key_sets.proofs.GroupLemmas.Cutting.{starts_up}
use Rattle.key_sets.proofs.KeyLemmas.Ascending.{ascends_front, ascends_after, all_below_key}
use Rattle.keyed_pieces.proofs.Cuts.{ranges_apart}
use Rattle.rank_nodes.specs.declared.entry.Entry.{Entry}
use Rattle.keyed_pieces.specs.Ranges.{below, from, ranges, side_by_side}
use Rattle.rank_nodes.specs.Maps.{key_of, Ascends, AllBelow}
use Rattle.rank_nodes.proofs.EntryLemmas.Ascending.{all_front, all_back, ascends_front as entries_front, ascends_back as entries_back}
use Rattle.batched_map.specs.declared.piece.Range.{Range}
use Rattle.batched_map.specs.Code.Ranges.{sizes_before}
use Rattle.batched_map.specs.Code.Pieces.{IsJoined, AreAdded, trees, befores}

pub starts_ascend : (keys starts : List ℕ) → StrictlyAscends keys → AreStarts (group_size (length keys)) keys starts → StrictlyAscends starts
starts_ascend [] [] up are = tt
starts_ascend [] (start ∷ starts) up are = cc
starts_ascend (k ∷ keys) starts up are = starts_up (group_size (length (k ∷ keys))) (k ∷ keys) starts (omega arith) up are

-- an index that is not before a range, and one that is, and one past all ranges
pub passes : (ranges : List Range) (index number : ℕ) (r : Range) → number < length ranges → get_or ranges number r ≡ r → r.before ≤ index
    → group_of index (drop number (befores ranges)) ≡ suc (group_of index (drop (number + 1) (befores ranges)))
passes [] index number r less is le = absurd (omega (arith, less))
passes (x ∷ ranges) index zero r less is le =
    let under : x.before ≤ index = rw is le in
    let test : nat_lt index x.before ≡ false = grind (arith, nat_tests, under) in
    rw test refl
passes (x ∷ ranges) index (suc number) r less is le =
    let e : suc number + 1 ≡ suc (number + 1) = omega arith in
    rw e (passes ranges index number r (omega (arith, less)) is le)

pub stops : (ranges : List Range) (index number : ℕ) (r : Range) → number < length ranges → get_or ranges number r ≡ r → index < r.before
    → group_of index (drop number (befores ranges)) ≡ 0
stops [] index number r less is under = absurd (omega (arith, less))
stops (x ∷ ranges) index zero r less is under =
    let over : index < x.before = rw is under in
    let test : nat_lt index x.before ≡ true = grind (arith, nat_tests, over) in
    rw test refl
stops (x ∷ ranges) index (suc number) r less is under = stops ranges index number r (omega (arith, less)) is under

-- of a list that ascends, what stands before a part is below it
pub below_next : (low range rest : List Entry) → Ascends (low ++ (range ++ rest)) → AllBelow low range
below_next [] range rest up = tt
below_next (e ∷ low) range rest up =
    (all_front (λ f. e.key < f.key) range rest (all_back (λ f. e.key < f.key) low (range ++ rest) up.0), below_next low range rest up.1)

-- a list has those below a key and those from it on
pub sides_counted : (b : ℕ) (entries : List Entry) → length (below key_of b entries) + length (from key_of b entries) ≡ length entries
sides_counted b [] = refl
sides_counted b (e ∷ entries) = step (nat_lt e.key b) (sides_counted b entries) where
  step : (t : Bool) → length (below key_of b entries) + length (from key_of b entries) ≡ length entries
      → length (if t then e ∷ below key_of b entries else below key_of b entries) + length (if not t then e ∷ from key_of b entries else from key_of b entries) ≡ suc (length entries)
  step true is = omega (arith, is)
  step false is = omega (arith, is)

-- how many entries ranges have in all
abbrev total : List (List Entry) → ℕ
total [] = 0
total (range ∷ rs) = length range + total rs

total_ranges : (starts : List ℕ) (entries : List Entry) → total (ranges key_of starts entries) ≡ length entries
total_ranges [] entries = omega arith
total_ranges (b ∷ starts) entries =
    let rest = total_ranges starts (from key_of b entries) in
    omega (arith, rest, sides_counted b entries)

sizes_both : (before : ℕ) (lows highs : List (List Entry)) → sizes_before before (lows ++ highs) ≡ sizes_before before lows ++ sizes_before (before + total lows) highs
sizes_both before [] highs = let same : before + 0 ≡ before = omega arith in rw same refl
sizes_both before (range ∷ lows) highs =
    let sum : before + length range + total lows ≡ before + (length range + total lows) = omega arith in
    ap (λ sizes. before ∷ sizes) (sizes_both (before + length range) lows highs ∙ ap (λ n. sizes_before (before + length range) lows ++ sizes_before n highs) sum)

-- a part that is cut at one of its starts, and then each side at the others
pub record IsHalved (before : ℕ) (starts lows highs : List ℕ) (part low high : List Entry) : Type 0 where
  pub few_low : length low ≤ length part
  pub few : before + length low + length high ≡ before + length part
  pub fewer_lows : length lows < length starts
  pub fewer_highs : length highs < length starts
  pub ascends_low : StrictlyAscends lows
  pub ascends_high : StrictlyAscends highs
  pub ranges_are : ranges key_of starts part ≡ ranges key_of lows low ++ ranges key_of highs high
  pub sizes_are : sizes_before before (ranges key_of starts part)
      ≡ sizes_before before (ranges key_of lows low) ++ sizes_before (before + length low) (ranges key_of highs high)

pub halved : (before : ℕ) (starts lows : List ℕ) (start : ℕ) (highs : List ℕ) (part low high : List Entry) → StrictlyAscends starts → starts ≡ lows ++ start ∷ highs
    → low ≡ below key_of start part → high ≡ from key_of start part → IsHalved before starts lows highs part low high
halved before starts lows start highs part low high up whole low_is high_is =
    let ascends = subst StrictlyAscends whole up in
    let under = all_below_key lows start highs ascends in
    let count = sides_counted start part in
    let low_count : length low ≡ length (below key_of start part) = ap length low_is in
    let high_count : length high ≡ length (from key_of start part) = ap length high_is in
    let long : length starts ≡ length lows + suc (length highs) = ap length whole ∙ length-append lows (start ∷ highs) in
    let apart : ranges key_of starts part ≡ ranges key_of lows low ++ ranges key_of highs high =
    ap (λ all. ranges key_of all part) whole ∙ ranges_apart key_of lows start highs part under ∙ rw (low_is, high_is) refl in
    record {
      few_low = omega (arith, count, low_count);
      few = omega (arith, count, low_count, high_count);
      fewer_lows = omega (arith, long);
      fewer_highs = omega (arith, long);
      ascends_low = ascends_front lows (start ∷ highs) ascends;
      ascends_high = ascends_after lows start highs ascends;
      ranges_are = apart;
      sizes_are = ap (sizes_before before) apart ∙ sizes_both before (ranges key_of lows low) (ranges key_of highs high)
          ∙ ap (λ n. sizes_before before (ranges key_of lows low) ++ sizes_before (before + n) (ranges key_of highs high)) (total_ranges lows low);
    }

pub added_both : (before : ℕ) (starts lows highs : List ℕ) (part low high : List Entry) (there middle all : List Range) → IsHalved before starts lows highs part low high
    → AreAdded before low lows there middle → AreAdded (before + length low) high highs middle all → AreAdded before part starts there all
added_both before starts lows highs part low high there middle all is first second = record {
  trees_are = second.trees_are ∙ ap (λ front. front ++ ranges key_of highs high) first.trees_are
      ∙ append_assoc (trees there) (ranges key_of lows low) (ranges key_of highs high)
      ∙ ap (λ rest. trees there ++ rest) (sym is.ranges_are);
  befores_are = second.befores_are ∙ ap (λ front. front ++ sizes_before (before + length low) (ranges key_of highs high)) first.befores_are
      ∙ append_assoc (befores there) (sizes_before before (ranges key_of lows low)) (sizes_before (before + length low) (ranges key_of highs high))
      ∙ ap (λ rest. befores there ++ rest) (sym is.sizes_are);
}

-- of trees side by side that ascend, the last ones are above those before them
pub last_apart : (all front lows highs : List (List Entry)) → all ≡ front ++ (lows ++ highs) → Ascends (side_by_side all) → AllBelow (side_by_side lows) (side_by_side highs)
last_apart all front lows highs are up =
    let parts : side_by_side all ≡ side_by_side front ++ (side_by_side lows ++ side_by_side highs) =
    ap side_by_side are ∙ flat_map-append (λ tree. tree) front (lows ++ highs) ∙ ap (λ rest. side_by_side front ++ rest) (flat_map-append (λ tree. tree) lows highs) in
    let apart = subst Ascends parts up in
    let both = entries_back (side_by_side front) (side_by_side lows ++ side_by_side highs) apart in
    below_next (side_by_side lows) (side_by_side highs) [] (rw (append-nil (side_by_side highs)) both)

-- what is joined of the front of a list that ascends, and the front itself, ascend
pub front_ascends : (all front lasts : List (List Entry)) → all ≡ front ++ lasts → Ascends (side_by_side all) → Ascends (side_by_side front)
front_ascends all front lasts are up =
    let parts : side_by_side all ≡ side_by_side front ++ side_by_side lasts = ap side_by_side are ∙ flat_map-append (λ tree. tree) front lasts in
    entries_front (side_by_side front) (side_by_side lasts) (subst Ascends parts up)

-- two joins, one after another
pub joined_both : (all middle left : List (List Entry)) (n m count : ℕ) (low high tree : List Entry) → IsJoined all middle m high → IsJoined middle left n low
    → n + m ≡ count → tree ≡ low ++ high → IsJoined all left count tree
joined_both all middle left n m count low high tree last first sum is = record {
  last = first.last ++ last.last;
  all_are = last.all_are ∙ ap (λ front. front ++ last.last) first.all_are ∙ append_assoc left first.last last.last;
  count_is = let both = length-append first.last last.last in omega (arith, both, first.count_is, last.count_is, sum);
  tree_is = is ∙ ap₂ (λ l h. l ++ h) first.tree_is last.tree_is ∙ sym (flat_map-append (λ tree. tree) first.last last.last);
}

-- the number of trees that are left
pub left_count : (all left : List (List Entry)) (count : ℕ) (tree : List Entry) → IsJoined all left count tree → length left + count ≡ length all
left_count all left count tree is =
    let both = length-append left is.last in
    omega (arith, both, is.count_is, ap length is.all_are)

-- all trees
pub all_joined : (all left : List (List Entry)) (tree : List Entry) → IsJoined all left (length all) tree → tree ≡ side_by_side all
all_joined all left tree is = step left is.all_are (left_count all left (length all) tree is) where
  step : (front : List (List Entry)) → all ≡ front ++ is.last → length left + length all ≡ length all → tree ≡ side_by_side all
  step [] are count = is.tree_is ∙ ap side_by_side (sym are)
  step (x ∷ front) are count =
      let long : suc (length front) + length is.last ≡ length all = sym (ap length are ∙ length-append (x ∷ front) is.last) in
      absurd (omega (arith, long, is.count_is))
