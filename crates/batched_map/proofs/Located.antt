-- A query finds in its range what it finds in the whole map.
use Rattle.std.proofs.Common.{◌≡◌, ℕ, zero, suc, ◌+◌, ◌-◌, ◌≤◌, inl, inr, true, false, nat_lt, if◌then◌else◌, List, [], ◌∷◌, ◌++◌, length, drop, get_or, refl, ap, sym, ◌∙◌, arith}
use Rattle.std.proofs.lemmas.Bool.Decides.{nat_tests}
use Rattle.key_sets.specs.Groups.{group_of}
use Rattle.std.proofs.lemmas.Bool.{cases_lt}
use Rattle.keyed_pieces.specs.Ranges.{below, from, ranges}
use Rattle.keyed_pieces.proofs.Sides.{all_below, all_from, both_sides, ascends_from}
use Rattle.rank_nodes.specs.declared.entry.Entry.{Entry}
use Rattle.rank_nodes.specs.Maps.{key_of, Ascends, value_at, rank_of, key_at}
use Rattle.rank_nodes.proofs.EntryLemmas.Beside.{value_low, value_high}
use Rattle.rank_nodes.proofs.EntryLemmas.Ranks.{rank_low, rank_high}
use Rattle.seq_objects.specs.Objects.{number_or_empty}
use Rattle.seq_objects.specs.declared.reply.Reply.TheVariants.{Number}
use Rattle.batched_map.specs.declared.call.MapOp.{MapOp}
use Rattle.batched_map.specs.declared.call.MapOp.TheVariants.{Get, Rank, Nth}
use Rattle.batched_map.specs.Maps.{is_query, reply_to}
use Rattle.batched_map.specs.Code.Ranges.{sizes_before, range_of, reply_in}

value_located : (starts : List ℕ) (entries : List Entry) (key : ℕ) → Ascends entries
    → value_at key (get_or (ranges key_of starts entries) (group_of key starts) []) ≡ value_at key entries
value_located [] entries key up = refl
value_located (b ∷ starts) entries key up =
    let low = below key_of b entries in
    let high = from key_of b entries in
    elim (cases_lt key b) [
      | inl less ↦
          let test : nat_lt key b ≡ true = grind (arith, nat_tests) in
          rw test (sym (ap (value_at key) (both_sides key_of b entries up) ∙ value_low key b low high less (all_from key_of b entries)))
      | inr le ↦
          let test : nat_lt key b ≡ false = grind (arith, nat_tests) in
          rw test (value_located starts high key (ascends_from key_of b entries up)
          ∙ sym (ap (value_at key) (both_sides key_of b entries up) ∙ value_high key b low high le (all_below key_of b entries)))
    ]

-- the first range has `before` keys before it
sizes_from : (before : ℕ) (starts : List ℕ) (entries : List Entry)
    → sizes_before before (ranges key_of starts entries) ≡ before ∷ drop 1 (sizes_before before (ranges key_of starts entries))
sizes_from before [] entries = refl
sizes_from before (b ∷ starts) entries = refl

rank_located : (starts : List ℕ) (before : ℕ) (entries : List Entry) (key : ℕ) → Ascends entries
    → get_or (sizes_before before (ranges key_of starts entries)) (group_of key starts) 0 + rank_of key (get_or (ranges key_of starts entries) (group_of key starts) [])
    ≡ before + rank_of key entries
rank_located [] before entries key up = refl
rank_located (b ∷ starts) before entries key up =
    let low = below key_of b entries in
    let high = from key_of b entries in
    elim (cases_lt key b) [
      | inl less ↦
          let test : nat_lt key b ≡ true = grind (arith, nat_tests) in
          rw test (ap (λ n. before + n) (sym (ap (rank_of key) (both_sides key_of b entries up) ∙ rank_low key b low high (omega (arith, less)) (all_from key_of b entries))))
      | inr le ↦
          let test : nat_lt key b ≡ false = grind (arith, nat_tests) in
          let rest = rank_located starts (before + length low) high key (ascends_from key_of b entries up) in
          let sum : rank_of key entries ≡ length low + rank_of key high = ap (rank_of key) (both_sides key_of b entries up) ∙ rank_high key b low high le (all_below key_of b entries) in
          let joined : before + length low + rank_of key high ≡ before + rank_of key entries = omega (arith, sum) in
          rw test (rest ∙ joined)
    ]

-- the key at an index of two lists, one after another
key_append : (i : ℕ) (low high : List Entry) → key_at i (low ++ high) ≡ (if nat_lt i (length low) then key_at i low else key_at (i - length low) high)
key_append i [] high =
    let test : nat_lt i 0 ≡ false = grind (arith, nat_tests) in
    let same : i - 0 ≡ i = omega arith in
    rw (test, same) refl
key_append zero (p ∷ low) high =
    let test : nat_lt 0 (suc (length low)) ≡ true = grind (arith, nat_tests) in
    rw test refl
key_append (suc i) (p ∷ low) high = elim (cases_lt i (length low)) [
  | inl less ↦
      let test : nat_lt (suc i) (suc (length low)) ≡ true = grind (arith, nat_tests) in
      let test' : nat_lt i (length low) ≡ true = grind (arith, nat_tests) in
      rw test (rw test' at (key_append i low high))
  | inr le ↦
      let test : nat_lt (suc i) (suc (length low)) ≡ false = grind (arith, nat_tests) in
      let test' : nat_lt i (length low) ≡ false = grind (arith, nat_tests) in
      let same : suc i - suc (length low) ≡ i - length low = omega arith in
      rw (test, same) (rw test' at (key_append i low high))
]

key_located : (starts : List ℕ) (before : ℕ) (entries : List Entry) (index : ℕ) → before ≤ index → Ascends entries
    → let rs = ranges key_of starts entries in let group = group_of index (drop 1 (sizes_before before rs)) in
    key_at (index - get_or (sizes_before before rs) group 0) (get_or rs group []) ≡ key_at (index - before) entries
key_located [] before entries index le up = refl
key_located (b ∷ starts) before entries index le up =
    let low = below key_of b entries in
    let high = from key_of b entries in
    let next = before + length low in
    let sides : key_at (index - before) entries ≡ key_at (index - before) (low ++ high) = ap (key_at (index - before)) (both_sides key_of b entries up) in
    elim (cases_lt index next) [
      | inl less ↦
          let test : nat_lt index next ≡ true = grind (arith, nat_tests) in
          let test' : nat_lt (index - before) (length low) ≡ true = grind (arith, nat_tests, less, le) in
          rw (sizes_from next starts high, test) (sym (sides ∙ rw test' at (key_append (index - before) low high)))
      | inr le' ↦
          let test : nat_lt index next ≡ false = grind (arith, nat_tests) in
          let test' : nat_lt (index - before) (length low) ≡ false = grind (arith, nat_tests, le', le) in
          let same : index - before - length low ≡ index - next = omega arith in
          let rest = key_located starts next high index le' (ascends_from key_of b entries up) in
          rw (sizes_from next starts high, test) (rest ∙ sym (sides ∙ rw (test', same) at (key_append (index - before) low high)))
    ]

pub located : (starts : List ℕ) (entries : List Entry) → Ascends entries → (op : MapOp) → is_query op ≡ true
    → let rs = ranges key_of starts entries in let group = range_of starts (drop 1 (sizes_before 0 rs)) op in
    reply_in (get_or (sizes_before 0 rs) group 0) (get_or rs group []) op ≡ reply_to entries op
located starts entries up (Get key) is = ap number_or_empty (value_located starts entries key up)
located starts entries up (Rank key) is =
    let whole : 0 + rank_of key entries ≡ rank_of key entries = omega arith in
    ap Number (rank_located starts 0 entries key up ∙ whole)
located starts entries up (Nth index) is =
    let whole : index - 0 ≡ index = omega arith in
    ap number_or_empty (key_located starts 0 entries index (omega arith) up ∙ ap (λ i. key_at i entries) whole)
located starts entries up _ is = cc
