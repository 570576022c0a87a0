-- A map that is served in ranges is served as a whole.
use Rattle.std.proofs.Common.{◌≡◌, ℕ, zero, suc, ◌+◌, ◌<◌, ◌≤◌, inl, inr, true, false, ◌==◌, List, [], ◌∷◌, ◌++◌, length, map, drop, get_or, refl, ap, sym, subst, ◌∙◌, arith}
use Rattle.std.specs.List.{AllByRecursion}
use Rattle.std.specs.declared.vec.Vec.{Vec}
use Rattle.std.specs.declared.alloc.Global.{Global}
use Rattle.std.proofs.lemmas.List.{length-map}
use Rattle.std.proofs.lemmas.List.FromFn.{get_or-map-range_with_len, length-map-range_with_len}
use Rattle.key_sets.specs.Groups.{group_of}
use Rattle.key_sets.proofs.GroupLemmas.Counting.{group_within}
use Rattle.seq_objects.specs.Pieces.{AllMeet}
use Rattle.keyed_pieces.specs.Dealing.{dealt, lists, of_group, HaveReplies}
use Rattle.keyed_pieces.specs.Keyed.{replies_to_each}
use Rattle.keyed_pieces.specs.Ranges.{ranges, side_by_side, after_by_range, replies_by_range, merged}
use Rattle.keyed_pieces.proofs.Sides.{range_count}
use Rattle.keyed_pieces.proofs.Service.{ranges_after}
use Rattle.keyed_pieces.proofs.DealLemmas.{dealt_is, same_or_other, is_same}
use Rattle.keyed_pieces.proofs.Apart.{merged_back, have_dealt, range_replies, group_answers}
use Rattle.rank_nodes.specs.declared.entry.Entry.{Entry}
use Rattle.rank_nodes.specs.Maps.{key_of, Ascends}
use Rattle.rank_nodes.proofs.EntryLemmas.Ascending.{ascends_with, ascends_without}
use Rattle.seq_objects.specs.declared.reply.Reply.{Reply}
use Rattle.batched_map.specs.declared.call.MapOp.{MapOp}
use Rattle.batched_map.specs.declared.call.MapOp.TheVariants.{Put, Del, Get, Rank, Nth}
use Rattle.batched_map.specs.declared.piece.Range.{Range}
use Rattle.batched_map.specs.declared.piece.Piece.{Piece}
use Rattle.batched_map.specs.declared.piece.Served.{Served}
use Rattle.batched_map.specs.Maps.{after, reply_to, map_after, map_replies, is_query, op_key}
use Rattle.batched_map.specs.Code.Ranges.{sizes_before, range_of, reply_in, replies_in, replies_in_each}
use Rattle.batched_map.specs.Code.Pieces.{Meets, AreRanges, AreDealt, trees, befores, ranges_in, operations_in, groups_in, trees_left, replies_left}
use Rattle.batched_map.proofs.Keyed.{keyed, old_value}
use Rattle.batched_map.proofs.Located.{located}
use Rattle.batched_map.proofs.Serial.{AreQueries, AreUpdates, InParts, after_queries, replies_to_queries, replies_to_updates, old_in_range, old_in_whole}
use Rattle.batched_map.proofs.Pieces.{trees_come, replies_come, each_reply, count_replies, same_left}

-- the ranges of a map that is cut at these keys
abbrev cuts : List ℕ → List Entry → List (List Entry)
cuts starts entries = ranges key_of starts entries

abbrev sizes : List ℕ → List Entry → List ℕ
sizes starts entries = sizes_before 0 (cuts starts entries)

-- the number of an operation's range
abbrev group_in : List ℕ → List Entry → MapOp → ℕ
group_in starts entries op = range_of starts (drop 1 (sizes starts entries)) op

size_count : (before : ℕ) (rs : List (List Entry)) → length (sizes_before before rs) ≡ length rs
size_count before [] = refl
size_count before (range ∷ rs) = ap suc (size_count (before + length range) rs)

-- there is an index for each start, so each operation has a range
index_count : (starts : List ℕ) (entries : List Entry) → length (drop 1 (sizes starts entries)) ≡ length starts
index_count [] entries = refl
index_count (b ∷ starts) entries = size_count _ _ ∙ range_count key_of starts _ ∙ (let e : length starts + 1 ≡ suc (length starts) = omega arith in e)

within : (starts : List ℕ) (entries : List Entry) (op : MapOp) → group_in starts entries op ≤ length starts
within starts entries (Put key val) = group_within key starts
within starts entries (Del key) = group_within key starts
within starts entries (Get key) = group_within key starts
within starts entries (Rank key) = group_within key starts
within starts entries (Nth index) =
    let few = group_within index (drop 1 (sizes starts entries)) in
    rw (index_count starts entries) at few

all_within : (starts : List ℕ) (entries : List Entry) (n : ℕ) → n ≡ length starts + 1 → (ops : List MapOp)
    → AllByRecursion (λ g. g < n) (map (group_in starts entries) ops)
all_within starts entries n is [] = tt
all_within starts entries n is (op ∷ ops) =
    let le = within starts entries op in
    (omega (arith, le, is), all_within starts entries n is ops)

-- the range of an update is that of its key
update_group : (starts : List ℕ) (entries : List Entry) (op : MapOp) → is_query op ≡ false → group_in starts entries op ≡ group_of (op_key op) starts
update_group starts entries (Put key val) is = refl
update_group starts entries (Del key) is = refl
update_group starts entries _ is = cc

update_groups : (starts : List ℕ) (entries : List Entry) (ops : List MapOp) → AreUpdates ops
    → map (group_in starts entries) ops ≡ map (λ op. group_of (op_key op) starts) ops
update_groups starts entries [] all = refl
update_groups starts entries (op ∷ ops) all =
    ap (λ g. g ∷ map (group_in starts entries) ops) (update_group starts entries op all.0)
    ∙ ap (λ gs. group_of (op_key op) starts ∷ gs) (update_groups starts entries ops all.1)

-- a group's items of two lists, one after another
group_append : {X : Type 0} (group : MapOp → ℕ) (g : ℕ) (ops ops' : List MapOp) (xs ys : List X) → length ops ≡ length xs
    → of_group g (map group (ops ++ ops')) (xs ++ ys) ≡ of_group g (map group ops) xs ++ of_group g (map group ops') ys
group_append group g [] ops' [] ys same = refl
group_append group g [] ops' (x ∷ xs) ys same = absurd (omega (arith, same))
group_append group g (op ∷ ops) ops' [] ys same = absurd (omega (arith, same))
group_append {X} group g (op ∷ ops) ops' (x ∷ xs) ys same =
    let rest = group_append group g ops ops' xs ys (omega (arith, same)) in
    elim (same_or_other (group op) g) [
      | inl is ↦
          let here : (group op == g) ≡ true = subst (λ k. (k == g) ≡ true) (sym is) (is_same g) in
          rw here (ap (λ zs. x ∷ zs) rest)
      | inr other ↦ rw other rest
    ]

all_in_group : (P : MapOp → Type 0) (g : ℕ) (groups : List ℕ) (ops : List MapOp) → AllByRecursion P ops → AllByRecursion P (of_group g groups ops)
all_in_group P g [] ops all = tt
all_in_group P g (h ∷ groups) [] all = tt
all_in_group P g (h ∷ groups) (op ∷ ops) all =
    let rest = all_in_group P g groups ops all.1 in
    elim (same_or_other h g) [
      | inl is ↦ let here : (h == g) ≡ true = subst (λ k. (k == g) ≡ true) (sym is) (is_same g) in rw here (all.0, rest)
      | inr other ↦ rw other rest
    ]

-- what is dealt to a range
dealt_at : {X : Type 0} (n g : ℕ) (groups : List ℕ) (xs : List X) → g < n → get_or (dealt n groups xs) g [] ≡ of_group g groups xs
dealt_at n g groups xs less = get_or-map-range_with_len (λ group. of_group group groups xs) 0 n g g [] less (omega arith)

dealt_count : {X : Type 0} (n : ℕ) (groups : List ℕ) (xs : List X) → length (dealt n groups xs) ≡ n
dealt_count n groups xs = length-map-range_with_len (λ group. of_group group groups xs) 0 n

-- what is dealt to a range of the updates of a batch
updates_at : (starts : List ℕ) (entries : List Entry) (updates : List MapOp) (g : ℕ) → AreUpdates updates → g < length starts + 1
    → get_or (ranges op_key starts updates) g [] ≡ of_group g (map (group_in starts entries) updates) updates
updates_at starts entries updates g all less =
    ap (λ lists. get_or lists g []) (sym (dealt_is op_key starts updates))
    ∙ dealt_at (length starts + 1) g (map (λ op. group_of (op_key op) starts) updates) updates less
    ∙ ap (λ groups. of_group g groups updates) (sym (update_groups starts entries updates all))

-- a range's operations are its queries, and then its updates
own_parts : (starts : List ℕ) (entries : List Entry) (ops : List MapOp) (parts : InParts ops) (g : ℕ)
    → of_group g (map (group_in starts entries) ops) ops
    ≡ of_group g (map (group_in starts entries) parts.queries) parts.queries ++ of_group g (map (group_in starts entries) parts.updates) parts.updates
own_parts starts entries ops parts g =
    ap (λ all. of_group g (map (group_in starts entries) all) all) parts.are
    ∙ group_append (group_in starts entries) g parts.queries parts.updates parts.queries parts.updates refl

ranges_left : (starts : List ℕ) (entries : List Entry) (ops : List MapOp) → InParts ops → Ascends entries
    → side_by_side (after_by_range after (cuts starts entries) (dealt (length starts + 1) (map (group_in starts entries) ops) ops)) ≡ map_after entries ops
ranges_left starts entries ops parts up =
    let n = length starts + 1 in
    let queries = parts.queries in
    let updates = parts.updates in
    let count : length (dealt n (map (group_in starts entries) ops) ops) ≡ n = dealt_count n (map (group_in starts entries) ops) ops in
    let same = same_left (cuts starts entries) (dealt n (map (group_in starts entries) ops) ops) (ranges op_key starts updates) (count ∙ sym (range_count op_key starts updates))
    (λ g less range.
    let less' : g < n = rw count at less in
    ap (map_after range) (dealt_at n g (map (group_in starts entries) ops) ops less' ∙ own_parts starts entries ops parts g)
    ∙ after_queries range (of_group g (map (group_in starts entries) queries) queries) (of_group g (map (group_in starts entries) updates) updates)
    (all_in_group (λ op. is_query op ≡ true) g (map (group_in starts entries) queries) queries parts.all_queries)
    ∙ ap (map_after range) (sym (updates_at starts entries updates g parts.all_updates less'))) in
    ap side_by_side same
    ∙ ranges_after key_of op_key after old_value keyed starts entries updates up
    ∙ sym (ap (map_after entries) parts.are ∙ after_queries entries queries updates parts.all_queries)

-- what a range replies to its updates
range_at : (starts : List ℕ) (entries : List (List Entry)) (lists : List (List MapOp)) (g : ℕ) → g < length entries → g < length lists
    → get_or (replies_by_range after old_value entries lists) g [] ≡ replies_to_each after old_value (get_or entries g []) (get_or lists g [])
range_at starts [] lists g less less' = absurd (omega (arith, less))
range_at starts (range ∷ entries) [] g less less' = absurd (omega (arith, less'))
range_at starts (range ∷ entries) (ops ∷ lists) zero less less' = refl
range_at starts (range ∷ entries) (ops ∷ lists) (suc g) less less' = range_at starts entries lists g (omega (arith, less)) (omega (arith, less'))

updates_reply : (starts : List ℕ) (entries : List Entry) (updates : List MapOp) (g before : ℕ) → Ascends entries → AreUpdates updates → g < length starts + 1
    → replies_in before (get_or (cuts starts entries) g []) (of_group g (map (group_in starts entries) updates) updates)
    ≡ of_group g (map (group_in starts entries) updates) (map_replies entries updates)
updates_reply starts entries updates g before up all less =
    let own = of_group g (map (group_in starts entries) updates) updates in
    let range = get_or (cuts starts entries) g [] in
    let within : g < length (cuts starts entries) = rw (range_count key_of starts entries) less in
    let within' : g < length (ranges op_key starts updates) = rw (range_count op_key starts updates) less in
    replies_to_updates (reply_in before) (old_in_range before) range own (all_in_group (λ op. is_query op ≡ false) g (map (group_in starts entries) updates) updates all)
    ∙ ap (replies_to_each after old_value range) (sym (updates_at starts entries updates g all less))
    ∙ sym (range_at starts (cuts starts entries) (ranges op_key starts updates) g within within')
    ∙ range_replies key_of op_key after old_value keyed starts entries updates up g (omega (arith, less))
    ∙ ap (λ groups. of_group g groups (replies_to_each after old_value entries updates)) (sym (update_groups starts entries updates all))
    ∙ ap (of_group g (map (group_in starts entries) updates)) (sym (replies_to_updates reply_to old_in_whole entries updates all))

all_located : (starts : List ℕ) (entries : List Entry) (queries : List MapOp) → Ascends entries → AreQueries queries
    → AllByRecursion (λ op. reply_in (get_or (sizes starts entries) (group_in starts entries op) 0) (get_or (cuts starts entries) (group_in starts entries op) []) op ≡ reply_to entries op) queries
all_located starts entries [] up all = tt
all_located starts entries (op ∷ queries) up all = (located starts entries up op all.0, all_located starts entries queries up all.1)

-- each range replies to its operations what they get in the whole map
ranges_reply : (starts : List ℕ) (entries : List Entry) (ops : List MapOp) → InParts ops → Ascends entries → (g : ℕ) → g < length starts + 1
    → get_or (replies_in_each (sizes starts entries) (cuts starts entries) (dealt (length starts + 1) (map (group_in starts entries) ops) ops)) g []
    ≡ of_group g (map (group_in starts entries) ops) (map_replies entries ops)
ranges_reply starts entries ops parts up g less =
    let n = length starts + 1 in
    let queries = parts.queries in
    let updates = parts.updates in
    let group = group_in starts entries in
    let before = get_or (sizes starts entries) g 0 in
    let range = get_or (cuts starts entries) g [] in
    let asked = of_group g (map (group_in starts entries) queries) queries in
    let done = of_group g (map (group_in starts entries) updates) updates in
    let size_less : g < length (sizes starts entries) = rw (size_count 0 (cuts starts entries), range_count key_of starts entries) less in
    let cut_less : g < length (cuts starts entries) = rw (range_count key_of starts entries) less in
    let dealt_less : g < length (dealt n (map (group_in starts entries) ops) ops) = rw (dealt_count n (map (group_in starts entries) ops) ops) less in
    let same : length queries ≡ length (map (reply_to entries) queries) = sym (length-map queries (reply_to entries)) in
    each_reply (sizes starts entries) (cuts starts entries) (dealt n (map (group_in starts entries) ops) ops) g size_less cut_less dealt_less
    ∙ ap (replies_in before range) (dealt_at n g (map (group_in starts entries) ops) ops less ∙ own_parts starts entries ops parts g)
    ∙ replies_to_queries (reply_in before) range asked done (all_in_group (λ op. is_query op ≡ true) g (map (group_in starts entries) queries) queries parts.all_queries)
    ∙ ap (λ replies. replies ++ replies_in before range done)
    (group_answers (group_in starts entries) (reply_to entries) (λ h. reply_in (get_or (sizes starts entries) h 0) (get_or (cuts starts entries) h [])) queries (all_located starts entries queries up parts.all_queries) g)
    ∙ ap (λ replies. of_group g (map (group_in starts entries) queries) (map (reply_to entries) queries) ++ replies) (updates_reply starts entries updates g before up parts.all_updates less)
    ∙ sym (group_append (group_in starts entries) g queries updates (map (reply_to entries) queries) (map_replies entries updates) same)
    ∙ ap (of_group g (map (group_in starts entries) (queries ++ updates))) (sym (replies_to_queries reply_to entries queries updates parts.all_queries))
    ∙ sym (ap (λ all. of_group g (map (group_in starts entries) all) (map_replies entries all)) parts.are)

-- the keys ascend after each operation
ascends_one : (entries : List Entry) (op : MapOp) → Ascends entries → Ascends (after entries op)
ascends_one entries (Put key val) up = ascends_with key val entries up
ascends_one entries (Del key) up = ascends_without key entries up
ascends_one entries _ up = up

pub ascends_after : (entries : List Entry) (ops : List MapOp) → Ascends entries → Ascends (map_after entries ops)
ascends_after entries [] up = up
ascends_after entries (op ∷ ops) up = ascends_after (after entries op) ops (ascends_one entries op up)

reply_count : (entries : List Entry) (ops : List MapOp) → length ops ≡ length (map_replies entries ops)
reply_count entries [] = refl
reply_count entries (op ∷ ops) = ap suc (reply_count (after entries op) ops)

-- there is one range more than starts, and each operation has one of them
pub range_total : (entries : List Entry) (starts : List ℕ) (all : List Range) → AreRanges entries starts all → length all ≡ length starts + 1
range_total entries starts all are = sym (length-map all (λ range. range.tree)) ∙ ap length are.trees_are ∙ range_count key_of starts entries

-- what is dealt has a list for each range
pub pieces_total : (n : ℕ) (groups : List ℕ) (ops : List MapOp) (vectors : List (Vec MapOp Global)) → lists vectors ≡ dealt n groups ops → length vectors ≡ n
pieces_total n groups ops vectors are = sym (length-map vectors (λ vector. vector.items)) ∙ ap length are ∙ dealt_count n groups ops

pub groups_within : (entries : List Entry) (starts : List ℕ) (all : List Range) (ops : List MapOp) → AreRanges entries starts all
    → AllByRecursion (λ g. g < length all) (groups_in starts all ops)
groups_within entries starts all ops are =
    rw are.befores_are (all_within starts entries (length all) (range_total entries starts all are) ops)

-- the outcome of a batch that is served in pieces
pub record IsServed (entries : List Entry) (ops : List MapOp) (groups : List ℕ) (outs : List Served) : Type 0 where
  pub some : 0 < length outs
  pub tree : side_by_side (trees_left outs) ≡ map_after entries ops
  pub ascends : Ascends (side_by_side (trees_left outs))
  pub have : HaveReplies groups (replies_left outs)
  pub merged : (none : Reply) → merged none groups (replies_left outs) ≡ map_replies entries ops

pub served : (entries : List Entry) (ops : List MapOp) (pieces : List Piece) (numbers : List ℕ) (outs : List Served)
    → Ascends entries → InParts ops → AreDealt entries ops pieces numbers → AllMeet Meets pieces outs
    → IsServed entries ops numbers outs
served entries ops pieces numbers outs up parts begun met =
    let starts = begun.starts in
    let cut = begun.cut in
    let all = begun.all in
    let n = length starts + 1 in
    let groups = map (group_in starts entries) ops in
    let indices : befores all ≡ sizes starts entries = cut.ranges_are.befores_are in
    let located : groups_in starts all ops ≡ groups = ap (λ before. map (range_of starts (drop 1 before)) ops) indices in
    let same : numbers ≡ groups = begun.groups_are ∙ located in
    let ops_are : operations_in pieces ≡ dealt n groups ops = cut.dealt_are ∙ ap (λ gs. dealt n gs ops) located in
    let trees_are : trees (ranges_in pieces) ≡ cuts starts entries = ap trees cut.each_has ∙ cut.ranges_are.trees_are in
    let sizes_are : befores (ranges_in pieces) ≡ sizes starts entries = ap befores cut.each_has ∙ indices in
    let left : trees_left outs ≡ after_by_range after (cuts starts entries) (dealt n groups ops) = rw (trees_are, ops_are) at (trees_come pieces outs met) in
    let replied : replies_left outs ≡ replies_in_each (sizes starts entries) (cuts starts entries) (dealt n groups ops) = rw (sizes_are, trees_are, ops_are) at (replies_come pieces outs met) in
    let tree : side_by_side (trees_left outs) ≡ map_after entries ops = ap side_by_side left ∙ ranges_left starts entries ops parts up in
    let lists = replies_in_each (sizes starts entries) (cuts starts entries) (dealt n groups ops) in
    let long : length lists ≡ n = count_replies (sizes starts entries) (cuts starts entries) (dealt n groups ops) n (size_count 0 (cuts starts entries) ∙ range_count key_of starts entries) (range_count key_of starts entries) (dealt_count n groups ops) in
    let counted : length groups ≡ length (map_replies entries ops) = length-map ops (group_in starts entries) ∙ reply_count entries ops in
    let inside : AllByRecursion (λ g. g < length lists) groups = all_within starts entries (length lists) long ops in
    let each : (g : ℕ) → g < length lists → get_or lists g [] ≡ of_group g groups (map_replies entries ops) = λ g less. ranges_reply starts entries ops parts up g (rw long at less) in
    let outs_count : length outs ≡ n = sym (length-map outs (λ out. out.replies.items)) ∙ ap length replied ∙ long in
    record {
      some = omega (arith, outs_count);
      tree = tree;
      ascends = rw tree (ascends_after entries ops up);
      have = rw (same, replied) (have_dealt groups (map_replies entries ops) lists counted inside each);
      merged = λ none. rw (same, replied) (merged_back none groups (map_replies entries ops) lists counted inside each);
    }
