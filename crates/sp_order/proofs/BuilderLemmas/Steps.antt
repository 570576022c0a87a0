-- Each step of the builder preserves `with_all`: the lists, extended by what is on the stack.
use Rattle.std.proofs.Common.{◌≡◌, ℕ, ◌+◌, ◌≤◌, List, [], ◌∷◌, ◌++◌, length, refl, ap, ◌∙◌, arith, Result, Ok, Err, IfOk, length-append, append_assoc, slice_set}
use Rattle.std.specs.List.{All}
use Rattle.std.proofs.lemmas.List.{set_at, length_push, length-set}
use Rattle.std.proofs.lemmas.List.Elements.{All-push, All-weaker}
use Rattle.sp_order.specs.declared.node.Kind.{Kind}
use Rattle.sp_order.specs.declared.node.Kind.TheVariants.{SeqNode, ParNode}
use Rattle.sp_order.specs.declared.node.Move.{Move}
use Rattle.sp_order.specs.declared.node.Move.TheVariants.{Root, OpenSecond, FinishParent, Arrive}
use Rattle.sp_order.specs.declared.plan.builder.Pending.{Pending}
use Rattle.sp_order.specs.Precedence.{Tree, tree_of, seq, par, leaves}
use Rattle.sp_order.specs.PlanOf.{node_count}
use Rattle.sp_order.specs.Preorder.{kinds_from, moves_from, leaf_nodes_from}
use Rattle.sp_order.specs.Code.PlanBuilder.{Lists, with_side, HasParentBelow, with_tree, with_pending, with_all}
use Rattle.sp_order.proofs.BuilderLemmas.Preorders.{length-kinds_from, length-leaf_nodes_from}

pub with_all-push : (stack : List Pending) (pending : Pending) (lists : Lists) → with_all (stack ++ pending ∷ []) lists ≡ with_all stack (with_pending pending lists)
with_all-push [] pending lists = refl
with_all-push (p ∷ stack) pending lists = ap (with_pending p) (with_all-push stack pending lists)

same_lists : (k k' : List Kind) (m m' : List Move) (l l' : List ℕ) → k ≡ k' → m ≡ m' → l ≡ l' → (let x : Lists = record { kinds = k; moves = m; leaf_nodes = l } in let y : Lists = record { kinds = k'; moves = m'; leaf_nodes = l' } in x ≡ y)
same_lists k k' m m' l l' e f g = λ i. record { kinds = e i; moves = f i; leaf_nodes = g i }

-- the entry of a block is overwritten when its right side is visited
filled : (before : List Kind) (n : ℕ) (old new : Kind) (xs ys : List Kind) → length before ≡ n → slice_set ((before ++ old ∷ []) ++ xs) n new ++ ys ≡ before ++ new ∷ (xs ++ ys)
filled before n old new xs ys size =
    rw (append_assoc before (old ∷ []) xs, set_at before old xs new n size) (append_assoc before (new ∷ xs) ys)

moved : {A : Type 0} (before : List A) (x : A) (xs ys : List A) → ((before ++ x ∷ []) ++ xs) ++ ys ≡ before ++ x ∷ (xs ++ ys)
moved before x xs ys = append_assoc (before ++ x ∷ []) xs ys ∙ append_assoc before (x ∷ []) (xs ++ ys)

-- the lists of a series are those of its node, its left side and its right side
pub with_seq : (kinds : List Kind) (moves : List Move) (leaf_nodes : List ℕ) (n : ℕ) (after : Move) (a b : Tree) → length kinds ≡ n
    → (let node_listed : Lists = record { kinds = kinds ++ SeqNode (n + 1) (n + 1) ∷ []; moves = moves ++ after ∷ []; leaf_nodes = leaf_nodes } in
    let all_listed : Lists = record { kinds = kinds ++ kinds_from n (length leaf_nodes) (seq a b); moves = moves ++ moves_from n after (seq a b); leaf_nodes = leaf_nodes ++ leaf_nodes_from n (seq a b) } in
    with_tree b (FinishParent n) (with_tree a (OpenSecond n) node_listed) ≡ all_listed)
with_seq kinds moves leaf_nodes n after a b size =
    let next : length (kinds ++ SeqNode (n + 1) (n + 1) ∷ []) ≡ n + 1 = length_push kinds (SeqNode (n + 1) (n + 1)) ∙ ap (λ k. k + 1) size in
    let second : length ((kinds ++ SeqNode (n + 1) (n + 1) ∷ []) ++ kinds_from (n + 1) (length leaf_nodes) a) ≡ n + 1 + node_count a =
    omega (arith, length-append (kinds ++ SeqNode (n + 1) (n + 1) ∷ []) (kinds_from (n + 1) (length leaf_nodes) a), length-kinds_from a (n + 1) (length leaf_nodes)) in
    let leaf_second : length (leaf_nodes ++ leaf_nodes_from (n + 1) a) ≡ length leaf_nodes + leaves a =
    omega (arith, length-append leaf_nodes (leaf_nodes_from (n + 1) a), length-leaf_nodes_from a (n + 1)) in
    rw (next, second, leaf_second)
    (same_lists _ _ _ _ _ _
    (filled kinds n (SeqNode (n + 1) (n + 1)) (SeqNode (n + 1) (n + 1 + node_count a)) (kinds_from (n + 1) (length leaf_nodes) a) (kinds_from (n + 1 + node_count a) (length leaf_nodes + leaves a) b) size)
    (moved moves after _ _) (append_assoc leaf_nodes _ _))

pub with_par : (kinds : List Kind) (moves : List Move) (leaf_nodes : List ℕ) (n : ℕ) (after : Move) (a b : Tree) → length kinds ≡ n
    → (let node_listed : Lists = record { kinds = kinds ++ ParNode (n + 1) (n + 1) ∷ []; moves = moves ++ after ∷ []; leaf_nodes = leaf_nodes } in
    let all_listed : Lists = record { kinds = kinds ++ kinds_from n (length leaf_nodes) (par a b); moves = moves ++ moves_from n after (par a b); leaf_nodes = leaf_nodes ++ leaf_nodes_from n (par a b) } in
    with_tree b (Arrive n) (with_tree a (Arrive n) node_listed) ≡ all_listed)
with_par kinds moves leaf_nodes n after a b size =
    let next : length (kinds ++ ParNode (n + 1) (n + 1) ∷ []) ≡ n + 1 = length_push kinds (ParNode (n + 1) (n + 1)) ∙ ap (λ k. k + 1) size in
    let noted : slice_set (kinds ++ ParNode (n + 1) (n + 1) ∷ []) n (ParNode (n + 1) (n + 1)) ≡ kinds ++ ParNode (n + 1) (n + 1) ∷ [] =
    set_at kinds (ParNode (n + 1) (n + 1)) [] (ParNode (n + 1) (n + 1)) n size in
    let second : length ((kinds ++ ParNode (n + 1) (n + 1) ∷ []) ++ kinds_from (n + 1) (length leaf_nodes) a) ≡ n + 1 + node_count a =
    omega (arith, length-append (kinds ++ ParNode (n + 1) (n + 1) ∷ []) (kinds_from (n + 1) (length leaf_nodes) a), length-kinds_from a (n + 1) (length leaf_nodes)) in
    let leaf_second : length (leaf_nodes ++ leaf_nodes_from (n + 1) a) ≡ length leaf_nodes + leaves a =
    omega (arith, length-append leaf_nodes (leaf_nodes_from (n + 1) a), length-leaf_nodes_from a (n + 1)) in
    rw (next, noted, second, leaf_second)
    (same_lists _ _ _ _ _ _
    (filled kinds n (ParNode (n + 1) (n + 1)) (ParNode (n + 1) (n + 1 + node_count a)) (kinds_from (n + 1) (length leaf_nodes) a) (kinds_from (n + 1 + node_count a) (length leaf_nodes + leaves a) b) size)
    (moved moves after _ _) (append_assoc leaf_nodes _ _))

length-with_side : (kinds : List Kind) (after : Move) (node : ℕ) → length (with_side kinds after node) ≡ length kinds
length-with_side kinds (FinishParent p) node = length-set kinds p (SeqNode (p + 1) node)
length-with_side kinds (Arrive p) node = length-set kinds p (ParNode (p + 1) node)
length-with_side kinds _ node = refl

below_more : (low high : ℕ) (after : Move) → low ≤ high → HasParentBelow low after → HasParentBelow high after
below_more low high Root le below = tt
below_more low high _ le below = omega arith

-- the parents of all sides on the stack are listed, where the two sides of the last node are pushed
parents_more : (stack : List Pending) (left right : Pending) (low high : ℕ) → low ≤ high → All (λ p. HasParentBelow low p.after) stack → HasParentBelow high left.after → HasParentBelow high right.after
    → All (λ p. HasParentBelow high p.after) ((stack ++ right ∷ []) ++ left ∷ [])
parents_more stack left right low high le below of_left of_right =
    All-push (λ p. HasParentBelow high p.after) (stack ++ right ∷ []) left
    (All-push (λ p. HasParentBelow high p.after) stack right
    (All-weaker (λ p. HasParentBelow low p.after) (λ p. HasParentBelow high p.after) (λ p b. below_more low high p.after le b) stack below)
    of_right)
    of_left

-- the stack and the lists after a step that lists the node of a block
pub record ListsBlock (pending left right : Pending) (node : Kind) (stack new_stack : List Pending) (lists new_lists : Lists) : Type 0 where
  pub kinds_are : new_lists.kinds ≡ with_side lists.kinds pending.after (length lists.kinds) ++ node ∷ []
  pub moves_are : new_lists.moves ≡ lists.moves ++ pending.after ∷ []
  pub leaf_nodes_are : new_lists.leaf_nodes ≡ lists.leaf_nodes
  pub stack_is : new_stack ≡ (stack ++ right ∷ []) ++ left ∷ []

pub more_parents : (pending left right : Pending) (node : Kind) (stack new_stack : List Pending) (lists new_lists : Lists) → ListsBlock pending left right node stack new_stack lists new_lists
    → All (λ p. HasParentBelow (length lists.kinds) p.after) stack → HasParentBelow (length lists.kinds + 1) left.after → HasParentBelow (length lists.kinds + 1) right.after
    → All (λ p. HasParentBelow (length new_lists.kinds) p.after) new_stack
more_parents pending left right node stack new_stack lists new_lists h below of_left of_right =
    let size : length new_lists.kinds ≡ length lists.kinds + 1 =
    ap length h.kinds_are ∙ length_push (with_side lists.kinds pending.after (length lists.kinds)) node ∙ ap (λ k. k + 1) (length-with_side lists.kinds pending.after (length lists.kinds)) in
    rw (h.stack_is, size) (parents_more stack left right (length lists.kinds) (length lists.kinds + 1) (omega arith) below of_left of_right)

pub seq_listed : (pending left right : Pending) (stack new_stack : List Pending) (lists new_lists : Lists) (a b : Tree)
    → ListsBlock pending left right (SeqNode (length lists.kinds + 1) (length lists.kinds + 1)) stack new_stack lists new_lists
    → tree_of pending.shape.now ≡ seq a b → tree_of left.shape.now ≡ a → tree_of right.shape.now ≡ b → left.after ≡ OpenSecond (length lists.kinds) → right.after ≡ FinishParent (length lists.kinds)
    → with_all new_stack new_lists ≡ with_all stack (with_pending pending lists)
seq_listed pending left right stack new_stack lists new_lists a b h whole of_left of_right after_left after_right =
    let node_listed : Lists = record {
      kinds = with_side lists.kinds pending.after (length lists.kinds) ++ SeqNode (length lists.kinds + 1) (length lists.kinds + 1) ∷ [];
      moves = lists.moves ++ pending.after ∷ [];
      leaf_nodes = lists.leaf_nodes;
    } in
    let new_is : new_lists ≡ node_listed = same_lists _ _ _ _ _ _ h.kinds_are h.moves_are h.leaf_nodes_are in
    let core : with_pending right (with_pending left node_listed) ≡ with_pending pending lists =
    rw (whole, of_left, of_right, after_left, after_right)
    (with_seq (with_side lists.kinds pending.after (length lists.kinds)) lists.moves lists.leaf_nodes (length lists.kinds) pending.after a b (length-with_side lists.kinds pending.after (length lists.kinds))) in
    rw (new_is, h.stack_is) (with_all-push (stack ++ right ∷ []) left node_listed ∙ with_all-push stack right (with_pending left node_listed) ∙ ap (with_all stack) core)

pub par_listed : (pending left right : Pending) (stack new_stack : List Pending) (lists new_lists : Lists) (a b : Tree)
    → ListsBlock pending left right (ParNode (length lists.kinds + 1) (length lists.kinds + 1)) stack new_stack lists new_lists
    → tree_of pending.shape.now ≡ par a b → tree_of left.shape.now ≡ a → tree_of right.shape.now ≡ b → left.after ≡ Arrive (length lists.kinds) → right.after ≡ Arrive (length lists.kinds)
    → with_all new_stack new_lists ≡ with_all stack (with_pending pending lists)
par_listed pending left right stack new_stack lists new_lists a b h whole of_left of_right after_left after_right =
    let node_listed : Lists = record {
      kinds = with_side lists.kinds pending.after (length lists.kinds) ++ ParNode (length lists.kinds + 1) (length lists.kinds + 1) ∷ [];
      moves = lists.moves ++ pending.after ∷ [];
      leaf_nodes = lists.leaf_nodes;
    } in
    let new_is : new_lists ≡ node_listed = same_lists _ _ _ _ _ _ h.kinds_are h.moves_are h.leaf_nodes_are in
    let core : with_pending right (with_pending left node_listed) ≡ with_pending pending lists =
    rw (whole, of_left, of_right, after_left, after_right)
    (with_par (with_side lists.kinds pending.after (length lists.kinds)) lists.moves lists.leaf_nodes (length lists.kinds) pending.after a b (length-with_side lists.kinds pending.after (length lists.kinds))) in
    rw (new_is, h.stack_is) (with_all-push (stack ++ right ∷ []) left node_listed ∙ with_all-push stack right (with_pending left node_listed) ∙ ap (with_all stack) core)

-- what holds after a step that succeeded, from what each of its parts ensures
pub if_both : {X E : Type 0} (r : Result X E) (P Q R : Type 0) → IfOk r (λ _. P) → IfOk r (λ _. Q) → (P → Q → R) → IfOk r (λ _. R)
if_both (Ok x) P Q R p q then = then p q
if_both (Err e) P Q R p q then = tt

-- visiting the sides on the stack does not shorten the lists
pub kinds_no_shorter : (stack : List Pending) (lists : Lists) → length lists.kinds ≤ length (with_all stack lists).kinds
kinds_no_shorter [] lists = omega arith
kinds_no_shorter (p ∷ stack) lists =
    let so_far : Lists = with_all stack lists in
    omega (arith, kinds_no_shorter stack lists, length-append (with_side so_far.kinds p.after (length so_far.kinds)) (kinds_from (length so_far.kinds) (length so_far.leaf_nodes) (tree_of p.shape.now)), length-with_side so_far.kinds p.after (length so_far.kinds))

pub leaf_nodes_no_shorter : (stack : List Pending) (lists : Lists) → length lists.leaf_nodes ≤ length (with_all stack lists).leaf_nodes
leaf_nodes_no_shorter [] lists = omega arith
leaf_nodes_no_shorter (p ∷ stack) lists =
    let so_far : Lists = with_all stack lists in
    omega (arith, leaf_nodes_no_shorter stack lists, length-append so_far.leaf_nodes (leaf_nodes_from (length so_far.kinds) (tree_of p.shape.now)))
