-- The calls of the phases of a generated job, as its loops make them one operation at a time.
use Rattle.std.proofs.Common.{◌≡◌, ℕ, suc, ◌+◌, ◌-◌, ◌<◌, List, [], ◌∷◌, ◌++◌, length, take, get_or, replicate, refl, sym, ap, ◌∙◌, arith, append_assoc, append-nil}
use Rattle.std.proofs.lemmas.List.{take_more, replicate_more}
use Rattle.std.proofs.lemmas.List.Elements.{filter_map-append}
use Rattle.seq_objects.specs.declared.op.Op.{Op}
use Rattle.seq_objects.specs.declared.op.Op.TheVariants.{Push, TreeInsert, TreeFind, PqInsert}
use Rattle.sp_order.specs.Totals.{pushes, queue_inserts, total}
use Rattle.job_writer.specs.Generator.{next_number, op_drawn, growing_ops, find_for, finds_for, calls}

-- the growing phase so far with one more operation, and the next number of the sequence
pub growing_more : (seed size x i : ℕ) (ops new : List Op) (next : ℕ) (op : Op) → i < size → next ≡ next_number x → op ≡ op_drawn next → new ≡ ops ++ op ∷ []
    → ops ++ growing_ops x (size - i) ≡ growing_ops seed size → new ++ growing_ops next (size - (i + 1)) ≡ growing_ops seed size
growing_more seed size x i ops new next op less is_next is_op is_new so_far =
    let left : size - i ≡ suc (size - (i + 1)) = omega arith in
    let step : growing_ops x (size - i) ≡ op ∷ growing_ops next (size - (i + 1)) =
    ap (growing_ops x) left
    ∙ ap (λ y. op_drawn y ∷ growing_ops y (size - (i + 1))) (sym is_next)
    ∙ ap (λ o. o ∷ growing_ops next (size - (i + 1))) (sym is_op) in
    ap (λ xs. xs ++ growing_ops next (size - (i + 1))) is_new
    ∙ append_assoc ops (op ∷ []) (growing_ops next (size - (i + 1)))
    ∙ ap (λ xs. ops ++ xs) (sym step)
    ∙ so_far

pub total_append : (count : Op → ℕ) (xs ys : List Op) → total count (calls (xs ++ ys)) ≡ total count (calls xs) + total count (calls ys)
total_append count [] ys = omega arith
total_append count (op ∷ xs) ys = omega (arith, total_append count xs ys)

total_more : (count : Op → ℕ) (ops : List Op) (i : ℕ) (d : Op) → i < length ops → total count (calls (take (i + 1) ops)) ≡ total count (calls (take i ops)) + count (get_or ops i d)
total_more count ops i d less =
    ap (λ xs. total count (calls xs)) (take_more ops i d less)
    ∙ omega (arith, total_append count (take i ops) (get_or ops i d ∷ []))

-- the pops or takes so far, after an operation that counts and after one that does not
pub one_more : (count : Op → ℕ) (back : Op) (ops : List Op) (i : ℕ) (d : Op) → i < length ops → count (get_or ops i d) ≡ 1
    → replicate (total count (calls (take (i + 1) ops)) + 1) back ≡ replicate (total count (calls (take i ops)) + 1) back ++ back ∷ []
one_more count back ops i d less counts =
    let more : total count (calls (take (i + 1) ops)) ≡ total count (calls (take i ops)) + 1 = omega (arith, total_more count ops i d less, counts) in
    ap (λ n. replicate (n + 1) back) more ∙ sym (replicate_more (total count (calls (take i ops)) + 1) back)

pub no_more : (count : Op → ℕ) (back : Op) (ops : List Op) (i : ℕ) (d : Op) → i < length ops → count (get_or ops i d) ≡ 0
    → replicate (total count (calls (take (i + 1) ops)) + 1) back ≡ replicate (total count (calls (take i ops)) + 1) back
no_more count back ops i d less counts =
    let same : total count (calls (take (i + 1) ops)) ≡ total count (calls (take i ops)) = omega (arith, total_more count ops i d less, counts) in
    ap (λ n. replicate (n + 1) back) same

-- only a push counts as a push, and only an insert of the queue as one
pub not_push : (op : Op) → ((number item : ℕ) → op ≡ Push number item → ⊥) → pushes op ≡ 0
not_push (Push number item) other = absurd (other number item refl)
not_push _ other = refl

pub not_queue_insert : (op : Op) → ((number item : ℕ) → op ≡ PqInsert number item → ⊥) → queue_inserts op ≡ 0
not_queue_insert (PqInsert number item) other = absurd (other number item refl)
not_queue_insert _ other = refl

-- the finds so far, after an insert of the tree and after another operation
finds_more : (ops : List Op) (i : ℕ) (d op : Op) → i < length ops → get_or ops i d ≡ op → finds_for (take (i + 1) ops) ≡ finds_for (take i ops) ++ finds_for (op ∷ [])
finds_more ops i d op less is =
    ap finds_for (take_more ops i d less ∙ ap (λ o. take i ops ++ o ∷ []) is) ∙ filter_map-append find_for (take i ops) (op ∷ [])

pub find_more : (ops : List Op) (i : ℕ) (d : Op) (number key : ℕ) → i < length ops → get_or ops i d ≡ TreeInsert number key → finds_for (take (i + 1) ops) ≡ finds_for (take i ops) ++ TreeFind 0 (key + 1) ∷ []
find_more ops i d number key less is = finds_more ops i d (TreeInsert number key) less is

not_tree_insert : (op : Op) → ((number key : ℕ) → op ≡ TreeInsert number key → ⊥) → finds_for (op ∷ []) ≡ []
not_tree_insert (TreeInsert number key) other = absurd (other number key refl)
not_tree_insert _ other = refl

pub no_find_more : (ops : List Op) (i : ℕ) (d : Op) → i < length ops → ((number key : ℕ) → get_or ops i d ≡ TreeInsert number key → ⊥) → finds_for (take (i + 1) ops) ≡ finds_for (take i ops)
no_find_more ops i d less other =
    finds_more ops i d (get_or ops i d) less refl ∙ ap (λ xs. finds_for (take i ops) ++ xs) (not_tree_insert (get_or ops i d) other) ∙ append-nil (finds_for (take i ops))
