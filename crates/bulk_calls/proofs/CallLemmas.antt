-- Single keys one after another are the calls one after another.
use Rattle.std.proofs.Common.{◌≡◌, ℕ, suc, ◌+◌, ◌<◌, ◌≤◌, List, [], ◌∷◌, ◌++◌, Bool, length, map, take, drop, refl, ap, sym, ◌∙◌, length-append, arith}
use Rattle.keyed_pieces.specs.Keyed.{after_each, replies_to_each}
use Rattle.bulk_calls.specs.declared.op.BulkKind.{BulkKind}
use Rattle.bulk_calls.specs.declared.piece.KeyOp.{KeyOp}
use Rattle.bulk_calls.specs.Views.{BulkView}
use Rattle.bulk_calls.specs.Bulk.{after_key, answer, after_keys, answers, bulk_serve, bulk_after, bulk_replies}
use Rattle.bulk_calls.specs.Singles.{after_one, answer_to, each_as, singles, chopped}

-- what operations leave, and what they answer
abbrev pub left_by : List ℕ → List KeyOp → List ℕ
left_by set ops = after_each after_one set ops

abbrev pub answered : List ℕ → List KeyOp → List Bool
answered set ops = replies_to_each after_one answer_to set ops

pub answered_length : (set : List ℕ) (ops : List KeyOp) → length (answered set ops) ≡ length ops
answered_length set [] = refl
answered_length set (op ∷ ops) = ap suc (answered_length (after_one set op) ops)

-- the keys of one call, and then others
left_then : (what : BulkKind) (set keys : List ℕ) (ops : List KeyOp) → left_by set (each_as what keys ++ ops) ≡ left_by (after_keys what set keys) ops
left_then what set [] ops = refl
left_then what set (key ∷ keys) ops = left_then what (after_key what set key) keys ops

answered_then : (what : BulkKind) (set keys : List ℕ) (ops : List KeyOp) → answered set (each_as what keys ++ ops) ≡ answers what set keys ++ answered (after_keys what set keys) ops
answered_then what set [] ops = refl
answered_then what set (key ∷ keys) ops = ap (λ rs. answer what set key ∷ rs) (answered_then what (after_key what set key) keys ops)

answers_length : (what : BulkKind) (set keys : List ℕ) → length (answers what set keys) ≡ length keys
answers_length what set [] = refl
answers_length what set (key ∷ keys) = ap suc (answers_length what (after_key what set key) keys)

pub left_by_calls : (set : List ℕ) (calls : List BulkView) → left_by set (singles calls) ≡ bulk_after set calls
left_by_calls set [] = refl
left_by_calls set (call ∷ calls) =
    left_then call.kind set call.keys (singles calls) ∙ left_by_calls (bulk_serve set call).0 calls

take_front : {X : Type 0} (xs ys : List X) → take (length xs) (xs ++ ys) ≡ xs
take_front [] ys = refl
take_front (x ∷ xs) ys = ap (λ zs. x ∷ zs) (take_front xs ys)

drop_front : {X : Type 0} (xs ys : List X) → drop (length xs) (xs ++ ys) ≡ ys
drop_front [] ys = refl
drop_front (x ∷ xs) ys = drop_front xs ys

chopped_first : (call : BulkView) (calls : List BulkView) (own rest : List Bool) → length own ≡ length call.keys
    → chopped (call ∷ calls) (own ++ rest) ≡ own ∷ chopped calls rest
chopped_first call calls own rest long =
    let first : take (length call.keys) (own ++ rest) ≡ own = rw (sym long) (take_front own rest) in
    let others : drop (length call.keys) (own ++ rest) ≡ rest = rw (sym long) (drop_front own rest) in
    rw (first, others) refl

pub replied_to_calls : (set : List ℕ) (calls : List BulkView) → chopped calls (answered set (singles calls)) ≡ bulk_replies set calls
replied_to_calls set [] = refl
replied_to_calls set (call ∷ calls) =
    let own = answers call.kind set call.keys in
    let next = after_keys call.kind set call.keys in
    ap (chopped (call ∷ calls)) (answered_then call.kind set call.keys (singles calls))
    ∙ chopped_first call calls own (answered next (singles calls)) (answers_length call.kind set call.keys)
    ∙ ap (λ rs. own ∷ rs) (replied_to_calls next calls)
