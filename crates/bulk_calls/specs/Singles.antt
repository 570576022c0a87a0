-- The single keys of calls, one after another.
use Rattle.std.specs.Prelude.{ℕ, Bool, List, [], ◌∷◌, ◌++◌, map, take, drop, length}
use Rattle.bulk_calls.specs.declared.op.BulkKind.{BulkKind}
use Rattle.bulk_calls.specs.declared.piece.KeyOp.{KeyOp}
use Rattle.bulk_calls.specs.Views.{BulkView}
use Rattle.bulk_calls.specs.Bulk.{after_key, answer}

-- the set after one key, and the answer
abbrev pub after_one : List ℕ → KeyOp → List ℕ
after_one set operation = after_key operation.kind set operation.key

abbrev pub answer_to : List ℕ → KeyOp → Bool
answer_to set operation = answer operation.kind set operation.key

-- keys as single operations of one kind
abbrev pub each_as : BulkKind → List ℕ → List KeyOp
each_as kind keys = map (λ key. record { kind = kind; key = key }) keys

-- the single operations of all calls, those of a call directly after one another
abbrev pub singles : List BulkView → List KeyOp
singles [] = []
singles (call ∷ calls) = each_as call.kind call.keys ++ singles calls

-- the keys alone
abbrev pub keys_in : List KeyOp → List ℕ
keys_in operations = map (λ operation. operation.key) operations

-- answers cut by call: each call has as many as it has keys
abbrev pub chopped : List BulkView → List Bool → List (List Bool)
chopped [] answers = []
chopped (call ∷ calls) answers = take (length call.keys) answers ∷ chopped calls (drop (length call.keys) answers)
