-- The entries of calls that are served one after another.
use Rattle.std.proofs.Common.{◌≡◌, List, [], ◌∷◌, refl, ap}
use Rattle.seq_objects.specs.Stores.{Store, store_after, store_reply}
use Rattle.seq_objects.specs.declared.call.Call.{Call}
use Rattle.batch_history.specs.declared.batch.Entry.{Entry}
use Rattle.batch_history.specs.Book.{IsLegalFrom}
use Rattle.batch_history.specs.Serving.{calls_in}

abbrev pub replied : Store → List Call → List Entry
replied store [] = []
replied store (call ∷ calls) =
    record { worker = call.worker; leaf = call.leaf; op = call.op; reply = store_reply store call.op } ∷ replied (store_after store call.op) calls

pub replied_are : (store : Store) (calls : List Call) → calls_in (replied store calls) ≡ calls
replied_are store [] = refl
replied_are store (call ∷ calls) = ap (λ l. call ∷ l) (replied_are (store_after store call.op) calls)

pub replied_legal : (store : Store) (calls : List Call) → IsLegalFrom store (replied store calls)
replied_legal store [] = tt
replied_legal store (call ∷ calls) = (refl, replied_legal (store_after store call.op) calls)
