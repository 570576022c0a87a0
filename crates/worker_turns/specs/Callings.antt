-- The call that a worker's next act makes, its entry in the book, and its events.
use Rattle.std.specs.Prelude.{ℕ, ◌≡◌, Option, Some, List, [], ◌∷◌, ◌++◌}
use Rattle.core_model.specs.Entries.{StandsAt}
use Rattle.core_model.specs.declared.next.Next.{Next}
use Rattle.core_model.specs.declared.next.Next.TheVariants as acts
use Rattle.core_model.specs.Words.{Op, Entry}
use Rattle.core_model.specs.declared.event.Event.TheVariants.{Post, Leave}
use Rattle.core_model.specs.declared.task.Task.TheVariants.{Started}
use Rattle.worker_crew.specs.Words.{Event, Receipt}
use Rattle.table_rule.specs.declared.view.PassView.{PassView}

-- the next act is the call of this leaf, with any operation
abbrev pub IsCallDue : ℕ → Option Next → Type 0
IsCallDue leaf (Some (acts.Call n start u op)) = u ≡ leaf
IsCallDue leaf _ = ⊥

-- At the receipt's batch and place, the book has the entry with this leaf, this worker, the operation of the leaf under
-- the book, and the receipt's reply.
abbrev pub IsServedAs : (List (List Entry) → ℕ → Option Op) → ℕ → ℕ → Receipt → List (List Entry) → Type 0
IsServedAs op_of leaf worker receipt book =
    (op : Op) × (op_of book leaf ≡ Some op)
    × StandsAt book receipt.batch receipt.place (record { leaf = leaf; worker = worker; op = op; reply = receipt.reply })

-- the receipt of this leaf's call is the latest of those left
abbrev pub HasLeft : ℕ → Receipt → PassView → PassView → Type 0
HasLeft leaf receipt old new =
    (op : Op) × (new.left ≡ old.left ++ record { call = record { leaf = leaf; op = op }; receipt = receipt } ∷ [])

-- The call's first event is the post of the started leaf, and its last is the leave with the receipt. The definition
-- leaves open the events between them.
abbrev pub HasCalled : Receipt → PassView → PassView → Type 0
HasCalled receipt old new =
    (node : ℕ) × (start : ℕ) × (between : List Event) × (old.task ≡ Started node start)
    × (new.events ≡ old.events ++ Post node start ∷ (between ++ Leave receipt ∷ []))
