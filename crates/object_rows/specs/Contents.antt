-- The structures of a row, their contents as a store, and the calls that they may serve.
use Rattle.std.specs.Prelude.{◌≡◌, ℕ, ◌==◌, if◌then◌else◌, Some, None, List}
use Rattle.std.specs.declared.option.Option.{Option}
use Rattle.std.specs.BTreeMap.{get}
use Rattle.std.specs.Option.{unwrap_or}
use Rattle.std.specs.Ordering.{nat_cmp}
use Rattle.seq_objects.specs.declared.call.Call.{Call}
use Rattle.seq_objects.specs.Objects.{Objects, opening}
use Rattle.seq_objects.specs.Stores.{Store}
use Rattle.seq_objects.specs.Batches.{calls_at}
use Rattle.object_rows.specs.declared.by_number.ByNumber.{ByNumber}

-- the structure of a number, if there is one; the place of a structure that was taken out has none
unfoldable pub structure_at : {T : Type 0} → ByNumber T → ℕ → Option T
structure_at structures number =
    if number == 0 then structures.first else unwrap_or (get nat_cmp structures.others number) None

-- the content of a structure; the opening one where there is none
abbrev pub content_or_opening : {T : Type 0} → (T → Objects) → Option T → Objects
content_or_opening content (Some structure) = content structure
content_or_opening content None = opening

-- the content of each number
abbrev pub store_of : {T : Type 0} → (T → Objects) → ByNumber T → Store
store_of content structures = λ number. content_or_opening content (structure_at structures number)

-- each structure that has the content of a number may serve the calls of that number
abbrev pub MayServeOwn : {T : Type 0} → (T → Objects) → (T → List Call → Type 0) → Store → List Call → Type 0
MayServeOwn {T} content may_serve store calls =
    (number : ℕ) (structure : T) → content structure ≡ store number → may_serve structure (calls_at number calls)
