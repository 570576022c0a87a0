-- The scope that the code keeps, and how it keeps it.
use Rattle.std.specs.Prelude.{ℕ, ◌≡◌, ◌≤◌, ⊤, List, [], ◌∷◌, length, take, drop, reverse}
use Rattle.job_names.specs.declared.name.Name.{Name}
use Rattle.job_names.specs.declared.scopes.Let.{Let}
use Rattle.job_names.specs.declared.scopes.Start.{Start}
use Rattle.job_names.specs.declared.scopes.Scopes.{Scopes}
use Rattle.job_names.specs.Scopes.{Scope, job, inside}
use Rattle.job_names.specs.Code.Places.{places_from, list_of}

-- the scope of the open blocks, the innermost first, and of the lets that are not gone
abbrev pub scope_of : List Start → List Let → Scope
scope_of [] lets = job lets
scope_of (block ∷ blocks) lets = inside (scope_of blocks (take block.first lets)) block.kind (drop block.first lets)

abbrev pub view : Scopes → Scope
view scopes = scope_of (reverse scopes.blocks.items) scopes.lets.items

-- each block, the innermost first, starts no later than the one inside it
abbrev pub AreStarts : List Start → ℕ → Type 0
AreStarts [] end = ⊤
AreStarts (block ∷ blocks) end = (block.first ≤ end) × AreStarts blocks block.first

-- the places of each name are those of its lets
abbrev pub ArePlaced : Scopes → Type 0
ArePlaced scopes = (name : Name) → list_of scopes.places name ≡ places_from name 0 scopes.lets.items

pub record IsKept (scopes : Scopes) : Type 0 where
  pub starts : AreStarts (reverse scopes.blocks.items) (length scopes.lets.items)
  pub placed : ArePlaced scopes
