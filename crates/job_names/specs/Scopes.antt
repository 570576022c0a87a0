-- The lets that are shown at a place of a text, in the open blocks around it.
use Rattle.std.specs.Prelude.{◌≡◌, ◌≢◌, ℕ, List, [], ◌∷◌, ◌++◌, Bool, true, false, Option, Some, None, if◌then◌else◌}
use Rattle.std.specs.List.{AllByRecursion}
use Rattle.job_names.specs.declared.kind.Kind.{Kind}
use Rattle.job_names.specs.declared.kind.Kind.TheVariants as kind
use Rattle.job_names.specs.declared.name.Name.{Name}
use Rattle.job_names.specs.declared.scopes.Let.{Let}
use Rattle.job_names.specs.Names.{same_name}

-- behind a loop its lets are gone
abbrev pub is_loop : Kind → Bool
is_loop kind.Series = false
is_loop kind.Par = false
is_loop kind.Loop = true

-- the items of a par do not see each other's lets
abbrev pub is_par : Kind → Bool
is_par kind.Series = false
is_par kind.Par = true
is_par kind.Loop = false

-- What stands around a place of the text: the job itself, or a block in what stands around it; with the lets so far of
-- either that are not gone, in text order.
pub data Scope : Type 0 where
  job : (lets : List Let) → Scope
  inside : (outer : Scope) → Kind → (lets : List Let) → Scope

-- the lets that a use at the place may mean, in text order
abbrev pub lets_shown : Scope → List Let
lets_shown (job lets) = lets
lets_shown (inside outer kind lets) = lets_shown outer ++ (if is_par kind then [] else lets)

-- the first answer that there is
abbrev pub or_else : Option ℕ → Option ℕ → Option ℕ
or_else (Some n) other = Some n
or_else None other = other

-- the number of the last of the lets that has the name
abbrev pub last_of : Name → List Let → Option ℕ
last_of name [] = None
last_of name (bound ∷ lets) = or_else (last_of name lets) (if same_name bound.name name then Some bound.number else None)

-- A let with this name and this number stands among the lets, and behind it none of this name.
pub record IsLastNamed (name : Name) (number : ℕ) (lets : List Let) : Type 0 where
  pub front : List Let
  pub behind : List Let
  pub stands : front ++ record { name = name; number = number } ∷ behind ≡ lets
  pub last : AllByRecursion (λ bound. bound.name ≢ name) behind

-- the scope with more lets
abbrev pub with_lets : Scope → List Let → Scope
with_lets (job lets) more = job (lets ++ more)
with_lets (inside outer kind lets) more = inside outer kind (lets ++ more)

-- the scope behind the innermost block: its lets stand in what is around it, unless it is a loop
abbrev pub closed : Scope → Scope
closed (job lets) = job lets
closed (inside outer kind lets) = with_lets outer (if is_loop kind then [] else lets)
