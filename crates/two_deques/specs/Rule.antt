-- The invariant of a deque: it relates the tasks in it, the oldest first, to what its owner and its thieves know.
use Rattle.std.specs.Prelude.{ℕ, ◌≡◌, ◌≤◌, Bool, true, false, List, [], ◌++◌, length, if◌then◌else◌}
use Rattle.std.specs.List.{sum_by}
use mathlib.Core.Option.{some}
use lib.ListN.{get_elem?}
use Rattle.two_deques.specs.declared.rule.Part.{Part}

-- the owner's part: the number of its pushes, and its own list: the tasks that it pushed and has not
-- popped, the oldest first
abbrev pub owner_part : {T : Type 0} → ℕ → List T → Part T
owner_part pushes own = record { owns = true; pushes = pushes; tasks = own }

-- a thief's part: the tasks that it stole
abbrev pub thief_part : {T : Type 0} → List T → Part T
thief_part stolen = record { owns = false; pushes = 0; tasks = stolen }

-- the tasks stolen by a part: all of a thief's list, none of an owner's
abbrev pub stolen_by : {T : Type 0} → Part T → List T
stolen_by p = if p.owns then [] else p.tasks

-- Each task occurs in `stolen` as often as in all thieves' lists together. Sums over any weight say this without
-- an equality test on tasks: with weight 1 for one task and 0 for all others, a sum counts the occurrences of that
-- task.
abbrev pub AreStolen : {T : Type 0} → List T → List (Part T) → Type 0
AreStolen {T} stolen parts =
    (weight : T → ℕ) → sum_by weight stolen ≡ sum_by (λ p. sum_by weight (stolen_by p)) parts

-- Exactly one part is the owner's; the others are thieves'. The owner's list is the list of all stolen tasks,
-- followed by the tasks in the deque.
pub record ObeysRule {T : Type 0} (items : List T) (parts : List (Part T)) : Type 0 where
  pub owner : ℕ
  pub mine : Part T
  pub there : get_elem? parts owner ≡ some mine
  pub owns : mine.owns ≡ true
  pub alone : (port : ℕ) (p : Part T) → get_elem? parts port ≡ some p → p.owns ≡ true → port ≡ owner
  pub stolen : List T
  pub split : mine.tasks ≡ stolen ++ items
  pub shared : AreStolen stolen parts

-- The rule admits a deque of at most `most` tasks, of which the owner (or a thief, if `owns` is false) has this list.
pub record FoundAtMost {T : Type 0} (most : ℕ) (owns : Bool) (tasks : List T) : Type 0 where
  pub items : List T
  pub few : length items ≤ most
  pub parts : List (Part T)
  pub obeyed : ObeysRule items parts
  pub port : ℕ
  pub mine : Part T
  pub there : get_elem? parts port ≡ some mine
  pub role : mine.owns ≡ owns
  pub known : mine.tasks ≡ tasks
