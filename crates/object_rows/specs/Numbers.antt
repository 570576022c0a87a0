-- The numbers of the objects that calls call.
use Rattle.std.specs.Prelude.{ℕ, max, List, [], ◌∷◌, map}
use Rattle.seq_objects.specs.declared.call.Call.{Call}
use Rattle.seq_objects.specs.Objects.{number_of}
use Rattle.key_sets.specs.Groups.{distinct}

-- the numbers, ascending, each once
abbrev pub numbers_of : List Call → List ℕ
numbers_of calls = distinct (map (λ call. number_of call.op) calls)

-- the greatest of the counts of the numbers; 0 without calls
abbrev pub greatest : (ℕ → ℕ) → List Call → ℕ
greatest count [] = 0
greatest count (call ∷ calls) = max (count (number_of call.op)) (greatest count calls)
