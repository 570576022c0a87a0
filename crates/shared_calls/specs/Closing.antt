-- The end of a shared structure: all callers come back.
use Rattle.std.specs.Prelude.{ℕ, ◌≡◌, ◌+◌, ◌<◌, ◌≤◌, List, [], ◌∷◌, map, length, slice_index_or, flat_map, Contains, IsPermutation, Bool, true, false}
use Rattle.std.specs.List.{AllByRecursion}
use Rattle.shared_calls.specs.declared.shared.Shared.{Shared}
use Rattle.shared_calls.specs.declared.shared.Caller.{Caller}
use Rattle.shared_calls.specs.declared.view.Entry.{Entry}
use Rattle.shared_calls.specs.declared.view.View.{View}
use Rattle.shared_calls.specs.declared.view.Request.TheVariants.{Retired}
use Rattle.shared_calls.specs.declared.combined.Combined.{Ghosts}
use Rattle.shared_calls.specs.Serial.{SerialObject}
use Rattle.shared_calls.specs.Logs.{calls_by, StartsWith, IsSerial}
use Rattle.shared_calls.specs.Views.{number_of, number_of_callers, made, seen, is_lost, IsCallerOf}

module _ {T O R : Type 0} {g : Ghosts T O R} where
  -- all callers of this structure, in the order of their numbers
  pub record AreCallersOf (s : Shared T O R) (callers : List (Caller T O R g)) : Type 0 where
    pub count : length callers ≡ number_of_callers s
    pub each : (k : ℕ) (c : Caller T O R g) → k < number_of_callers s → c ≡ slice_index_or callers k c → IsCallerOf s c × (number_of c ≡ k)

  -- All calls that were ever served, in the order in which they were served: they have the replies that the serial object
  -- gives them, one after another. They are the calls that these callers made, mixed, and those of a caller stand in its
  -- order. What a caller has seen is a front of this list.
  pub record AreAllCalls (object : SerialObject O R) (callers : List (Caller T O R g)) (log : List (Entry O R)) : Type 0 where
    pub serial : IsSerial object log
    pub known : AllByRecursion (λ (e : Entry O R). e.caller < length callers) log
    pub own : (k : ℕ) (c : Caller T O R g) → k < length callers → c ≡ slice_index_or callers k c → calls_by k log ≡ made c
    pub mixed : IsPermutation (flat_map made callers) log
    pub front : (k : ℕ) (c : Caller T O R g) → k < length callers → c ≡ slice_index_or callers k c → StartsWith log (seen c)

  -- one of these callers was told that the structure is lost, or none was
  abbrev pub SomeIsLost : List (Caller T O R g) → Type 0
  SomeIsLost callers = (c : Caller T O R g) × Contains callers c × (is_lost c ≡ true)

  abbrev pub NoneIsLost : List (Caller T O R g) → Type 0
  NoneIsLost callers = AllByRecursion (λ (c : Caller T O R g). is_lost c ≡ false) callers

  -- callers with consecutive numbers from k on
  abbrev pub AreFrom : Shared T O R → ℕ → List (Caller T O R g) → Type 0
  AreFrom s k [] = Unit {0}
  AreFrom s k (c ∷ callers) = IsCallerOf s c × (number_of c ≡ k) × AreFrom s (k + 1) callers

  -- a seat that stands for the first callers, which have retired
  pub record Gathers (callers : List (Caller T O R g)) (v : View O R) : Type 0 where
    pub from : v.from ≡ 0
    pub to : v.to ≡ length callers
    pub retired : v.request ≡ Retired
    pub idle : v.holds ≡ false
    pub own : v.made ≡ map made callers
    pub fronts : v.heard ≡ map seen callers
    pub told : v.lost ≡ true → SomeIsLost callers
    pub tells : AllByRecursion (λ (c : Caller T O R g). is_lost c ≡ true → v.lost ≡ true) callers

-- of `total` slots of a closed table, those below `count` hold a value, and the others were taken out
abbrev pub HasSlotsBelow : List Bool → ℕ → ℕ → Type 0
HasSlotsBelow filled total count = ((k : ℕ) → k < count → slice_index_or filled k false ≡ true)
    × ((k : ℕ) → count ≤ k → k < total → slice_index_or filled k false ≡ false)
