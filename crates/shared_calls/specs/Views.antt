-- What contracts see of a shared structure and its callers.
use Rattle.std.specs.Prelude.{ℕ, ◌≡◌, ◌<◌, ◌≤◌, vec_len, vec_capacity, List, [], length, slice_index_or, Bool, false}
use Rattle.shared_calls.specs.declared.shared.Shared.{Shared}
use Rattle.shared_calls.specs.declared.shared.Caller.{Caller}
use Rattle.shared_calls.specs.declared.shared.Note.{Note}
use Rattle.shared_calls.specs.declared.shared.Failed.{Failed}
use Rattle.shared_calls.specs.declared.shared.Failed.TheVariants.{Refused, Lost}
use Rattle.std.specs.declared.alloc.Global.{Global}
use Rattle.std.specs.declared.option.Option.{Option}
use Rattle.std.specs.declared.vec.Vec.{Vec}
use Rattle.shared_calls.specs.declared.view.Entry.{Entry}
use Rattle.shared_calls.specs.declared.combined.Combined.{Ghosts}
use Rattle.shared_calls.specs.Plays.{own_calls}

abbrev pub number_of_callers : {T O R : Type 0} → Shared T O R → ℕ
number_of_callers s = s.callers

module _ {O R : Type 0} where
  -- what holds where the call was refused, of the operation that comes back; and where the structure is lost, of the reply
  abbrev pub IfRefused : (O → Type 0) → Failed O R → Type 0
  IfRefused P (Refused op) = P op
  IfRefused P (Lost reply) = Unit {0}

  abbrev pub IfLost : (Option R → Type 0) → Failed O R → Type 0
  IfLost P (Refused op) = Unit {0}
  IfLost P (Lost reply) = P reply

-- empty, with room for the operations of n callers
abbrev pub HasRoom : {O : Type 0} → ℕ → Vec O Global → Type 0
HasRoom n ops = (ops.items ≡ []) × (vec_len ops ≡ 0) × (n ≤ vec_capacity ops)

module _ {T O R : Type 0} {g : Ghosts T O R} where
  abbrev pub number_of : Caller T O R g → ℕ
  number_of c = c.number

  -- the calls that the caller made, oldest first
  abbrev pub made : Caller T O R g → List (Entry O R)
  made c = own_calls c.seat.me.0

  -- all calls, of all callers, that it has seen, in the order in which they were served
  abbrev pub seen : Caller T O R g → List (Entry O R)
  seen c = c.seat.me.0.seen

  abbrev pub is_lost : Caller T O R g → Bool
  is_lost c = c.lost

  -- the caller is one of this structure's
  abbrev pub IsCallerOf : Shared T O R → Caller T O R g → Type 0
  IsCallerOf s c = (c.seat.table_id ≡ s.table.shared.table_id) × (c.number < s.callers)

  -- it has made no call and seen none
  abbrev pub IsNewCaller : Shared T O R → ℕ → Caller T O R g → Type 0
  IsNewCaller s n c = IsCallerOf s c × (number_of c ≡ n) × (made c ≡ []) × (seen c ≡ []) × (is_lost c ≡ false)

  -- the first n callers, in the order of their numbers
  pub record AreNewCallers (n : ℕ) (s : Shared T O R) (callers : List (Caller T O R g)) : Type 0 where
    pub count : length callers ≡ n
    pub each : (k : ℕ) (c : Caller T O R g) → k < n → c ≡ slice_index_or callers k c → IsNewCaller s k c

  -- the calls that the teller had seen
  abbrev pub told : Note T O R g → List (Entry O R)
  told note = note.seat.me.0.seen

  abbrev pub IsNoteOf : Shared T O R → Note T O R g → Type 0
  IsNoteOf s note = note.seat.table_id ≡ s.table.shared.table_id
