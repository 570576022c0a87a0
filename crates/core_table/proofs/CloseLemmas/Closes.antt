-- What a pass that has seen the root done knows of the closed table.
use Rattle.std.proofs.Common.{ℕ, zero, suc, ◌≡◌, ◌+◌, true, Option as Maybe, List, [], ◌∷◌, length, get_or, arith, refl, sym, subst}
use mathlib.Core.Option.{some, some-injective, some-ne-none}
use lib.ListN.{get_elem?}
use Rattle.atomic_table.specs.Table.{Final, Seen}
use Rattle.core_model.specs.State.{CoreJob, Hold, State}
use Rattle.core_model.specs.Tasks.{is_done}
use Rattle.core_model.specs.Invariant.{Parts}
use Rattle.table_rule.specs.declared.view.View.{View}
use Rattle.table_rule.specs.declared.slot.Slot.{Slot}
use Rattle.table_rule.specs.declared.slot.Slot.TheVariants as Slots
use Rattle.table_rule.specs.Words.{WordsShow}
use Rattle.table_rule.specs.Laws.{Laws}
use Rattle.table_rule.specs.Shows.{TableState, reserved, BookAt, IsPrefix, events_by, Shows}

pub at_word : (l : List ℕ) (i a : ℕ) → get_elem? l i ≡ some a → get_or l i 0 ≡ a
at_word [] i a e = absurd (some-ne-none a (sym e))
at_word (x ∷ xs) zero a e = some-injective _ _ e
at_word (x ∷ xs) (suc i) a e = at_word xs i a e

-- the table at the end, and the state that it shows
pub record Last (job : CoreJob) (room : ℕ) (v : View) (ws : List ℕ) (xs : List Slot) : Type 0 where
  pub table : TableState
  pub shown : Shows job room table
  pub same : table.words ≡ ws
  pub state : State
  pub is : state ≡ shown.state
  pub parts : Parts job state
  pub over : is_done (state.node 0) ≡ true
  pub words : WordsShow job.workers job.plan.count ws state.node state.mark state.value state.status state.hold state.tick (length state.book)
  pub there : get_elem? xs (job.workers + 1) ≡ some (Slots.Book (reserved state.book room))
  pub seen : IsPrefix v.own.book_seen state.book
  pub seat : ℕ
  pub at : get_elem? table.views seat ≡ some v
  pub own : events_by v.own.worker shown.trace ≡ v.own.events

pub closes : (job : CoreJob) (room id k : ℕ) (laws : Laws job) (v : View) (ws : List ℕ) (xs : List Slot) → Final (Seen (Shows job room) id v) ws xs → v.own.worker ≡ k → v.to ≡ k + 1 → v.saw_done ≡ true → Last job room v ws xs
closes job room id k laws v ws xs f from to saw =
    let t = f.0 in
    let o = f.1.0 in
    let mine = (o.views id v k f.1.1 (omega arith) (omega arith)).1 in
    let over = mine.done saw in
    let free = laws.ended o.state o.parts over in
    let book = subst (λ (h : Maybe Hold). BookAt room h o.state.book (get_elem? t.homes (job.workers + 1))) free o.slots.batches in
    record {
      table = t;
      shown = o;
      same = f.2;
      state = o.state;
      is = refl;
      parts = o.parts;
      over = over;
      words = subst (λ (l : List ℕ). WordsShow job.workers job.plan.count l o.state.node o.state.mark o.state.value o.state.status o.state.hold o.state.tick (length o.state.book)) f.2 o.words;
      there = f.4 (job.workers + 1) (Slots.Book (reserved o.state.book room)) book;
      seen = mine.seen;
      seat = id;
      at = f.1.1;
      own = o.events id v v.own.worker f.1.1 (omega arith) (omega arith);
    }
