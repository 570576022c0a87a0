-- The play of each kind of step: a relation of the step `st`, the seat `m` before it, the number `r` that it found in
-- its word, and the seat `n` after it.
use Rattle.std.specs.Prelude.{ℕ, ◌≡◌, ◌≢◌, ◌≤◌, ◌+◌, ◌<◌, ◌%◌, None, Some, List, [], ◌∷◌, ◌++◌, false, length}
use Rattle.atomic_table.specs.Table.{Me, Step, rest}
use Rattle.batch_history.specs.Book.{flat, IsHistory}
use Rattle.core_model.specs.Words.{Entry}
use Rattle.table_rule.specs.CoreWords.{Event, Receipt, Task, Idle, Started, Ended, Handed, Start, Post, End, ArriveFirst, ArriveSecond}
use Rattle.core_model.specs.declared.next.Next.TheVariants as acts
use Rattle.core_model.specs.Events.{task_after}
use Rattle.core_model.specs.Operations.{op_of, place_of}
use Rattle.table_rule.specs.declared.progress.TheConstants.{READY, DONE, CODES}
use Rattle.table_rule.specs.declared.status.TheConstants.{PENDING, SERVED}
use Rattle.table_rule.specs.declared.slot.OpRecord.{OpRecord}
use Rattle.table_rule.specs.declared.slot.Slot.{Slot}
use Rattle.table_rule.specs.declared.slot.Slot.TheVariants as Slots
use Rattle.table_rule.specs.declared.view.HoldView.{HoldView}
use Rattle.table_rule.specs.declared.view.Miss.{Miss}
use Rattle.table_rule.specs.declared.view.PassView.{PassView}
use Rattle.table_rule.specs.declared.view.View.{View}
use Rattle.table_rule.specs.Words.{flag_at, count_at, stop_at, node_at, value_at, shop_at, book_at}
use Rattle.table_rule.specs.Batches.{IsPublishDue}
use Rattle.core_model.specs.Entries.{StandsAt}
use Rattle.table_rule.specs.Shows.{record_in, entry_of, reserved, IsPrefix}
use Rattle.table_rule.specs.Moments.{IsMomentOf, IsMissAt}
use Rattle.table_rule.specs.Tasks.{IsNext, job_seen_with, most_ticks}
use Rattle.table_rule.specs.Passes.{call_by, claiming, refusing, with_task, opening, keeping, telling, finding_stop, finding_none, winning, refusing_win, taking, skipping, publishing, answering, releasing, leaving, refusing_leave}
use Rattle.table_rule.specs.Views.{with_step, with_miss, with_post, with_since, with_stop, seeing_done, seeing_undone, enrolling}

-- a seat: its view and the slots that it carries
abbrev pub SeatState : Type 0
SeatState = Me Slot View

abbrev pub Play : Type 1
Play = Step Slot → SeatState → ℕ → SeatState → Type 0

-- The number found is not the one that the step looked for: the view notes the miss, and `f` is done to the pass. Here
-- and below, the leaves of work of the job compute `work`.
abbrev pub missed : (ℕ → ℕ) → (PassView → PassView) → Play
missed work f st m r n =
    (miss : Miss) × IsMissAt (job_seen_with work m.0) m.0.room m.0 st.word miss × (miss.found ≡ r) × (n ≡ (with_miss miss f m.0, m.1))

-- the claim succeeds exactly if the node's word was that of a ready node
abbrev pub claimed : (ℕ → ℕ) → Play
claimed work st m r n =
    (node : ℕ) × (st.word ≡ node_at m.0.workers node) × (r ≡ READY → n ≡ (with_step (claiming node) m.0, m.1)) × (r ≢ READY → missed work (refusing node) st m r n)

-- a claim past the last node is refused; the step's first operand is 4 more than the number claimed
abbrev pub strayed : (ℕ → ℕ) → Play
strayed work st m r n = (node : ℕ) × (st.first ≡ 4 + node) × missed work (refusing node) st m r n × (m.0.nodes ≤ node)

-- the number found is the tick drawn, which starts or ends the task's leaf, whichever is its next act
abbrev pub drawn : Play
drawn st m r n =
    (r < most_ticks)
    × ((node leaf : ℕ) → IsNext m.0 (acts.Start node leaf) → n ≡ (with_step (with_task (Start node) (Started node r)) m.0, m.1))
    × ((node start : ℕ) → IsNext m.0 (acts.End node start) → n ≡ (with_step (with_task (End node start) (Ended node start r)) m.0, m.1))

-- the next act opens a side of the task's block
abbrev pub opened : Play
opened st m r n =
    (node : ℕ) (task : Task) (event : Event) → IsNext m.0 (acts.Open node task event) → n ≡ (with_step (opening node event task) m.0, m.1)

-- the value of the started leaf is kept; it is the step's first operand
abbrev pub kept : Play
kept st m r n =
    (node : ℕ) × (start : ℕ) × (m.0.own.task ≡ Started node start) × (n ≡ (with_step (keeping node start st.first) m.0, m.1))

-- the next act marks a node as done
abbrev pub finished : Play
finished st m r n =
    (node : ℕ) (event : Event) → IsNext m.0 (acts.Finish node event) → n ≡ (with_step (with_task event (task_after node)) m.0, m.1)

-- the first arrival found the mark at 0, the second did not
abbrev pub arrived : Play
arrived st m r n =
    (node left right side : ℕ) → IsNext m.0 (acts.Arrive node left right side)
    → (r ≡ 0 → n ≡ (with_step (with_task (ArriveFirst node left right side) Idle) m.0, m.1))
    × (r ≢ 0 → n ≡ (with_step (with_task (ArriveSecond node left right side) (Handed node)) m.0, m.1))

-- the root is seen done exactly if its word has the code of a done node
abbrev pub looked_at_root : (ℕ → ℕ) → Play
looked_at_root work st m r n =
    (r % CODES ≡ DONE → n ≡ (seeing_done m.0, m.1))
    × (r % CODES ≢ DONE → (miss : Miss) × IsMissAt (job_seen_with work m.0) m.0.room m.0 st.word miss × (miss.found ≡ r) × (n ≡ (seeing_undone miss m.0, m.1)))
    × (st.word ≡ node_at m.0.workers 0)

-- the number of published batches is told
abbrev pub heard : Play
heard st m r n = (n ≡ (with_since r m.0, m.1)) × (st.word ≡ count_at m.0.workers)

-- the stop word is set to 1, at a moment that the view notes
abbrev pub stopped_all : (ℕ → ℕ) → Play
stopped_all work st m r n =
    ((moment : ℕ) × IsMomentOf (job_seen_with work m.0) m.0.room m.0 moment × (n ≡ (with_stop moment m.0, m.1)))
    × (st.word ≡ stop_at m.0.workers) × (st.first ≡ 1)

-- the stop word is found set exactly if it was 1, and else it was 0
abbrev pub looked_at_stop : (ℕ → ℕ) → Play
looked_at_stop work st m r n =
    (r ≡ 1 → n ≡ (with_step finding_stop m.0, m.1)) × (r ≢ 1 → (r ≡ 0) × missed work finding_none st m r n) × (st.word ≡ stop_at m.0.workers)

-- the word is that of a node's value, and the number found is told to the pass
abbrev pub looked_at_value : Play
looked_at_value st m r n =
    (node : ℕ) × (st.word ≡ value_at m.0.workers m.0.nodes node) × (n ≡ (with_step (telling r) m.0, m.1))

-- the pass takes its own record slot
abbrev pub enrolled : Play
enrolled st m r n = n ≡ (enrolling m.0, (m.0.own.worker, Slots.Vacant) ∷ m.1)

-- the pass's record slot returns to the table, with the call
abbrev pub posted : Play
posted st m r n =
    (call : OpRecord) → m.1 ≡ (st.word, Slots.Record call) ∷ rest m.1
    → (node : ℕ) × (start : ℕ) × (m.0.own.task ≡ Started node start) × (n ≡ (with_post call (Post node start) m.0, rest m.1))

-- The flag is won exactly if it was 0. The winner gets the shop and the book. Both have the same batches, and what the
-- pass has seen is a prefix of them.
abbrev pub won : (ℕ → ℕ) → Play
won work st m r n =
    (r ≡ 0 → (m.0.own.hold ≡ None) × (book : List (List Entry))
    × (n ≡ (with_step (winning book) m.0, (shop_at m.0.workers, Slots.Shop book) ∷ (book_at m.0.workers, Slots.Book (reserved book m.0.room)) ∷ m.1))
    × IsPrefix m.0.own.book_seen book)
    × (r ≢ 0 → missed work refusing_win st m r n) × (st.word ≡ flag_at m.0.workers)

-- The call's leaf is neither in the book nor that of a call taken before. The book's entries, the calls taken before
-- and this one are together at most `room`.
pub record IsNewCall (room : ℕ) (h : HoldView) (call : OpRecord) : Type 0 where
  pub unbooked : place_of h.book call.leaf ≡ None
  pub apart : (x : ℕ) (other : OpRecord) → record_in h.taken x ≡ Some other → other.leaf ≢ call.leaf
  pub fits : length (flat h.book) + length h.taken + 1 ≤ room

-- A look at the next worker takes its call exactly if that is pending. A call that is taken has the
-- operation of its leaf under the hold's book.
abbrev pub took : (ℕ → ℕ) → Play
took work st m r n =
    (h : HoldView) × (m.0.own.hold ≡ Some h) × (h.published ≡ false)
    × (r ≡ PENDING → (call : OpRecord) × IsNewCall m.0.room h call × (op_of (job_seen_with work m.0) h.book call.leaf ≡ Some call.op)
    × (n ≡ (with_step (taking (call_by st.word call)) m.0, (st.word, Slots.Record call) ∷ m.1)))
    × (r ≢ PENDING → missed work (skipping st.word r) st m r n)
    × (st.word ≡ h.looks)

-- the view stays; the book has room for any batch that is due, and stays a history with it
abbrev pub admitted : Play
admitted st m r n =
    (n ≡ m)
    × ((h : HoldView) (batch : List Entry) → m.0.own.hold ≡ Some h → IsPublishDue m.0.workers h batch
    → IsHistory (h.book ++ batch ∷ []) × (length h.book < m.0.room))

-- the book returns to the table with one more batch
abbrev pub published : Play
published st m r n =
    (h : HoldView) (batch : List Entry) → m.0.own.hold ≡ Some h
    → m.1 ≡ (book_at m.0.workers, Slots.Book (reserved (h.book ++ batch ∷ []) m.0.room)) ∷ rest m.1
    → n ≡ (with_step (publishing batch) m.0, rest m.1)

-- the worker's record slot returns to the table, with the receipt
abbrev pub answered : Play
answered st m r n =
    (h : HoldView) × (m.0.own.hold ≡ Some h)
    × ((receipt : Receipt) → m.1 ≡ (st.word, Slots.Receipt receipt) ∷ rest m.1
    → n ≡ (with_step (answering st.word receipt) m.0, rest m.1))

-- `released_shop` returns the shop to the table, and `released_both` the shop and the book
abbrev pub released_shop : Play
released_shop st m r n = n ≡ (with_step releasing m.0, rest m.1)

abbrev pub released_both : Play
released_both st m r n = n ≡ (with_step releasing m.0, rest (rest m.1))

-- The pass leaves exactly if its call is served, with the receipt of the call that it posted last. The number of
-- the receipt's batch is at least `before`, and at most one more than `after`, if that is told. The book has the call's
-- entry there, whose operation is that of the call's leaf under the book.
abbrev pub left : (ℕ → ℕ) → Play
left work st m r n =
    (r ≡ SERVED → (call : OpRecord) × (receipt : Receipt) × (m.0.own.posted ≡ Some call) × (m.0.own.before ≤ receipt.batch)
    × ((since : ℕ) → m.0.own.after ≡ Some since → receipt.batch ≤ since + 1)
    × ((book : List (List Entry)) × IsPrefix m.0.own.book_seen book × (op_of (job_seen_with work m.0) book call.leaf ≡ Some call.op)
    × StandsAt book receipt.batch receipt.place (entry_of m.0.own.worker (record { call = call; receipt = receipt }))
    × (n ≡ (with_step (leaving call receipt book) m.0, (st.word, Slots.Receipt receipt) ∷ m.1))))
    × (r ≢ SERVED → missed work refusing_leave st m r n) × (st.word ≡ m.0.own.worker)
