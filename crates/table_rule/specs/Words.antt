-- The layout of a table's words, and how each word encodes its part of the state.
use Rattle.std.specs.Prelude.{ℕ, ◌≡◌, ◌<◌, ◌+◌, ◌*◌, ◌/◌, ◌%◌, Option, None, Some, List, length, slice_index}
use Rattle.table_rule.specs.CoreWords.{Progress, Waiting, Ready, Taken, Done, Ran, Status, Free, Pending, Executing, Served}
use Rattle.core_model.specs.State.{Hold}
use Rattle.limits.specs.declared.TheConstants.{MOST_WORKERS}
use Rattle.table_rule.specs.declared.progress.TheConstants.{READY, TAKEN, DONE, CODES, TICKS}
use Rattle.table_rule.specs.declared.status.TheConstants.{FREE, PENDING, EXECUTING, SERVED}

-- The layout: the workers' statuses, the flag, the number of batches, the tick, the stop word, then three blocks with a
-- word for each node: its progress, its join mark (the number of sides that have arrived), and its value. All workers
-- write the four single words. So each stands eight words or more from every other word that is used, and has a cache
-- line of 64 bytes to itself. The words between say nothing, and no step changes them.
abbrev pub flag_at : ℕ → ℕ
flag_at workers = workers + 8

abbrev pub count_at : ℕ → ℕ
count_at workers = workers + 16

abbrev pub tick_at : ℕ → ℕ
tick_at workers = workers + 24

abbrev pub stop_at : ℕ → ℕ
stop_at workers = workers + 32

abbrev pub node_at : ℕ → ℕ → ℕ
node_at workers n = workers + 40 + n

abbrev pub mark_at : ℕ → ℕ → ℕ → ℕ
mark_at workers nodes n = workers + 40 + nodes + n

abbrev pub value_at : ℕ → ℕ → ℕ → ℕ
value_at workers nodes n = workers + 40 + nodes + nodes + n

abbrev pub word_count : ℕ → ℕ → ℕ
word_count workers nodes = workers + 40 + nodes + nodes + nodes

-- the slots: the workers' record slots, the shop's, and the book's
abbrev pub shop_at : ℕ → ℕ
shop_at workers = workers

abbrev pub book_at : ℕ → ℕ
book_at workers = workers + 1

abbrev pub slot_count : ℕ → ℕ
slot_count workers = workers + 2

-- A node's progress, from the lowest bit: 2 bits for which progress; for a leaf that has run also 5 bits for the
-- worker, 20 for the start tick, and the rest for the end tick.
abbrev pub progress_code : Progress → ℕ
progress_code Waiting = 0
progress_code Ready = READY
progress_code Taken = TAKEN
progress_code Done = DONE
progress_code (Ran worker start end) = DONE + CODES * (worker + MOST_WORKERS * (start + TICKS * end))

-- the parts of the progress word of a leaf that has run
abbrev pub worker_in : ℕ → ℕ
worker_in word = word / CODES % MOST_WORKERS

abbrev pub start_in : ℕ → ℕ
start_in word = word / (CODES * MOST_WORKERS) % TICKS

abbrev pub end_in : ℕ → ℕ
end_in word = word / (CODES * MOST_WORKERS * TICKS)

abbrev pub status_code : Status → ℕ
status_code Free = FREE
status_code Pending = PENDING
status_code Executing = EXECUTING
status_code (Served receipt) = SERVED

-- 0 if the flag is free, else the holder's worker number plus 1
abbrev pub flag_code : Option Hold → ℕ
flag_code None = 0
flag_code (Some h) = h.worker + 1

-- the word is the value, if there is one
abbrev pub HasValue : Option ℕ → ℕ → Type 0
HasValue None word = Unit {0}
HasValue (Some value) word = word ≡ value

-- the words encode these parts of a state
pub record WordsShow (workers nodes : ℕ) (words : List ℕ) (node : ℕ → Progress) (mark : ℕ → ℕ) (value : ℕ → Option ℕ)
    (status : ℕ → Status) (hold : Option Hold) (tick count : ℕ) : Type 0 where
  pub wide : length words ≡ word_count workers nodes
  pub statuses : (w : ℕ) → w < workers → slice_index words w ≡ status_code (status w)
  pub flag : slice_index words (flag_at workers) ≡ flag_code hold
  pub batches : slice_index words (count_at workers) ≡ count
  pub ticks : slice_index words (tick_at workers) ≡ tick
  pub progress : (n : ℕ) → n < nodes → slice_index words (node_at workers n) ≡ progress_code (node n)
  pub marks : (n : ℕ) → n < nodes → slice_index words (mark_at workers nodes n) ≡ mark n
  pub values : (n : ℕ) → n < nodes → HasValue (value n) (slice_index words (value_at workers nodes n))
