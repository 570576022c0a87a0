-- The workers' initial states.
use Rattle.std.specs.Prelude.{ℕ, ◌≡◌, ◌<◌, ◌*◌, ◌==◌, Bool, true, false, List, length, slice_get, slice_index_or, IfSome, if◌then◌else◌}
use Rattle.std.specs.List.{count_by}
use Rattle.seq_objects.specs.declared.act.Act.{Act}
use Rattle.seq_objects.specs.declared.act.Act.TheVariants.{Work, Call}
use Rattle.two_deques.specs.declared.decks.Decks.{Decks}
use Rattle.two_deques.specs.Ends.{after_push}
use Rattle.two_deques.specs.Hands.{Held, held, fresh_hand, core_room_of, batch_room_of}
use Rattle.two_deques.specs.Tries.{first_tries}
use Rattle.piece_board.specs.Boards.{desk_view}
use Rattle.piece_board.specs.Desks.{fresh_desk}
use Rattle.core_table.specs.declared.table.CoreTable.{CoreTable}
use Rattle.leaf_work.specs.declared.brand.WorkBrand.{Ghosts as BrandOf}
use Rattle.leaf_work.specs.declared.function.LeafWork.{Ghosts as WorkOf}
use Rattle.worker_crew.specs.declared.crew.Crew.{Crew}
use Rattle.worker_crew.specs.declared.crew.Me.{Me}
use Rattle.core_table.specs.declared.table.Pass.{Pass}
use Rattle.core_table.specs.Passes.{job_in, planned_in, view, pass_view, opening_view, IsPassOf}
use Rattle.table_rule.specs.Passes.{unused}
use Rattle.worker_crew.specs.Workers.{IsReady}
use Rattle.worker_crew.specs.declared.crew.opening.TheConstants.{PUSHES_A_CALL}

-- whether the act is a call
abbrev pub is_call : Act → Bool
is_call (Work steps) = false
is_call (Call op) = true

-- the hand after a push of node 0, the root, on its own deque of nodes
abbrev pub with_root : Held → Held
with_root h = record h { core = after_push 0 h.core }

-- the initial hand of `worker` among `workers` workers: worker 0 has pushed the root, all other hands are fresh
abbrev pub opening_hand : ℕ → ℕ → Held
opening_hand worker workers =
    if worker == 0 then with_root (fresh_hand worker workers) else fresh_hand worker workers

-- Over its lifetime, each deque of nodes is guaranteed to take one push for each node of the table's job, and each deque
-- of pieces `PUSHES_A_CALL` for each leaf that calls.
abbrev pub HaveRooms : {B : Type 0} → CoreTable B → Decks → Type 0
HaveRooms table decks = (core_room_of decks ≡ (job_in table).plan.count)
    × (batch_room_of decks ≡ PUSHES_A_CALL * count_by is_call (planned_in table).acts)

-- the passes of a table that was just made, indexed by worker
abbrev pub AreNewPasses : {B : Type 0} → CoreTable B → ℕ → List Pass → Type 0
AreNewPasses table workers passes = (length passes ≡ workers)
    × ((w : ℕ) → IfSome (slice_get passes w) (λ pass. IsPassOf table pass × (view pass ≡ opening_view table w)))

module _ {G B W : Type 0} {b : BrandOf B} {w : WorkOf W} (crew : Crew G B W b w) where
  -- `me` is this worker, ready for its first turn: its pass, its desk and its tries are unused, and its hand is the
  -- initial one
  pub record IsAtStart (worker : ℕ) (me : Me) : Type 0 where
    pub ready : IsReady crew me
    pub pass : pass_view me.pass ≡ unused worker
    pub hand : held me.hand ≡ opening_hand worker crew.workers
    pub desk : desk_view me.desk ≡ fresh_desk worker
    pub tries : me.tries ≡ first_tries worker crew.workers

  -- `mes` is a list of the first n workers, indexed by worker, each in its initial state
  pub record AreAtStartUpTo (n : ℕ) (mes : List Me) : Type 0 where
    pub count : length mes ≡ n
    pub each : (w : ℕ) (me : Me) → w < n → me ≡ slice_index_or mes w me → IsAtStart w me

  -- `mes` are the crew's workers, indexed by worker, each in its initial state
  abbrev pub AreAtStart : List Me → Type 0
  AreAtStart mes = AreAtStartUpTo crew.workers mes
