-- What contracts see of a worker's ends of the deques of one kind, and the effect of each operation.
use Rattle.std.specs.Prelude.{ℕ, ◌+◌, ◌==◌, true, false, List, [], ◌∷◌, ◌++◌, map, replicate}
use Rattle.std.specs.Prelude.{slice_index_or, slice_set, if◌then◌else◌}
use Rattle.crossbeam_deque.specs.Handles.{view, worker_view}
use Rattle.two_deques.specs.declared.ends.Reach.{Reach}
use Rattle.two_deques.specs.declared.ends.Ends.{Ends}
use Rattle.two_deques.specs.Rule.{FoundAtMost}

-- For the worker's own deque: `own`, the tasks that it pushed and has not popped, the oldest first (some of them
-- may be stolen); `pushes`, the number of its pushes; `empty_pops`, the number of its pops that found nothing.
-- For each worker's deque, indexed by worker: `stolen`, the tasks that this worker stole there, and
-- `failed_steals`, the number of its steals that found nothing. `risen` says how the two counts saturate.
pub record HeldEnds (T : Type 0) : Type 0 where
  pub own : List T
  pub pushes : ℕ
  pub empty_pops : ℕ
  pub stolen : List (List T)
  pub failed_steals : List ℕ

abbrev pub stolen_there : {T : Type 0} → Reach T → List T
stolen_there reach = (view reach.pass).tasks

abbrev pub held_ends : {T : Type 0} → Ends T → HeldEnds T
held_ends e = record {
  own = (worker_view e.own).tasks;
  pushes = (worker_view e.own).pushes;
  empty_pops = e.empty_pops;
  stolen = map stolen_there e.reaches.items;
  failed_steals = map (λ reach. reach.failed_steals) e.reaches.items;
}

-- the initial ends among `workers` workers: all lists are empty and all counts are 0
abbrev pub fresh_ends : (T : Type 0) → ℕ → HeldEnds T
fresh_ends T workers = record {
  own = [];
  pushes = 0;
  empty_pops = 0;
  stolen = replicate workers [];
  failed_steals = replicate workers 0;
}

-- the tasks that this worker stole from `victim`'s deque
abbrev pub stolen_from : {T : Type 0} → ℕ → HeldEnds T → List T
stolen_from victim e = slice_index_or e.stolen victim []

-- one more, saturating at 2^64 - 1
abbrev pub risen : ℕ → ℕ
risen n = if n == 18446744073709551615 then n else n + 1

-- with one more task at the newest end of `own`
abbrev pub with_newest : {T : Type 0} → T → HeldEnds T → HeldEnds T
with_newest x e = record e { own = e.own ++ x ∷ [] }

-- after a push of `x`
abbrev pub after_push : {T : Type 0} → T → HeldEnds T → HeldEnds T
after_push x e = record e { own = e.own ++ x ∷ []; pushes = e.pushes + 1 }

-- after a pop that found nothing
abbrev pub after_empty_pop : {T : Type 0} → HeldEnds T → HeldEnds T
after_empty_pop e = record e { empty_pops = risen e.empty_pops }

-- after a steal of `x` from `victim`'s deque
abbrev pub after_steal : {T : Type 0} → ℕ → T → HeldEnds T → HeldEnds T
after_steal victim x e = record e { stolen = slice_set e.stolen victim (stolen_from victim e ++ x ∷ []) }

-- after a steal from `victim`'s deque that found nothing
abbrev pub after_failed_steal : {T : Type 0} → ℕ → HeldEnds T → HeldEnds T
after_failed_steal victim e =
    record e {
      failed_steals = slice_set e.failed_steals victim
          (risen (slice_index_or e.failed_steals victim 0));
    }

-- The cause of a pop that found nothing: the rule admits that the own deque was empty, so all tasks of `own` were
-- stolen.
abbrev pub WasEmpty : {T : Type 0} → HeldEnds T → Type 0
WasEmpty e = FoundAtMost 0 true e.own

-- The cause of a steal that found nothing: the rule admits that the victim's deque had at most one task.
abbrev pub HadAtMostOne : {T : Type 0} → ℕ → HeldEnds T → Type 0
HadAtMostOne victim e = FoundAtMost 1 false (stolen_from victim e)
