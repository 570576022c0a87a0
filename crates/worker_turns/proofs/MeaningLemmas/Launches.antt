-- What is read off a launch.
use Rattle.std.proofs.Common.{◌≡◌, ℕ, ◌+◌, ◌⊎◌, List, [], ◌++◌, length, refl, ap, ◌∙◌, subst, inl, inr, arith, append-nil}
use Rattle.two_deques.specs.declared.spot.Spot.{Spot}
use Rattle.two_deques.specs.Ends.{HeldEnds}
use Rattle.core_model.specs.Words.{Entry}
use Rattle.worker_turns.specs.declared.trapped.Trapped.TheVariants.{Launched}
use Rattle.table_rule.specs.declared.view.PassView.{PassView}
use Rattle.table_rule.specs.declared.view.HoldView.{HoldView}
use Rattle.worker_crew.specs.Workers.{WorkerView}
use Rattle.worker_turns.specs.Pieces.{Desk, spot_of}
use Rattle.worker_crew.specs.Words.{Event}
use Rattle.worker_turns.specs.Launches.{ExecutesPieces, ArePlaces, Collects, Launches}
use Rattle.worker_turns.specs.Trapped.{IsTrappedTurn, won_after}
use Rattle.worker_turns.specs.Meanings.Launches.{FoundNone, Served, Passed, PassedNone, HasLaunched, DidLaunch}
use Rattle.worker_turns.proofs.MeaningLemmas.Gains.{listed}
use Rattle.worker_turns.proofs.MeaningLemmas.Trapped.{after_own, own_none}

passed : (places : List ℕ) (old new : Desk) → ExecutesPieces places old new → Passed places old new
passed places old new s = record { posts = s.posts; collects = s.collects; free = s.free }

passed_none : (old new : Desk) → ExecutesPieces [] old new → PassedNone old new
passed_none old new s = let c = s.collects in record { posts = s.posts ∙ append-nil _; collects = omega (arith, c); free = s.free }

-- what a launch found, where the desk at the start is only known by its posts and collects
abbrev LaunchFound : List (List Entry) → HoldView → Desk → Desk → Type 0
LaunchFound book done old new =
    (FoundNone book done × PassedNone old new)
    ⊎ ((batch : List Entry) × (places : List ℕ) × Served book batch done × ArePlaces book done.taken places × Passed places old new)

found_from : (book : List (List Entry)) (done : HoldView) (old mid new : Desk) → mid.posts ≡ old.posts → mid.collects ≡ old.collects
    → LaunchFound book done mid new → LaunchFound book done old new
found_from book done old mid new posts collects (inl (none, p)) =
    inl (none, record { posts = p.posts ∙ posts; collects = p.collects ∙ collects; free = p.free })
found_from book done old mid new posts collects (inr (batch, places, served, are, p)) = inr (
  batch,
  places,
  served,
  are,
  record { posts = p.posts ∙ ap (λ l. l ++ places) posts; collects = p.collects ∙ ap (λ n. n + length places) collects; free = p.free },
)

found_of : (workers : ℕ) (book : List (List Entry)) (posted : List ℕ) (served : List Event) (done : HoldView) (old new : Desk) → ExecutesPieces posted old new → Collects workers book posted served done
    → LaunchFound book done old new
found_of workers book posted served done old new s g = elim g.batch [
  | inl (none, same, empty, quiet) ↦ inl (
    record { none = none.none; unpublished = none.early; unchanged = same },
    passed_none old new (subst (λ (l : List ℕ). ExecutesPieces l old new) empty s),
  )
  | inr (batch, all, are, made) ↦ inr (
    batch,
    posted,
    record {
      published = all.published.published;
      behind = all.published.book;
      exactly = all.published.service.same;
      service = all.published.service;
      answered = all.answered;
    },
    are,
    passed posted old new s,
  )
]

pub launch_means : (workers : ℕ) (book : List (List Entry)) (old new : WorkerView) → Launches workers book old new → HasLaunched workers book old new
launch_means workers book old new l = record {
  done = l.done;
  last = ap (λ (p : PassView). p.last) l.released;
  released = ap (λ (p : PassView). p.hold) l.released;
  looks = l.gathers.looked;
  pending = l.gathers.found;
  seen = ap (λ (p : PassView). p.book_seen) l.released;
  found = found_of workers book l.posted l.served l.done old.desk new.desk l.desk l.gathers;
}

did_launch : (workers : ℕ) (book : List (List Entry)) (lost : List Spot) (batch : HeldEnds Spot) (old new : WorkerView) → Launches workers book (won_after book (after_own lost batch old)) new → DidLaunch workers old new
did_launch workers book lost batch old new l =
    let mid = won_after book (after_own lost batch old) in
    let h = launch_means workers book mid new l in record {
      leaves = ap (λ (p : PassView). p.refused_leaves) l.released;
      wins = ap (λ (p : PassView). p.wins) l.released;
      refused_wins = ap (λ (p : PassView). p.refused_wins) l.released;
      book = book;
      launched = record {
        done = h.done;
        last = h.last;
        released = h.released;
        looks = h.looks;
        pending = h.pending;
        seen = h.seen;
        found = found_from book h.done old.desk mid.desk new.desk refl refl h.found;
      };
    }

pub launched_means : (workers : ℕ) (old new : WorkerView) → IsTrappedTurn workers Launched old new → DidLaunch workers old new
launched_means workers old new (own, a, book, unrun, p, l, front) =
    did_launch workers book (listed (spot_of own)) a.batch old new
    (subst (λ (m : WorkerView). Launches workers book (won_after book m) new) (own_none own old a unrun p) l)
