-- What is read off the paths of what a turn, or a launch, leaves as it was.
use Rattle.std.proofs.Common.{◌≡◌, ◌≤◌, ℕ, ◌+◌, true, Option, None, Some, List, [], ◌∷◌, ◌++◌, sym, refl, ap, ◌∙◌, subst, inl, inr, append_assoc, arith}
use Rattle.core_model.specs.Words.{Entry}
use Rattle.core_model.specs.declared.event.Event.TheVariants as made
use Rattle.worker_crew.specs.Words.{Event, Receipt, CallState, Got}
use Rattle.worker_turns.specs.declared.attempts.PieceAttempt.{PieceAttempt}
use Rattle.worker_turns.specs.declared.attempts.PieceAttempt.TheVariants.{Ran, Stale, Empty}
use Rattle.worker_turns.specs.declared.attempts.StealAttempt.{StealAttempt}
use Rattle.worker_turns.specs.declared.attempts.StealAttempt.TheVariants as others
use Rattle.worker_turns.specs.declared.attempts.NodeAttempt.{NodeAttempt}
use Rattle.worker_turns.specs.declared.attempts.NodeAttempt.TheVariants.{Claimed, Refused, NoNode}
use Rattle.worker_turns.specs.declared.trapped.Trapped.{Trapped}
use Rattle.worker_turns.specs.declared.trapped.Trapped.TheVariants.{Left, Piece, Launched, Nothing}
use Rattle.worker_turns.specs.declared.free.Did.{Did}
use Rattle.worker_turns.specs.declared.free.Did.TheVariants as did
use Rattle.table_rule.specs.declared.view.HoldView.{HoldView}
use Rattle.table_rule.specs.declared.slot.OpRecord.{OpRecord}
use Rattle.table_rule.specs.declared.view.LeftCall.{LeftCall}
use Rattle.table_rule.specs.declared.view.PassView.{PassView}
use Rattle.table_rule.specs.Passes.{finding_none, leaving, refusing_win, refusing_leave, winning}
use Rattle.table_rule.specs.Shows.{IsPrefix}
use Rattle.worker_crew.specs.Passes.{is_trapped, IsTrapped}
use Rattle.worker_crew.specs.Workers.{WorkerView}
use Rattle.worker_turns.specs.Stops.{unstopped}
use Rattle.worker_turns.specs.Pieces.{Desk, desk_after, NotRan, IsOwnPiece, IsOtherPiece}
use Rattle.worker_turns.specs.Launches.{ExecutesPieces, Collects, Launches, launch_events}
use Rattle.worker_turns.specs.Trapped.{IsTrappedTurn, IsJobSame, refused_both}
use Rattle.worker_turns.specs.Free.{IsOther, IsOwnNode, StoleNothing, IsFreeTurn, Helps}
use Rattle.worker_turns.specs.Meanings.Stays.{IsStillTrapped, IsAnswered, CallAfter, KeepsNodes, HelpsNone}
use Rattle.worker_turns.proofs.PieceLemmas.Working.{works_tried, other_core}
use Rattle.worker_turns.proofs.CarryLemmas.Steps.{front_none, helps_none, helps_then, helps_works}
use Rattle.worker_turns.proofs.MeaningLemmas.Trapped.{not_ran_desk}

-- the pass after more tries to leave and to win, holds, looks at the stop word and events, and with more of the book
-- seen; the rest is unchanged
abbrev come_on : ℕ → ℕ → ℕ → ℕ → Option HoldView → List (List Entry) → List Event → PassView → PassView
come_on leaves wins refused looks last book events p = record p {
  hold = None;
  last = last;
  wins = wins;
  refused_wins = refused;
  refused_leaves = leaves;
  stop_looks = looks;
  book_seen = book;
  events = events;
}

came_on : (old new : PassView) (leaves wins refused looks : ℕ) (last : Option HoldView) (book : List (List Entry)) (events : List Event)
    → is_trapped old.call ≡ true → old.stop_looks ≤ looks → IsPrefix old.book_seen book → IsPrefix old.events events → new ≡ come_on leaves wins refused looks last book events old
    → IsStillTrapped old new
came_on old new leaves wins refused looks last book events trapped more front grown is = subst (λ (p : PassView). IsStillTrapped old p) (sym is) (record {
  trapped = (trapped, refl);
  same = record {
    job = record { worker = refl; task = refl; claims = refl; claimed = refl; refused = refl; opened = refl; found = refl; stops = refl };
    call = refl;
    hold = refl;
    looks = more;
    events = grown;
    posted = refl;
    left = refl;
    book = front;
    greatest = refl;
    before = refl;
    after = refl;
    first = refl;
  };
})

-- where the pass had no hold
unheld : (p : PassView) → p.hold ≡ None → p ≡ record p { hold = None }
unheld p none = λ i. record p { hold = none i }

pub own_pass : (t : PieceAttempt) (old a : WorkerView) → IsOwnPiece t (unstopped old) a → a.pass ≡ finding_none old.pass
own_pass t old a p = ap (λ (m : WorkerView). m.pass) p.same

pub other_pass : (t : PieceAttempt) (old new : WorkerView) → IsOtherPiece t old new → new.pass ≡ old.pass
other_pass t old new (inl alone) = ap (λ (m : WorkerView). m.pass) alone.2
other_pass t old new (inr s) = ap (λ (m : WorkerView). m.pass) s.same

other_desk : (t : PieceAttempt) (old new : WorkerView) → IsOtherPiece t old new → new.desk ≡ desk_after t old.desk
other_desk t old new (inl alone) = ap (λ (m : WorkerView). m.desk) alone.2 ∙ ap (λ (u : PieceAttempt). desk_after u old.desk) (sym alone.1)
other_desk t old new (inr s) = ap (λ (m : WorkerView). m.desk) s.same

-- what becomes of the call
refused_twice : (old mid new : PassView) → IsTrapped old → mid ≡ finding_none old → new ≡ refusing_win (refusing_leave mid) → IsStillTrapped old new
refused_twice old mid new trapped same is =
    came_on old new (old.refused_leaves + 1) old.wins (old.refused_wins + 1) (old.stop_looks + 1) old.last old.book_seen old.events trapped.0 (omega arith)
    (front_none old.book_seen old.book_seen refl) (front_none old.events old.events refl)
    (is ∙ ap (λ (p : PassView). refusing_win (refusing_leave p)) (same ∙ ap finding_none (unheld old trapped.1)))

-- the book of a hold that was launched begins with the book at its win
launched_front : (workers : ℕ) (seen book : List (List Entry)) (posted : List ℕ) (served : List Event) (done : HoldView) → IsPrefix seen book → Collects workers book posted served done → IsPrefix seen done.book
launched_front workers seen book posted served done front g = elim g.batch [
  | inl none ↦ subst (λ l. IsPrefix seen l) (sym none.1) front
  | inr some ↦ (front.0 ++ some.0 ∷ [], some.1.published.book ∙ (ap (λ l. l ++ some.0 ∷ []) front.1 ∙ append_assoc seen front.0 (some.0 ∷ [])))
]

-- a pass that won and launched, after this look at the stop word
abbrev launched_from : List (List Entry) → HoldView → ℕ → List Event → PassView → PassView
launched_from book done looks served p = record (winning book (refusing_leave p)) {
  hold = None;
  last = Some done;
  book_seen = done.book;
  stop_looks = looks;
  events = (winning book (refusing_leave p)).events ++ served;
}

launched_pass : (old mid new : PassView) (book : List (List Entry)) (done : HoldView) (looks : ℕ) (served : List Event) → is_trapped old.call ≡ true → IsPrefix mid.book_seen done.book → mid ≡ finding_none old
    → mid.stop_looks ≤ looks → new ≡ launched_from book done looks served mid → IsStillTrapped old new
launched_pass old mid new book done looks served trapped front same more is =
    came_on old new (old.refused_leaves + 1) (old.wins + 1) old.refused_wins looks (Some done) done.book ((old.events ++ made.Win ∷ []) ++ served) trapped
    (let was = ap (λ (p : PassView). p.stop_looks) same in omega (arith, more, was)) (subst (λ (p : PassView). IsPrefix p.book_seen done.book) same front)
    (made.Win ∷ served, append_assoc old.events (made.Win ∷ []) served) (is ∙ ap (launched_from book done looks served) same)

answered : (call : OpRecord) (receipt : Receipt) (old mid new : PassView) → IsTrapped old → mid ≡ finding_none old → new ≡ leaving call receipt new.book_seen mid → IsAnswered receipt old new
answered call receipt old mid new trapped same is =
    let now : new ≡ leaving call receipt new.book_seen (finding_none old) = is ∙ ap (leaving call receipt new.book_seen) same in
    record {
      free = (ap (λ (p : PassView). is_trapped p.call) now, ap (λ (p : PassView). p.hold) now ∙ trapped.1);
      task = ap (λ (p : PassView). p.task) now;
      got = ap (λ (p : PassView). p.call) now;
      told = record {
        greatest = ap (λ (p : PassView). p.greatest) now;
        before = ap (λ (p : PassView). p.before) now;
        after = ap (λ (p : PassView). p.after) now;
        first = ap (λ (p : PassView). p.first_since) now;
      };
    }

pub call_after : (workers : ℕ) (answer : Trapped) (old new : WorkerView) → IsTrapped old.pass → IsTrappedTurn workers answer old new → CallAfter answer old.pass new.pass
call_after workers (Left receipt) old new trapped (own, a, unrun, p, left, same) =
    answered left.call receipt old.pass a.pass new.pass trapped (own_pass own old a p) left.left
call_after workers Piece old new trapped (inl (spot, p)) =
    came_on old.pass new.pass old.pass.refused_leaves old.pass.wins old.pass.refused_wins (old.pass.stop_looks + 1) old.pass.last old.pass.book_seen old.pass.events trapped.0 (omega arith)
    (front_none old.pass.book_seen old.pass.book_seen refl) (front_none old.pass.events old.pass.events refl) (own_pass (Ran spot) old new p ∙ ap finding_none (unheld old.pass trapped.1))
call_after workers Piece old new trapped (inr (own, spot, a, unrun, p, q)) =
    refused_twice old.pass a.pass new.pass trapped (own_pass own old a p) (other_pass (Ran spot) (refused_both a) new q)
call_after workers Launched old new trapped (own, a, book, unrun, p, l, front) =
    launched_pass old.pass a.pass new.pass book l.done new.pass.stop_looks (launch_events workers l.served) trapped.0 (launched_front workers a.pass.book_seen book l.posted l.served l.done front l.gathers)
    (own_pass own old a p) l.looks l.released
call_after workers Nothing old new trapped (own, other, a, unrun, not, p, q) =
    refused_twice old.pass a.pass new.pass trapped (own_pass own old a p) (other_pass other (refused_both a) new q)

pub launched_call : (workers : ℕ) (book : List (List Entry)) (old new : WorkerView) → is_trapped old.pass.call ≡ true → IsPrefix old.pass.book_seen book → Launches workers book old new → IsStillTrapped old.pass new.pass
launched_call workers book old new trapped front l =
    came_on old.pass new.pass old.pass.refused_leaves old.pass.wins old.pass.refused_wins new.pass.stop_looks (Some l.done) l.done.book (old.pass.events ++ launch_events workers l.served) trapped l.looks
    (launched_front workers old.pass.book_seen book l.posted l.served l.done front l.gathers) (launch_events workers l.served, refl) l.released

-- a pass whose call and hold have come on, and whose job has not
abbrev turned : CallState → Option HoldView → Option HoldView → ℕ → ℕ → ℕ → ℕ → List LeftCall → List (List Entry) → List Event → PassView → PassView
turned call hold last wins refused leaves looks left book events p = record p {
  call = call;
  hold = hold;
  last = last;
  wins = wins;
  refused_wins = refused;
  refused_leaves = leaves;
  stop_looks = looks;
  left = left;
  book_seen = book;
  events = events;
}

job_kept : (old new : PassView) (call : CallState) (hold last : Option HoldView) (wins refused leaves looks : ℕ) (left : List LeftCall) (book : List (List Entry)) (events : List Event)
    → new ≡ turned call hold last wins refused leaves looks left book events old → IsJobSame old new
job_kept old new call hold last wins refused leaves looks left book events is = subst (λ (p : PassView). IsJobSame old p) (sym is)
    (record { worker = refl; task = refl; claims = refl; claimed = refl; refused = refl; opened = refl; found = refl; stops = refl })

refused_job : (old mid new : PassView) → mid ≡ finding_none old → new ≡ refusing_win (refusing_leave mid) → IsJobSame old new
refused_job old mid new same is =
    job_kept old new old.call old.hold old.last old.wins (old.refused_wins + 1) (old.refused_leaves + 1) (old.stop_looks + 1) old.left old.book_seen old.events
    (is ∙ ap (λ (p : PassView). refusing_win (refusing_leave p)) same)

pub turn_keeps : (workers : ℕ) (answer : Trapped) (old new : WorkerView) → IsTrappedTurn workers answer old new → KeepsNodes old new
turn_keeps workers (Left receipt) old new (own, a, unrun, p, left, same) = record {
  core = ap (λ (m : WorkerView). m.core) same ∙ ap (λ (m : WorkerView). m.core) p.same;
  job = job_kept old.pass new.pass (Got receipt) old.pass.hold old.pass.last old.pass.wins old.pass.refused_wins old.pass.refused_leaves (old.pass.stop_looks + 1)
      (old.pass.left ++ record { call = left.call; receipt = receipt } ∷ []) new.pass.book_seen (old.pass.events ++ made.Leave receipt ∷ []) (left.left ∙ ap (leaving left.call receipt new.pass.book_seen) (own_pass own old a p));
}
turn_keeps workers Piece old new (inl (spot, p)) = record {
  core = ap (λ (m : WorkerView). m.core) p.same;
  job = job_kept old.pass new.pass old.pass.call old.pass.hold old.pass.last old.pass.wins old.pass.refused_wins old.pass.refused_leaves (old.pass.stop_looks + 1) old.pass.left
      old.pass.book_seen old.pass.events (own_pass (Ran spot) old new p);
}
turn_keeps workers Piece old new (inr (own, spot, a, unrun, p, q)) = record {
  core = other_core (Ran spot) (refused_both a) new q ∙ ap (λ (m : WorkerView). m.core) p.same;
  job = refused_job old.pass a.pass new.pass (own_pass own old a p) (other_pass (Ran spot) (refused_both a) new q);
}
turn_keeps workers Launched old new (own, a, book, unrun, p, l, front) = record {
  core = l.core ∙ ap (λ (m : WorkerView). m.core) p.same;
  job = job_kept old.pass new.pass old.pass.call None (Some l.done) (old.pass.wins + 1) old.pass.refused_wins (old.pass.refused_leaves + 1) new.pass.stop_looks old.pass.left
      l.done.book ((old.pass.events ++ made.Win ∷ []) ++ launch_events workers l.served)
      (l.released ∙ ap (launched_from book l.done new.pass.stop_looks (launch_events workers l.served)) (own_pass own old a p));
}
turn_keeps workers Nothing old new (own, other, a, unrun, not, p, q) = record {
  core = other_core other (refused_both a) new q ∙ ap (λ (m : WorkerView). m.core) p.same;
  job = refused_job old.pass a.pass new.pass (own_pass own old a p) (other_pass other (refused_both a) new q);
}

pub launch_keeps : (workers : ℕ) (book : List (List Entry)) (old new : WorkerView) → Launches workers book old new → KeepsNodes old new
launch_keeps workers book old new l = record {
  core = l.core;
  job = job_kept old.pass new.pass old.pass.call None (Some l.done) old.pass.wins old.pass.refused_wins old.pass.refused_leaves new.pass.stop_looks old.pass.left
      l.done.book (old.pass.events ++ launch_events workers l.served) l.released;
}

-- a piece that is given is finished
helps_tried : (t : PieceAttempt) (d e : Desk) → e ≡ desk_after t d → Helps d e
helps_tried t d e is = helps_works d e (works_tried t d e is)

own_helps : (t : PieceAttempt) (old a : WorkerView) → IsOwnPiece t old a → Helps old.desk a.desk
own_helps t old a p = helps_tried t old.desk a.desk (ap (λ (m : WorkerView). m.desk) p.same)

other_helps : (t : PieceAttempt) (old new : WorkerView) → IsOtherPiece t old new → Helps old.desk new.desk
other_helps t old new q = helps_tried t old.desk new.desk (other_desk t old new q)

helps_is : (a b c : Desk) → c ≡ b → Helps a b → Helps a c
helps_is a b c is h = subst (λ (d : Desk). Helps a d) (sym is) h

serves_helps : (places : List ℕ) (old new : Desk) → ExecutesPieces places old new → Helps old new
serves_helps places old new s = record { given = s.given; gave = s.gave; finishes = s.finishes }

pub trapped_helps : (workers : ℕ) (answer : Trapped) (old new : WorkerView) → IsTrappedTurn workers answer old new → Helps old.desk new.desk
trapped_helps workers (Left receipt) old new (own, a, unrun, p, left, same) =
    helps_is old.desk a.desk new.desk (ap (λ (m : WorkerView). m.desk) same) (own_helps own (unstopped old) a p)
trapped_helps workers Piece old new (inl (spot, p)) = own_helps (Ran spot) (unstopped old) new p
trapped_helps workers Piece old new (inr (own, spot, a, unrun, p, q)) =
    helps_then old.desk a.desk new.desk (own_helps own (unstopped old) a p) (other_helps (Ran spot) (refused_both a) new q)
trapped_helps workers Launched old new (own, a, book, unrun, p, l, front) =
    helps_then old.desk a.desk new.desk (own_helps own (unstopped old) a p) (serves_helps l.posted a.desk new.desk l.desk)
trapped_helps workers Nothing old new (own, other, a, unrun, not, p, q) =
    helps_then old.desk a.desk new.desk (own_helps own (unstopped old) a p) (other_helps other (refused_both a) new q)

pub launch_helps : (workers : ℕ) (book : List (List Entry)) (old new : WorkerView) → Launches workers book old new → Helps old.desk new.desk
launch_helps workers book old new l = serves_helps l.posted old.desk new.desk l.desk

-- and so in the steal of a free worker
steal_helps : (other : StealAttempt) (old new : WorkerView) → IsOther other old new → Helps old.desk new.desk
steal_helps others.NoVictim old new (one, same) = helps_is old.desk old.desk new.desk (ap (λ (m : WorkerView). m.desk) same) (helps_none old.desk)
steal_helps (others.Node t) old new (deck, steal, same) = helps_is old.desk old.desk new.desk (ap (λ (m : WorkerView). m.desk) same) (helps_none old.desk)
steal_helps (others.Piece t) old new (deck, steal, same) = helps_tried t old.desk new.desk (ap (λ (m : WorkerView). m.desk) same)

node_helps : (t : NodeAttempt) (old a : WorkerView) → IsOwnNode t old a → Helps old.desk a.desk
node_helps t old a p = helps_is old.desk old.desk a.desk (ap (λ (m : WorkerView). m.desk) p.same) (helps_none old.desk)

-- after both own deques, the steal
all_help : (t : NodeAttempt) (own : PieceAttempt) (other : StealAttempt) (old a b new : WorkerView) → IsOwnNode t (unstopped old) a → IsOwnPiece own a b → IsOther other b new → Helps old.desk new.desk
all_help t own other old a b new p q o =
    helps_then old.desk b.desk new.desk (helps_then old.desk a.desk b.desk (node_helps t (unstopped old) a p) (own_helps own a b q)) (steal_helps other b new o)

pub free_helps : (answer : Did) (old new : WorkerView) → IsFreeTurn answer old new → Helps old.desk new.desk
free_helps did.Ran old new (inl (n, a, p, c)) = helps_then old.desk a.desk new.desk (node_helps (Claimed n) (unstopped old) a p) c.desk
free_helps did.Ran old new (inr (n, a, b, d, p, q, o, c)) =
    helps_then old.desk d.desk new.desk (all_help NoNode Empty (others.Node (Claimed n)) old a b d p q o) c.desk
free_helps did.Piece old new (inl (spot, a, p, q)) =
    helps_then old.desk a.desk new.desk (node_helps NoNode (unstopped old) a p) (own_helps (Ran spot) a new q)
free_helps did.Piece old new (inr (spot, a, b, p, q, o)) = all_help NoNode Empty (others.Piece (Ran spot)) old a b new p q o
free_helps did.Nothing old new (inl (n, p)) = node_helps (Refused n) (unstopped old) new p
free_helps did.Nothing old new (inr (inl (spot, a, p, q))) =
    helps_then old.desk a.desk new.desk (node_helps NoNode (unstopped old) a p) (own_helps (Stale spot) a new q)
free_helps did.Nothing old new (inr (inr (other, a, b, unrun, p, q, o))) = all_help NoNode Empty other old a b new p q o

-- no piece was given
given_none : (t : PieceAttempt) (d e : Desk) → NotRan t → e ≡ desk_after t d → HelpsNone d e
given_none t d e unrun is =
    let now = is ∙ not_ran_desk t d unrun in
    record { given = ap (λ (f : Desk). f.given) now; finishes = ap (λ (f : Desk). f.finishes) now }

none_then : (a b c : Desk) → HelpsNone a b → HelpsNone b c → HelpsNone a c
none_then a b c p q = record { given = q.given ∙ p.given; finishes = q.finishes ∙ p.finishes }

none_is : (a b : Desk) → b ≡ a → HelpsNone a b
none_is a b is = record { given = ap (λ (d : Desk). d.given) is; finishes = ap (λ (d : Desk). d.finishes) is }

own_none_given : (t : PieceAttempt) (old a : WorkerView) → NotRan t → IsOwnPiece t old a → HelpsNone old.desk a.desk
own_none_given t old a unrun p = given_none t old.desk a.desk unrun (ap (λ (m : WorkerView). m.desk) p.same)

pub left_helps_none : (workers : ℕ) (receipt : Receipt) (old new : WorkerView) → IsTrappedTurn workers (Left receipt) old new → HelpsNone old.desk new.desk
left_helps_none workers receipt old new (own, a, unrun, p, left, same) =
    none_then old.desk a.desk new.desk (own_none_given own (unstopped old) a unrun p) (none_is a.desk new.desk (ap (λ (m : WorkerView). m.desk) same))

pub nothing_helps_none : (workers : ℕ) (old new : WorkerView) → IsTrappedTurn workers Nothing old new → HelpsNone old.desk new.desk
nothing_helps_none workers old new (own, other, a, unrun, not, p, q) =
    none_then old.desk a.desk new.desk (own_none_given own (unstopped old) a unrun p) (given_none other a.desk new.desk not (other_desk other (refused_both a) new q))

steal_given_none : (other : StealAttempt) (old new : WorkerView) → StoleNothing other → IsOther other old new → HelpsNone old.desk new.desk
steal_given_none others.NoVictim old new unrun (one, same) = none_is old.desk new.desk (ap (λ (m : WorkerView). m.desk) same)
steal_given_none (others.Node t) old new unrun (deck, steal, same) = none_is old.desk new.desk (ap (λ (m : WorkerView). m.desk) same)
steal_given_none (others.Piece t) old new unrun (deck, steal, same) = given_none t old.desk new.desk unrun (ap (λ (m : WorkerView). m.desk) same)

node_none : (t : NodeAttempt) (old a : WorkerView) → IsOwnNode t old a → HelpsNone old.desk a.desk
node_none t old a p = none_is old.desk a.desk (ap (λ (m : WorkerView). m.desk) p.same)

pub found_helps_none : (old new : WorkerView) → IsFreeTurn did.Nothing old new → HelpsNone old.desk new.desk
found_helps_none old new (inl (n, p)) = node_none (Refused n) (unstopped old) new p
found_helps_none old new (inr (inl (spot, a, p, q))) =
    none_then old.desk a.desk new.desk (node_none NoNode (unstopped old) a p) (own_none_given (Stale spot) a new tt q)
found_helps_none old new (inr (inr (other, a, b, unrun, p, q, o))) =
    none_then old.desk b.desk new.desk (none_then old.desk a.desk b.desk (node_none NoNode (unstopped old) a p) (own_none_given Empty a b tt q))
    (steal_given_none other b new unrun o)
