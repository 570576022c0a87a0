-- The own deque of pieces while a launch hands out its pieces, and the looks at the stop word while it waits.
use Rattle.std.proofs.Common.{◌≡◌, ℕ, ◌+◌, Result, Ok, Err, IfOk, List, [], ◌∷◌, ◌++◌, length, refl, sym, ap, ◌∙◌, arith, append_assoc, append-nil, length-append, inl, inr}
use Rattle.std.proofs.lemmas.List.{map-append}
use Rattle.two_deques.specs.declared.spot.Spot.{Spot}
use Rattle.two_deques.specs.Ends.{HeldEnds, risen, after_push, with_newest, after_empty_pop}
use Rattle.worker_crew.specs.Workers.{WorkerView}
use Rattle.worker_turns.specs.declared.attempts.PieceAttempt.{PieceAttempt}
use Rattle.worker_turns.specs.declared.attempts.PieceAttempt.TheVariants.{Ran, Stale, Empty}
use Rattle.worker_turns.specs.Pieces.{Desk, IsOwnPiece, IsOtherPiece, IsSteal, spot_of, desk_after}
use Rattle.worker_turns.specs.Launches.{HandsOut, LooksWhileWaiting, spots_of}
use Rattle.worker_turns.specs.Code.Popping.{after_pushes, Pops, PopsUntilEmpty, OnlyStole}

-- one more spot was pushed
pub pushed_more : (row place : ℕ) (places : List ℕ) (e f g : HeldEnds Spot) → f ≡ after_pushes (spots_of row places) e → g ≡ after_push (record { row = row; place = place }) f
    → g ≡ after_pushes (spots_of row (places ++ place ∷ [])) e
pushed_more row place places e f g was now =
    let spot : Spot = record { row = row; place = place } in
    let more : spots_of row (places ++ place ∷ []) ≡ spots_of row places ++ spot ∷ [] = map-append (λ (p : ℕ). record { row = row; place = p }) places (place ∷ []) in
    let count : e.pushes + length (spots_of row places) + 1 ≡ e.pushes + length (spots_of row (places ++ place ∷ [])) =
    (let a = ap length more in let b = length-append (spots_of row places) (spot ∷ []) in omega (arith, a, b)) in
    now ∙ ap (after_push spot) was
    ∙ (λ i. record e { own = (append_assoc e.own (spots_of row places) (spot ∷ []) ∙ ap (λ l. e.own ++ l) (sym more)) i; pushes = count i })

pub pops_none : (e : HeldEnds Spot) → Pops e e
pops_none e = record { popped = []; own = sym (append-nil e.own); is = refl }

pops_one : (old mid new : HeldEnds Spot) (spot : Spot) → Pops old mid → mid ≡ with_newest spot new → Pops old new
pops_one old mid new spot p is = record {
  popped = spot ∷ p.popped;
  own = p.own ∙ ap (λ (e : HeldEnds Spot). e.own ++ p.popped) is ∙ append_assoc new.own (spot ∷ []) p.popped;
  is = sym (ap (λ (e : HeldEnds Spot). record e { own = new.own }) is) ∙ ap (λ (e : HeldEnds Spot). record e { own = new.own }) p.is;
}

-- one more pop gave a spot
pub pops_more : (t : PieceAttempt) (old : HeldEnds Spot) (a b : WorkerView) → IsOwnPiece t a b → (t ≡ Empty → ⊥) → Pops old a.batch → Pops old b.batch
pops_more (Ran s) old a b path some p = pops_one old a.batch b.batch s p path.pop
pops_more (Stale s) old a b path some p = pops_one old a.batch b.batch s p path.pop
pops_more Empty old a b path some p = absurd (some refl)

-- the last pop gave nothing
pub pops_end : (old : HeldEnds Spot) (a b : WorkerView) → IsOwnPiece Empty a b → Pops old a.batch → PopsUntilEmpty old b.batch
pops_end old a b path p =
    let own = ap (λ (e : HeldEnds Spot). e.own) path.pop in record {
      popped = p.popped;
      own = p.own ∙ ap (λ l. l ++ p.popped) (sym own);
      is = path.pop ∙ ap after_empty_pop p.is ∙ (λ i. record old { own = sym own i; empty_pops = risen old.empty_pops });
    }

pub stole_none : (e : HeldEnds Spot) → OnlyStole e e
stole_none e = record { own = refl; pushes = refl; pops = refl }

pub stole_then : (a b c : HeldEnds Spot) → OnlyStole a b → OnlyStole b c → OnlyStole a c
stole_then a b c first second = record { own = second.own ∙ first.own; pushes = second.pushes ∙ first.pushes; pops = second.pops ∙ first.pops }

steals : (victim : ℕ) (t : PieceAttempt) (old new : HeldEnds Spot) → IsSteal victim (spot_of t) old new → OnlyStole old new
steals victim (Ran s) old new is = record { own = ap (λ (e : HeldEnds Spot). e.own) is; pushes = ap (λ (e : HeldEnds Spot). e.pushes) is; pops = ap (λ (e : HeldEnds Spot). e.empty_pops) is }
steals victim (Stale s) old new is = record { own = ap (λ (e : HeldEnds Spot). e.own) is; pushes = ap (λ (e : HeldEnds Spot). e.pushes) is; pops = ap (λ (e : HeldEnds Spot). e.empty_pops) is }
steals victim Empty old new is = record { own = ap (λ (e : HeldEnds Spot). e.own) is; pushes = ap (λ (e : HeldEnds Spot). e.pushes) is; pops = ap (λ (e : HeldEnds Spot). e.empty_pops) is }

-- another worker's deque was tried once, if there is one
pub other_steals : (t : PieceAttempt) (a b : WorkerView) → IsOtherPiece t a b → OnlyStole a.batch b.batch
other_steals t a b (inl alone) = record {
  own = ap (λ (m : WorkerView). m.batch.own) alone.2;
  pushes = ap (λ (m : WorkerView). m.batch.pushes) alone.2;
  pops = ap (λ (m : WorkerView). m.batch.empty_pops) alone.2;
}
other_steals t a b (inr stolen) = steals _ t a.batch b.batch stolen.steal

-- the pushes, the pops and the steals of a launch
hands_out : (spots : List Spot) (a b c d : HeldEnds Spot) → b ≡ after_pushes spots a → PopsUntilEmpty b c → OnlyStole c d → HandsOut spots a d
hands_out spots a b c d pushed popped stole = record {
  popped = popped.popped;
  own = sym (ap (λ (e : HeldEnds Spot). e.own) pushed) ∙ popped.own ∙ ap (λ l. l ++ popped.popped) (sym stole.own);
  pushes = stole.pushes ∙ ap (λ (e : HeldEnds Spot). e.pushes) popped.is ∙ ap (λ (e : HeldEnds Spot). e.pushes) pushed;
  emptied = stole.pops ∙ ap (λ (e : HeldEnds Spot). e.empty_pops) popped.is ∙ ap (λ (e : HeldEnds Spot). risen e.empty_pops) pushed;
}

pub if_hands_out : {V E : Type 0} (r : Result V E) (spots : List Spot) (a b c d : HeldEnds Spot) → b ≡ after_pushes spots a → PopsUntilEmpty b c
    → IfOk r (λ _. OnlyStole c d) → IfOk r (λ _. HandsOut spots a d)
if_hands_out (Ok v) spots a b c d pushed popped stole = hands_out spots a b c d pushed popped stole
if_hands_out (Err v) spots a b c d pushed popped stole = stole

-- no look for a result was made
pub waits_none : (m : WorkerView) → LooksWhileWaiting m m
waits_none m = omega arith

pub waits_then : (a b c : WorkerView) → LooksWhileWaiting a b → LooksWhileWaiting b c → LooksWhileWaiting a c
waits_then a b c first second = omega (arith, first, second)

-- nothing that counts changed
pub waits_same : (a b c : WorkerView) → LooksWhileWaiting a b → c.desk.empty_collects ≡ b.desk.empty_collects → c.pass.stop_looks ≡ b.pass.stop_looks → LooksWhileWaiting a c
waits_same a b c first empty looks = omega (arith, first, empty, looks)

tried_empty : (t : PieceAttempt) (d : Desk) → (desk_after t d).empty_collects ≡ d.empty_collects
tried_empty (Ran s) d = refl
tried_empty (Stale s) d = refl
tried_empty Empty d = refl

pub own_waits : (t : PieceAttempt) (old a b : WorkerView) → IsOwnPiece t a b → LooksWhileWaiting old a → LooksWhileWaiting old b
own_waits t old a b path first = waits_same old a b first
    (ap (λ (m : WorkerView). m.desk.empty_collects) path.same ∙ tried_empty t a.desk) (ap (λ (m : WorkerView). m.pass.stop_looks) path.same)

pub other_waits : (t : PieceAttempt) (old a b : WorkerView) → IsOtherPiece t a b → LooksWhileWaiting old a → LooksWhileWaiting old b
other_waits t old a b (inl alone) first = waits_same old a b first
    (ap (λ (m : WorkerView). m.desk.empty_collects) alone.2) (ap (λ (m : WorkerView). m.pass.stop_looks) alone.2)
other_waits t old a b (inr stolen) first = waits_same old a b first
    (ap (λ (m : WorkerView). m.desk.empty_collects) stolen.same ∙ tried_empty t a.desk) (ap (λ (m : WorkerView). m.pass.stop_looks) stolen.same)

-- one look for a result that found none, and one at the stop word
pub waits_more : (old a b : WorkerView) → LooksWhileWaiting old a → b.desk.empty_collects ≡ a.desk.empty_collects + 1 → b.pass.stop_looks ≡ a.pass.stop_looks + 1 → LooksWhileWaiting old b
waits_more old a b first empty looks = omega (arith, first, empty, looks)

pub if_waits : {V E : Type 0} (r : Result V E) (a b c : WorkerView) → LooksWhileWaiting a b → IfOk r (λ _. LooksWhileWaiting b c) → IfOk r (λ _. LooksWhileWaiting a c)
if_waits (Ok v) a b c first second = waits_then a b c first second
if_waits (Err v) a b c first second = second
