-- The outs of the pieces give the replies of serving the additions one after another.
use Rattle.std.proofs.Common.{◌≡◌, ℕ, ◌+◌, List, [], ◌∷◌, refl, ap, arith}
use Rattle.seq_objects.specs.declared.call.Call.{Call}
use Rattle.seq_objects.specs.declared.op.Op.{Op}
use Rattle.seq_objects.specs.declared.op.Op.TheVariants.{CounterAdd}
use Rattle.seq_objects.specs.declared.reply.Reply.TheVariants.{Number}
use Rattle.seq_objects.specs.declared.kind.Kind.TheVariants.{Counter}
use Rattle.seq_objects.specs.Batches.{kind_of, AreOf}
use Rattle.seq_objects.specs.Serial.{after_all, replies_to_all, of_counter}
use Rattle.seq_objects.specs.Pieces.{AllMeet, BatchContext}
use Rattle.batched_counter.specs.declared.piece.Piece.{Piece}
use Rattle.batched_counter.specs.declared.piece.Served.{Served}
use Rattle.batched_counter.specs.declared.piece.Rest.{Rest}
use Rattle.batched_counter.specs.Sums.{total, sums_from}
use Rattle.batched_counter.specs.Calls.{addends}
use Rattle.batched_counter.specs.Pieces.{addends_in, Meets, IsContextOf}
use Rattle.batched_counter.specs.Code.End.{CanJoin, all_replies, number_replies, number_after}
use Rattle.batched_counter.proofs.BeginLemmas.Pieces.{flat, flat_is}
use Rattle.batched_counter.proofs.EndLemmas.Sums.{bounded_all, end_is, replies_are}

-- additions served one after another
serial_step : (n : ℕ) (op : Op) (worker leaf : ℕ) (calls : List Call) → kind_of op ≡ Counter → ((m : ℕ) → replies_to_all (of_counter m) calls ≡ number_replies 0 (sums_from m (addends calls))) → replies_to_all (of_counter n) (record { worker = worker; leaf = leaf; op = op } ∷ calls) ≡ number_replies 0 (sums_from n (addends (record { worker = worker; leaf = leaf; op = op } ∷ calls)))
serial_step n (CounterAdd number a) worker leaf calls is ih = let e : n + a ≡ 0 + (n + a) = omega arith in rw (ih (n + a)) (ap (λ k. Number k ∷ number_replies 0 (sums_from (n + a) (addends calls))) e)
serial_step n _ worker leaf calls is ih = absurd cc

pub serial_replies : (n : ℕ) (calls : List Call) → AreOf Counter calls
    → replies_to_all (of_counter n) calls ≡ number_replies 0 (sums_from n (addends calls))
serial_replies n [] all = refl
serial_replies n (call ∷ calls) all = serial_step n call.op call.worker call.leaf calls all.0 (λ m. serial_replies m calls all.1)

after_step : (n : ℕ) (op : Op) (worker leaf : ℕ) (calls : List Call) → kind_of op ≡ Counter → ((m : ℕ) → after_all (of_counter m) calls ≡ of_counter (m + total (addends calls))) → after_all (of_counter n) (record { worker = worker; leaf = leaf; op = op } ∷ calls) ≡ of_counter (n + total (addends (record { worker = worker; leaf = leaf; op = op } ∷ calls)))
after_step n (CounterAdd number a) worker leaf calls is ih = let e : n + a + total (addends calls) ≡ n + (a + total (addends calls)) = omega arith in rw (ih (n + a)) (ap of_counter e)
after_step n _ worker leaf calls is ih = absurd cc

pub serial_after : (n : ℕ) (calls : List Call) → AreOf Counter calls
    → after_all (of_counter n) calls ≡ of_counter (n + total (addends calls))
serial_after n [] all = let e : n ≡ n + 0 = omega arith in ap of_counter e
serial_after n (call ∷ calls) all = after_step n call.op call.worker call.leaf calls all.0 (λ m. serial_after m calls all.1)

-- the law of batches, for the replies and for the number
pub law_replies : (rest : Rest) (o : BatchContext ℕ Piece) (outs : List Served) → IsContextOf rest o
    → AllMeet Meets o.ins outs
    → all_replies rest.number outs ≡ replies_to_all (of_counter o.before) o.calls
law_replies rest o outs r m =
    let f : flat (addends_in o.ins) ≡ addends o.calls = flat_is _ _ _ r.cut in
    rw (r.number, serial_replies rest.number o.calls r.may.adds, replies_are rest.number o.ins outs m, f)

pub law_content : (rest : Rest) (o : BatchContext ℕ Piece) (outs : List Served) → IsContextOf rest o
    → AllMeet Meets o.ins outs
    → of_counter (number_after rest.number outs) ≡ after_all (of_counter o.before) o.calls
law_content rest o outs r m =
    let f : flat (addends_in o.ins) ≡ addends o.calls = flat_is _ _ _ r.cut in
    rw (r.number, serial_after rest.number o.calls r.may.adds, end_is rest.number o.ins outs m, f)

pub bounded : (rest : Rest) (o : BatchContext ℕ Piece) (outs : List Served) → IsContextOf rest o
    → AllMeet Meets o.ins outs → CanJoin rest.number outs
bounded rest o outs r m =
    let f : flat (addends_in o.ins) ≡ addends o.calls = flat_is _ _ _ r.cut in
    let fits = rw r.number at r.may.fits in
    bounded_all rest.number o.ins outs m (rw f fits)
