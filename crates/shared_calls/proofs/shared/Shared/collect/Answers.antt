use Rattle.std.proofs.Common.{refl, sym, ap, ◌∙◌, subst, ℕ, ◌+◌, ◌<◌, ◌≤◌, List, [], ◌∷◌, ◌++◌, length, vec_len, vec_capacity, arith}
use Rattle.std.proofs.lemmas.List.{length-append}
use Rattle.std.specs.List.{AllByRecursion}
use Rattle.arrayvec.specs.ArrayVec.{array_vec_len}
use Rattle.shared_calls.specs.declared.view.Asked.{Asked}
use Rattle.shared_calls.specs.declared.view.Slot.TheVariants.{Vacant}
use Rattle.shared_calls.specs.Logs.{ask}
use Rattle.shared_calls.specs.Plays.{taking}
use Rattle.shared_calls.specs.Callers.{collected}
use Rattle.shared_calls.proofs.Lists.{each_push, map_append}
use Rattle.shared_calls.proofs.Loops.{hand_push}
use Rattle.shared_calls.proofs.shared.Shared.collect.Goals as goal
use Rattle.shared_calls.proofs.shared.Shared.collect.Goals.{in-Some, in-None}

pub loop-caller-init : goal.loop-caller-init
loop-caller-init g c =
    let seat = c.args.seat.now in
    let room = c.requires.room in
    let empty = c.new-callers.ensures in
    let a = ap (λ (l : List ℕ). length l) empty in
    let b = room.1 in
    record {
      table = refl;
      looks = 0;
      taken = [];
      next = omega arith;
      me = ap (λ (n : ℕ). (collected seat.me.0 n seat.me.0.taken, seat.me.1)) c.requires.begins.0
          ∙ (ap (λ t. (collected seat.me.0 0 t, seat.me.1)) c.requires.begins.1 ∙ ap (λ l. (collected seat.me.0 0 [], l)) c.requires.slot);
      callers = empty;
      ops = room.0;
      below = subst (AllByRecursion (λ (u : ℕ). u < c.args.self.now.callers)) (sym empty) tt;
      few = let none = ap (λ (l : List _). length l) room.0 in omega (arith, none);
      room = (omega (arith, a), omega (arith, b), room.2);
    }

pub look-requires-clause-table : goal.look-requires-clause-table
look-requires-clause-table g c = c.loop-caller.invariant.table ∙ c.requires.table

pub look-requires-clause-holds : goal.look-requires-clause-holds
look-requires-clause-holds g c =
    let i = c.loop-caller.invariant in
    (ap (λ m. m.0.to) i.me ∙ (c.requires.holds.0 ∙ ap (λ m. m.0.from + 1) (sym i.me)), ap (λ m. m.0.holds) i.me ∙ c.requires.holds.1)

pub look-requires-clause-next : goal.look-requires-clause-next
look-requires-clause-next g c =
    let i = c.loop-caller.invariant in
    (c.loop-caller-test.true, subst (λ (n : ℕ). n ≤ c.loop-caller.caller) (sym (ap (λ m. m.0.looks) i.me)) i.next, ap (λ m. m.0.owed) i.me ∙ c.requires.begins.2)

pub push-requires : goal.push-requires
push-requires g c =
    let first = c.loop-caller.invariant.room.0 in
    let less = c.loop-caller-test.true in
    let few = c.args.self.now.some.1 in
    omega (arith, first, less, few)

pub loop-caller-preserved : goal.loop-caller-preserved
loop-caller-preserved g c =
    let i = c.loop-caller.invariant in
    let seat = c.args.seat.now in
    let less = c.loop-caller-test.true in
    let caller = c.loop-caller.caller in
    let flag = c.args.self.now.callers in
    let room = i.room in
    elim c.match-look.branch [
      | in-Some w ↦
          let op = w.in-Some.op in
          let a = w.push.ensures.len in
          let b = w.push_reserved.ensures.len in
          let x = w.push_reserved.ensures.capacity in
          let first = room.0 in
          let second = room.1 in
          let third = room.2 in
          record {
            table = w.in-Some.ensures.table ∙ i.table;
            looks = caller + 1;
            taken = i.taken ++ ask caller op ∷ [];
            next = omega arith;
            me = w.in-Some.ensures.took ∙ (ap (λ m. (taking m.0 caller op, m.1 ++ (caller, Vacant) ∷ [])) i.me
                ∙ ap (λ l. (collected seat.me.0 (caller + 1) (i.taken ++ ask caller op ∷ []), (flag, Vacant) ∷ l)) (sym (hand_push i.taken caller op)));
            callers = ap (λ v. v.items) w.callers-is ∙ (w.push.ensures.items ∙ (ap (λ l. l ++ caller ∷ []) i.callers
                ∙ sym (map_append (λ (a : Asked _). a.caller) i.taken (ask caller op ∷ []))));
            ops = ap (λ v. v.items) w.ops-is ∙ (w.push_reserved.ensures.items ∙ (ap (λ l. l ++ op ∷ []) i.ops
                ∙ sym (map_append (λ (a : Asked _). a.op) i.taken (ask caller op ∷ []))));
            below = subst (AllByRecursion (λ (u : ℕ). u < flag)) (sym (ap (λ v. v.items) w.callers-is ∙ w.push.ensures.items))
                (each_push (λ (u : ℕ). u < flag) c.loop-caller.callers.items caller i.below less);
            few =
                let longer = ap (λ v. length v.items) w.ops-is ∙ (ap (λ l. length l) w.push_reserved.ensures.items ∙ length-append c.loop-caller.ops.items (op ∷ [])) in
                let before = i.few in
                omega (arith, longer, before);
            room = subst (λ v. (array_vec_len v ≤ caller + 1) × (vec_len c.match-look.ops ≤ caller + 1) × (flag ≤ vec_capacity c.match-look.ops)) (sym w.callers-is)
                (subst (λ v. (array_vec_len w.push.new.self ≤ caller + 1) × (vec_len v ≤ caller + 1) × (flag ≤ vec_capacity v)) (sym w.ops-is)
                (omega (arith, a, first), omega (arith, b, second), omega (arith, x, third)));
          }
      | in-None w ↦
          let near = i.next in
          let first = room.0 in
          let second = room.1 in
          record {
            table = w.in-None.ensures.table ∙ i.table;
            looks = i.looks;
            taken = i.taken;
            next = omega (arith, near);
            me = w.in-None.ensures.passed ∙ i.me;
            callers = ap (λ v. v.items) w.callers-is ∙ i.callers;
            ops = ap (λ v. v.items) w.ops-is ∙ i.ops;
            below = subst (λ v. AllByRecursion (λ (u : ℕ). u < flag) v.items) (sym w.callers-is) i.below;
            few =
                let same = ap (λ v. length v.items) w.ops-is in
                let before = i.few in
                omega (arith, same, before);
            room = subst (λ v. (array_vec_len v ≤ caller + 1) × (vec_len c.match-look.ops ≤ caller + 1) × (flag ≤ vec_capacity c.match-look.ops)) (sym w.callers-is)
                (subst (λ v. (array_vec_len c.loop-caller.callers ≤ caller + 1) × (vec_len v ≤ caller + 1) × (flag ≤ vec_capacity v)) (sym w.ops-is)
                (omega (arith, first), omega (arith, second), room.2));
          }
    ]
