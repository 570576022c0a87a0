use Rattle.core_model.specs.Settings.{job_with}
use Rattle.std.proofs.Common.{ℕ, ◌≡◌, ◌∙◌, Some, refl, sym, ap, subst, arith}
use Rattle.table_rule.specs.declared.slot.Slot.TheVariants as Slots
use Rattle.table_rule.specs.Shows.{room_of}
use Rattle.core_table.proofs.PassLemmas.PassKept.{known_with, first, swapped, found_slot}
use Rattle.table_rule.proofs.StepLemmas.CallSteps.{leaves}
use Rattle.core_model.specs.State.{CoreJob}
use Rattle.core_model.specs.Entries.{StandsAt}
use Rattle.core_model.specs.Operations.{op_of}
use Rattle.table_rule.specs.Passes.{leaving}
use Rattle.table_rule.specs.Plays.{SeatState}
use Rattle.table_rule.specs.Shows.{entry_of}
use Rattle.table_rule.specs.Views.{with_step}
use Rattle.core_table.proofs.PassLemmas.Refused.{miss_told}
use Rattle.core_table.proofs.table.CoreTable.leave.Goals as goal
use Rattle.table_rule.proofs.TableLemmas.OneState.{receipts}

pub compare_exchange-seen-requires : goal.compare_exchange-seen-requires
compare_exchange-seen-requires g c =
    let self = c.args.self.now in let pass = c.args.pass.now in let job = job_with g.B.WorkBrand.work self.setting in let v = pass.seat.me.0 in
    let laws = c.laws_hold.ensures self.setting refl in (
      c.requires.pass.0,
      omega (arith, self.sized.0, c.requires.pass.1),
      rw self.key.0 (λ a b d e f. let x = (leaves job (room_of self.setting) laws _ _ v pass.seat.me.1 pass.worker pass.number.0 pass.number.1 c.requires.pass.4 (c.requires.trapped) c.requires.idle (known_with g.B.WorkBrand.work c.args.pass.now.seat.me.0 c.args.self.now.setting c.requires.pass.9) c.requires.pass.6) a b d e f in (x.0, x.1, x.2, x.3.0, x.4)),
    )

pub exchange-requires : goal.exchange-requires
exchange-requires g c =
    let t = c.compare_exchange-seen.ensures.2.0 c.if-seen-ne-SERVED.false in
    (c.compare_exchange-seen.ensures.0 ∙ c.requires.pass.0, (Slots.Receipt t.1, first _ _ _ _ _ t.5.4))

pub returns-clause-left : goal.returns-clause-left
returns-clause-left g c =
    let old = c.args.pass.now.seat in let k = c.args.pass.now.worker in
    let (call, receipt, posted, before, soon, (book, front, op, stands, is)) = c.compare_exchange-seen.ensures.2.0 c.if-seen-ne-SERVED.false in
    let w = with_step (leaving call receipt book) old.me.0 in
    let found = found_slot c.compare_exchange-seen.new.seat.me w k c.exchange.result (Slots.Receipt receipt) old.me.1 _ is c.exchange.ensures.2 in
    let same : receipt ≡ c.in-Receipt.receipt = receipts receipt c.in-Receipt.receipt (found ∙ c.in-Receipt.is) in
    let put = swapped _ _ w k (Slots.Receipt receipt) Slots.Vacant old.me.1 is c.exchange.ensures.3 in
    rw (sym same) (
      call,
      posted,
      book,
      ap (λ (m : SeatState). m.0) put,
      front,
      subst (λ (j : CoreJob). op_of j book call.leaf ≡ Some call.op) (known_with g.B.WorkBrand.work c.args.pass.now.seat.me.0 c.args.self.now.setting c.requires.pass.9) op,
      subst (λ (worker : ℕ). StandsAt book receipt.batch receipt.place (entry_of worker (record { call = call; receipt = receipt }))) (sym (ap (λ (m : SeatState). m.0.own.worker) put)) stands,
      before,
      soon,
    )

pub returns-then-seen-ne-SERVED-clause-stays : goal.returns-then-seen-ne-SERVED-clause-stays
returns-then-seen-ne-SERVED-clause-stays g c =
    let ne = c.if-seen-ne-SERVED.true in let t = c.compare_exchange-seen.ensures.2.1 ne in
    (t.0, ((λ e. ne (sym t.2 ∙ e)), miss_told g.B.WorkBrand.work c.args.self.now c.args.pass.now _ _ t.0 c.requires.pass (sym c.args.pass.now.number.0) t.1), ap (λ (m : SeatState). m.0) t.3)
