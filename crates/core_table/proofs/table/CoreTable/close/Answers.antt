use Rattle.core_model.specs.State.{core_job_with}
use Rattle.core_model.specs.Settings.{job_with}
use Rattle.std.proofs.Common.{◌≡◌, ℕ, ◌<◌, ◌+◌, Option, sym, ap, subst, ◌∙◌, refl, arith}
use Rattle.std.specs.List.{range_with_len}
use Rattle.std.specs.Mem.Slots.{slots_items, slots_len, slots_filled}
use mathlib.Core.Option.{some-injective}
use Rattle.sp_order.specs.Jobs.{job_tree}
use Rattle.sp_order.specs.Precedence.{Tree, leaves}
use Rattle.sp_order.specs.Preorder.{nodes_of}
use Rattle.batch_history.specs.declared.report.Report.{Report}
use Rattle.core_model.specs.Reports.{IsRunShape}
use Rattle.table_rule.specs.Shows.{reserved, room_of}
use Rattle.core_table.proofs.CloseLemmas.Closes.{closes}
use Rattle.core_table.proofs.CloseLemmas.Reported.{Reported, reported}
use Rattle.core_table.proofs.CloseLemmas.LastRows.{leaf_in}
use Rattle.core_table.proofs.CloseLemmas.SlotsBelow.{last_taken}
use Rattle.core_table.proofs.table.CoreTable.close.Goals as goal

pub unreachable-requires : goal.unreachable-requires
unreachable-requires g c =
    let self = c.args.self in let pass = c.args.pass in let job = job_with g.B.WorkBrand.work self.setting in let tree = job_tree self.setting.job in let plan = nodes_of tree in
    let laws = c.laws_hold.ensures self.setting refl in
    let f = rw self.key.0 at c.close_with-closed.ensures.values.2 in
    let taken = rw (c.book_slot-at.ensures, c.layout-layout.ensures.workers) at c.take-last.ensures.value in
    let last = closes job (room_of self.setting) _ pass.worker laws pass.seat.me.0 _ _ f pass.number.0 pass.number.1 c.requires.saw in
    c.in_default.not-Book (reserved last.state.book (room_of self.setting)) (sym (some-injective _ _ (sym last.there ∙ taken)))

pub returns : goal.returns
returns g c =
    let self = c.args.self in let pass = c.args.pass in let job = job_with g.B.WorkBrand.work self.setting in let tree = job_tree self.setting.job in let plan = nodes_of tree in
    let laws = c.laws_hold.ensures self.setting refl in
    let f = rw self.key.0 at c.close_with-closed.ensures.values.2 in
    let taken = rw (c.book_slot-at.ensures, c.layout-layout.ensures.workers) at c.take-last.ensures.value in
    let stands = c.plan_stands_for_tree.ensures tree in
    let total : c.leaf_total-leaf_total.result ≡ leaves tree = c.leaf_total-leaf_total.ensures in
    let inside : (leaf : ℕ) → leaf < leaves tree → plan.node_of leaf < plan.count = λ leaf low. leaf_in plan leaf laws.plan ((c.leaf_has_one_node.ensures plan tree stands leaf (plan.node_of leaf) low).1 refl) in
    let told = rw (c.layout-layout.ensures.workers, c.layout-layout.ensures.nodes, total, self.key.1) at c.read_rows-rows.ensures.told in
    let report : Report = record { workers = self.setting.workers; history = c.into_history.result; rows = c.of.result } in
    let r : Reported g.B.WorkBrand.work self.setting pass.seat.me.0 report =
    reported g.B.WorkBrand.work self.setting _ pass.worker pass.seat.me.0 (slots_items c.close_with-closed.result.words) _ laws f pass.number.0 pass.number.1 c.requires.saw self.few.1
    c.take-last.result c.in-Book.book c.into_history.result c.of.result taken c.in-Book.is c.into_history.ensures
    (rw c.of.ensures (c.read_rows-rows.ensures.leaves ∙ ap (λ (n : ℕ). range_with_len 0 n) total)) (rw c.of.ensures told) inside
    (λ s parts over leaf low. c.done_leaves_have_run.ensures job tree s stands parts over leaf low) in
    record {
      lawful = c.done_report_is_lawful.ensures g.B.WorkBrand.work self.setting.job self.setting.workers r.run.last.state _ self.shape self.acts.0 r.parts r.run.over r.run.reports;
      told = (r.table, r.told, (r.seat, r.at));
      run = (r.run, r.own);
      model = subst (λ (shape : Option Tree). IsRunShape shape self.setting.job (core_job_with g.B.WorkBrand.work self.setting.job self.setting.workers) report) (sym self.shape) r.run;
      seen = r.seen;
    }

pub drop_slots-requires : goal.drop_slots-requires
drop_slots-requires g c =
    let self = c.args.self in
    let (items, filled, long, words) = c.take-last.ensures.others in
    let at = c.book_slot-at.result in
    let total : slots_len c.take-last.new.self.slots ≡ at + 1 = long ∙ (c.close_with-closed.ensures.counts.1 ∙ omega (arith, self.sized.1, c.book_slot-at.ensures, c.layout-layout.ensures.workers)) in (
      omega (arith, total),
      last_taken (slots_filled c.close_with-closed.result.slots) _ at _ filled total (λ k some low. c.close_with-closed.ensures.values.1 k some (omega (arith, low, long))),
    )
