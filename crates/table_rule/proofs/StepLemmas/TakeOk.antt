-- The leaf of a call just taken is neither in the book nor that of a call taken before.
use Rattle.std.proofs.Common.{ℕ, ◌≡◌, ◌≢◌, None, Some, arith, refl, sym, ap, ◌∙◌}
use Rattle.core_model.specs.declared.status.Receipt.{Receipt}
use Rattle.core_model.specs.declared.status.Status.{Status}
use Rattle.core_model.specs.declared.status.Status.TheVariants.{Pending, Executing, Served}
use Rattle.core_model.specs.declared.status.CallState.{CallState}
use Rattle.core_model.specs.declared.status.CallState.TheVariants.{Out, Got}
use Rattle.core_model.specs.State.{CoreJob, State}
use Rattle.core_model.specs.Operations.{place_of}
use Rattle.core_model.specs.Invariant.{Parts}
use Rattle.table_rule.specs.declared.slot.OpRecord.{OpRecord}
use Rattle.table_rule.specs.declared.view.HoldView.{HoldView}
use Rattle.table_rule.specs.Laws.{Laws}
use Rattle.table_rule.specs.Shows.{IsRecordOf, record_in, hold_of}
use Rattle.table_rule.proofs.TableLemmas.Facts.{is_out, same_worker, not_in_book}
use Rattle.table_rule.proofs.TableLemmas.Moved.{record_took}
use Rattle.core_model.proofs.BookLemmas.Operations.{is_call}

out_got : (c : CallState) (r : Receipt) → c ≡ Out → c ≡ Got r → ⊥
out_got c r e f = absurd (cc)

pending_served : (st : Status) (r : Receipt) → st ≡ Pending → st ≡ Served r → ⊥
pending_served st r e f = absurd (cc)

pending_executing : (st : Status) → st ≡ Pending → st ≡ Executing → ⊥
pending_executing st e f = absurd (cc)

-- a pending call is not in the book
pub pending_is_new : (job : CoreJob) (s : State) (u : ℕ) (call : OpRecord) → (kept : Parts job s) → s.status u ≡ Pending → IsRecordOf job s.book (s.task u) call → place_of s.book call.leaf ≡ None
pending_is_new job s u call kept pending is =
    let out = is_out job s u kept (rw pending (λ e. cc)) in
    not_in_book job s u is.0 is.1 call.leaf kept is.2 is.3 (is_call job s.book call.leaf call.op is.4) (λ r e. out_got (s.call u) r out e) (λ r e. pending_served (s.status u) r pending e) (λ e. absurd (pending_executing (s.status u) pending e))

-- two workers' calls have different leaves
pub leaves_differ : (job : CoreJob) (laws : Laws job) (s : State) (u x : ℕ) (a b : OpRecord) → (kept : Parts job s) → IsRecordOf job s.book (s.task u) a → IsRecordOf job s.book (s.task x) b → a.leaf ≡ b.leaf → u ≡ x
leaves_differ job laws s u x a b kept is it same =
    let at = laws.plan.one_node is.0 a.leaf is.3 in
    let at' = laws.plan.one_node it.0 b.leaf it.3 in
    let node : is.0 ≡ it.0 = at ∙ (ap job.plan.node_of same ∙ sym at') in
    same_worker job s u x is.0 kept (rw is.2 refl) (rw it.2 (ap Some (sym node)))

-- so the leaf of the call that a look takes is not one of those taken before
pub taken_is_new : (job : CoreJob) (laws : Laws job) (s : State) (k u x : ℕ) (h : HoldView) (a b : OpRecord) → (kept : Parts job s) → s.hold ≡ Some (hold_of k h) → u ≡ h.looks → record_in h.taken x ≡ Some b → IsRecordOf job s.book (s.task u) a → IsRecordOf job s.book (s.task x) b → a.leaf ≢ b.leaf
taken_is_new job laws s k u x h a b kept held next taken is it same =
    let stands = rw held at kept.hold in
    let below = stands.2 x (record_took h.taken x b taken) in
    let e = leaves_differ job laws s u x a b kept is it same in absurd (omega (arith, below, next, e))
