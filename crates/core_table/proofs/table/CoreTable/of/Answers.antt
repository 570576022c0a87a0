use Rattle.core_model.specs.Settings.{job_with}
use Rattle.std.proofs.Common.{false, Some, ◌≡◌, ℕ, ◌+◌, [], ◌∷◌, length, replicate, set, subst, sym, ap, ◌∙◌, arith, refl, List, length-append}
use Rattle.sp_order.specs.Jobs.{JobValue, IsJob, job_tree}
use Rattle.sp_order.specs.Precedence.{leaf_count, leaves}
use Rattle.table_rule.specs.declared.slot.Slot.TheVariants as Slots
use Rattle.core_table.specs.declared.table.Pass.{Pass}
use Rattle.table_rule.specs.Words.{node_at, word_count}
use Rattle.table_rule.specs.Shows.{room_of}
use Rattle.table_rule.specs.Plays.{SeatState}
use Rattle.table_rule.specs.Views.{enrolling, pass_of, rest_of}
use Rattle.core_table.specs.Passes.{IsSeatOf}
use Rattle.table_rule.specs.Views.{rest_from}
use Rattle.table_rule.proofs.TableLemmas.Moved.{few_nodes}
use Rattle.table_rule.proofs.StepLemmas.Starts.{starts, cuts_at, enrols_at}
use Rattle.core_table.proofs.PassLemmas.NewPass.{each_push, new_pass, unset_seat}
use Rattle.core_table.proofs.table.CoreTable.of.Goals as goal

-- there is an act for each leaf
all_acts : {job : JobValue} → job.shape ≡ Some (job_tree job) → IsJob job → length job.acts ≡ leaves (job_tree job)
all_acts shape is = sym is.leaves ∙ ap leaf_count shape

pub opening_words-requires : goal.opening_words-requires
opening_words-requires g c =
    let setting = c.args.setting in let job = job_with g.B.WorkBrand.work setting in
    let nodes : c.nodes-nodes.result ≡ job.plan.count = c.nodes-nodes.ensures.nodes in
    let laws = c.laws_hold.ensures g.B.WorkBrand.work setting (few_nodes c.nodes-nodes.result job.plan.count nodes c.nodes-nodes.ensures.most) (all_acts c.nodes-nodes.ensures.shape c.nodes-nodes.ensures.job) c.nodes-nodes.ensures.job.most (c.job_has_its_sources.ensures g.B.WorkBrand.work setting.job setting.workers c.nodes-nodes.ensures.job) in
    let root = laws.root in (c.requires.workers.1, omega (arith, root, nodes), c.nodes-nodes.ensures.most)

pub invariant_of-result : goal.invariant_of-result
invariant_of-result g c =
    let setting = c.args.setting in let job = job_with g.B.WorkBrand.work setting in let i = c.loop-worker.invariant in
    let nodes : c.nodes-nodes.result ≡ job.plan.count = c.nodes-nodes.ensures.nodes in
    let laws = c.laws_hold.ensures g.B.WorkBrand.work setting (few_nodes c.nodes-nodes.result job.plan.count nodes c.nodes-nodes.ensures.most) (all_acts c.nodes-nodes.ensures.shape c.nodes-nodes.ensures.job) c.nodes-nodes.ensures.job.most (c.job_has_its_sources.ensures g.B.WorkBrand.work setting.job setting.workers c.nodes-nodes.ensures.job) in
    let root = laws.root in record {
      key = (i.key, nodes);
      sized = (i.words, i.slots);
      few = (c.requires.workers.0, c.requires.workers.1, c.nodes-nodes.ensures.most, omega (arith, root, nodes));
      shape = c.nodes-nodes.ensures.shape;
      acts = (all_acts c.nodes-nodes.ensures.shape c.nodes-nodes.ensures.job, c.nodes-nodes.ensures.job.most);
    }

pub new-requires : goal.new-requires
new-requires g c =
    let setting = c.args.setting in let job = job_with g.B.WorkBrand.work setting in let workers = setting.workers in
    let nodes : c.nodes-nodes.result ≡ job.plan.count = c.nodes-nodes.ensures.nodes in
    let laws = c.laws_hold.ensures g.B.WorkBrand.work setting (few_nodes c.nodes-nodes.result job.plan.count nodes c.nodes-nodes.ensures.most) (all_acts c.nodes-nodes.ensures.shape c.nodes-nodes.ensures.job) c.nodes-nodes.ensures.job.most (c.job_has_its_sources.ensures g.B.WorkBrand.work setting.job workers c.nodes-nodes.ensures.job) in
    let are = c.deref.ensures.value ∙ (c.in_ok-words.ensures ∙ ap (λ (n : ℕ). set (replicate (word_count workers n) 0) (node_at workers 0) 1) nodes) in
    let room = c.count_calls-room.ensures workers in
    rw (c.in_ok-slots.ensures, room) (starts job (room_of setting) setting.job laws c.deref.result.now are)

pub split_seat-own-requires : goal.split_seat-own-requires
split_seat-own-requires g c =
    let i = c.loop-worker.invariant in let setting = c.args.setting in (
      i.same,
      omega (arith, i.words),
      rw i.key (cuts_at (job_with g.B.WorkBrand.work setting) (room_of setting) c.loop-worker.seat.id c.loop-worker.seat.me.0 (rest_from c.loop-worker.worker setting) (ap (λ (m : SeatState). m.0) i.seat) c.loop-worker-test.true),
    )

pub load-requires : goal.load-requires
load-requires g c =
    let i = c.loop-worker.invariant in let setting = c.args.setting in let k = c.loop-worker.worker in
    let is = c.split_seat-own.ensures.4 ∙ ap (λ (m : SeatState). (pass_of m.0, [])) i.seat in (
      c.split_seat-own.ensures.3 ∙ i.same,
      omega (arith, i.words),
      rw i.key (enrols_at (job_with g.B.WorkBrand.work setting) (room_of setting) _ _ 0 _ (pass_of (rest_from k setting)) [] k is refl refl refl),
    )

pub loop-worker-preserved : goal.loop-worker-preserved
loop-worker-preserved g c =
    let i = c.loop-worker.invariant in let setting = c.args.setting in let k = c.loop-worker.worker in let table = c.in-Ok.made.0.shared.table_id in
    let cut = c.split_seat-own.ensures.4 ∙ ap (λ (m : SeatState). (pass_of m.0, [])) i.seat in
    let me = c.load.ensures.2 ∙ ap (λ (m : SeatState). (enrolling m.0, (m.0.own.worker, Slots.Vacant) ∷ m.1)) cut in
    let id = c.load.ensures.0 ∙ (c.split_seat-own.ensures.3 ∙ i.same) in record {
      key = i.key;
      words = i.words;
      slots = i.slots;
      same = c.split_seat-own.ensures.0 ∙ i.same;
      seat = c.split_seat-own.ensures.2 ∙ ap (λ (m : SeatState). (rest_of m.0, m.1)) i.seat;
      count = c.push_reserved.ensures.len ∙ ap (λ (n : ℕ). n + 1) i.count;
      long = ap (λ (l : List Pass). length l) c.push_reserved.ensures.items ∙ (length-append c.loop-worker.passes.items (_ ∷ []) ∙ ap (λ (n : ℕ). n + 1) i.long);
      room = omega (arith, i.room, c.push_reserved.ensures.capacity);
      each = rw c.push_reserved.ensures.items (each_push (λ (w : ℕ) (p : Pass). (p.worker ≡ w) × IsSeatOf setting table p.worker p.seat p.owed.items p.published × (p.seat.me.0 ≡ enrolling (pass_of (rest_from w setting)))) c.loop-worker.passes.items _ i.each
          (let at : length c.loop-worker.passes.items ≡ k = i.long in
          subst (λ (w : ℕ). (k ≡ w) × IsSeatOf setting table k c.load.new.seat c.in_ok-owed.owed.items false × (c.load.new.seat.me.0 ≡ enrolling (pass_of (rest_from w setting)))) (sym at)
          (refl, subst (λ (l : List ℕ). IsSeatOf setting table k c.load.new.seat l false) (sym c.in_ok-owed.ensures.items) (new_pass setting table k c.load.new.seat c.loop-worker-test.true id me), ap (λ (m : SeatState). m.0) me)));
    }

pub returns-clause-unset : goal.returns-clause-unset
returns-clause-unset g c t shown seated =
    let i = c.loop-worker.invariant in
    c.the_stop_word_is_set_by_a_pass.ensures.unset g.B.WorkBrand.work c.args.setting t shown
    (λ w low. unset_seat c.args.setting c.in-Ok.made.0.shared.table_id t c.loop-worker.passes.items w (omega (arith, i.long, c.loop-worker-test.false, low)) i.each seated)
