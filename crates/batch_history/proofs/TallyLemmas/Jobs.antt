-- The totals of a lawful report, from its job.
use Rattle.std.proofs.Common.{◌≡◌, ℕ, ◌+◌, ◌*◌, ◌-◌, ◌<◌, ◌≤◌, ◌^◌, List, [], ◌∷◌, length, refl, ap, subst, ◌∙◌, arith}
use Rattle.std.specs.Prelude.{slice_get, Some}
use Rattle.std.specs.List.{AllByRecursion}
use Rattle.seq_objects.specs.Spin.{spin_of}
use Rattle.seq_objects.specs.declared.op.Op.{Op}
use Rattle.seq_objects.specs.declared.op.Op.TheVariants.{CounterAdd, TreeRemove}
use Rattle.seq_objects.specs.declared.act.Act.{Act}
use Rattle.seq_objects.specs.declared.act.Act.TheVariants.{Work, Call}
use Rattle.seq_objects.specs.Objects.{argument_of}
use Rattle.sp_order.specs.Jobs.{JobValue}
use Rattle.sp_order.specs.Objects.{AreUnnamed}
use Rattle.sp_order.specs.Phases.{ComesBefore, HasNoSources, others, filling_verbs, FillsFirst}
use Rattle.sp_order.specs.Totals.{added, pushes, pushed, pops, queue_inserts, queue_inserted, queue_takes, tree_inserts, tree_removes, tree_finds, finds_in, keys_inserted, count_of_act, total}
use Rattle.batch_history.specs.Book.{flat}
use Rattle.batch_history.specs.Lawful.{Lawful}
use Rattle.batch_history.specs.Serving.{served_book, acts_in}
use Rattle.batch_history.specs.Filling.{StandsBefore, FindsIn}
use Rattle.batch_history.specs.Summary.{CanBeSummed, summary_of_report, summary_of_job, six_lines}
use Rattle.batch_history.specs.Tally.{over_replies, popped, queue_taken, new_keys, keys_found, last_sum, tally_of, tally_of_acts}
use Rattle.batch_history.specs.declared.batch.Entry.{Entry}
use Rattle.batch_history.specs.declared.report.Report.{Report}
use Rattle.batch_history.proofs.ActLemmas.{acts_at, unnamed_at}
use Rattle.batch_history.proofs.TallyLemmas.Adding.{same_tally}
use Rattle.batch_history.proofs.TallyLemmas.Emptied.{last_is, stack_left, pops_all, bag_left, takes_all}
use Rattle.batch_history.proofs.TallyLemmas.Finds.{keys_are, finds_say, found_are}
use Rattle.batch_history.proofs.TallyLemmas.Keys.{same_keys, inserts_key}
use Rattle.batch_history.proofs.TallyLemmas.Leaves.{total_is}
use Rattle.batch_history.proofs.TallyLemmas.Pairs.{apart, rows_long}

none_left : (xs : List ℕ) (m n : ℕ) → length xs ≡ m - n → m ≤ n → xs ≡ []
none_left [] m n long less = refl
none_left (x ∷ xs) m n long less = absurd (omega (arith, long, less))

count_is : (entries : List Entry) → length entries ≡ total (λ op. 1) (acts_in entries)
count_is [] = refl
count_is (e ∷ entries) = omega (arith, count_is entries)

-- the item that an operation adds is its argument
pushed_at_most : (op : Op) → pushed op ≤ argument_of op
pushed_at_most (CounterAdd number addend) = omega arith
pushed_at_most _ = omega arith

inserted_at_most : (op : Op) → queue_inserted op ≤ argument_of op
inserted_at_most (CounterAdd number addend) = omega arith
inserted_at_most _ = omega arith

-- small arguments have small sums
small_sum : (count : Op → ℕ) → ((op : Op) → count op ≤ argument_of op) → (acts : List Act)
    → AllByRecursion (λ act. count_of_act argument_of act < 2 ^ 32) acts → total count acts ≤ length acts * 2 ^ 32
small_sum count less [] small = omega arith
small_sum count less (act ∷ acts) small = step act small.0 (small_sum count less acts small.1) where
  step : (a : Act) → count_of_act argument_of a < 2 ^ 32 → total count acts ≤ length acts * 2 ^ 32
      → count_of_act count a + total count acts ≤ length (act ∷ acts) * 2 ^ 32
  step (Work steps) bound rest = omega (arith, rest)
  step (Call op) bound rest = omega (arith, bound, rest, less op)

-- a removal is by another verb than those that fill
removes_others : (op : Op) → tree_removes op ≤ others filling_verbs op
removes_others (TreeRemove number key) = omega arith
removes_others _ = omega arith

none_other : (acts : List Act) → total (others filling_verbs) acts ≡ 0 → total tree_removes acts ≡ 0
none_other [] none = refl
none_other (Work steps ∷ acts) none = omega (arith, none_other acts (omega (arith, none)))
none_other (Call op ∷ acts) none = omega (arith, none, removes_others op, none_other acts (omega (arith, none)))

module _ (job : JobValue) (workers : ℕ) (report : Report) (lawful : Lawful job workers report) (none : HasNoSources job) where
  abbrev entries : List Entry
  entries = flat report.history

  calls : AllByRecursion (λ entry. slice_get job.acts entry.leaf ≡ Some (Call entry.op)) entries
  calls = acts_at spin_of job report.history entries none lawful.calls.operations

  pub totals : (count : Op → ℕ) → total count (acts_in entries) ≡ total count job.acts
  totals = total_is job entries lawful.calls.leaves calls

  pub keys : keys_inserted (acts_in entries) ≡ keys_inserted job.acts
  keys = same_keys (acts_in entries) job.acts (λ q. totals (inserts_key q))

  abbrev order : (early late : Op → ℕ) → ComesBefore job early late → StandsBefore early late entries
  order = apart job workers report lawful none

  unnamed_entries : AreUnnamed job.acts → AreUnnamed (acts_in entries)
  unnamed_entries unnamed = unnamed_at job.acts entries unnamed calls

  pub counter_is : AreUnnamed job.acts → last_sum 0 entries ≡ total added job.acts
  counter_is unnamed = last_is entries (unnamed_entries unnamed) lawful.replies ∙ totals added

  pub stack_is : AreUnnamed job.acts → ComesBefore job pushes pops → total pushes job.acts ≤ total pops job.acts
      → ((served_book report.history 0).stack ≡ []) × (over_replies popped entries ≡ total pushed job.acts)
  stack_is unnamed before enough =
      let unnamed' = unnamed_entries unnamed in
      let stands = order pushes pops before in
      let enough' : total pushes (acts_in entries) ≤ total pops (acts_in entries) = omega (arith, totals pushes, totals pops, enough) in (
        none_left (served_book report.history 0).stack (total pushes (acts_in entries)) (total pops (acts_in entries)) (stack_left entries unnamed' stands) enough',
        pops_all entries unnamed' lawful.replies stands enough' ∙ totals pushed,
      )

  pub queue_is : AreUnnamed job.acts → ComesBefore job queue_inserts queue_takes → total queue_inserts job.acts ≤ total queue_takes job.acts
      → ((served_book report.history 0).bag ≡ []) × (over_replies queue_taken entries ≡ total queue_inserted job.acts)
  queue_is unnamed before enough =
      let unnamed' = unnamed_entries unnamed in
      let stands = order queue_inserts queue_takes before in
      let enough' : total queue_inserts (acts_in entries) ≤ total queue_takes (acts_in entries) = omega (arith, totals queue_inserts, totals queue_takes, enough) in (
        none_left (served_book report.history 0).bag (total queue_inserts (acts_in entries)) (total queue_takes (acts_in entries)) (bag_left entries unnamed' stands) enough',
        takes_all entries unnamed' lawful.replies stands enough' ∙ totals queue_inserted,
      )

  no_removes : total tree_removes job.acts ≡ 0 → total tree_removes (acts_in entries) ≡ 0
  no_removes kept = totals tree_removes ∙ kept

  keys_count : AreUnnamed job.acts → total tree_removes job.acts ≡ 0 → over_replies new_keys entries ≡ length (keys_inserted job.acts)
  keys_count unnamed kept = keys_are entries (unnamed_entries unnamed) lawful.replies (no_removes kept) ∙ ap length keys

  pub finds_are : AreUnnamed job.acts → total tree_removes job.acts ≡ 0 → ComesBefore job tree_inserts tree_finds
      → AllByRecursion (FindsIn (keys_inserted job.acts)) entries × (over_replies keys_found entries ≡ total (finds_in (keys_inserted job.acts)) job.acts)
  finds_are unnamed kept before =
      let found = finds_say entries (unnamed_entries unnamed) lawful.replies (no_removes kept) (order tree_inserts tree_finds before) in
      let say = subst (λ set. AllByRecursion (FindsIn set) entries) keys found in
      (say, found_are (keys_inserted job.acts) entries say ∙ totals (finds_in (keys_inserted job.acts)))

  pub tally_is : FillsFirst job → tally_of entries ≡ tally_of_acts job.acts
  tally_is fills =
      let kept = none_other job.acts fills.verbs in
      same_tally (tally_of entries) (tally_of_acts job.acts)
      (count_is entries ∙ totals (λ op. 1)) (counter_is fills.unnamed)
      (totals pushes) (stack_is fills.unnamed fills.stack fills.empties_stack).1
      (keys_count fills.unnamed kept) (finds_are fills.unnamed kept fills.tree).1
      (totals queue_inserts) (queue_is fills.unnamed fills.queue fills.empties_queue).1

  pub lines_are : (seed size : ℕ) → FillsFirst job → summary_of_report seed size report ≡ summary_of_job seed size workers job
  lines_are seed size fills =
      ap (λ w. six_lines seed size w (length report.rows) (tally_of entries)) lawful.rows.names
      ∙ ap (λ n. six_lines seed size workers n (tally_of entries)) (rows_long job workers report lawful)
      ∙ ap (six_lines seed size workers _) (tally_is fills)

  pub can_be_summed : FillsFirst job → total pushed job.acts < 2 ^ 64 → total queue_inserted job.acts < 2 ^ 64 → CanBeSummed job report
  can_be_summed fills stack queue = record {
    rows = rows_long job workers report lawful;
    popped = omega (arith, (stack_is fills.unnamed fills.stack fills.empties_stack).1, stack);
    taken = omega (arith, (queue_is fills.unnamed fills.queue fills.empties_queue).1, queue);
  }

  pub small_can_be : FillsFirst job → length job.acts ≤ 20000 → AllByRecursion (λ act. count_of_act argument_of act < 2 ^ 32) job.acts → CanBeSummed job report
  small_can_be fills few small = can_be_summed fills
      (omega (arith, few, small_sum pushed pushed_at_most job.acts small))
      (omega (arith, few, small_sum queue_inserted inserted_at_most job.acts small))
