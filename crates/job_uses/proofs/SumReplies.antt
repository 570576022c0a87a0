-- The reply to the last leaf of a sum.
use Rattle.std.proofs.Common.{ℕ, zero, suc, ◌≡◌, ◌≢◌, ◌+◌, ◌<◌, ◌≤◌, inl, inr, List, [], ◌∷◌, ◌++◌, length, map, get_or, Some, arith, refl, sym, ap, ◌∙◌, subst}
use Rattle.std.specs.Prelude.{slice_get, sum}
use Rattle.std.specs.List.{AllByRecursion}
use Rattle.std.proofs.lemmas.List.Sums.{sum_by-cons}
use Rattle.std.proofs.lemmas.Bool.{cases_lt}
use Rattle.seq_objects.specs.declared.act.Act.{Act}
use Rattle.seq_objects.specs.declared.act.Act.TheVariants.{Call}
use Rattle.seq_objects.specs.declared.op.Op.TheVariants.{CounterAdd}
use Rattle.seq_objects.specs.declared.reply.Reply.{Reply}
use Rattle.seq_objects.specs.declared.reply.Reply.TheVariants as reply
use Rattle.seq_objects.specs.Pairs.{AllPairsByRecursion, AreDistinct}
use Rattle.seq_objects.specs.Spin.{spin_of}
use Rattle.seq_objects.specs.Stores.{Store, opening_store, store_after}
use Rattle.seq_objects.proofs.Elements.{each_at, each_so}
use Rattle.sp_order.specs.Jobs.{JobValue}
use Rattle.sp_order.specs.Objects.{AreUnnamed}
use Rattle.sp_order.specs.Precedence.{IsBefore}
use Rattle.sp_order.specs.Sources.{IsCallLeaf}
use Rattle.sp_order.specs.Totals.{added, total}
use Rattle.batch_history.specs.Book.{flat, IsLegalFrom}
use Rattle.batch_history.specs.Lawful.{Lawful}
use Rattle.batch_history.specs.Tally.{last_sum, sum_after, number_of}
use Rattle.batch_history.specs.declared.batch.Entry.{Entry}
use Rattle.batch_history.specs.declared.report.Report.{Report}
use Rattle.batch_history.proofs.ActLemmas.{acts_at}
use Rattle.batch_history.proofs.TallyLemmas.Jobs.{counter_is}
use Rattle.serial_runs.specs.SerialRuns.{IsReplyTo, IsSerialRun}
use Rattle.serial_runs.proofs.SerialOrder.{serial}
use Rattle.job_uses.specs.Sums.{add_of, IsSumJob}

-- what the items add up to
added_sum : (items : List ℕ) → total added (map add_of items ++ add_of 0 ∷ []) ≡ sum items
added_sum [] = refl
added_sum (item ∷ items) = let more = sum_by-cons (λ (n : ℕ). n) item items in let rest = added_sum items in omega (arith, rest, more)

unnamed_sum : (items : List ℕ) → AreUnnamed (map add_of items ++ add_of 0 ∷ [])
unnamed_sum [] = (refl, tt)
unnamed_sum (item ∷ items) = (refl, unnamed_sum items)

-- the last act
act_last : (items : List ℕ) → slice_get (map add_of items ++ add_of 0 ∷ []) (length items) ≡ Some (add_of 0)
act_last [] = refl
act_last (item ∷ items) = act_last items

acts_below : (items : List ℕ) (u : ℕ) (act : Act) → slice_get (map add_of items ++ add_of 0 ∷ []) u ≡ Some act → u ≤ length items
acts_below [] zero act is = omega arith
acts_below [] (suc u) act is = absurd cc
acts_below (item ∷ items) zero act is = omega arith
acts_below (item ∷ items) (suc u) act is = omega (arith, acts_below items u act is)

-- no call stands behind the one of the last leaf, so that one replies the last sum
abbrev pub IsBehind : ℕ → Entry → Entry → Type 0
IsBehind n a b = b.leaf < n → a.leaf ≡ n → ⊥

none_behind : (n : ℕ) (a : Entry) (xs : List Entry) → a.leaf ≡ n → AllByRecursion (λ (e : Entry). e.leaf ≤ n) xs → AllByRecursion (IsBehind n a) xs
    → AllByRecursion (λ m. a.leaf ≢ m) (map (λ (e : Entry). e.leaf) xs) → xs ≡ []
none_behind n a [] is below behind apart = refl
none_behind n a (x ∷ xs) is below behind apart = elim (cases_lt x.leaf n) [
  | inl less ↦ absurd (behind.0 less is)
  | inr more ↦ let low = below.0 in absurd (apart.0 (omega (arith, is, low, more)))
]

pub last_replied : (n s : ℕ) (entries : List Entry) (k : ℕ) (e : Entry) → k < length entries → get_or entries k e ≡ e → e.leaf ≡ n → e.op ≡ CounterAdd 0 0
    → AllByRecursion (λ (e : Entry). e.leaf ≤ n) entries → AllPairsByRecursion (IsBehind n) entries → AreDistinct (map (λ (e : Entry). e.leaf) entries)
    → last_sum s entries ≡ number_of e.reply
last_replied n s [] k e less at is op below behind distinct = absurd (omega (arith, less))
last_replied n s (x ∷ xs) zero e less at is op below behind distinct =
    let leaf_is : x.leaf ≡ n = ap (λ (y : Entry). y.leaf) at ∙ is in
    let none : xs ≡ [] = none_behind n x xs leaf_is below.1 behind.0 distinct.0 in
    let op_is : x.op ≡ CounterAdd 0 0 = ap (λ (y : Entry). y.op) at ∙ op in
    ap (last_sum (sum_after s x.op x.reply)) none ∙ ap (λ o. sum_after s o x.reply) op_is ∙ ap (λ (y : Entry). number_of y.reply) at
last_replied n s (x ∷ xs) (suc k) e less at is op below behind distinct =
    last_replied n (sum_after s x.op x.reply) xs k e (omega (arith, less)) at is op below.1 behind.1 distinct.1

-- a counter replies a number
pub is_number : (store : Store) (entries : List Entry) (k : ℕ) (e : Entry) (addend : ℕ) → k < length entries → get_or entries k e ≡ e → e.op ≡ CounterAdd 0 addend
    → IsLegalFrom store entries → e.reply ≡ reply.Number (number_of e.reply)
is_number store [] k e addend less at op legal = absurd (omega (arith, less))
is_number store (x ∷ xs) zero e addend less at op legal =
    let op_is : x.op ≡ CounterAdd 0 addend = ap (λ (y : Entry). y.op) at ∙ op in
    let sum_is : ℕ = (store 0).counter + addend in
    let said : x.reply ≡ reply.Number sum_is = legal.0 ∙ ap (λ o. Rattle.seq_objects.specs.Stores.store_reply store o) op_is in
    let r : e.reply ≡ reply.Number sum_is = ap (λ (y : Entry). y.reply) (sym at) ∙ said in
    r ∙ ap (λ y. reply.Number (number_of y)) (sym r)
is_number store (x ∷ xs) (suc k) e addend less at op legal = is_number (store_after store x.op) xs k e addend (omega (arith, less)) at op legal.1

pub pairs_so : {A : Type 0} (R S : A → A → Type 0) → ((a b : A) → R a b → S a b) → (xs : List A) → AllPairsByRecursion R xs → AllPairsByRecursion S xs
pairs_so R S f [] h = tt
pairs_so R S f (x ∷ xs) h = (each_so (R x) (S x) (f x) xs h.0, pairs_so R S f xs h.1)

-- what the last leaf is replied
pub replied_sum : (sum_is : ℕ) (job : JobValue) (last workers : ℕ) (report : Report) (given : Reply) → IsSumJob sum_is job last → Lawful job workers report
    → IsReplyTo (flat report.history) last given → given ≡ reply.Number sum_is
replied_sum sum_is job last workers report given is lawful to =
    let items : List ℕ = is.numbers in
    let entries = flat report.history in
    let run : IsSerialRun job entries = serial spin_of job workers report lawful in
    let acts = acts_at spin_of job report.history entries is.plain lawful.calls.operations in
    let e = to.call in
    let own : slice_get job.acts e.leaf ≡ Some (Call e.op) = each_at (λ (e : Entry). slice_get job.acts e.leaf ≡ Some (Call e.op)) entries e acts to.made in
    let at_last : slice_get job.acts last ≡ Some (add_of 0) = ap (λ (xs : List Act). slice_get xs last) is.acts ∙ ap (slice_get (map add_of items ++ add_of 0 ∷ [])) is.last_is ∙ act_last items in
    let op : e.op ≡ CounterAdd 0 0 = let also = ap (slice_get job.acts) to.of_leaf in cc in
    let below : AllByRecursion (λ (e : Entry). e.leaf ≤ last) entries = each_so (λ (e : Entry). slice_get job.acts e.leaf ≡ Some (Call e.op)) (λ (e : Entry). e.leaf ≤ last)
    (λ e at. let within = acts_below items e.leaf (Call e.op) (ap (λ (xs : List Act). slice_get xs e.leaf) (sym is.acts) ∙ at) in let n = is.last_is in omega (arith, within, n)) entries acts in
    let behind : AllPairsByRecursion (IsBehind last) entries = pairs_so (λ a b. IsBefore job.shape b.leaf a.leaf → ⊥) (IsBehind last)
    (λ a b never less at. never (subst (λ n. IsBefore job.shape b.leaf n) (sym at) (is.behind b.leaf less))) entries run.order in
    let found = last_replied last 0 entries to.made.0 e to.made.1 to.made.2 to.of_leaf op below behind run.each.distinct in
    let number = is_number opening_store entries to.made.0 e 0 to.made.1 to.made.2 op run.replies in
    let unnamed : AreUnnamed job.acts = subst AreUnnamed (sym is.acts) (unnamed_sum items) in
    let all : last_sum 0 entries ≡ sum items = counter_is job workers report lawful is.plain unnamed ∙ ap (total added) is.acts ∙ added_sum items in
    sym to.replied ∙ number ∙ ap reply.Number (sym found ∙ all ∙ is.comes_to)

pub last_calls : (sum_is : ℕ) (job : JobValue) (last : ℕ) → IsSumJob sum_is job last → IsCallLeaf job.acts last
last_calls sum_is job last is = let items : List ℕ = is.numbers in (CounterAdd 0 0, ap (λ (xs : List Act). slice_get xs last) is.acts ∙ ap (slice_get (map add_of items ++ add_of 0 ∷ [])) is.last_is ∙ act_last items)
