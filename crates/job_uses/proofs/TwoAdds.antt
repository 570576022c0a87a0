-- What two additions of one job are told.
use Rattle.std.proofs.Common.{◌≡◌, ◌≢◌, ℕ, zero, suc, ◌+◌, ◌<◌, ◌⊎◌, inl, inr, List, [], ◌∷◌, map, None, Some, refl, sym, ap, ◌∙◌, subst, arith}
use Rattle.std.specs.Prelude.{slice_get}
use Rattle.std.specs.List.{AllByRecursion}
use Rattle.seq_objects.specs.declared.act.Act.TheVariants.{Call}
use Rattle.seq_objects.specs.declared.op.Op.{Op}
use Rattle.seq_objects.specs.declared.op.Op.TheVariants.{CounterAdd}
use Rattle.seq_objects.specs.declared.reply.Reply.{Reply}
use Rattle.seq_objects.specs.declared.reply.Reply.TheVariants.{Number}
use Rattle.seq_objects.specs.Pairs.{AreDistinct}
use Rattle.seq_objects.specs.Stores.{opening_store}
use Rattle.seq_objects.proofs.Elements.{each_at, each_so}
use Rattle.sp_order.specs.Jobs.{JobValue}
use Rattle.sp_order.specs.Phases.{HasNoSources}
use Rattle.job_lang.specs.declared.join.Order.TheVariants.{Parallel}
use Rattle.job_builder.specs.Drafts.{Draft, built, closed, nothing, opened, with_leaf}
use Rattle.job_builder.proofs.Unnamed.{acts_stay}
use Rattle.batch_history.specs.Book.{IsLegalFrom}
use Rattle.batch_history.specs.declared.batch.Entry.{Entry}
use Rattle.serial_runs.specs.SerialRuns.{IsReplyTo, IsSerialRunWith}
use Rattle.job_uses.specs.Adds.{AddsTwo}
use Rattle.job_uses.specs.Sums.{add_of}
use Rattle.job_uses.proofs.Plain.{IsOwn, each_own}
use Rattle.job_uses.proofs.SumReplies.{is_number}
use Rattle.job_uses.proofs.TwoCalls.{in_one, replies, told_of, told_of_later}

-- the job that is built
abbrev pub two_adds : (a b : ℕ) → Draft
two_adds a b = closed (with_leaf (with_leaf (opened (nothing 0) Parallel) (add_of a) None None) (add_of b) None None)

pub adds_two : (a b : ℕ) → AddsTwo a b (built (two_adds a b))
adds_two a b = record {
  acts = acts_stay (add_of a ∷ add_of b ∷ []) (None ∷ None ∷ []) (refl, (refl, tt)) (refl, (refl, tt));
  plain = (refl, (refl, tt));
}

-- a leaf that adds is told a number
pub told_number : (work : ℕ → ℕ) (job : JobValue) (calls : List Entry) (leaf number : ℕ) (given : Reply) → HasNoSources job → slice_get job.acts leaf ≡ Some (add_of number)
    → IsSerialRunWith work job calls → IsReplyTo calls leaf given → (sum_is : ℕ) × (given ≡ Number sum_is)
told_number work job calls leaf number given plain adds run to =
    let own = each_at (IsOwn job) calls to.call (each_own work job calls plain run) to.made in
    let op : to.call.op ≡ CounterAdd 0 number = let also = ap (slice_get job.acts) to.of_leaf in cc in
    let is = is_number opening_store calls to.made.0 to.call number to.made.1 to.made.2 op run.replies in
    (_, sym to.replied ∙ is)

module _ (a b : ℕ) where
  -- the leaf of a call, and what it adds
  abbrev Adds : ℕ → Op → Type 0
  Adds leaf op = ((leaf ≡ 0) × (op ≡ CounterAdd 0 a)) ⊎ ((leaf ≡ 1) × (op ≡ CounterAdd 0 b))

  added_at : (leaf : ℕ) (op : Op) → slice_get (add_of a ∷ add_of b ∷ []) leaf ≡ Some (Call op) → Adds leaf op
  added_at zero op is = inl (refl, cc)
  added_at (suc zero) op is = inr (refl, cc)
  added_at (suc (suc leaf)) op is = absurd cc

  abbrev Told : Reply → Reply → Type 0
  Told x y = ((x ≡ Number a) × (y ≡ Number (a + b))) ⊎ ((x ≡ Number (a + b)) × (y ≡ Number b))

  told_pair : (e f : Entry) (x y : Reply) → Adds e.leaf e.op → Adds f.leaf f.op → e.leaf ≢ f.leaf → IsLegalFrom opening_store (e ∷ f ∷ [])
      → IsReplyTo (e ∷ f ∷ []) 0 x → IsReplyTo (e ∷ f ∷ []) 1 y → Told x y
  told_pair e f x y (inl p) (inl q) apart legal to_first to_second = absurd (apart (p.0 ∙ sym q.0))
  told_pair e f x y (inr p) (inr q) apart legal to_first to_second = absurd (apart (p.0 ∙ sym q.0))
  told_pair e f x y (inl p) (inr q) apart legal to_first to_second =
      let are = replies e f a b p.1 q.1 legal in
      inl (
        told_of e f 0 x p.0 (λ is. let own = q.0 in absurd (omega (arith, is, own))) to_first ∙ are.0,
        told_of_later e f 1 y (λ is. let own = p.0 in absurd (omega (arith, is, own))) q.0 to_second ∙ are.1,
      )
  told_pair e f x y (inr p) (inl q) apart legal to_first to_second =
      let are = replies e f b a p.1 q.1 legal in
      let sum_is : b + a ≡ a + b = omega arith in
      inr (
        told_of_later e f 0 x (λ is. let own = p.0 in absurd (omega (arith, is, own))) q.0 to_first ∙ are.1 ∙ ap Number sum_is,
        told_of e f 1 y p.0 (λ is. let own = q.0 in absurd (omega (arith, is, own))) to_second ∙ are.0,
      )

  -- there are two calls

  below : (leaf : ℕ) (op : Op) → Adds leaf op → leaf < 2
  below leaf op (inl is) = let own = is.0 in omega (arith, own)
  below leaf op (inr is) = let own = is.0 in omega (arith, own)

  no_three : (p q r : ℕ) → p < 2 → q < 2 → r < 2 → p ≢ q → p ≢ r → q ≢ r → ⊥
  no_three p q r one two three first second third = grind arith

  told_in : (calls : List Entry) (x y : Reply) → AllByRecursion (λ (e : Entry). Adds e.leaf e.op) calls → AreDistinct (map (λ (e : Entry). e.leaf) calls)
      → IsLegalFrom opening_store calls → IsReplyTo calls 0 x → IsReplyTo calls 1 y → Told x y
  told_in [] x y adds distinct legal to_first to_second = let less = to_first.made.1 in absurd (omega (arith, less))
  told_in (e ∷ []) x y adds distinct legal to_first to_second =
      let none = ap (λ (call : Entry). call.leaf) (in_one e to_first.call to_first.made.0 to_first.made.1 to_first.made.2) ∙ to_first.of_leaf in
      let one = ap (λ (call : Entry). call.leaf) (in_one e to_second.call to_second.made.0 to_second.made.1 to_second.made.2) ∙ to_second.of_leaf in
      absurd (omega (arith, none, one))
  told_in (e ∷ f ∷ []) x y adds distinct legal to_first to_second = told_pair e f x y adds.0 adds.1.0 distinct.0.0 legal to_first to_second
  told_in (e ∷ f ∷ g ∷ calls) x y adds distinct legal to_first to_second = absurd
      (no_three e.leaf f.leaf g.leaf (below e.leaf e.op adds.0) (below f.leaf f.op adds.1.0) (below g.leaf g.op adds.1.1.0) distinct.0.0 distinct.0.1.0 distinct.1.0.0)

  told : (work : ℕ → ℕ) (job : JobValue) (calls : List Entry) (x y : Reply) → AddsTwo a b job → IsSerialRunWith work job calls → IsReplyTo calls 0 x → IsReplyTo calls 1 y → Told x y
  told work job calls x y is run to_first to_second =
      let adds = each_so (IsOwn job) (λ (e : Entry). Adds e.leaf e.op) (λ (e : Entry) own. added_at e.leaf e.op (ap (λ acts. slice_get acts e.leaf) (sym is.acts) ∙ own)) calls
      (each_own work job calls is.plain run) in
      told_in calls x y adds run.each.distinct run.replies to_first to_second

  -- as the pair of the numbers

  abbrev AreSums : ℕ × ℕ → Type 0
  AreSums sums = (sums ≡ (a, a + b)) ⊎ (sums ≡ (a + b, b))

  are_sums : (m n : ℕ) → Told (Number m) (Number n) → AreSums (m, n)
  are_sums m n (inl is) =
      let first : m ≡ a = let given = is.0 in cc in
      let second : n ≡ a + b = let given = is.1 in cc in
      inl (λ i. (first i, second i))
  are_sums m n (inr is) =
      let first : m ≡ a + b = let given = is.0 in cc in
      let second : n ≡ b = let given = is.1 in cc in
      inr (λ i. (first i, second i))

  pub told_sums : (work : ℕ → ℕ) (job : JobValue) (calls : List Entry) (leaf other m n : ℕ) → AddsTwo a b job → IsSerialRunWith work job calls → leaf ≡ 0 → other ≡ 1
      → IsReplyTo calls leaf (Number m) → IsReplyTo calls other (Number n) → AreSums (m, n)
  told_sums work job calls leaf other m n is run first second to_first to_second =
      are_sums m n
      (told work job calls (Number m) (Number n) is run (subst (λ u. IsReplyTo calls u (Number m)) first to_first) (subst (λ u. IsReplyTo calls u (Number n)) second to_second))
