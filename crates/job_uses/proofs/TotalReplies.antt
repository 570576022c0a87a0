-- The reply to the last leaf of a total.
use Rattle.std.proofs.Common.{◌≡◌, ℕ, zero, suc, ◌+◌, ◌*◌, ◌^◌, ◌<◌, ◌≤◌, ◌⊎◌, inl, inr, List, [], ◌∷◌, ◌++◌, length, map, take, Option, None, Some, refl, sym, ap, ◌∙◌, subst, arith}
use Rattle.std.specs.Prelude.{slice_get, slice_index_or, sum}
use Rattle.std.specs.Int.{div_ceil}
use Rattle.std.specs.List.{AllByRecursion, range_with_len}
use Rattle.std.proofs.lemmas.Option.{get_or_from_slice_get, slice_get_within}
use Rattle.seq_objects.specs.declared.act.Act.{Act}
use Rattle.seq_objects.specs.declared.act.Act.TheVariants.{Work, Call}
use Rattle.seq_objects.specs.declared.op.Op.{Op}
use Rattle.seq_objects.specs.declared.op.Op.TheVariants.{CounterAdd}
use Rattle.seq_objects.specs.declared.reply.Reply.{Reply}
use Rattle.seq_objects.specs.declared.reply.Reply.TheVariants.{Number}
use Rattle.seq_objects.specs.Pairs.{AllPairsByRecursion, IsEnumerationOf}
use Rattle.seq_objects.specs.Stores.{opening_store}
use Rattle.seq_objects.proofs.Elements.{each_append, each_at, each_mapped, each_push, each_so}
use Rattle.sp_order.specs.Jobs.{JobValue}
use Rattle.sp_order.specs.Objects.{AreUnnamed, number_in}
use Rattle.sp_order.specs.Precedence.{IsBefore}
use Rattle.sp_order.specs.Sources.{IsCallLeaf, low_bits, with_value}
use Rattle.sp_order.specs.Totals.{added, total}
use Rattle.batch_history.specs.Operations.{source_of}
use Rattle.batch_history.specs.Tally.{last_sum}
use Rattle.batch_history.specs.declared.batch.Entry.{Entry}
use Rattle.batch_history.proofs.ActLemmas.{unnamed_at}
use Rattle.batch_history.proofs.TallyLemmas.Emptied.{last_is}
use Rattle.batch_history.proofs.TallyLemmas.Leaves.{total_is}
use Rattle.serial_runs.specs.SerialRuns.{HasValue, IsAsked, IsReplyTo, IsSerialRunWith}
use Rattle.job_uses.specs.Chunks.{chunk_of}
use Rattle.job_uses.specs.Sums.{add_of}
use Rattle.job_uses.specs.Totals.{AddsChunks}
use Rattle.job_uses.proofs.ChunkSums.{all_chunks, more_chunks, small_chunk}
use Rattle.job_uses.proofs.SumReplies.{IsBehind, is_number, last_replied, pairs_so}
use Rattle.job_uses.proofs.ThreeParts.{IsPlace, at_first, at_last, at_second, parts, parts_long, place}
use Rattle.job_uses.proofs.TotalJobs.{each_has}

-- the acts, where the calls add these values
abbrev acts_with : (ℕ → ℕ) → ℕ → List Act
acts_with value n = parts (λ k. Work k) (λ k. add_of (value k)) (add_of 0) n

-- which leaf calls, and with what
abbrev Adds : (ℕ → ℕ) → ℕ → ℕ → Op → Type 0
Adds value n u op = ((k : ℕ) × (u ≡ n + k) × (k < n) × (op ≡ CounterAdd 0 (value k))) ⊎ ((u ≡ n + n) × (op ≡ CounterAdd 0 0))

module _ (value : ℕ → ℕ) (n : ℕ) where
  abbrev acts : List Act
  acts = acts_with value n

  work_at : (k : ℕ) → k < n → slice_get acts k ≡ Some (Work k)
  work_at k less = at_first (λ k. Work k) (λ k. add_of (value k)) (add_of 0) n k less

  add_at : (k : ℕ) → k < n → slice_get acts (n + k) ≡ Some (add_of (value k))
  add_at k less = at_second (λ k. Work k) (λ k. add_of (value k)) (add_of 0) n k less

  end_at : slice_get acts (n + n) ≡ Some (add_of 0)
  end_at = at_last (λ k. Work k) (λ k. add_of (value k)) (add_of 0) n

  adds_from : (u : ℕ) (op : Op) → IsPlace n u → slice_get acts u ≡ Some (Call op) → Adds value n u op
  adds_from u op (inl less) is = let other = work_at u less in absurd cc
  adds_from u op (inr (inl at)) is = let own = ap (slice_get acts) at.1 ∙ add_at at.0 at.2 in inl (at.0, at.1, at.2, cc)
  adds_from u op (inr (inr at)) is = let own = ap (slice_get acts) at ∙ end_at in inr (at, cc)

  adds : (u : ℕ) (op : Op) → slice_get acts u ≡ Some (Call op) → Adds value n u op
  adds u op is =
      let within = slice_get_within acts u (Call op) is in
      let long = parts_long (λ k. Work k) (λ k. add_of (value k)) (add_of 0) n in
      adds_from u op (place n u (omega (arith, within, long))) is

  calls_at : (u : ℕ) (op : Op) → Adds value n u op → slice_get acts u ≡ Some (Call op)
  calls_at u op (inl at) = ap (slice_get acts) at.1 ∙ add_at at.0 at.2 ∙ ap (λ o. Some (Call o)) (sym at.3)
  calls_at u op (inr at) = ap (slice_get acts) at.0 ∙ end_at ∙ ap (λ o. Some (Call o)) (sym at.1)

  unnamed : AreUnnamed acts
  unnamed =
      let first = each_has (λ act. number_in act ≡ 0) (λ k. Work k) (λ k. refl) 0 n in
      let second = each_has (λ act. number_in act ≡ 0) (λ k. add_of (value k)) (λ k. refl) 0 n in
      let works = map (λ k. Work k) (range_with_len 0 n) in
      let calls = map (λ k. add_of (value k)) (range_with_len 0 n) in
      each_push (λ act. number_in act ≡ 0) (works ++ calls) (add_of 0) (each_append (λ act. number_in act ≡ 0) works calls first second) refl

-- other values leave it open which leaf calls
other_values : (value other : ℕ → ℕ) (n u : ℕ) (op : Op) → Adds value n u op → IsCallLeaf (acts_with other n) u
other_values value other n u op (inl at) = (CounterAdd 0 (other at.0), calls_at other n u (CounterAdd 0 (other at.0)) (inl (at.0, at.1, at.2, refl)))
other_values value other n u op (inr at) = (CounterAdd 0 0, calls_at other n u (CounterAdd 0 0) (inr (at.0, refl)))

-- what the calls add

total_append : (xs ys : List Act) → total added (xs ++ ys) ≡ total added xs + total added ys
total_append [] ys = omega arith
total_append (x ∷ xs) ys = let rest = total_append xs ys in omega (arith, rest)

works_add : (first n : ℕ) → total added (map (λ k. Work k) (range_with_len first n)) ≡ 0
works_add first zero = refl
works_add first (suc n) = let rest = works_add (first + 1) n in omega (arith, rest)

module _ (items : List ℕ) (width : ℕ) (value : ℕ → ℕ) (is : (k : ℕ) → value k ≡ sum (chunk_of width items k)) where
  calls_add : (first n : ℕ) → sum (take (first * width) items) + total added (map (λ k. add_of (value k)) (range_with_len first n)) ≡ sum (take ((first + n) * width) items)
  calls_add first zero = let same : sum (take (first * width) items) ≡ sum (take ((first + 0) * width) items) = ap (λ m. sum (take (m * width) items)) (omega arith) in omega (arith, same)
  calls_add first (suc n) =
      let more = more_chunks items width first in
      let rest = calls_add (first + 1) n in
      let own = is first in
      let same : sum (take ((first + 1 + n) * width) items) ≡ sum (take ((first + suc n) * width) items) = ap (λ m. sum (take (m * width) items)) (omega arith) in
      omega (arith, more, rest, own, same)

  all_add : (n : ℕ) → total added (acts_with value n) ≡ sum (take (n * width) items)
  all_add n =
      let works = map (λ k. Work k) (range_with_len 0 n) in
      let calls = map (λ k. add_of (value k)) (range_with_len 0 n) in
      let whole = total_append (works ++ calls) (add_of 0 ∷ []) in
      let both = total_append works calls in
      let first = works_add 0 n in
      let second = calls_add 0 n in
      let nothing : 0 * width ≡ 0 = omega arith in
      let begin : sum (take (0 * width) items) ≡ 0 = ap (λ m. sum (take m items)) nothing in
      let same : sum (take ((0 + n) * width) items) ≡ sum (take (n * width) items) = ap (λ m. sum (take (m * width) items)) (omega arith) in
      omega (arith, whole, both, first, second, same, begin)

module _ (work : ℕ → ℕ) (n : ℕ) (job : JobValue) (last : ℕ) (is : AddsChunks n job last) where
  abbrev value : ℕ → ℕ
  value k = low_bits (work k)

  abbrev none : ℕ → Option ℕ
  none k = None

  asked_at : (u : ℕ) (op : Op) → slice_get job.acts u ≡ Some (Call op) → Adds (λ _. 0) n u op
  asked_at u op at = adds (λ _. 0) n u op (ap (λ acts. slice_get acts u) (sym is.acts) ∙ at)

  source_is : (leaf : ℕ) (source : Option ℕ) → slice_get (parts none (λ k. Some k) None n) leaf ≡ Some source → source_of job leaf ≡ source
  source_is leaf source at = ap (λ sources. slice_index_or sources leaf None) is.sources ∙ get_or_from_slice_get (parts none (λ k. Some k) None n) leaf source None at

  -- the value of a leaf of work
  worked : (calls : List Entry) (k found : ℕ) → k < n → HasValue work job calls k found → found ≡ work k
  worked calls k found less has =
      let works = has.works k (ap (λ acts. slice_get acts k) is.acts ∙ work_at (λ _. 0) n k less) in
      works.2 ∙ ap work (works.1.plain (source_is k None (at_first none (λ k. Some k) None n k less)))

  -- a call adds the value of its leaf of work
  asks_from : (calls : List Entry) (e : Entry) (asked : IsAsked work job calls e) → Adds (λ _. 0) n e.leaf asked.op → Adds value n e.leaf e.op
  asks_from calls e asked (inl at) =
      let taken = asked.sourced at.0 (ap (source_of job) at.1 ∙ source_is (n + at.0) (Some at.0) (at_second none (λ k. Some k) None n at.0 at.2)) in
      let found = worked calls at.0 taken.0 at.2 taken.1 in
      inl (at.0, at.1, at.2, taken.2 ∙ (λ i. with_value (at.3 i) (found i)))
  asks_from calls e asked (inr at) =
      inr (at.0, asked.plain (ap (source_of job) at.0 ∙ source_is (n + n) None (at_last none (λ k. Some k) None n)) ∙ at.1)

  asks : (calls : List Entry) (e : Entry) → IsAsked work job calls e → Adds value n e.leaf e.op
  asks calls e asked = asks_from calls e asked (asked_at e.leaf asked.op asked.act)

  -- the job whose calls carry what they add
  abbrev resolved : JobValue
  resolved = record { shape = job.shape; acts = acts_with value n; sources = job.sources; names = job.names }

  abbrev Carries : Entry → Type 0
  Carries e = slice_get (acts_with value n) e.leaf ≡ Some (Call e.op)

  each_carries : (calls : List Entry) → IsSerialRunWith work job calls → AllByRecursion Carries calls
  each_carries calls run = each_so (IsAsked work job calls) Carries (λ e asked. calls_at value n e.leaf e.op (asks calls e asked)) calls run.asked

  each_leaf : (calls : List Entry) → IsSerialRunWith work job calls → IsEnumerationOf (IsCallLeaf (acts_with value n)) (map (λ (e : Entry). e.leaf) calls)
  each_leaf calls run = record {
    distinct = run.each.distinct;
    only = each_mapped (λ (e : Entry). e.leaf) Carries (IsCallLeaf (acts_with value n)) (λ e carries. (e.op, carries)) calls (each_carries calls run);
    each = λ u calls. let also = other_values value (λ _. 0) n u calls.0 (adds value n u calls.0 calls.1) in run.each.each u (also.0, ap (λ acts. slice_get acts u) is.acts ∙ also.1);
  }

  -- the last sum
  summed : (calls : List Entry) → IsSerialRunWith work job calls → last_sum 0 calls ≡ total added (acts_with value n)
  summed calls run =
      let carry = each_carries calls run in
      last_is calls (unnamed_at (acts_with value n) calls (unnamed value n) carry) run.replies ∙ total_is resolved calls (each_leaf calls run) carry added

  ends : last ≡ n + n
  ends = let double = is.last_is in omega (arith, double)

  pub last_calls : IsCallLeaf job.acts last
  last_calls = (CounterAdd 0 0, ap (slice_get job.acts) ends ∙ ap (λ acts. slice_get acts (n + n)) is.acts ∙ end_at (λ _. 0) n)

  at_most : (u : ℕ) (op : Op) → Adds value n u op → u ≤ last
  at_most u op (inl at) = let own = at.1 in let less = at.2 in let end = ends in omega (arith, own, less, end)
  at_most u op (inr at) = let own = at.0 in let end = ends in omega (arith, own, end)

  -- what the last leaf is told
  pub told : (calls : List Entry) (given : Reply) → IsSerialRunWith work job calls → IsReplyTo calls last given → given ≡ Number (total added (acts_with value n))
  told calls given run to =
      let e = to.call in
      let carry = each_at Carries calls e (each_carries calls run) to.made in
      let at_end : slice_get (acts_with value n) e.leaf ≡ Some (add_of 0) = ap (slice_get (acts_with value n)) (to.of_leaf ∙ ends) ∙ end_at value n in
      let op : e.op ≡ CounterAdd 0 0 = cc in
      let below : AllByRecursion (λ (e : Entry). e.leaf ≤ last) calls =
      each_so (IsAsked work job calls) (λ (e : Entry). e.leaf ≤ last) (λ e asked. at_most e.leaf e.op (asks calls e asked)) calls run.asked in
      let behind : AllPairsByRecursion (IsBehind last) calls = pairs_so (λ a b. IsBefore job.shape b.leaf a.leaf → ⊥) (IsBehind last)
      (λ a b never less at. never (subst (λ n. IsBefore job.shape b.leaf n) (sym at) (is.behind b.leaf less))) calls run.order in
      let found = last_replied last 0 calls to.made.0 e to.made.1 to.made.2 to.of_leaf op below behind run.each.distinct in
      let number = is_number opening_store calls to.made.0 e 0 to.made.1 to.made.2 op run.replies in
      sym to.replied ∙ number ∙ ap Number (sym found ∙ summed calls run)

-- where the leaves of work add up the chunks of a list
pub told_sum : (items : List ℕ) (width : ℕ) → 0 < width → sum items < 2 ^ 32 → (job : JobValue) (last : ℕ) → AddsChunks (div_ceil (length items) width) job last
    → (calls : List Entry) (given : Reply) → IsSerialRunWith (λ number. sum (chunk_of width items number)) job calls → IsReplyTo calls last given → given ≡ Number (sum items)
told_sum items width some small job last is calls given run to =
    let work : ℕ → ℕ = λ number. sum (chunk_of width items number) in
    let n = div_ceil (length items) width in
    let low : (k : ℕ) → low_bits (work k) ≡ sum (chunk_of width items k) = λ k. let few = small_chunk items width k in omega (arith, few, small) in
    told work n job last is calls given run to ∙ ap Number (all_add items width (λ k. low_bits (work k)) low n ∙ all_chunks items width some)
