-- What an account is told when interest on its deposit is paid in.
use Rattle.std.proofs.Common.{◌≡◌, ◌≢◌, ℕ, zero, suc, ◌+◌, ◌^◌, ◌<◌, ◌≤◌, ◌⊎◌, inl, inr, List, [], ◌∷◌, None, Some, refl, sym, ap, ◌∙◌, subst, arith}
use Rattle.std.specs.Prelude.{slice_get, slice_index_or}
use Rattle.std.proofs.Math.Nat.{mul-le-mul_left}
use Rattle.seq_objects.specs.Objects.{value_of}
use Rattle.seq_objects.specs.Stores.{opening_store}
use Rattle.seq_objects.specs.declared.act.Act.TheVariants.{Work, Call}
use Rattle.seq_objects.specs.declared.op.Op.{Op}
use Rattle.seq_objects.specs.declared.op.Op.TheVariants.{CounterAdd}
use Rattle.seq_objects.specs.declared.reply.Reply.{Reply}
use Rattle.seq_objects.specs.declared.reply.Reply.TheVariants.{Number}
use Rattle.sp_order.specs.Jobs.{JobValue}
use Rattle.sp_order.specs.Precedence.{IsBefore}
use Rattle.sp_order.specs.Sources.{low_bits, with_value}
use Rattle.batch_history.specs.Book.{IsLegalFrom}
use Rattle.batch_history.specs.Operations.{source_of}
use Rattle.batch_history.specs.declared.batch.Entry.{Entry}
use Rattle.serial_runs.specs.SerialRuns.{HasValue, IsAsked, IsReplyTo, IsSerialRunWith}
use Rattle.job_uses.specs.Interest.{PaysInterest, interest_on}
use Rattle.job_uses.specs.Sums.{add_of}
use Rattle.job_uses.proofs.TwoCalls.{in_one, replies, told_of, told_of_later}

-- interest is no more than the balance
pub no_more : (percent balance : ℕ) → percent ≤ 100 → interest_on percent balance ≤ balance
no_more percent balance most = let all = mul-le-mul_left balance most in omega (arith, all)

low : (number : ℕ) → number < 2 ^ 32 → low_bits number ≡ number
low number small = omega (arith, small)

-- the number that is told
pub all_paid : (deposit percent balance : ℕ) (reply : Reply) → deposit < 2 ^ 32 → percent ≤ 100 → reply ≡ Number balance
    → reply ≡ Number (deposit + low_bits (interest_on percent deposit)) → balance ≡ deposit + interest_on percent deposit
all_paid deposit percent balance reply small most is told =
    let same : Number balance ≡ Number (deposit + low_bits (interest_on percent deposit)) = sym is ∙ told in
    let number : balance ≡ deposit + low_bits (interest_on percent deposit) = cc in
    let few = no_more percent deposit most in
    number ∙ ap (λ n. deposit + n) (low (interest_on percent deposit) (omega (arith, few, small)))

no_three : (p q r : ℕ) → (p ≡ 0) ⊎ (p ≡ 2) → (q ≡ 0) ⊎ (q ≡ 2) → (r ≡ 0) ⊎ (r ≡ 2) → p ≢ q → p ≢ r → q ≢ r → ⊥
no_three p q r one two three first second third = grind arith

module _ (deposit : ℕ) (small : deposit < 2 ^ 32) (work : ℕ → ℕ) (job : JobValue) (is : PaysInterest deposit job) where
  source_is : (leaf : ℕ) → source_of job leaf ≡ slice_index_or (None ∷ Some 0 ∷ Some 1 ∷ []) leaf None
  source_is leaf = ap (λ sources. slice_index_or sources leaf None) is.sources

  act_is : (leaf : ℕ) → slice_get job.acts leaf ≡ slice_get (add_of deposit ∷ Work 0 ∷ add_of 0 ∷ []) leaf
  act_is leaf = ap (λ acts. slice_get acts leaf) is.acts

  -- the first leaf calls, and the third
  called_at : (leaf : ℕ) (op : Op) → slice_get (add_of deposit ∷ Work 0 ∷ add_of 0 ∷ []) leaf ≡ Some (Call op)
      → ((leaf ≡ 0) × (op ≡ CounterAdd 0 deposit)) ⊎ ((leaf ≡ 2) × (op ≡ CounterAdd 0 0))
  called_at zero op at = inl (refl, cc)
  called_at (suc zero) op at = absurd cc
  called_at (suc (suc zero)) op at = inr (refl, cc)
  called_at (suc (suc (suc leaf))) op at = absurd cc

  -- what a call of the job is
  abbrev Pays : List Entry → Entry → Type 0
  Pays calls e =
      ((e.leaf ≡ 0) × (e.op ≡ CounterAdd 0 deposit))
      ⊎ ((e.leaf ≡ 2) × ((value : ℕ) × HasValue work job calls 1 value × (e.op ≡ CounterAdd 0 (low_bits value))))

  pays_from : (calls : List Entry) (e : Entry) (asked : IsAsked work job calls e) → ((e.leaf ≡ 0) × (asked.op ≡ CounterAdd 0 deposit)) ⊎ ((e.leaf ≡ 2) × (asked.op ≡ CounterAdd 0 0))
      → Pays calls e
  pays_from calls e asked (inl at) = inl (at.0, asked.plain (ap (source_of job) at.0 ∙ source_is 0) ∙ at.1)
  pays_from calls e asked (inr at) =
      let taken = asked.sourced 1 (ap (source_of job) at.0 ∙ source_is 2) in
      inr (at.0, (taken.0, taken.1, taken.2 ∙ ap (λ op. with_value op taken.0) at.1))

  pays : (calls : List Entry) (e : Entry) → IsAsked work job calls e → Pays calls e
  pays calls e asked = pays_from calls e asked (called_at e.leaf asked.op (sym (act_is e.leaf) ∙ asked.act))

  one_of : (calls : List Entry) (e : Entry) → Pays calls e → (e.leaf ≡ 0) ⊎ (e.leaf ≡ 2)
  one_of calls e (inl at) = inl at.0
  one_of calls e (inr at) = inr at.0

  -- the second leaf works on what the first is told
  worked : (calls : List Entry) (value : ℕ) → HasValue work job calls 1 value → (reply : Reply) × IsReplyTo calls 0 reply × (value ≡ work (low_bits (value_of reply)))
  worked calls value has =
      let works = has.works 0 (act_is 1) in
      let taken = works.1.sourced 0 (source_is 1) in
      (taken.0, taken.1, works.2 ∙ ap work taken.2)

  abbrev IsPaid : Reply → Type 0
  IsPaid given = given ≡ Number (deposit + low_bits (work deposit))

  paid_pair : (e f : Entry) (given : Reply) → Pays (e ∷ f ∷ []) e → Pays (e ∷ f ∷ []) f → e.leaf ≢ f.leaf → (IsBefore job.shape f.leaf e.leaf → ⊥)
      → IsLegalFrom opening_store (e ∷ f ∷ []) → IsReplyTo (e ∷ f ∷ []) 2 given → IsPaid given
  paid_pair e f given (inl p) (inl q) apart never legal to = absurd (apart (p.0 ∙ sym q.0))
  paid_pair e f given (inr p) (inr q) apart never legal to = absurd (apart (p.0 ∙ sym q.0))
  paid_pair e f given (inr p) (inl q) apart never legal to =
      absurd (never (subst (λ u. IsBefore job.shape u e.leaf) (sym q.0) (subst (λ v. IsBefore job.shape 0 v) (sym p.0) is.before)))
  paid_pair e f given (inl p) (inr q) apart never legal to =
      let found = worked (e ∷ f ∷ []) q.1.0 q.1.1 in
      let are = replies e f deposit (low_bits q.1.0) p.1 q.1.2 legal in
      let first = told_of e f 0 found.0 p.0 (λ at. let own = q.0 in absurd (omega (arith, at, own))) found.1 ∙ are.0 in
      let value : q.1.0 ≡ work deposit = found.2 ∙ ap (λ r. work (low_bits (value_of r))) first ∙ ap work (low deposit small) in
      told_of_later e f 2 given (λ at. let own = p.0 in absurd (omega (arith, at, own))) q.0 to ∙ are.1 ∙ ap (λ v. Number (deposit + low_bits v)) value

  -- what the third leaf is told
  pub paid : (calls : List Entry) (given : Reply) → IsSerialRunWith work job calls → IsReplyTo calls 2 given → IsPaid given
  paid [] given run to = let less = to.made.1 in absurd (omega (arith, less))
  paid (e ∷ []) given run to =
      let last = ap (λ (call : Entry). call.leaf) (in_one e to.call to.made.0 to.made.1 to.made.2) ∙ to.of_leaf in
      let first = run.each.each 0 (CounterAdd 0 deposit, act_is 0) in
      let at = one_number e.leaf first.0 first.1 first.2 in
      absurd (omega (arith, last, at))
    where
      one_number : (n k : ℕ) → k < 1 → Rattle.std.specs.Prelude.get_or (n ∷ []) k 0 ≡ 0 → n ≡ 0
      one_number n zero less at = at
      one_number n (suc k) less at = absurd (omega (arith, less))
  paid (e ∷ f ∷ []) given run to =
      let calls : List Entry = e ∷ f ∷ [] in
      paid_pair e f given (pays calls e run.asked.0) (pays calls f run.asked.1.0) run.each.distinct.0.0 run.order.0.0 run.replies to
  paid (e ∷ f ∷ g ∷ more) given run to =
      let calls : List Entry = e ∷ f ∷ g ∷ more in
      absurd
      (no_three e.leaf f.leaf g.leaf (one_of calls e (pays calls e run.asked.0)) (one_of calls f (pays calls f run.asked.1.0)) (one_of calls g (pays calls g run.asked.1.1.0))
      run.each.distinct.0.0 run.each.distinct.0.1.0 run.each.distinct.1.0.0)
