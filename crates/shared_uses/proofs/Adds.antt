-- Chunks of numbers whose sums are added to a counter.
use Rattle.std.proofs.Common.{◌≡◌, ℕ, zero, suc, ◌+◌, ◌-◌, ◌%◌, ◌^◌, ◌<◌, ◌≤◌, List, [], ◌∷◌, ◌++◌, map, take, drop, length, get_or, Result, Ok, IfOk, sym, refl, ap, ◌∙◌, subst, arith}
use Rattle.std.specs.Prelude.{flat_map, sum, sum_by}
use Rattle.std.proofs.lemmas.List.{take-append-drop, drop-take}
use Rattle.std.proofs.lemmas.List.Sums.{sum_by-append, sum_by-cons, sum-map}
use Rattle.std.proofs.lemmas.List.Sorted.{sum_by-IsPermutation}
use Rattle.std.proofs.Math.Nat.{mod-add-mod, add-mod-mod}
use Rattle.shared_calls.specs.declared.view.Entry.{Entry}
use Rattle.shared_calls.specs.declared.shared.Caller.{Caller}
use Rattle.shared_calls.specs.declared.shared.Shared.{Shared}
use Rattle.shared_calls.specs.declared.combined.Combined.{Ghosts}
use Rattle.shared_calls.specs.Views.{IsCallerOf, number_of, number_of_callers, made}
use Rattle.shared_calls.specs.Closing.{AreCallersOf, AreAllCalls}
use Rattle.shared_structures.specs.Counters.{counter}
use Rattle.shared_uses.specs.declared.sums.Job.{Job}
use Rattle.shared_uses.specs.Adding.{AreJobs, sum_between}

abbrev limit : ℕ
limit = 2 ^ 64

abbrev op : Entry ℕ ℕ → ℕ
op e = e.op

-- the first addition of a caller
pub one_added : (old new : List (Entry ℕ ℕ)) (e : Entry ℕ ℕ) → new ≡ old ++ e ∷ [] → old ≡ [] → map op new ≡ e.op ∷ []
one_added old new e is none = ap (map op) is ∙ ap (λ (l : List (Entry ℕ ℕ)). map op (l ++ e ∷ [])) none

-- the sum of a chunk that is taken as a slice
pub chunk_is : (numbers : List ℕ) (from to : ℕ) → from ≤ to → sum (take (to - from) (drop from numbers)) % limit ≡ sum_between numbers from to
chunk_is numbers from to less =
    let end : from + (to - from) ≡ to = omega (arith, less) in
    ap (λ (l : List ℕ). sum l % limit) (sym (drop-take from (to - from) numbers) ∙ ap (λ (n : ℕ). drop from (take n numbers)) end)

-- as many callers come back as there are answers
pub backs_long : {C E : Type 0} (cs : List C) (backs : List (Result C E)) → backs ≡ map Ok cs → length backs ≡ length cs
backs_long [] backs is = ap (λ l. length l) is
backs_long (c ∷ cs) [] is = absurd (cc)
backs_long {E = E} (c ∷ cs) (b ∷ backs) is = ap suc (backs_long {E = E} cs backs (ap (λ l. drop 1 l) is))

-- a job more
pub jobs_more : {C : Type 0} (f : Job → C) (a b : ℕ) (jobs : List Job) (cs : List C) (job : Job) → AreJobs f a b jobs cs → job.from ≡ b → b ≤ job.to → AreJobs f a job.to (jobs ++ job ∷ []) (cs ++ f job ∷ [])
jobs_more f a b [] [] job are from to = (from ∙ sym are, (let from' = are in omega (arith, from', to)), refl, refl)
jobs_more f a b [] (c ∷ cs) job are from to = absurd are
jobs_more f a b (j ∷ jobs) [] job are from to = absurd are
jobs_more f a b (j ∷ jobs) (c ∷ cs) job are from to = (are.0, are.1, are.2, jobs_more f j.to b jobs cs job are.3 from to)

jobs_rise : {C : Type 0} (f : Job → C) (a b : ℕ) (jobs : List Job) (cs : List C) → AreJobs f a b jobs cs → a ≤ b
jobs_rise f a b [] [] are = let e = are in omega (arith, e)
jobs_rise f a b [] (c ∷ cs) are = absurd are
jobs_rise f a b (j ∷ jobs) [] are = absurd are
jobs_rise f a b (j ∷ jobs) (c ∷ cs) are = let first = are.1 in let rest = jobs_rise f j.to b jobs cs are.3 in omega (arith, first, rest)

pub jobs_long : {C : Type 0} (f : Job → C) (a b : ℕ) (jobs : List Job) (cs : List C) → AreJobs f a b jobs cs → length jobs ≡ length cs
jobs_long f a b [] [] are = refl
jobs_long f a b [] (c ∷ cs) are = absurd are
jobs_long f a b (j ∷ jobs) [] are = absurd are
jobs_long f a b (j ∷ jobs) (c ∷ cs) are = ap suc (jobs_long f j.to b jobs cs are.3)

-- the job at a place has the caller at this place, and a chunk
pub job_at : {C : Type 0} (f : Job → C) (a b : ℕ) (jobs : List Job) (cs : List C) → AreJobs f a b jobs cs → (i : ℕ) (j : Job) → i < length jobs → j ≡ get_or jobs i j → (f j ≡ get_or cs i (f j)) × (j.from ≤ j.to) × (j.to ≤ b)
job_at f a b [] cs are i j less is = absurd (omega (arith, less))
job_at f a b (x ∷ jobs) [] are i j less is = absurd are
job_at f a b (x ∷ jobs) (c ∷ cs) are zero j less is =
    let from = are.0 in
    let first = are.1 in
    let rest = jobs_rise f x.to b jobs cs are.3 in
    let j_from = ap (λ (y : Job). y.from) is in
    let j_to = ap (λ (y : Job). y.to) is in
    (ap f is ∙ are.2, omega (arith, from, first, j_from, j_to), omega (arith, rest, j_to))
job_at f a b (x ∷ jobs) (c ∷ cs) are (suc i) j less is = job_at f x.to b jobs cs are.3 i j (omega (arith, less)) is

drop_on : {X : Type 0} (a b : ℕ) (l : List X) → a ≤ b → drop a l ≡ drop a (take b l) ++ drop b l
drop_on zero b l less = sym (take-append-drop b l)
drop_on (suc a) zero l less = absurd (omega (arith, less))
drop_on (suc a) (suc b) [] less = refl
drop_on (suc a) (suc b) (x ∷ l) less = drop_on a b l (omega (arith, less))

drop_end : {X : Type 0} (l : List X) → drop (length l) l ≡ []
drop_end [] = refl
drop_end (x ∷ l) = drop_end l

both_wrapped : (x y z : ℕ) → y % limit ≡ z % limit → (x % limit + y) % limit ≡ (x + z) % limit
both_wrapped x y z is = mod-add-mod x limit y ∙ (sym (add-mod-mod x y limit) ∙ (ap (λ (n : ℕ). (x + n) % limit) is ∙ add-mod-mod x z limit))

module _ {T : Type 0} {g : Ghosts T ℕ ℕ} (s : Shared T ℕ ℕ) (numbers : List ℕ) where
  -- each caller has added its chunk; the chunks stand one after another, from the place a to the end
  pub AllAdded : ℕ → ℕ → List Job → List (Caller T ℕ ℕ g) → Type 0
  AllAdded k a [] [] = a ≡ length numbers
  AllAdded k a [] (c ∷ cs) = ⊥
  AllAdded k a (j ∷ jobs) [] = ⊥
  AllAdded k a (j ∷ jobs) (c ∷ cs) = (a ≤ j.to) × IsCallerOf s c × (number_of c ≡ k) × (map op (made c) ≡ sum_between numbers a j.to ∷ []) × AllAdded (k + 1) j.to jobs cs

  abbrev pub Added : {E : Type 0} → ℕ → ℕ → ℕ → Result (Caller T ℕ ℕ g) E → Type 0
  Added n from to b = IfOk b (λ back. IsCallerOf s back × (number_of back ≡ n) × (map op (made back) ≡ sum_between numbers from to ∷ []))

  pub all_added : {E : Type 0} (f : Job → Caller T ℕ ℕ g) (k a : ℕ) (jobs : List Job) (news cs : List (Caller T ℕ ℕ g)) (backs : List (Result (Caller T ℕ ℕ g) E)) → AreJobs f a (length numbers) jobs news
      → backs ≡ map Ok cs → length backs ≡ length jobs
      → ((i : ℕ) (j : Job) (b : Result (Caller T ℕ ℕ g) E) → i < length jobs → j ≡ get_or jobs i j → b ≡ get_or backs i b → Added (k + i) j.from j.to b) → AllAdded k a jobs cs
  unfolding AllAdded
  all_added f k a [] [] [] backs are is long each = are
  all_added f k a [] [] (c ∷ cs) backs are is long each = let same = ap (λ (l : List (Result (Caller T ℕ ℕ g) _)). length l) is in absurd (omega (arith, same, long))
  all_added f k a [] (n ∷ news) cs backs are is long each = absurd are
  all_added f k a (j ∷ jobs) [] cs backs are is long each = absurd are
  all_added f k a (j ∷ jobs) (n ∷ news) [] backs are is long each = let same = ap (λ (l : List (Result (Caller T ℕ ℕ g) _)). length l) is in absurd (omega (arith, same, long))
  all_added {E} f k a (j ∷ jobs) (n ∷ news) (c ∷ cs) backs are is long each =
      let all : (i : ℕ) (x : Job) (b : Result (Caller T ℕ ℕ g) E) → i < length (j ∷ jobs) → x ≡ get_or (j ∷ jobs) i x → b ≡ get_or (Ok c ∷ map Ok cs) i b → Added (k + i) x.from x.to b = subst (λ l. (i : ℕ) (x : Job) (b : Result (Caller T ℕ ℕ g) E) → i < length (j ∷ jobs) → x ≡ get_or (j ∷ jobs) i x → b ≡ get_or l i b → Added (k + i) x.from x.to b) is each in
      let here = all 0 j (Ok c) (omega arith) refl refl in
      let same = ap (λ (l : List (Result (Caller T ℕ ℕ g) E)). length l) is in (
        are.1,
        here.0,
        here.1 ∙ omega arith,
        here.2 ∙ ap (λ (m : ℕ). sum_between numbers m j.to ∷ []) are.0,
        all_added {E = E} f (k + 1) j.to jobs news cs (map Ok cs) are.3 refl (omega (arith, same, long)) (λ i x b less at there. subst (λ (m : ℕ). Added m x.from x.to b) (omega arith) (all (suc i) x b (omega (arith, less)) at there)),
      )

  each_caller : (k a : ℕ) (jobs : List Job) (cs : List (Caller T ℕ ℕ g)) → AllAdded k a jobs cs → (i : ℕ) (c : Caller T ℕ ℕ g) → i < length cs → c ≡ get_or cs i c → IsCallerOf s c × (number_of c ≡ k + i)
  unfolding AllAdded
  each_caller k a jobs [] all i c less is = absurd (omega (arith, less))
  each_caller k a [] (x ∷ cs) all i c less is = absurd all
  each_caller k a (j ∷ jobs) (x ∷ cs) all zero c less is = (subst (λ y. IsCallerOf s y) (sym is) all.1, ap number_of is ∙ (all.2 ∙ omega arith))
  each_caller k a (j ∷ jobs) (x ∷ cs) all (suc i) c less is = let there = each_caller (k + 1) j.to jobs cs all.4 i c (omega (arith, less)) is in (there.0, there.1 ∙ omega arith)

  pub are_callers : (jobs : List Job) (cs : List (Caller T ℕ ℕ g)) → AllAdded 0 0 jobs cs → length cs ≡ number_of_callers s → AreCallersOf s cs
  are_callers jobs cs all long = record {
    count = long;
    each = λ k c less is. let there = each_caller 0 0 jobs cs all k c (omega (arith, less, long)) is in (there.0, there.1 ∙ omega arith);
  }

  -- what they have added
  sums_of : (k a : ℕ) (jobs : List Job) (cs : List (Caller T ℕ ℕ g)) → AllAdded k a jobs cs → sum_by op (flat_map made cs) % limit ≡ sum (drop a numbers) % limit
  unfolding AllAdded
  sums_of k a [] [] all = ap (λ (l : List ℕ). sum l % limit) (sym (drop_end numbers) ∙ ap (λ (n : ℕ). drop n numbers) (sym all))
  sums_of k a [] (c ∷ cs) all = absurd all
  sums_of k a (j ∷ jobs) [] all = absurd all
  sums_of k a (j ∷ jobs) (c ∷ cs) all =
      let chunk : ℕ = sum (drop a (take j.to numbers)) in
      let own : sum_by op (made c) ≡ chunk % limit = sym (sum-map op (made c)) ∙ (ap (λ (l : List ℕ). sum l) all.3 ∙ one (chunk % limit)) in
      let whole : sum (drop a numbers) ≡ chunk + sum (drop j.to numbers) = ap (λ (l : List ℕ). sum l) (drop_on a j.to numbers all.0) ∙ sum_by-append (λ x. x) (drop a (take j.to numbers)) (drop j.to numbers) in
      ap (λ (n : ℕ). n % limit) (sum_by-append op (made c) (flat_map made cs) ∙ ap (λ (n : ℕ). n + sum_by op (flat_map made cs)) own)
      ∙ (both_wrapped chunk (sum_by op (flat_map made cs)) (sum (drop j.to numbers)) (sums_of (k + 1) j.to jobs cs all.4) ∙ ap (λ (n : ℕ). n % limit) (sym whole))
    where
      one : (n : ℕ) → sum (n ∷ []) ≡ n
      one n = sum_by-cons (λ x. x) n [] ∙ omega arith

  pub sum_is : (jobs : List Job) (cs : List (Caller T ℕ ℕ g)) (log : List (Entry ℕ ℕ)) → AllAdded 0 0 jobs cs → AreAllCalls counter cs log → sum_by op log % limit ≡ sum numbers % limit
  sum_is jobs cs log all calls = ap (λ (n : ℕ). n % limit) (sum_by-IsPermutation op (flat_map made cs) log calls.mixed) ∙ sums_of 0 0 jobs cs all
