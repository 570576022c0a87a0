-- Keys that are inserted into a set.
use Rattle.std.proofs.Common.{◌≡◌, ℕ, zero, suc, ◌+◌, ◌%◌, ◌^◌, ◌<◌, ◌≤◌, ◌==◌, false, not, cond, List, [], ◌∷◌, ◌++◌, map, drop, length, get_or, Vec, Global, Option, Some, None, IfSome, IfNone, IsSome, sym, refl, ap, ◌∙◌, subst, arith}
use Rattle.std.specs.Prelude.{flat_map, sum_by, IsPermutation}
use Rattle.std.specs.List.{AllByRecursion}
use Rattle.std.specs.Option.{unwrap_or}
use Rattle.std.proofs.lemmas.Bool.Decides.{nat_tests}
use Rattle.std.proofs.lemmas.List.{map-append, length-map}
use Rattle.std.proofs.lemmas.List.Sums.{sum_by-append, sum_by-cons}
use Rattle.std.proofs.lemmas.List.Sorted.{IsPermutation-map, IsPermutation-sym, sum_by-IsPermutation, list_any-IsPermutation}
use Rattle.std.proofs.Math.Nat.{mod-eq_of_lt}
use Rattle.key_sets.specs.Keys.{StrictlyAscends, has, with_key}
use Rattle.key_sets.specs.Groups.{with_keys, distinct}
use Rattle.key_sets.proofs.KeyLemmas.Ascending.{all_append, all_with, all_above, ascends_with, length_in_range}
use Rattle.key_sets.proofs.KeyLemmas.Beside.{has_none}
use Rattle.key_sets.proofs.GroupLemmas.Distinct.{distinct_ascends, has_distinct}
use Rattle.shared_calls.specs.declared.view.Entry.{Entry}
use Rattle.shared_calls.specs.declared.shared.Caller.{Caller}
use Rattle.shared_calls.specs.declared.shared.Shared.{Shared}
use Rattle.shared_calls.specs.declared.combined.Combined.{Ghosts}
use Rattle.shared_calls.specs.Logs.{IsSerial}
use Rattle.shared_calls.specs.Serial.{replies_to_all}
use Rattle.shared_calls.specs.Views.{IsCallerOf, number_of, number_of_callers, made}
use Rattle.shared_calls.specs.Closing.{AreCallersOf, AreAllCalls}
use Rattle.shared_calls.proofs.Batches.{every_shuffled}
use Rattle.shared_structures.specs.Sets.{set, set_after, set_reply}
use Rattle.shared_structures.specs.declared.set.SetOp.{SetOp}
use Rattle.shared_structures.specs.declared.set.SetOp.TheVariants.{Insert}
use Rattle.shared_structures.specs.declared.set.SetReply.{SetReply}
use Rattle.shared_uses.specs.declared.keys.Inserter.{Inserter}
use Rattle.shared_uses.specs.Inserting.{IsDistinctCount, HaveInserted, is_new, new_in}

abbrev Call : Type 0
Call = Entry SetOp SetReply

abbrev limit : ℕ
limit = 2 ^ 64

abbrev IsSmall : ℕ → Type 0
IsSmall key = key < 2 ^ 32

abbrev op : Call → SetOp
op e = e.op

-- 1 where a call found its key new
abbrev one : Call → ℕ
one e = cond (is_new e.reply) 1 0

-- no calls, and calls put together
inserted_none : (calls : List Call) → calls ≡ [] → HaveInserted [] calls 0
inserted_none calls none = subst (λ (l : List Call). HaveInserted [] l 0) (sym none) (record { ops = refl; found = refl; small = tt })

inserted_both : (keys more : List ℕ) (calls others : List Call) (n m : ℕ) → HaveInserted keys calls n → HaveInserted more others m → HaveInserted (keys ++ more) (calls ++ others) (n + m)
inserted_both keys more calls others n m first second = record {
  ops = map-append op calls others ∙ (ap (λ l. l ++ map op others) first.ops ∙ (ap (λ l. map Insert keys ++ l) second.ops ∙ sym (map-append Insert keys more)));
  found = sum_by-append one calls others ∙ (ap (λ (k : ℕ). k + sum_by one others) first.found ∙ ap (λ (k : ℕ). n + k) second.found);
  small = all_append IsSmall keys more first.small second.small;
}

-- an inserter has the caller at its place, and has counted nothing
pub caller_at : {C : Type 0} (f : Inserter → C) (all : List Inserter) (i : ℕ) (x : Inserter) → x ≡ get_or all i x → f x ≡ get_or (map f all) i (f x)
caller_at f [] i x is = refl
caller_at f (y ∷ all) zero x is = ap f is
caller_at f (y ∷ all) (suc i) x is = caller_at f all i x is

pub none_at : (all : List Inserter) → AllByRecursion (λ (x : Inserter). x.count ≡ None) all → (i : ℕ) (x : Inserter) → i < length all → x ≡ get_or all i x → x.count ≡ None
none_at [] none i x less is = absurd (omega (arith, less))
none_at (y ∷ all) none zero x less is = ap (λ (z : Inserter). z.count) is ∙ none.0
none_at (y ∷ all) none (suc i) x less is = none_at all none.1 i x (omega (arith, less)) is

given : (o : Option ℕ) (P : ℕ → Type 0) → IsSome o → IfSome o P → P (unwrap_or o 0)
given None P some holds = absurd (cc)
given (Some n) P some holds = holds

module _ {T : Type 0} {g : Ghosts T SetOp SetReply} (s : Shared T SetOp SetReply) (f : Inserter → Caller T SetOp SetReply g) where
  -- an inserter that has inserted its keys, unless an insertion failed
  abbrev pub Done : ℕ → List ℕ → Inserter → Type 0
  Done n keys x = IsCallerOf s (f x) × (number_of (f x) ≡ n) × IfSome x.count (λ new. HaveInserted keys (made (f x)) new)

  -- inserters of consecutive numbers from k on, each of which has inserted its keys
  pub AllDone : ℕ → List (Vec ℕ Global) → List Inserter → Type 0
  AllDone k [] [] = Unit {0}
  AllDone k [] (x ∷ all) = ⊥
  AllDone k (v ∷ keys) [] = ⊥
  AllDone k (v ∷ keys) (x ∷ all) = IsCallerOf s (f x) × (number_of (f x) ≡ k) × HaveInserted v.items (made (f x)) (new_in x) × AllDone (k + 1) keys all

  pub all_done : (k : ℕ) (olds all : List Inserter) → length all ≡ length olds → AllByRecursion (λ (x : Inserter). IsSome x.count) all
      → ((i : ℕ) (x y : Inserter) → i < length olds → x ≡ get_or olds i x → y ≡ get_or all i y → Done (k + i) x.keys.items y) → AllDone k (map (λ (x : Inserter). x.keys) olds) all
  unfolding AllDone
  all_done k [] [] long whole each = tt
  all_done k [] (y ∷ all) long whole each = absurd (omega (arith, long))
  all_done k (x ∷ olds) [] long whole each = absurd (omega (arith, long))
  all_done k (x ∷ olds) (y ∷ all) long whole each =
      let here = each 0 x y (omega arith) refl refl in (
        here.0,
        here.1 ∙ omega arith,
        given y.count (λ new. HaveInserted x.keys.items (made (f y)) new) whole.0 here.2,
        all_done (k + 1) olds all (omega (arith, long)) whole.1 (λ i a b less old new. subst (λ (n : ℕ). Done n a.keys.items b) (omega arith) (each (suc i) a b (omega (arith, less)) old new)),
      )

  each_caller : (k : ℕ) (keys : List (Vec ℕ Global)) (all : List Inserter) → AllDone k keys all → (j : ℕ) (c : Caller T SetOp SetReply g) → j < length all → c ≡ get_or (map f all) j c → IsCallerOf s c × (number_of c ≡ k + j)
  unfolding AllDone
  each_caller k keys [] done j c less is = absurd (omega (arith, less))
  each_caller k [] (x ∷ all) done j c less is = absurd done
  each_caller k (v ∷ keys) (x ∷ all) done zero c less is = (subst (λ y. IsCallerOf s y) (sym is) done.0, ap number_of is ∙ (done.1 ∙ omega arith))
  each_caller k (v ∷ keys) (x ∷ all) done (suc j) c less is = let there = each_caller (k + 1) keys all done.3 j c (omega (arith, less)) is in (there.0, there.1 ∙ omega arith)

  -- the callers may close the set
  pub are_callers : (keys : List (Vec ℕ Global)) (all : List Inserter) → AllDone 0 keys all → length all ≡ number_of_callers s → AreCallersOf s (map f all)
  are_callers keys all done long = record {
    count = length-map all f ∙ long;
    each = λ k c less is. let there = each_caller 0 keys all done k c (omega (arith, less, long)) is in (there.0, there.1 ∙ omega arith);
  }

  -- together they have inserted all keys
  all_inserted : (k : ℕ) (keys : List (Vec ℕ Global)) (all : List Inserter) → AllDone k keys all → HaveInserted (flat_map (λ (v : Vec ℕ Global). v.items) keys) (flat_map made (map f all)) (sum_by new_in all)
  unfolding AllDone
  all_inserted k [] [] done = inserted_none [] refl
  all_inserted k [] (x ∷ all) done = absurd done
  all_inserted k (v ∷ keys) [] done = absurd done
  all_inserted k (v ∷ keys) (x ∷ all) done =
      let more : List ℕ = flat_map (λ (w : Vec ℕ Global). w.items) keys in
      let others : List Call = flat_map made (map f all) in
      subst (λ (n : ℕ). HaveInserted (v.items ++ more) (made (f x) ++ others) n) (sym (sum_by-cons new_in x all))
      (inserted_both v.items more (made (f x)) others (new_in x) (sum_by new_in all) done.2 (all_inserted (k + 1) keys all done.3))

-- the key that an operation inserts
abbrev key_in : SetOp → ℕ
key_in (Insert key) = key
key_in _ = 0

abbrev key_of : Call → ℕ
key_of e = key_in e.op

abbrev IsInsertion : Call → Type 0
IsInsertion e = e.op ≡ Insert (key_of e)

all_insertions : (keys : List ℕ) (calls : List Call) → map op calls ≡ map Insert keys → AllByRecursion IsInsertion calls
all_insertions keys [] are = tt
all_insertions [] (e ∷ calls) are = absurd (cc)
all_insertions (key ∷ keys) (e ∷ calls) are =
    let here : e.op ≡ Insert key = ap (λ (l : List SetOp). get_or l 0 e.op) are in
    (here ∙ ap (λ (o : SetOp). Insert (key_in o)) (sym here), all_insertions keys calls (ap (λ (l : List SetOp). drop 1 l) are))

keys_are : (keys : List ℕ) (calls : List Call) → map op calls ≡ map Insert keys → map key_of calls ≡ keys
keys_are [] [] are = refl
keys_are [] (e ∷ calls) are = absurd (cc)
keys_are (key ∷ keys) [] are = absurd (cc)
keys_are (key ∷ keys) (e ∷ calls) are =
    let here : e.op ≡ Insert key = ap (λ (l : List SetOp). get_or l 0 e.op) are in
    ap (λ (n : ℕ). n ∷ map key_of calls) (ap key_in here) ∙ ap (λ (l : List ℕ). key ∷ l) (keys_are keys calls (ap (λ (l : List SetOp). drop 1 l) are))

-- a set grows by a key that is new
grows : (key : ℕ) (keys : List ℕ) → StrictlyAscends keys → cond (not (has key keys)) 1 0 + length keys ≡ length (with_key key keys)
grows key [] up = refl
grows key (k ∷ keys) up =
    let rest = grows key keys up.1 in
    let gone : key ≡ k → has key keys ≡ false = λ is. has_none key keys (subst (λ n. AllByRecursion (λ j. n < j) keys) (sym is) up.0) in
    let gone' : key < k → has key keys ≡ false = λ less. has_none key keys (all_above key k keys less up.0) in
    grind (arith, nat_tests)

-- a set has grown by as many keys as its replies say are new
grown : (before : List ℕ) (log : List Call) → StrictlyAscends before → AllByRecursion IsInsertion log → map (λ (e : Call). e.reply) log ≡ replies_to_all set before (map op log)
    → length (with_keys before (map key_of log)) ≡ length before + sum_by one log
grown before [] up all serial = let none : length before ≡ length before + 0 = omega arith in none
grown before (e ∷ log) up all serial =
    let key : ℕ = key_of e in
    let here : e.reply ≡ set_reply before e.op = ap (λ (l : List SetReply). get_or l 0 e.reply) serial in
    let said : one e ≡ cond (not (has key before)) 1 0 = ap (λ (r : SetReply). cond (is_new r) 1 0) (here ∙ ap (set_reply before) all.0) in
    let later : map (λ (x : Call). x.reply) log ≡ replies_to_all set (with_key key before) (map op log) =
    ap (λ (l : List SetReply). drop 1 l) serial ∙ ap (λ (o : SetOp). replies_to_all set (set_after before o) (map op log)) all.0 in
    let rest = grown (with_key key before) log (ascends_with key before up) all.1 later in
    let longer = grows key before up in
    let split = sum_by-cons one e log in
    omega (arith, said, rest, longer, split)

small_with : (keys more : List ℕ) → AllByRecursion IsSmall keys → AllByRecursion IsSmall more → AllByRecursion IsSmall (with_keys keys more)
small_with keys [] all others = all
small_with keys (key ∷ more) all others = small_with (with_key key keys) more (all_with IsSmall key keys others.0 all) others.1

all_from_0 : (keys : List ℕ) → AllByRecursion (λ key. 0 ≤ key) keys
all_from_0 [] = tt
all_from_0 (key ∷ keys) = (omega arith, all_from_0 keys)

-- as many insertions find their key new as there are distinct keys
counted : (keys : List ℕ) (calls log : List Call) (new : ℕ) → HaveInserted keys calls new → IsPermutation calls log → IsSerial set log → IsDistinctCount keys new × (new < limit)
counted keys calls log new inserted mixed serial =
    let all : AllByRecursion IsInsertion log = every_shuffled IsInsertion calls log mixed (all_insertions keys calls inserted.ops) in
    let moved : List ℕ = map key_of log in
    let shuffled : IsPermutation keys moved = subst (λ (l : List ℕ). IsPermutation l moved) (keys_are keys calls inserted.ops) (IsPermutation-map key_of calls log mixed) in
    let size : length (distinct moved) ≡ 0 + sum_by one log = grown [] log tt all serial in
    let same : sum_by one log ≡ sum_by one calls = sum_by-IsPermutation one calls log mixed in
    let found : sum_by one calls ≡ new = inserted.found in
    let small : AllByRecursion IsSmall (distinct moved) = small_with [] moved tt (every_shuffled IsSmall keys moved shuffled inserted.small) in
    let few : 0 + length (distinct moved) ≤ 2 ^ 32 = length_in_range (2 ^ 32) 0 (distinct moved) (distinct_ascends moved) (all_from_0 (distinct moved)) small (omega arith) in (
      record {
        distinct = distinct moved;
        ascends = distinct_ascends moved;
        same = λ q. has_distinct q moved ∙ list_any-IsPermutation (λ k. q == k) moved keys (IsPermutation-sym keys moved shuffled);
        long = omega (arith, size, same, found);
      },
      omega (arith, size, same, found, few),
    )

pub count_is : {T : Type 0} {g : Ghosts T SetOp SetReply} (s : Shared T SetOp SetReply) (f : Inserter → Caller T SetOp SetReply g) (keys : List (Vec ℕ Global)) (all : List Inserter) (log : List Call)
    → AllDone s f 0 keys all → AreAllCalls set (map f all) log → IsDistinctCount (flat_map (λ (v : Vec ℕ Global). v.items) keys) (sum_by new_in all % 2 ^ 64)
count_is s f keys all log done calls =
    let inserted : List ℕ = flat_map (λ (v : Vec ℕ Global). v.items) keys in
    let count : ℕ = sum_by new_in all in
    let is = counted inserted (flat_map made (map f all)) log count (all_inserted s f 0 keys all done) calls.mixed calls.serial in
    subst (IsDistinctCount inserted) (sym (mod-eq_of_lt is.1)) is.0

-- a set that is closed gives the list of all calls, whether it is lost or not
pub either : {X L : Type 0} (P : L → Type 0) (R : X → L → Type 0) (o : Option X) → IfSome o (λ x. (l : L) × P l × R x l) → IfNone o ((l : L) × P l) → (l : L) × P l
either P R None kept lost = lost
either P R (Some x) kept lost = (kept.0, kept.1)
