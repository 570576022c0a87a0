-- The numbers of calls.
use Rattle.std.proofs.Common.{ℕ, zero, suc, ◌≡◌, ◌==◌, ◌<◌, ◌||◌, max, nat_lt, if◌then◌else◌, Bool, true, false, cond, List, [], ◌∷◌, length, map, take, get_or, refl, ap, sym, subst, ◌∙◌, arith}
use Rattle.std.specs.List.{AllByRecursion}
use Rattle.std.proofs.lemmas.Bool.{false≢true}
use Rattle.std.proofs.lemmas.Bool.Decides.{nat_tests}
use Rattle.key_sets.specs.Keys.{has, with_key, StrictlyAscends}
use Rattle.key_sets.specs.Groups.{with_keys}
use Rattle.key_sets.proofs.KeyLemmas.Members.{has_first}
use Rattle.key_sets.proofs.KeyLemmas.Beside.{has_past}
use Rattle.key_sets.proofs.GroupLemmas.Distinct.{distinct_ascends, has_distinct, some_distinct}
use Rattle.seq_objects.specs.declared.call.Call.{Call}
use Rattle.seq_objects.specs.Objects.{number_of}
use Rattle.seq_objects.specs.Batches.{calls_at}
use Rattle.seq_objects.specs.Pieces.{AllMeet}
use Rattle.seq_objects.proofs.Numbers.{are_at}
use Rattle.object_rows.specs.Numbers.{numbers_of, greatest}
use Rattle.object_rows.specs.Cuts.{longest}

none_in : (q : ℕ) (calls : List Call) → has q (map (λ call. number_of call.op) calls) ≡ false → calls_at q calls ≡ []
none_in q [] none = refl
none_in q (call ∷ calls) none = step (number_of call.op == q) refl (q == number_of call.op) refl none (none_in q calls) where
  step : (b : Bool) → (number_of call.op == q) ≡ b → (e : Bool) → (q == number_of call.op) ≡ e → (e || has q (map (λ call. number_of call.op) calls)) ≡ false
      → (has q (map (λ call. number_of call.op) calls) ≡ false → calls_at q calls ≡ []) → cond b (call ∷ calls_at q calls) (calls_at q calls) ≡ []
  step b is true at none rest = absurd cc
  step true is false at none rest = absurd (grind (arith, nat_tests))
  step false is false at none rest = rest none

some_in : (q : ℕ) (calls : List Call) → has q (map (λ call. number_of call.op) calls) ≡ true → 0 < length (calls_at q calls)
some_in q [] some = absurd cc
some_in q (call ∷ calls) some = step (number_of call.op == q) refl (q == number_of call.op) refl some (some_in q calls) where
  step : (b : Bool) → (number_of call.op == q) ≡ b → (e : Bool) → (q == number_of call.op) ≡ e → (e || has q (map (λ call. number_of call.op) calls)) ≡ true
      → (has q (map (λ call. number_of call.op) calls) ≡ true → 0 < length (calls_at q calls)) → 0 < length (cond b (call ∷ calls_at q calls) (calls_at q calls))
  step true is e at some rest = omega arith
  step false is true at some rest = absurd (grind (arith, nat_tests))
  step false is false at some rest = rest some

-- the numbers are those that have calls
pub none_at : (q : ℕ) (calls : List Call) → has q (numbers_of calls) ≡ false → calls_at q calls ≡ []
none_at q calls none = none_in q calls (sym (has_distinct q (map (λ call. number_of call.op) calls)) ∙ none)

pub some_at : (q : ℕ) (calls : List Call) → has q (numbers_of calls) ≡ true → 0 < length (calls_at q calls)
some_at q calls some = some_in q calls (sym (has_distinct q (map (λ call. number_of call.op) calls)) ∙ some)

pub numbers_ascend : (calls : List Call) → StrictlyAscends (numbers_of calls)
numbers_ascend calls = distinct_ascends (map (λ call. number_of call.op) calls)

pub some_numbers : (calls : List Call) → 0 < length calls → 0 < length (numbers_of calls)
some_numbers [] some = absurd (omega (arith, some))
some_numbers (call ∷ calls) some = some_distinct (map (λ call. number_of call.op) (call ∷ calls)) (omega arith)

pub at_again : (number : ℕ) (calls : List Call) → calls_at number (calls_at number calls) ≡ calls_at number calls
at_again number [] = refl
at_again number (call ∷ calls) = step (number_of call.op == number) refl (at_again number calls) where
  step : (b : Bool) → (number_of call.op == number) ≡ b → calls_at number (calls_at number calls) ≡ calls_at number calls
      → calls_at number (cond b (call ∷ calls_at number calls) (calls_at number calls)) ≡ cond b (call ∷ calls_at number calls) (calls_at number calls)
  step true is rest = ap (λ b. cond b (call ∷ calls_at number (calls_at number calls)) (calls_at number (calls_at number calls))) is ∙ ap (λ l. call ∷ l) rest
  step false is rest = rest

-- calls of one number have this number alone
same_key : (number key : ℕ) → key ≡ number → with_key key (number ∷ []) ≡ number ∷ []
same_key number key is = step (nat_lt key number) (key == number) refl refl where
  step : (less same : Bool) → nat_lt key number ≡ less → (key == number) ≡ same → (if less then key ∷ number ∷ [] else (if same then number ∷ [] else number ∷ key ∷ [])) ≡ number ∷ []
  step true same lt eq = absurd (grind (arith, nat_tests))
  step false true lt eq = refl
  step false false lt eq = absurd (grind (arith, nat_tests))

same_keys : (number : ℕ) (calls : List Call) → AllByRecursion (λ call. number_of call.op ≡ number) calls → with_keys (number ∷ []) (map (λ call. number_of call.op) calls) ≡ number ∷ []
same_keys number [] each = refl
same_keys number (call ∷ calls) each =
    ap (λ set. with_keys set (map (λ (call : Call). number_of call.op) calls)) (same_key number (number_of call.op) each.0) ∙ same_keys number calls each.1

pub only_number : (number : ℕ) (calls : List Call) → 0 < length calls → calls_at number calls ≡ calls → numbers_of calls ≡ number ∷ []
only_number number [] some all = absurd (omega (arith, some))
only_number number (call ∷ calls) some all =
    let each : AllByRecursion (λ (call : Call). number_of call.op ≡ number) (call ∷ calls) = subst (AllByRecursion (λ (call : Call). number_of call.op ≡ number)) all (are_at number (call ∷ calls)) in
    ap (λ n. with_keys (n ∷ []) (map (λ (call : Call). number_of call.op) calls)) each.0 ∙ same_keys number calls each.1

-- where there is one number, all calls have it
has_later : (q n : ℕ) (set : List ℕ) → has q set ≡ true → has q (n ∷ set) ≡ true
has_later q n set is = step (q == n) where
  step : (b : Bool) → (b || has q set) ≡ true
  step true = refl
  step false = is

has_one : (q n : ℕ) → has q (n ∷ []) ≡ true → q ≡ n
has_one q n is = step (q == n) refl is where
  step : (b : Bool) → (q == n) ≡ b → (b || false) ≡ true → q ≡ n
  step true same held = grind (arith, nat_tests)
  step false same held = absurd (false≢true held)

each_one : (number : ℕ) (calls : List Call) → ((q : ℕ) → has q (map (λ call. number_of call.op) calls) ≡ true → q ≡ number) → AllByRecursion (λ call. number_of call.op ≡ number) calls
each_one number [] only = tt
each_one number (call ∷ calls) only = (
  only (number_of call.op) (has_first (number_of call.op) (map (λ (call : Call). number_of call.op) calls)),
  each_one number calls (λ q is. only q (has_later q (number_of call.op) (map (λ (call : Call). number_of call.op) calls) is)),
)

pub all_of_one : (number : ℕ) (calls : List Call) → numbers_of calls ≡ number ∷ [] → AllByRecursion (λ call. number_of call.op ≡ number) calls
all_of_one number calls one =
    each_one number calls (λ q is. has_one q number (ap (has q) (sym one) ∙ has_distinct q (map (λ (call : Call). number_of call.op) calls) ∙ is))

not_below : (key : ℕ) (xs : List ℕ) → AllByRecursion (λ x. x < key) xs → has key xs ≡ false
not_below key [] below = refl
not_below key (x ∷ xs) below = has_past key x xs below.0 ∙ not_below key xs below.1

above_at : (n : ℕ) (xs : List ℕ) (place d : ℕ) → AllByRecursion (λ x. n < x) xs → place < length xs → n < get_or xs place d
above_at n [] place d above below = absurd (omega (arith, below))
above_at n (x ∷ xs) zero d above below = above.0
above_at n (x ∷ xs) (suc place) d above below = above_at n xs place d above.1 (omega (arith, below))

lower_before : (numbers : List ℕ) (place d : ℕ) → StrictlyAscends numbers → place < length numbers → AllByRecursion (λ x. x < get_or numbers place d) (take place numbers)
lower_before [] place d up below = absurd (omega (arith, below))
lower_before (n ∷ numbers) zero d up below = tt
lower_before (n ∷ numbers) (suc place) d up below = (above_at n numbers place d up.0 (omega (arith, below)), lower_before numbers place d up.1 (omega (arith, below)))

-- a number is not among those before it, and is among all
pub new_at : (numbers : List ℕ) (place d : ℕ) → StrictlyAscends numbers → place < length numbers → has (get_or numbers place d) (take place numbers) ≡ false
new_at numbers place d up below = not_below (get_or numbers place d) (take place numbers) (lower_before numbers place d up below)

pub has_at : (numbers : List ℕ) (place d : ℕ) → place < length numbers → has (get_or numbers place d) numbers ≡ true
has_at [] place d below = absurd (omega (arith, below))
has_at (n ∷ numbers) zero d below = has_first n numbers
has_at (n ∷ numbers) (suc place) d below = step (get_or numbers place d == n) (has_at numbers place d (omega (arith, below))) where
  step : (b : Bool) → has (get_or numbers place d) numbers ≡ true → (b || has (get_or numbers place d) numbers) ≡ true
  step true is = refl
  step false is = is

-- the greatest of the counts of numbers
greatest_in : (ℕ → ℕ) → List ℕ → ℕ
greatest_in count [] = 0
greatest_in count (n ∷ numbers) = max (count n) (greatest_in count numbers)

max_turn : (a b c : ℕ) → max a (max b c) ≡ max b (max a c)
max_turn a b c = omega arith

greatest_with : (count : ℕ → ℕ) (key : ℕ) (numbers : List ℕ) → greatest_in count (with_key key numbers) ≡ max (count key) (greatest_in count numbers)
unfolding greatest_in
greatest_with count key [] = refl
greatest_with count key (n ∷ numbers) = step (nat_lt key n) (key == n) refl (greatest_with count key numbers) where
  step : (first same : Bool) → (key == n) ≡ same → greatest_in count (with_key key numbers) ≡ max (count key) (greatest_in count numbers)
      → greatest_in count (if first then key ∷ n ∷ numbers else (if same then n ∷ numbers else n ∷ with_key key numbers)) ≡ max (count key) (max (count n) (greatest_in count numbers))
  step true same is rest = refl
  step false true is rest = let one : key ≡ n = grind (arith, nat_tests) in rw one (omega arith)
  step false false is rest = ap (max (count n)) rest ∙ max_turn (count n) (count key) (greatest_in count numbers)

greatest_with_all : (count : ℕ → ℕ) (numbers keys : List ℕ) → greatest_in count (with_keys numbers keys) ≡ max (greatest_in count numbers) (greatest_in count keys)
unfolding greatest_in
greatest_with_all count numbers [] = omega arith
greatest_with_all count numbers (key ∷ keys) =
    greatest_with_all count (with_key key numbers) keys ∙ ap (λ n. max n (greatest_in count keys)) (greatest_with count key numbers) ∙ omega arith

greatest_of_calls : (count : ℕ → ℕ) (calls : List Call) → greatest_in count (map (λ call. number_of call.op) calls) ≡ greatest count calls
unfolding greatest_in
greatest_of_calls count [] = refl
greatest_of_calls count (call ∷ calls) = ap (max (count (number_of call.op))) (greatest_of_calls count calls)

longest_in : {In : Type 0} (count : ℕ → ℕ) (numbers : List ℕ) (lists : List (List In)) → AllMeet (λ number list. length list ≡ count number) numbers lists → longest lists ≡ greatest_in count numbers
unfolding greatest_in
longest_in count [] [] m = refl
longest_in count [] (list ∷ lists) m = absurd m
longest_in count (n ∷ numbers) [] m = absurd m
longest_in count (n ∷ numbers) (list ∷ lists) m = rw (m.0, longest_in count numbers lists m.1) refl

-- where each number's list is as long as its count, the longest is as long as the greatest count
pub longest_is : {In : Type 0} (count : ℕ → ℕ) (calls : List Call) (lists : List (List In)) → AllMeet (λ number list. length list ≡ count number) (numbers_of calls) lists → longest lists ≡ greatest count calls
unfolding greatest_in
longest_is count calls lists m =
    let numbers = map (λ (call : Call). number_of call.op) calls in
    let none : max 0 (greatest_in count numbers) ≡ greatest_in count numbers = omega arith in
    longest_in count (numbers_of calls) lists m ∙ greatest_with_all count [] numbers ∙ none ∙ greatest_of_calls count calls
