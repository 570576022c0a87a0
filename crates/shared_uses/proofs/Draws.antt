-- Tickets that are drawn from a counter.
use Rattle.std.proofs.Common.{◌≡◌, ℕ, zero, suc, ◌+◌, ◌*◌, ◌%◌, ◌^◌, ◌<◌, List, [], ◌∷◌, ◌++◌, map, drop, length, get_or, replicate, Vec, Global, Result, Ok, Err, IfOk, sym, refl, ap, ◌∙◌, subst, arith}
use Rattle.std.specs.Prelude.{flat_map, IsPermutation}
use Rattle.std.specs.List.{AllByRecursion, range_with_len}
use Rattle.std.proofs.lemmas.List.{map-append, length-map, length-replicate, replicate-append-replicate}
use Rattle.std.proofs.lemmas.List.Sorted.{IsPermutation-map, length_permutation}
use Rattle.std.proofs.Math.Nat.{mod-eq_of_lt}
use Rattle.shared_calls.specs.declared.view.Entry.{Entry}
use Rattle.shared_calls.specs.declared.shared.Caller.{Caller}
use Rattle.shared_calls.specs.declared.shared.Shared.{Shared}
use Rattle.shared_calls.specs.declared.combined.Combined.{Ghosts}
use Rattle.shared_calls.specs.Serial.{replies_to_all}
use Rattle.shared_calls.specs.Views.{IsCallerOf, number_of, number_of_callers, made}
use Rattle.shared_calls.specs.Closing.{AreCallersOf, AreAllCalls}
use Rattle.shared_calls.proofs.Batches.{every_shuffled}
use Rattle.shared_structures.specs.Counters.{counter}
use Rattle.shared_uses.specs.declared.tickets.Hand.{Hand}
use Rattle.shared_uses.specs.Drawing.{HasDrawn, AreApart}

abbrev op : Entry ℕ ℕ → ℕ
op e = e.op

abbrev reply : Entry ℕ ℕ → ℕ
reply e = e.reply

-- one hand more
pub apart_more : {C E : Type 0} (f : Hand → C) (hands : List (Result Hand E)) (callers : List C) (drawn : List (Vec ℕ Global)) (hand : Hand) → AreApart f hands callers drawn
    → AreApart {E = E} f (hands ++ Ok hand ∷ []) (callers ++ f hand ∷ []) (drawn ++ hand.tickets ∷ [])
apart_more f [] [] [] hand are = (refl, refl, tt)
apart_more f [] [] (d ∷ drawn) hand are = absurd are
apart_more f [] (c ∷ callers) drawn hand are = absurd are
apart_more f (Err e ∷ hands) callers drawn hand are = absurd are
apart_more f (Ok h ∷ hands) [] drawn hand are = absurd are
apart_more f (Ok h ∷ hands) (c ∷ callers) [] hand are = absurd are
apart_more f (Ok h ∷ hands) (c ∷ callers) (d ∷ drawn) hand are = (are.0, are.1, apart_more f hands callers drawn hand are.2)

-- the callers are as many as the hands
pub long_apart : {E C : Type 0} (f : Hand → C) (hands : List (Result Hand E)) (cs : List C) (drawn : List (Vec ℕ Global)) → AreApart f hands cs drawn → length cs ≡ length hands
long_apart f [] [] [] are = refl
long_apart f [] [] (d ∷ drawn) are = absurd are
long_apart f [] (c ∷ cs) drawn are = absurd are
long_apart f (Err e ∷ hands) cs drawn are = absurd are
long_apart f (Ok h ∷ hands) [] drawn are = absurd are
long_apart f (Ok h ∷ hands) (c ∷ cs) [] are = absurd are
long_apart f (Ok h ∷ hands) (c ∷ cs) (d ∷ drawn) are = ap suc (long_apart f hands cs drawn are.2)

module _ {T : Type 0} {g : Ghosts T ℕ ℕ} (s : Shared T ℕ ℕ) (count : ℕ) where
  -- callers with consecutive numbers from k on, each with its tickets
  pub AllDrawn : ℕ → List (Caller T ℕ ℕ g) → List (Vec ℕ Global) → Type 0
  AllDrawn k [] [] = Unit {0}
  AllDrawn k [] (d ∷ drawn) = ⊥
  AllDrawn k (c ∷ callers) [] = ⊥
  AllDrawn k (c ∷ callers) (d ∷ drawn) = IsCallerOf s c × (number_of c ≡ k) × HasDrawn count c d.items × AllDrawn (k + 1) callers drawn

  abbrev pub Hands : {E : Type 0} → (Hand → Caller T ℕ ℕ g) → ℕ → Result Hand E → Type 0
  Hands f n h = IfOk h (λ hand. IsCallerOf s (f hand) × (number_of (f hand) ≡ n) × HasDrawn count (f hand) hand.tickets.items)

  pub all_drawn : {E : Type 0} (f : Hand → Caller T ℕ ℕ g) (k : ℕ) (hands : List (Result Hand E)) (callers : List (Caller T ℕ ℕ g)) (drawn : List (Vec ℕ Global)) → AreApart f hands callers drawn
      → ((i : ℕ) (h : Result Hand E) → i < length hands → h ≡ get_or hands i h → Hands f (k + i) h) → AllDrawn k callers drawn
  unfolding AllDrawn
  all_drawn f k [] [] [] are each = tt
  all_drawn f k [] [] (d ∷ drawn) are each = absurd are
  all_drawn f k [] (c ∷ callers) drawn are each = absurd are
  all_drawn f k (Err e ∷ hands) callers drawn are each = absurd are
  all_drawn f k (Ok h ∷ hands) [] drawn are each = absurd are
  all_drawn f k (Ok h ∷ hands) (c ∷ callers) [] are each = absurd are
  all_drawn f k (Ok h ∷ hands) (c ∷ callers) (d ∷ drawn) are each =
      let here = each 0 (Ok h) (omega arith) refl in (
        subst (λ x. IsCallerOf s x) are.0 here.0,
        ap number_of (sym are.0) ∙ (here.1 ∙ omega arith),
        subst (λ x. HasDrawn count x d.items) are.0 (subst (λ (x : Vec ℕ Global). HasDrawn count (f h) x.items) are.1 here.2),
        all_drawn f (k + 1) hands callers drawn are.2 (λ i r less is. subst (λ (n : ℕ). Hands f n r) (omega arith) (each (suc i) r (omega (arith, less)) is)),
      )

  each_caller : (k : ℕ) (callers : List (Caller T ℕ ℕ g)) (drawn : List (Vec ℕ Global)) → AllDrawn k callers drawn → (j : ℕ) (c : Caller T ℕ ℕ g) → j < length callers → c ≡ get_or callers j c → IsCallerOf s c × (number_of c ≡ k + j)
  unfolding AllDrawn
  each_caller k [] drawn all j c less is = absurd (omega (arith, less))
  each_caller k (x ∷ callers) [] all j c less is = absurd all
  each_caller k (x ∷ callers) (d ∷ drawn) all zero c less is = (subst (λ y. IsCallerOf s y) (sym is) all.0, ap number_of is ∙ (all.1 ∙ omega arith))
  each_caller k (x ∷ callers) (d ∷ drawn) all (suc j) c less is = let there = each_caller (k + 1) callers drawn all.3 j c (omega (arith, less)) is in (there.0, there.1 ∙ omega arith)

  -- the callers may close the counter
  pub are_callers : (callers : List (Caller T ℕ ℕ g)) (drawn : List (Vec ℕ Global)) → AllDrawn 0 callers drawn → length callers ≡ number_of_callers s → AreCallersOf s callers
  are_callers callers drawn all long = record {
    count = long;
    each = λ k c less is. let there = each_caller 0 callers drawn all k c (omega (arith, less, long)) is in (there.0, there.1 ∙ omega arith);
  }

  sums_of : (k : ℕ) (callers : List (Caller T ℕ ℕ g)) (drawn : List (Vec ℕ Global)) → AllDrawn k callers drawn → map reply (flat_map made callers) ≡ flat_map (λ (v : Vec ℕ Global). v.items) drawn
  unfolding AllDrawn
  sums_of k [] [] all = refl
  sums_of k [] (d ∷ drawn) all = absurd all
  sums_of k (c ∷ callers) [] all = absurd all
  sums_of k (c ∷ callers) (d ∷ drawn) all =
      map-append reply (made c) (flat_map made callers) ∙ (ap (λ l. l ++ map reply (flat_map made callers)) all.2.sums ∙ ap (λ l. d.items ++ l) (sums_of (k + 1) callers drawn all.3))

  ones_of : (k : ℕ) (callers : List (Caller T ℕ ℕ g)) (drawn : List (Vec ℕ Global)) → AllDrawn k callers drawn → map op (flat_map made callers) ≡ replicate (length callers * count) 1
  unfolding AllDrawn
  ones_of k [] drawn all = let none : 0 ≡ 0 * count = omega arith in ap (λ (n : ℕ). replicate n 1) none
  ones_of k (c ∷ callers) [] all = absurd all
  ones_of k (c ∷ callers) (d ∷ drawn) all =
      let rest : ℕ = length callers * count in
      map-append op (made c) (flat_map made callers) ∙ (ap (λ l. l ++ map op (flat_map made callers)) all.2.ones ∙ (ap (λ l. replicate count 1 ++ l) (ones_of (k + 1) callers drawn all.3)
      ∙ (replicate-append-replicate count rest 1 ∙ ap (λ (n : ℕ). replicate n 1) (times (length callers)))))
    where
      times : (n : ℕ) → count + n * count ≡ suc n * count
      times n = omega arith

all_ones : (n : ℕ) (es : List (Entry ℕ ℕ)) → map op es ≡ replicate n 1 → AllByRecursion (λ (e : Entry ℕ ℕ). e.op ≡ 1) es
all_ones n [] is = tt
all_ones zero (e ∷ es) is = absurd (cc)
all_ones (suc n) (e ∷ es) is = (ap (λ (l : List ℕ). get_or l 0 1) is, all_ones n es (ap (λ (l : List ℕ). drop 1 l) is))

-- additions of 1 count up
counts_up : (s : ℕ) (log : List (Entry ℕ ℕ)) → AllByRecursion (λ (e : Entry ℕ ℕ). e.op ≡ 1) log → s + length log < 2 ^ 64 → replies_to_all counter s (map op log) ≡ range_with_len (s + 1) (length log)
counts_up s [] ones fits = refl
counts_up s (e ∷ log) ones fits =
    let next : (s + e.op) % 2 ^ 64 ≡ s + 1 = ap (λ (n : ℕ). (s + n) % 2 ^ 64) ones.0 ∙ mod-eq_of_lt (omega (arith, fits)) in
    ap (λ (n : ℕ). n ∷ replies_to_all counter n (map op log)) next ∙ ap (λ l. (s + 1) ∷ l) (counts_up (s + 1) log ones.1 (omega (arith, fits)))

-- the tickets are all numbers from 1 on
pub tickets_are : {T : Type 0} {g : Ghosts T ℕ ℕ} (s : Shared T ℕ ℕ) (count : ℕ) (callers : List (Caller T ℕ ℕ g)) (drawn : List (Vec ℕ Global)) (log : List (Entry ℕ ℕ))
    → AllDrawn s count 0 callers drawn → AreAllCalls counter callers log → length callers * count < 2 ^ 64
    → IsPermutation (flat_map (λ (v : Vec ℕ Global). v.items) drawn) (range_with_len 1 (length callers * count))
tickets_are s count callers drawn log all calls fits =
    let made_all : List (Entry ℕ ℕ) = flat_map made callers in
    let n : ℕ = length callers * count in
    let ones : map op made_all ≡ replicate n 1 = ones_of s count 0 callers drawn all in
    let long : length log ≡ n = length_permutation made_all log calls.mixed ∙ (sym (length-map made_all op) ∙ (ap (λ (l : List ℕ). length l) ones ∙ length-replicate n 1)) in
    let log_ones : AllByRecursion (λ (e : Entry ℕ ℕ). e.op ≡ 1) log = every_shuffled (λ (e : Entry ℕ ℕ). e.op ≡ 1) made_all log calls.mixed (all_ones n made_all ones) in
    let replies : map reply log ≡ range_with_len 1 n = calls.serial ∙ (counts_up 0 log log_ones (omega (arith, long, fits)) ∙ ap (range_with_len 1) long) in
    subst (λ l. IsPermutation l (range_with_len 1 n)) (sums_of s count 0 callers drawn all) (subst (IsPermutation (map reply made_all)) replies (IsPermutation-map reply made_all log calls.mixed))
