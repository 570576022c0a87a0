-- What the threads have counted when all callers are back.
use Rattle.std.proofs.Common.{◌≡◌, ℕ, zero, suc, ◌+◌, ◌<◌, ◌≤◌, List, [], ◌∷◌, ◌++◌, map, drop, length, get_or, Vec, Global, Result, Ok, IfOk, sym, refl, ap, ◌∙◌, subst, arith}
use Rattle.std.specs.Prelude.{flat_map}
use Rattle.std.specs.List.{between}
use Rattle.std.proofs.lemmas.List.{map-append}
use Rattle.std.proofs.lemmas.List.Sorted.{IsPermutation-map}
use Rattle.shared_calls.specs.declared.view.Entry.{Entry}
use Rattle.shared_calls.specs.declared.shared.Caller.{Caller}
use Rattle.shared_calls.specs.declared.shared.Shared.{Shared}
use Rattle.shared_calls.specs.declared.combined.Combined.{Ghosts}
use Rattle.shared_calls.specs.Views.{AreNewCallers, IsCallerOf, number_of, number_of_callers, made}
use Rattle.shared_calls.specs.Serial.{after_all}
use Rattle.shared_calls.specs.Logs.{state_after}
use Rattle.shared_calls.specs.Closing.{AreCallersOf, AreAllCalls}
use Rattle.word_counts.specs.declared.parts.Part.{Part}
use Rattle.word_counts.specs.Words.{words_of}
use Rattle.word_counts.specs.Counts.{tally, all_counted, counts_of}
use Rattle.word_counts.specs.Parts.{AreParts, IsLineEnd}
use Rattle.word_counts.proofs.Cuts.{drop_all, words_cut, parts_rise, parts_long, part_at}
use Rattle.word_counts.proofs.Orders.{Counts, reordered}

abbrev Op : Type 0
Op = Vec ℕ Global

abbrev pub word : Entry Op ℕ → List ℕ
word e = e.op.items

-- as many callers come back as there are answers
backs_long : {C E : Type 0} (cs : List C) (backs : List (Result C E)) → backs ≡ map Ok cs → length backs ≡ length cs
backs_long [] backs is = ap (λ l. length l) is
backs_long (c ∷ cs) [] is = absurd (cc)
backs_long {E = E} (c ∷ cs) (b ∷ backs) is = ap suc (backs_long {E = E} cs backs (ap (λ l. drop 1 l) is))

-- the state after a log is that of its words
state_is : (counts : Counts) (log : List (Entry Op ℕ)) → after_all tally counts (map (λ e. e.op) log) ≡ all_counted counts (map word log)
state_is counts [] = refl
state_is counts (e ∷ log) = state_is (tally.after counts e.op) log

module _ {T : Type 0} {g : Ghosts T Op ℕ} (s : Shared T Op ℕ) (text : List ℕ) where
  -- each caller has counted its part; the parts stand one after another, from the place a to the end
  pub AllCounted : ℕ → ℕ → List Part → List (Caller T Op ℕ g) → Type 0
  AllCounted k a [] [] = a ≡ length text
  AllCounted k a [] (c ∷ cs) = ⊥
  AllCounted k a (p ∷ parts) [] = ⊥
  AllCounted k a (p ∷ parts) (c ∷ cs) = (a ≤ p.to) × (p.to ≤ length text) × IsLineEnd text p.to × IsCallerOf s c × (number_of c ≡ k) × (map word (made c) ≡ words_of (between a p.to text)) × AllCounted (k + 1) p.to parts cs

  abbrev pub Counted : {E : Type 0} → ℕ → ℕ → ℕ → Result (Caller T Op ℕ g) E → Type 0
  Counted n from to b = IfOk b (λ back. IsCallerOf s back × (number_of back ≡ n) × (map word (made back) ≡ words_of (between from to text)))

  all_counted_in : {E : Type 0} (f : Part → Caller T Op ℕ g) (k a : ℕ) (parts : List Part) (news cs : List (Caller T Op ℕ g)) (backs : List (Result (Caller T Op ℕ g) E)) → AreParts f text a (length text) parts news
      → backs ≡ map Ok cs → length backs ≡ length parts
      → ((i : ℕ) (p : Part) (b : Result (Caller T Op ℕ g) E) → i < length parts → p ≡ get_or parts i p → b ≡ get_or backs i b → Counted (k + i) p.from p.to b) → AllCounted k a parts cs
  unfolding AllCounted
  all_counted_in f k a [] [] [] backs are is long each = are
  all_counted_in f k a [] [] (c ∷ cs) backs are is long each = let same = ap (λ (l : List (Result (Caller T Op ℕ g) _)). length l) is in absurd (omega (arith, same, long))
  all_counted_in f k a [] (n ∷ news) cs backs are is long each = absurd are
  all_counted_in f k a (p ∷ parts) [] cs backs are is long each = absurd are
  all_counted_in f k a (p ∷ parts) (n ∷ news) [] backs are is long each = let same = ap (λ (l : List (Result (Caller T Op ℕ g) _)). length l) is in absurd (omega (arith, same, long))
  all_counted_in {E} f k a (p ∷ parts) (n ∷ news) (c ∷ cs) backs are is long each =
      let all : (i : ℕ) (x : Part) (b : Result (Caller T Op ℕ g) E) → i < length (p ∷ parts) → x ≡ get_or (p ∷ parts) i x → b ≡ get_or (Ok c ∷ map Ok cs) i b → Counted (k + i) x.from x.to b = subst (λ l. (i : ℕ) (x : Part) (b : Result (Caller T Op ℕ g) E) → i < length (p ∷ parts) → x ≡ get_or (p ∷ parts) i x → b ≡ get_or l i b → Counted (k + i) x.from x.to b) is each in
      let here = all 0 p (Ok c) (omega arith) refl refl in
      let same = ap (λ (l : List (Result (Caller T Op ℕ g) E)). length l) is in (
        are.1,
        parts_rise f text p.to (length text) parts news are.4,
        are.2,
        here.0,
        here.1 ∙ omega arith,
        here.2 ∙ ap (λ (m : ℕ). words_of (between m p.to text)) are.0,
        all_counted_in {E = E} f (k + 1) p.to parts news cs (map Ok cs) are.4 refl (omega (arith, same, long)) (λ i x b less at there. subst (λ (m : ℕ). Counted m x.from x.to b) (omega arith) (all (suc i) x b (omega (arith, less)) at there)),
      )

  -- all callers are back, each with the words of its part
  pub all_back : {E : Type 0} (f : Part → Caller T Op ℕ g) (n : ℕ) (parts : List Part) (news cs : List (Caller T Op ℕ g)) (backs : List (Result (Caller T Op ℕ g) E))
      → AreParts f text 0 (length text) parts news → AreNewCallers n s news → backs ≡ map Ok cs → length backs ≡ length parts
      → ((i : ℕ) (p : Part) (b : Result (Caller T Op ℕ g) E) → i < length parts → p ≡ get_or parts i p → b ≡ get_or backs i b → Counted (number_of (f p)) p.from p.to b)
      → AllCounted 0 0 parts cs × (length cs ≡ n)
  all_back {E} f n parts news cs backs are first is long each =
      let count = first.count in
      let as_many = parts_long f text 0 (length text) parts news are in
      let back = backs_long {E = E} cs backs is in (
        all_counted_in {E = E} f 0 0 parts news cs backs are is long (λ i p b less at there.
            let here = part_at f text 0 (length text) parts news are i p less at in
            let new = first.each i (f p) (omega (arith, less, as_many, count)) here.0 in
            subst (λ (k : ℕ). Counted k p.from p.to b) (new.1 ∙ omega arith) (each i p b less at there)),
        omega (arith, back, long, as_many, count),
      )

  each_caller : (k a : ℕ) (parts : List Part) (cs : List (Caller T Op ℕ g)) → AllCounted k a parts cs → (i : ℕ) (c : Caller T Op ℕ g) → i < length cs → c ≡ get_or cs i c → IsCallerOf s c × (number_of c ≡ k + i)
  unfolding AllCounted
  each_caller k a parts [] all i c less is = absurd (omega (arith, less))
  each_caller k a [] (x ∷ cs) all i c less is = absurd all
  each_caller k a (p ∷ parts) (x ∷ cs) all zero c less is = (subst (λ y. IsCallerOf s y) (sym is) all.3, ap number_of is ∙ (all.4 ∙ omega arith))
  each_caller k a (p ∷ parts) (x ∷ cs) all (suc i) c less is = let there = each_caller (k + 1) p.to parts cs all.6 i c (omega (arith, less)) is in (there.0, there.1 ∙ omega arith)

  pub are_callers : (parts : List Part) (cs : List (Caller T Op ℕ g)) → AllCounted 0 0 parts cs → length cs ≡ number_of_callers s → AreCallersOf s cs
  are_callers parts cs all long = record {
    count = long;
    each = λ k c less is. let there = each_caller 0 0 parts cs all k c (omega (arith, less, long)) is in (there.0, there.1 ∙ omega arith);
  }

  -- the words of all callers, one caller after another
  words_all : (k a : ℕ) (parts : List Part) (cs : List (Caller T Op ℕ g)) → AllCounted k a parts cs → map word (flat_map made cs) ≡ words_of (drop a text)
  unfolding AllCounted
  words_all k a [] [] all = sym (ap (λ (n : ℕ). words_of (drop n text)) all ∙ ap words_of (drop_all text))
  words_all k a [] (c ∷ cs) all = absurd all
  words_all k a (p ∷ parts) [] all = absurd all
  words_all k a (p ∷ parts) (c ∷ cs) all =
      map-append word (made c) (flat_map made cs) ∙ (ap (λ l. l ++ map word (flat_map made cs)) all.5
      ∙ (ap (λ l. words_of (between a p.to text) ++ l) (words_all (k + 1) p.to parts cs all.6) ∙ sym (words_cut text a p.to all.0 all.1 all.2)))

  -- the counts at the end
  pub counts_are : (parts : List Part) (cs : List (Caller T Op ℕ g)) (log : List (Entry Op ℕ)) → AllCounted 0 0 parts cs → AreAllCalls tally cs log → state_after tally log ≡ counts_of text
  counts_are parts cs log all calls =
      state_is [] log ∙ (reordered [] (map word (flat_map made cs)) (map word log) (IsPermutation-map word (flat_map made cs) log calls.mixed) ∙ ap (all_counted []) (words_all 0 0 parts cs all))
