-- The counts of words are the numbers of their occurrences.
use Rattle.std.proofs.Common.{◌≡◌, ℕ, zero, suc, ◌+◌, ◌<◌, Bool, true, cond, List, [], ◌∷◌, length, get_or, sym, refl, ap, ◌∙◌, subst, arith}
use Rattle.std.specs.Prelude.{Contains}
use Rattle.std.specs.List.{AllByRecursion}
use Rattle.std.specs.Ordering.{match_ordering, is_eq}
use Rattle.std.specs.Str.{bytes_eq}
use Rattle.std.specs.declared.cmp.Ordering.{Ordering}
use Rattle.std.specs.declared.cmp.Ordering.TheVariants.{Less, Equal, Greater}
use Rattle.std.specs.Cmp.Lexicographic.{nat_list_cmp_total, bytes_decides}
use Rattle.std.proofs.lemmas.Map.Text.{is_eq-slice_cmp}
use Rattle.std.proofs.lemmas.List.Sums.{sum_by-cons}
use Rattle.word_counts.specs.Words.{occurrences}
use Rattle.word_counts.specs.Counts.{order, counted, count_in, all_counted, Ascend, CountWords}
use Rattle.word_counts.proofs.Orders.{Counts, same_word, turned, at_less, at_equal, at_greater}

-- how the count of a word is found, by its order with the first one
in_less : (e : List ℕ × ℕ) (es : Counts) (w : List ℕ) → order w e.0 ≡ Less → count_in (e ∷ es) w ≡ 0
in_less e es w is = ap (λ o. match_ordering o 0 e.1 (count_in es w)) is

in_equal : (e : List ℕ × ℕ) (es : Counts) (w : List ℕ) → order w e.0 ≡ Equal → count_in (e ∷ es) w ≡ e.1
in_equal e es w is = ap (λ o. match_ordering o 0 e.1 (count_in es w)) is

in_greater : (e : List ℕ × ℕ) (es : Counts) (w : List ℕ) → order w e.0 ≡ Greater → count_in (e ∷ es) w ≡ count_in es w
in_greater e es w is = ap (λ o. match_ordering o 0 e.1 (count_in es w)) is

abbrev one : Ordering → ℕ
one o = match_ordering o 0 1 0

-- a word that was found once more
once_more : (w a : List ℕ) (es : Counts) → count_in (counted es a) w ≡ count_in es w + one (order w a)
once_more w a [] = by (order w a)
  where
    by : (z : Ordering) → match_ordering z 0 1 0 ≡ 0 + match_ordering z 0 1 0
    by z = omega arith
once_more w a (e ∷ es) = by (order a e.0) refl (once_more w a es)
  where
    by : (x : Ordering) → order a e.0 ≡ x → count_in (counted es a) w ≡ count_in es w + one (order w a) → count_in (counted (e ∷ es) a) w ≡ count_in (e ∷ es) w + one (order w a)
    by Less is rest = ap (λ l. count_in l w) (at_less e es a is) ∙ first (order w a) refl
      where
        first : (z : Ordering) → order w a ≡ z → match_ordering (order w a) 0 1 (count_in (e ∷ es) w) ≡ count_in (e ∷ es) w + one (order w a)
        first Less z =
            let none = in_less e es w (nat_list_cmp_total.trans w a e.0 z is) in
            ap (λ o. match_ordering o 0 1 (count_in (e ∷ es) w)) z ∙ sym (ap (λ o. count_in (e ∷ es) w + one o) z ∙ omega (arith, none))
        first Equal z =
            let none = in_less e es w (ap (λ v. order v e.0) (same_word w a z) ∙ is) in
            ap (λ o. match_ordering o 0 1 (count_in (e ∷ es) w)) z ∙ sym (ap (λ o. count_in (e ∷ es) w + one o) z ∙ omega (arith, none))
        first Greater z = ap (λ o. match_ordering o 0 1 (count_in (e ∷ es) w)) z ∙ sym (ap (λ o. count_in (e ∷ es) w + one o) z ∙ omega arith)
    by Equal is rest =
        let same : order w a ≡ order w e.0 = ap (order w) (same_word a e.0 is) in
        ap (λ l. count_in l w) (at_equal e es a is) ∙ (more (order w e.0) ∙ ap (λ o. count_in (e ∷ es) w + one o) (sym same))
      where
        more : (y : Ordering) → match_ordering y 0 (e.1 + 1) (count_in es w) ≡ match_ordering y 0 e.1 (count_in es w) + one y
        more Less = refl
        more Equal = refl
        more Greater = omega arith
    by Greater is rest = ap (λ l. count_in l w) (at_greater e es a is) ∙ later (order w e.0) refl
      where
        later : (y : Ordering) → order w e.0 ≡ y → count_in (e ∷ counted es a) w ≡ count_in (e ∷ es) w + one (order w a)
        later Less y =
            let below : order w a ≡ Less = nat_list_cmp_total.trans w e.0 a y (turned a e.0 Greater is) in
            let none = in_less e es w y in
            in_less e (counted es a) w y ∙ sym (ap (λ o. count_in (e ∷ es) w + one o) below ∙ omega (arith, none))
        later Equal y =
            let below : order w a ≡ Less = ap (λ v. order v a) (same_word w e.0 y) ∙ turned a e.0 Greater is in
            let here = in_equal e es w y in
            in_equal e (counted es a) w y ∙ sym (ap (λ o. count_in (e ∷ es) w + one o) below ∙ omega (arith, here))
        later Greater y =
            let here = in_greater e es w y in
            in_greater e (counted es a) w y ∙ (rest ∙ ap (λ (n : ℕ). n + one (order w a)) (sym here))

one_is : (w a : List ℕ) → one (order w a) ≡ cond (bytes_eq w a) 1 0
one_is w a = by (order w a) ∙ ap (λ (t : Bool). cond t 1 0) (is_eq-slice_cmp w a)
  where
    by : (o : Ordering) → one o ≡ cond (is_eq o) 1 0
    by Less = refl
    by Equal = refl
    by Greater = refl

-- the count of a word behind all words
count_is : (w : List ℕ) (es : Counts) (words : List (List ℕ)) → count_in (all_counted es words) w ≡ count_in es w + occurrences w words
count_is w es [] = omega arith
count_is w es (a ∷ words) =
    let rest = count_is w (counted es a) words in
    let more = once_more w a es in
    let each = one_is w a in
    let sum = sum_by-cons (λ (v : List ℕ). cond (bytes_eq w v) 1 0) a words in
    omega (arith, rest, more, each, sum)

-- counts that ascend, of which none is 0
abbrev AllAbove : List ℕ → Counts → Type 0
AllAbove x es = AllByRecursion (λ (f : List ℕ × ℕ). order x f.0 ≡ Less) es

abbrev AllFound : Counts → Type 0
AllFound es = AllByRecursion (λ (f : List ℕ × ℕ). 0 < f.1) es

all_above : (x w : List ℕ) (es : Counts) → order x w ≡ Less → AllAbove x es → AllAbove x (counted es w)
all_above x w [] less all = (less, tt)
all_above x w (e ∷ es) less all = by (order w e.0) refl (all_above x w es less all.1)
  where
    by : (o : Ordering) → order w e.0 ≡ o → AllAbove x (counted es w) → AllAbove x (counted (e ∷ es) w)
    by Less is rest = subst (AllAbove x) (sym (at_less e es w is)) (less, all)
    by Equal is rest = subst (AllAbove x) (sym (at_equal e es w is)) all
    by Greater is rest = subst (AllAbove x) (sym (at_greater e es w is)) (all.0, rest)

above_all : (w x : List ℕ) (es : Counts) → order w x ≡ Less → AllAbove x es → AllAbove w es
above_all w x [] less all = tt
above_all w x (e ∷ es) less all = (nat_list_cmp_total.trans w x e.0 less all.0, above_all w x es less all.1)

ascend_more : (w : List ℕ) (es : Counts) → Ascend es → Ascend (counted es w)
ascend_more w [] up = (tt, tt)
ascend_more w (e ∷ es) up = by (order w e.0) refl (ascend_more w es up.1)
  where
    by : (o : Ordering) → order w e.0 ≡ o → Ascend (counted es w) → Ascend (counted (e ∷ es) w)
    by Less is rest = subst Ascend (sym (at_less e es w is)) ((is, above_all w e.0 es is up.0), up)
    by Equal is rest = subst Ascend (sym (at_equal e es w is)) up
    by Greater is rest = subst Ascend (sym (at_greater e es w is)) (all_above e.0 w es (turned w e.0 Greater is) up.0, rest)

found_more : (w : List ℕ) (es : Counts) → AllFound es → AllFound (counted es w)
found_more w [] all = (omega arith, tt)
found_more w (e ∷ es) all = by (order w e.0) refl (found_more w es all.1)
  where
    by : (o : Ordering) → order w e.0 ≡ o → AllFound (counted es w) → AllFound (counted (e ∷ es) w)
    by Less is rest = subst AllFound (sym (at_less e es w is)) (omega arith, all)
    by Equal is rest = subst AllFound (sym (at_equal e es w is)) (omega arith, all.1)
    by Greater is rest = subst AllFound (sym (at_greater e es w is)) (all.0, rest)

ascend_all : (es : Counts) (words : List (List ℕ)) → Ascend es → Ascend (all_counted es words)
ascend_all es [] up = up
ascend_all es (w ∷ words) up = ascend_all (counted es w) words (ascend_more w es up)

found_all : (es : Counts) (words : List (List ℕ)) → AllFound es → AllFound (all_counted es words)
found_all es [] all = all
found_all es (w ∷ words) all = found_all (counted es w) words (found_more w es all)

at : {X : Type 0} (P : X → Type 0) (l : List X) (x : X) (k : ℕ) → k < length l → get_or l k x ≡ x → AllByRecursion P l → P x
at P [] x k less is all = absurd (omega (arith, less))
at P (y ∷ l) x zero less is all = subst P is all.0
at P (y ∷ l) x (suc k) less is all = at P l x k (omega (arith, less)) is all.1

same_order : (w : List ℕ) → order w w ≡ Equal
same_order w = by (order w w) (is_eq-slice_cmp w w ∙ (bytes_decides w w).1 refl)
  where
    by : (o : Ordering) → is_eq o ≡ true → o ≡ Equal
    by Less is = absurd (cc)
    by Equal is = refl
    by Greater is = absurd (cc)

-- an entry has the count that is found
entry_is : (es : Counts) (e : List ℕ × ℕ) (k : ℕ) → Ascend es → k < length es → get_or es k e ≡ e → count_in es e.0 ≡ e.1
entry_is [] e k up less is = absurd (omega (arith, less))
entry_is (f ∷ es) e zero up less is = in_equal f es e.0 (ap (λ (g : List ℕ × ℕ). order e.0 g.0) is ∙ same_order e.0) ∙ ap (λ (g : List ℕ × ℕ). g.1) is
entry_is (f ∷ es) e (suc k) up less is =
    let above : order f.0 e.0 ≡ Less = at (λ (g : List ℕ × ℕ). order f.0 g.0 ≡ Less) es e k (omega (arith, less)) is up.0 in
    in_greater f es e.0 (turned f.0 e.0 Less above) ∙ entry_is es e k up.1 (omega (arith, less)) is

-- a count that is found has an entry
entry_of : (es : Counts) (w : List ℕ) (n : ℕ) → count_in es w ≡ n → 0 < n → Contains es (w, n)
entry_of [] w n is some = absurd (omega (arith, is, some))
entry_of (e ∷ es) w n is some = by (order w e.0) refl (λ there. entry_of es w n there some)
  where
    by : (o : Ordering) → order w e.0 ≡ o → (count_in es w ≡ n → Contains es (w, n)) → Contains (e ∷ es) (w, n)
    by Less at rest = let none = in_less e es w at in absurd (omega (arith, none, is, some))
    by Equal at rest =
        let word : e.0 ≡ w = sym (same_word w e.0 at) in
        let count : e.1 ≡ n = sym (in_equal e es w at) ∙ is in
        (0, omega arith, λ i. (word i, count i))
    by Greater at rest =
        let there = rest (sym (in_greater e es w at) ∙ is) in
        let less = there.1 in
        (suc there.0, omega (arith, less), there.2)

pub count_words : (words : List (List ℕ)) → CountWords words (all_counted [] words)
count_words words =
    let counts = all_counted [] words in
    let up : Ascend counts = ascend_all [] words tt in
    let all : AllFound counts = found_all [] words tt in record {
      ascend = up;
      exact = λ word count. (
        (λ there.
            let here : count_in counts word ≡ count = entry_is counts (word, count) there.0 up there.1 there.2 in
            let sum = count_is word [] words in
            (omega (arith, here, sum), at (λ (f : List ℕ × ℕ). 0 < f.1) counts (word, count) there.0 there.1 there.2 all)),
        (λ so.
            let is = so.0 in
            let sum = count_is word [] words in
            entry_of counts word count (omega (arith, is, sum)) so.1),
      );
    }
