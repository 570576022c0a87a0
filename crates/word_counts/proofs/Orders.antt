-- Counts do not depend on the order of the words.
use Rattle.std.proofs.Common.{◌≡◌, ℕ, zero, suc, ◌+◌, ◌<◌, List, [], ◌∷◌, length, get_or, set, sym, refl, ap, ◌∙◌, arith}
use Rattle.std.specs.Prelude.{IsPermutation}
use Rattle.std.specs.List.{swap}
use Rattle.std.specs.Ordering.{match_ordering, is_eq, ordering_reverse}
use Rattle.std.specs.declared.cmp.Ordering.{Ordering}
use Rattle.std.specs.declared.cmp.Ordering.TheVariants.{Less, Equal, Greater}
use Rattle.std.specs.Cmp.Lexicographic.{nat_list_cmp_total, bytes_decides}
use Rattle.std.proofs.lemmas.Map.Text.{is_eq-slice_cmp}
use Rattle.std.proofs.lemmas.List.Edits.{swap_is}
use Rattle.std.proofs.lemmas.List.Sorted.{IsPermutation-keeps}
use Rattle.word_counts.specs.Counts.{order, counted, all_counted}

abbrev pub Counts : Type 0
Counts = List (List ℕ × ℕ)

pub same_word : (a b : List ℕ) → order a b ≡ Equal → a ≡ b
same_word a b is = (bytes_decides a b).0 (sym (is_eq-slice_cmp a b) ∙ ap is_eq is)

pub turned : (a b : List ℕ) (o : Ordering) → order a b ≡ o → order b a ≡ ordering_reverse o
turned a b o is = nat_list_cmp_total.antisymm b a ∙ ap ordering_reverse is

-- what `counted` does by the order of the word and the first one
pub at_less : (e : List ℕ × ℕ) (es : Counts) (w : List ℕ) → order w e.0 ≡ Less → counted (e ∷ es) w ≡ (w, 1) ∷ e ∷ es
at_less e es w is = ap (λ o. match_ordering o ((w, 1) ∷ e ∷ es) ((e.0, e.1 + 1) ∷ es) (e ∷ counted es w)) is

pub at_equal : (e : List ℕ × ℕ) (es : Counts) (w : List ℕ) → order w e.0 ≡ Equal → counted (e ∷ es) w ≡ (e.0, e.1 + 1) ∷ es
at_equal e es w is = ap (λ o. match_ordering o ((w, 1) ∷ e ∷ es) ((e.0, e.1 + 1) ∷ es) (e ∷ counted es w)) is

pub at_greater : (e : List ℕ × ℕ) (es : Counts) (w : List ℕ) → order w e.0 ≡ Greater → counted (e ∷ es) w ≡ e ∷ counted es w
at_greater e es w is = ap (λ o. match_ordering o ((w, 1) ∷ e ∷ es) ((e.0, e.1 + 1) ∷ es) (e ∷ counted es w)) is

-- two words, the first below the second
commute_below : (a b : List ℕ) (es : Counts) → order a b ≡ Less → counted (counted es a) b ≡ counted (counted es b) a
commute_below a b [] less = at_greater (a, 1) [] b (turned a b Less less) ∙ sym (at_less (b, 1) [] a less)
commute_below a b (e ∷ es) less = by (order a e.0) (order b e.0) refl refl (commute_below a b es less)
  where
    by : (x y : Ordering) → order a e.0 ≡ x → order b e.0 ≡ y → counted (counted es a) b ≡ counted (counted es b) a → counted (counted (e ∷ es) a) b ≡ counted (counted (e ∷ es) b) a
    by Less y is_a is_b rest =
        ap (λ l. counted l b) (at_less e es a is_a) ∙ (at_greater (a, 1) (e ∷ es) b (turned a b Less less) ∙ sym (second y is_b))
      where
        second : (y : Ordering) → order b e.0 ≡ y → counted (counted (e ∷ es) b) a ≡ (a, 1) ∷ counted (e ∷ es) b
        second Less is = ap (λ l. counted l a) (at_less e es b is) ∙ (at_less (b, 1) (e ∷ es) a less ∙ ap (λ l. (a, 1) ∷ l) (sym (at_less e es b is)))
        second Equal is = ap (λ l. counted l a) (at_equal e es b is) ∙ (at_less (e.0, e.1 + 1) es a is_a ∙ ap (λ l. (a, 1) ∷ l) (sym (at_equal e es b is)))
        second Greater is = ap (λ l. counted l a) (at_greater e es b is) ∙ (at_less e (counted es b) a is_a ∙ ap (λ l. (a, 1) ∷ l) (sym (at_greater e es b is)))
    by Equal y is_a is_b rest =
        let above : order b e.0 ≡ Greater = ap (order b) (sym (same_word a e.0 is_a)) ∙ turned a b Less less in
        ap (λ l. counted l b) (at_equal e es a is_a) ∙ (at_greater (e.0, e.1 + 1) es b above
        ∙ sym (ap (λ l. counted l a) (at_greater e es b above) ∙ at_equal e (counted es b) a is_a))
    by Greater y is_a is_b rest =
        let above : order b e.0 ≡ Greater = turned e.0 b Less (nat_list_cmp_total.trans e.0 a b (turned a e.0 Greater is_a) less) in
        ap (λ l. counted l b) (at_greater e es a is_a) ∙ (at_greater e (counted es a) b above
        ∙ (ap (λ l. e ∷ l) rest
        ∙ sym (ap (λ l. counted l a) (at_greater e es b above) ∙ at_greater e (counted es b) a is_a)))

pub commute : (a b : List ℕ) (es : Counts) → counted (counted es a) b ≡ counted (counted es b) a
commute a b es = by (order a b) refl
  where
    by : (o : Ordering) → order a b ≡ o → counted (counted es a) b ≡ counted (counted es b) a
    by Less is = commute_below a b es is
    by Equal is = let same = same_word a b is in ap (λ (w : List ℕ). counted (counted es w) b) same ∙ ap (λ (w : List ℕ). counted (counted es b) w) (sym same)
    by Greater is = sym (commute_below b a es (turned a b Greater is))

-- the first word in the place of another
front_moved : (es : Counts) (x d : List ℕ) (l : List (List ℕ)) (j : ℕ) → j < length l → all_counted es (get_or l j d ∷ set l j x) ≡ all_counted es (x ∷ l)
front_moved es x d [] j less = absurd (omega (arith, less))
front_moved es x d (y ∷ l) zero less = ap (λ (c : Counts). all_counted c l) (commute y x es)
front_moved es x d (y ∷ l) (suc j) less =
    ap (λ (c : Counts). all_counted c (set l j x)) (commute (get_or l j d) y es)
    ∙ (front_moved (counted es y) x d l j (omega (arith, less)) ∙ ap (λ (c : Counts). all_counted c l) (commute y x es))

exchanged : (es : Counts) (l : List (List ℕ)) (d : List ℕ) (i j : ℕ) → i < length l → j < length l → all_counted es (set (set l i (get_or l j d)) j (get_or l i d)) ≡ all_counted es l
exchanged es [] d i j a b = absurd (omega (arith, a))
exchanged es (x ∷ l) d zero zero a b = refl
exchanged es (x ∷ l) d zero (suc j) a b = front_moved es x d l j (omega (arith, b))
exchanged es (x ∷ l) d (suc i) zero a b = front_moved es x d l i (omega (arith, a))
exchanged es (x ∷ l) d (suc i) (suc j) a b = exchanged (counted es x) l d i j (omega (arith, a)) (omega (arith, b))

swapped : (es : Counts) (l : List (List ℕ)) (i j : ℕ) → i < length l → j < length l → all_counted es (swap l i j) ≡ all_counted es l
swapped es [] i j a b = refl
swapped es (x ∷ l) i j a b = ap (all_counted es) (sym (swap_is (x ∷ l) i j x a b)) ∙ exchanged es (x ∷ l) x i j a b

-- a list of words in another order
pub reordered : (es : Counts) (xs ys : List (List ℕ)) → IsPermutation xs ys → all_counted es ys ≡ all_counted es xs
reordered es xs ys moved = IsPermutation-keeps xs (λ l. all_counted es l ≡ all_counted es xs) refl (λ l i j a b is. swapped es l i j a b ∙ is) ys moved
