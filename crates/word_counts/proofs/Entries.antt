-- What a map's entries are as counts.
use Rattle.std.proofs.Common.{◌≡◌, ℕ, ◌+◌, List, [], ◌∷◌, map, length, Vec, Global, Option, None, Some, cond, refl, ap, ◌∙◌, arith, unwrap_or}
use Rattle.std.specs.List.{AllByRecursion}
use Rattle.std.specs.List.Sorted.{IsStrictlySortedBy}
use Rattle.std.specs.Map.{keys_of, lookup}
use Rattle.std.specs.BTreeMap.{insert_entry, is_at}
use Rattle.std.specs.Ordering.{match_ordering, is_eq}
use Rattle.std.specs.declared.cmp.Ordering.{Ordering}
use Rattle.std.specs.declared.cmp.Ordering.TheVariants.{Less, Equal, Greater}
use Rattle.std.specs.Cmp.Lexicographic.{nat_list_cmp_total}
use Rattle.word_counts.specs.Counts.{order, counted, count_in}

abbrev pub by : Vec ℕ Global → Vec ℕ Global → Ordering
by x y = order x.items y.items

abbrev pub view : List (Vec ℕ Global × ℕ) → List (List ℕ × ℕ)
view es = map (λ e. (e.0.items, e.1)) es

-- a word below all keys is not found
not_found : (k e : Vec ℕ Global) (es : List (Vec ℕ Global × ℕ)) → by k e ≡ Less → AllByRecursion (λ y. by e y ≡ Less) (keys_of es) → lookup (is_at (by k)) es ≡ None
not_found k e [] less all = refl
not_found k e (x ∷ es) less all =
    let below : by k x.0 ≡ Less = nat_list_cmp_total.trans k.items e.items x.0.items less all.0 in
    ap (λ o. cond (is_eq o) (Some x.1) (lookup (is_at (by k)) es)) below ∙ not_found k e es less all.1

-- what a map finds is the count
pub found : (k : Vec ℕ Global) (es : List (Vec ℕ Global × ℕ)) → IsStrictlySortedBy by (keys_of es) → unwrap_or (lookup (is_at (by k)) es) 0 ≡ count_in (view es) k.items
unfolding IsStrictlySortedBy
found k [] sorted = refl
found k (e ∷ es) sorted = step (by k e.0) refl (found k es sorted.1)
  where
    step : (o : Ordering) → by k e.0 ≡ o → unwrap_or (lookup (is_at (by k)) es) 0 ≡ count_in (view es) k.items → unwrap_or (cond (is_eq o) (Some e.1) (lookup (is_at (by k)) es)) 0 ≡ match_ordering o 0 e.1 (count_in (view es) k.items)
    step Less is rest = ap (λ (found : Option ℕ). unwrap_or found 0) (not_found k e.0 es is sorted.0)
    step Equal is rest = refl
    step Greater is rest = rest

-- an insertion of one more than the count counts the word
pub inserted : (k : Vec ℕ Global) (es : List (Vec ℕ Global × ℕ)) → view (insert_entry by es k (count_in (view es) k.items + 1)) ≡ counted (view es) k.items
inserted k [] = refl
inserted k (e ∷ es) = step (by k e.0) (inserted k es)
  where
    step : (o : Ordering) → view (insert_entry by es k (count_in (view es) k.items + 1)) ≡ counted (view es) k.items → (let n : ℕ = match_ordering o 0 e.1 (count_in (view es) k.items) + 1 in view (match_ordering o ((k, n) ∷ e ∷ es) ((e.0, n) ∷ es) (e ∷ insert_entry by es k n)))
        ≡ match_ordering o ((k.items, 1) ∷ view (e ∷ es)) ((e.0.items, e.1 + 1) ∷ view es) ((e.0.items, e.1) ∷ counted (view es) k.items)
    step Less rest = refl
    step Equal rest = refl
    step Greater rest = ap (λ l. (e.0.items, e.1) ∷ l) rest

pub none_left : {X : Type 0} (l : List X) → length l ≡ 0 → l ≡ []
none_left [] is = refl
none_left (x ∷ l) is = absurd (omega (arith, is))
