-- Items without those that make no leaf.
use Rattle.std.proofs.Common.{rules, Vec, Global, ◌≡◌, ℕ, zero, suc, ◌+◌, ◌<◌, List, [], ◌∷◌, length, get_or, set, filter, Bool, true, false, refl, sym, ap, ◌∙◌, subst, arith}
use Rattle.std.proofs.lemmas.Bool.{ne_eqb}
use Rattle.std.specs.Prelude.{◌||◌, ◌&&◌, ◌==◌, not, nat_lt, if◌then◌else◌}
use Rattle.job_syntax.specs.declared.item.Item.{Item, Block}
use Rattle.job_syntax.specs.declared.item.BlockKind.{BlockKind as CodeBlockKind}
use Rattle.job_syntax.specs.Grammar.{Items, nothing, leaf_then, block_then, BlockKind, ◌then◌}
use Rattle.job_syntax.specs.Blocks.{copies_of}
use Rattle.job_syntax.specs.declared.item.Item.TheOpen.{Item-F}
use Rattle.job_syntax.specs.Views.{items_of, item_of, item_step, one_after_another, block_kind_of}
use Rattle.job_lang.specs.Code.Pruning.{is_nothing, full_block_then, only_full, without_empty}
use Rattle.job_syntax.proofs.ParserLemmas.Levels.{level_of, item_of_block}

block_then_by : (empty : Bool) (kind : BlockKind) (body more last : Items) → (if empty then more else block_then kind body more) then last ≡ (if empty then more then last else block_then kind body (more then last))
block_then_by true kind body more last = refl
block_then_by false kind body more last = refl

pub without_empty_then : (a b : Items) → without_empty (a then b) ≡ without_empty a then without_empty b
without_empty_then nothing b = refl
without_empty_then (leaf_then leaf a) b = ap (λ x. leaf_then leaf x) (without_empty_then a b)
without_empty_then (block_then kind body a) b =
    ap (full_block_then kind (without_empty body)) (without_empty_then a b)
    ∙ sym (block_then_by (is_nothing (without_empty body) || copies_of kind == 0) kind (without_empty body) (without_empty a) (without_empty b))

step_is_something : (x : Item-F Items) (more : Items) → is_nothing (item_step x then more) ≡ false
step_is_something (Item-F.Leaf leaf) more = refl
step_is_something (Item-F.Let name call) more = refl
step_is_something (Item-F.Block kind inside) more = refl

item_is_something : (x : Item) (more : Items) → is_nothing (item_of x then more) ≡ false
item_is_something x more = let level = level_of x in ap (λ y. is_nothing (y then more)) level.1 ∙ step_is_something level.0 more

pub emptiness : (xs : List Item) → is_nothing (items_of xs) ≡ (length xs == 0)
emptiness [] = refl
emptiness (x ∷ xs) = item_is_something x (items_of xs) ∙ sym (ne_eqb (suc (length xs)) 0 (λ none. omega (arith, none)))

only_full_then : (a b : Items) → only_full (a then b) ≡ only_full a then only_full b
only_full_then nothing b = refl
only_full_then (leaf_then leaf a) b = ap (λ x. leaf_then leaf x) (only_full_then a b)
only_full_then (block_then kind body a) b =
    ap (full_block_then kind body) (only_full_then a b)
    ∙ sym (block_then_by (is_nothing body || copies_of kind == 0) kind body (only_full a) (only_full b))

-- whether pruning keeps an item
abbrev pub is_full : Item → Bool
is_full x = not (is_nothing (only_full (item_of x)))

block_is_full : (empty : Bool) (kind : BlockKind) (body : Items) → not (is_nothing (if empty then nothing else block_then kind body nothing)) ≡ not empty
block_is_full true kind body = refl
block_is_full false kind body = refl

not_none : (n : ℕ) → not (n == 0) ≡ nat_lt 0 n
not_none zero = refl
not_none (suc n) = search rules

neither : (empty : Bool) (n : ℕ) → not (empty || n == 0) ≡ (not empty && nat_lt 0 n)
neither true n = refl
neither false n = not_none n

pub full_block : (x : Item) (kind : CodeBlockKind) (inside : Vec Item Global) (empty : Bool) → x ≡ Block kind inside → empty ≡ (length inside.items == 0) → is_full x ≡ (not empty && nat_lt 0 (copies_of (block_kind_of kind)))
full_block x kind inside empty is found =
    ap is_full is ∙ ap (λ items. not (is_nothing (only_full items))) (item_of_block kind inside)
    ∙ block_is_full (is_nothing (items_of inside.items) || copies_of (block_kind_of kind) == 0) (block_kind_of kind) (items_of inside.items)
    ∙ ap (λ none. not (none || copies_of (block_kind_of kind) == 0)) (emptiness inside.items ∙ sym found)
    ∙ neither empty (copies_of (block_kind_of kind))

full_or_nothing : (empty : Bool) (block : Items) → is_nothing block ≡ false → (if empty then nothing else block) ≡ (if not (is_nothing (if empty then nothing else block)) then block else nothing)
full_or_nothing true block some = refl
full_or_nothing false block some = sym (ap (λ none. if not none then block else nothing) some)

step_stays : (x : Item-F Items) → only_full (item_step x) ≡ (if not (is_nothing (only_full (item_step x))) then item_step x else nothing)
step_stays (Item-F.Leaf leaf) = refl
step_stays (Item-F.Let name call) = refl
step_stays (Item-F.Block kind inside) =
    full_or_nothing (is_nothing (one_after_another inside.items) || copies_of (block_kind_of kind) == 0) (block_then (block_kind_of kind) (one_after_another inside.items) nothing) refl

item_stays : (x : Item) → only_full (item_of x) ≡ (if is_full x then item_of x else nothing)
item_stays x =
    let level = level_of x in
    subst (λ items. only_full items ≡ (if not (is_nothing (only_full items)) then items else nothing)) (sym level.1) (step_stays level.0)

first_stays : (stays : Bool) (x : Item) (more : List Item) → items_of (if stays then x ∷ more else more) ≡ (if stays then item_of x else nothing) then items_of more
first_stays true x more = refl
first_stays false x more = refl

pub full_items : (xs : List Item) → items_of (filter is_full xs) ≡ only_full (items_of xs)
full_items [] = refl
full_items (x ∷ xs) =
    first_stays (is_full x) x (filter is_full xs) ∙ ap (λ first. first then items_of (filter is_full xs)) (sym (item_stays x))
    ∙ ap (λ more. only_full (item_of x) then more) (full_items xs) ∙ sym (only_full_then (item_of x) (items_of xs))

-- the first `i` items are pruned inside, and the others are unchanged
abbrev pub ArePrunedInside : ℕ → List Item → List Item → Type 0
ArePrunedInside zero now old = now ≡ old
ArePrunedInside (suc i) [] old = ⊥
ArePrunedInside (suc i) (y ∷ now) [] = ⊥
ArePrunedInside (suc i) (y ∷ now) (x ∷ old) = (only_full (item_of y) ≡ without_empty (item_of x)) × ArePrunedInside i now old

next_inside : (i : ℕ) (now old : List Item) (x y : Item) → ArePrunedInside i now old → i < length now → x ≡ get_or now i x → only_full (item_of y) ≡ without_empty (item_of x) → ArePrunedInside (suc i) (set now i y) old
next_inside zero [] old x y pruned within is same = absurd (omega (arith, within))
next_inside zero (z ∷ now) old x y pruned within is same =
    subst (ArePrunedInside 1 (y ∷ now)) pruned (subst (λ item. only_full (item_of y) ≡ without_empty (item_of item)) is same, refl)
next_inside (suc i) [] old x y pruned within is same = absurd pruned
next_inside (suc i) (z ∷ now) [] x y pruned within is same = absurd pruned
next_inside (suc i) (z ∷ now) (w ∷ old) x y pruned within is same =
    (pruned.0, next_inside i now old x y pruned.1 (omega (arith, within)) is same)

pub one_more_inside : (i : ℕ) (now old : List Item) (x y : Item) → ArePrunedInside i now old → i < length now → x ≡ get_or now i x → only_full (item_of y) ≡ without_empty (item_of x) → ArePrunedInside (i + 1) (set now i y) old
one_more_inside i now old x y pruned within is same =
    let next : suc i ≡ i + 1 = omega arith in
    subst (λ n. ArePrunedInside n (set now i y) old) next (next_inside i now old x y pruned within is same)

pub all_inside : (now old : List Item) → ArePrunedInside (length now) now old → only_full (items_of now) ≡ without_empty (items_of old)
all_inside [] old pruned = ap (λ xs. without_empty (items_of xs)) pruned
all_inside (y ∷ now) [] pruned = absurd pruned
all_inside (y ∷ now) (x ∷ old) pruned =
    only_full_then (item_of y) (items_of now) ∙ ap (λ first. first then only_full (items_of now)) pruned.0
    ∙ ap (λ more. without_empty (item_of x) then more) (all_inside now old pruned.1)
    ∙ sym (without_empty_then (item_of x) (items_of old))
