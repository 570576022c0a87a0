-- The replies to pops that find an item, by the items' places.
use Rattle.std.proofs.Common.{◌≡◌, ℕ, zero, suc, ◌+◌, ◌-◌, ◌/◌, ◌%◌, ◌<◌, ◌≤◌, List, [], ◌∷◌, ◌++◌, length, drop, reverse, replicate, get_or, refl, sym, ap, ◌∙◌, length-take-le, arith}
use Rattle.std.proofs.lemmas.List.{get_or-take, get_or-drop, get_or-reverse, length-drop}
use Rattle.std.proofs.lemmas.List.FromFn.{fill_by_all}
use Rattle.std.proofs.lemmas.Option.{slice_get-get_or}
use Rattle.seq_objects.specs.declared.reply.Reply.{Reply}
use Rattle.seq_objects.specs.declared.reply.Reply.TheVariants as reply
use Rattle.seq_objects.specs.Objects.{top, without_top, number_or_empty}
use Rattle.batched_stack.specs.Stripes.{stripe_length, stripe}
use Rattle.batched_stack.specs.Code.End.{popped_item, number_replies}
use Rattle.batched_stack.proofs.StripeLemmas.Striped.{item_at, length_stripe}
use Rattle.batched_stack.proofs.Serial.{pop_replies}

-- the last items, the last one first
abbrev pub back : List ℕ → ℕ → List Reply
back items zero = []
back items (suc count) = reply.Number (get_or items (length items - 1) 0) ∷ back (without_top items) count

top_length : (items : List ℕ) → length (without_top items) ≡ length items - 1
top_length items = length-take-le (length items - 1) items (omega arith)

top_is : (items : List ℕ) → 0 < length items
    → number_or_empty (top items) ≡ reply.Number (get_or items (length items - 1) 0)
top_is items some = ap number_or_empty (slice_get-get_or items (length items - 1) 0 (omega (arith, some)))

found_one : (len pops : ℕ) → 0 < len → len - (len - suc pops) ≡ suc (len - 1 - (len - 1 - pops))
found_one len pops some = omega (arith, some)

some_pop : (items : List ℕ) (pops : ℕ) → 0 < length items
    → pop_replies (without_top items) pops ≡ back (without_top items) (length (without_top items) - (length (without_top items) - pops)) ++ replicate (pops - (length (without_top items) - (length (without_top items) - pops))) reply.Empty
    → number_or_empty (top items) ∷ pop_replies (without_top items) pops ≡ back items (length items - (length items - suc pops)) ++ replicate (suc pops - (length items - (length items - suc pops))) reply.Empty
some_pop items pops some later =
    let later' = rw (top_length items) at later in
    let rest : suc pops - suc (length items - 1 - (length items - 1 - pops)) ≡ pops - (length items - 1 - (length items - 1 - pops)) = omega arith in
    rw (found_one (length items) pops some, rest, top_is items some) (ap (λ rs. reply.Number (get_or items (length items - 1) 0) ∷ rs) later')

-- the replies to pops: numbers while there are items, and then empty
pub pop_replies_are : (items : List ℕ) (pops : ℕ)
    → pop_replies items pops ≡ back items (length items - (length items - pops)) ++ replicate (pops - (length items - (length items - pops))) reply.Empty
pop_replies_are items zero = let none : length items - (length items - 0) ≡ 0 = omega arith in rw none refl
pop_replies_are [] (suc pops) =
    let none : 0 - (0 - pops) ≡ 0 = omega arith in
    let none' : 0 - (0 - suc pops) ≡ 0 = omega arith in
    let all : pops - 0 ≡ pops = omega arith in
    let all' : suc pops - 0 ≡ suc pops = omega arith in
    let later = rw (none, all) at (pop_replies_are [] pops) in
    rw (none', all') (ap (λ rs. reply.Empty ∷ rs) later)
pop_replies_are (item ∷ items) (suc pops) = some_pop (item ∷ items) pops (omega arith) (pop_replies_are (without_top (item ∷ items)) pops)

length_back : (items : List ℕ) (count : ℕ) → length (back items count) ≡ count
length_back items zero = refl
length_back items (suc count) = omega (arith, length_back (without_top items) count)

get_back : (items : List ℕ) (count i : ℕ) (d : Reply) → count ≤ length items → i < count
    → get_or (back items count) i d ≡ reply.Number (get_or items (length items - 1 - i) 0)
get_back items zero i d few less = absurd (omega (arith, less))
get_back items (suc count) zero d few less = let same : length items - 1 - 0 ≡ length items - 1 = omega arith in rw same refl
get_back items (suc count) (suc i) d few less =
    let long = top_length items in
    let at = get_back (without_top items) count i d (omega (arith, long, few)) (omega (arith, less)) in
    let same : length items - 1 - 1 - i ≡ length items - 1 - suc i = omega arith in
    at ∙ rw long (ap reply.Number (get_or-take (length items - 1) items (length items - 1 - 1 - i) 0 (omega (arith, few, less)) ∙ ap (λ k. get_or items k 0) same))

height_below : (p total : ℕ) → p < total → p / 16 < stripe_length (p % 16) total
height_below p total less = omega (arith, less)

height_above : (p left : ℕ) → left ≤ p → stripe_length (p % 16) left ≤ p / 16
height_above p left above = omega (arith, above)

-- among the popped items, item p is the item at its place
item_popped : (popped : List (List ℕ)) (items : List ℕ) (left p : ℕ) → ((j : ℕ) → j < 16
    → get_or popped j [] ≡ reverse (drop (stripe_length j left) (stripe j items))) → left ≤ p
    → p < length items → popped_item popped (length items) p ≡ get_or items p 0
item_popped popped items left p each above below =
    let j = p % 16 in
    let own = stripe j items in
    let a = stripe_length j left in
    let k = stripe_length j (length items) - 1 - p / 16 in
    let low : j < 16 = omega arith in
    let long : length own ≡ stripe_length j (length items) = length_stripe j items in
    let cut : length (drop a own) ≡ stripe_length j (length items) - a = length-drop a own ∙ ap (λ n. n - a) long in
    let high = height_below p (length items) below in
    let deep = height_above p left above in
    let turned : length (drop a own) - 1 - k ≡ p / 16 - a = rw cut (omega (arith, high, deep)) in
    let up : a + (p / 16 - a) ≡ p / 16 = omega (arith, deep) in
    ap (λ xs. get_or xs k 0) (each j low)
    ∙ get_or-reverse (drop a own) k 0 (rw cut (omega (arith, high, deep)))
    ∙ ap (λ i. get_or (drop a own) i 0) turned
    ∙ get_or-drop a own (p / 16 - a) 0
    ∙ ap (λ i. get_or own i 0) up
    ∙ item_at p items below

pub back_is : (popped : List (List ℕ)) (items : List ℕ) (left count : ℕ) → ((j : ℕ) → j < 16
    → get_or popped j [] ≡ reverse (drop (stripe_length j left) (stripe j items)))
    → count + left ≤ length items → back items count ≡ number_replies popped (length items) count
back_is popped items left count each few =
    fill_by_all (λ i. reply.Number (popped_item popped (length items) (length items - 1 - i))) (back items count) count reply.Empty (length_back items count) (λ i less.
    get_back items count i reply.Empty (omega (arith, few)) less ∙ ap reply.Number (sym (item_popped popped items left (length items - 1 - i) each (omega (arith, few, less)) (omega (arith, few, less)))))
