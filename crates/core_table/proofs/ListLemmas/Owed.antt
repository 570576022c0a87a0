-- The owed workers of a hold after each of its steps, and the rotation of their slots.
use Rattle.std.proofs.Common.{ℕ, zero, suc, ◌≡◌, ◌≢◌, ◌<◌, ◌≤◌, ◌+◌, ◌-◌, ◌==◌, if◌then◌else◌, Bool, true, false, Option as Maybe, None, Some, List, [], ◌∷◌, ◌++◌, length, get_or, take, drop, arith, refl, sym, ap, ◌∙◌, subst, inl, inr, length-append, append_assoc}
use Rattle.std.specs.List.{AllByRecursion}
use Rattle.std.proofs.lemmas.List.{append-nil, map-append, length-map}
use Rattle.std.proofs.lemmas.Bool.{cases_eq}
use Rattle.std.proofs.lemmas.Bool.Decides.{nat_tests}
use Rattle.atomic_table.specs.Table.{turned}
use Rattle.seq_objects.specs.Pairs.{AreDistinct}
use Rattle.batch_history.specs.declared.batch.Entry.{Entry}
use Rattle.table_rule.specs.declared.slot.OpRecord.{OpRecord}
use Rattle.table_rule.specs.declared.slot.Slot.{Slot}
use Rattle.table_rule.specs.declared.slot.Slot.TheVariants as Slots
use Rattle.seq_objects.specs.declared.call.Call.{Call}
use Rattle.table_rule.specs.declared.view.HoldView.{HoldView}
use Rattle.table_rule.specs.declared.view.View.{View}
use Rattle.table_rule.specs.Shows.{took_in, among}
use Rattle.table_rule.specs.Passes.{call_by, without_first, new_hold, after_take, after_pass, after_publish, after_answer}
use Rattle.table_rule.specs.HoldsSlots.{vacant}
use Rattle.table_rule.specs.TracksHold.{Owes, TracksHold}
use Rattle.core_table.specs.Code.Rotations.{rotated, IsFirstAt}
use Rattle.seq_objects.proofs.Elements.{each_so}
use Rattle.table_rule.proofs.ListLemmas.Last.{took_put, among_put, distinct_last}
use Rattle.table_rule.proofs.TableLemmas.Facts.{true_is_false}
use Rattle.std.proofs.lemmas.Option.{same_Some}
use Rattle.core_model.proofs.BookLemmas.OwnEntries.{if_other, if_same}

-- membership in a list with one more at its end
among_front : (xs ys : List ℕ) (v : ℕ) → among xs v ≡ true → among (xs ++ ys) v ≡ true
among_front [] ys v e = absurd (cc)
among_front (x ∷ xs) ys v e = let more = among_front xs ys v in grind (arith, nat_tests, more)

among_last : (xs : List ℕ) (u : ℕ) → among (xs ++ u ∷ []) u ≡ true
among_last [] u = if_same u u true false refl
among_last (x ∷ xs) u = let more = among_last xs u in grind (arith, nat_tests, more)

among_either : (xs : List ℕ) (u v : ℕ) → among (xs ++ u ∷ []) v ≡ true → v ≢ u → among xs v ≡ true
among_either [] u v e ne = absurd (true_is_false (if v == u then true else false) e (if_other v u true false ne))
among_either (x ∷ xs) u v e ne = let more = among_either xs u v in grind (arith, nat_tests, more)

-- membership after the first occurrence of a number is removed
among_without : (xs : List ℕ) (u v : ℕ) → v ≢ u → among xs v ≡ true → among (without_first u xs) v ≡ true
among_without [] u v ne e = e
among_without (x ∷ xs) u v ne e = elim (cases_eq x u) [
  | inl is ↦ let f : among xs v ≡ true = sym (if_other v x true (among xs v) (λ g. ne (g ∙ is))) ∙ e in rw (if_same x u xs (x ∷ without_first u xs) is) f
  | inr other ↦ rw (if_other x u xs (x ∷ without_first u xs) other) (elim (cases_eq v x) [
    | inl is ↦ if_same v x true (among (without_first u xs) v) is
    | inr apart ↦ if_other v x true (among (without_first u xs) v) apart ∙ among_without xs u v ne (sym (if_other v x true (among xs v) apart) ∙ e)
  ])
]

within : (xs : List ℕ) (u v : ℕ) → among (without_first u xs) v ≡ true → among xs v ≡ true
within [] u v e = e
within (x ∷ xs) u v e = elim (cases_eq v x) [
  | inl is ↦ if_same v x true (among xs v) is
  | inr apart ↦ if_other v x true (among xs v) apart ∙ elim (cases_eq x u) [
    | inl is ↦ rw (if_same x u xs (x ∷ without_first u xs) is) at e
    | inr other ↦ let f = rw (if_other x u xs (x ∷ without_first u xs) other) at e in within xs u v (sym (if_other v x true (among (without_first u xs) v) apart) ∙ f)
  ]
]

not_among : (xs : List ℕ) (u : ℕ) → AllByRecursion (λ y. u ≢ y) xs → among xs u ≡ false
not_among [] u h = refl
not_among (x ∷ xs) u h = if_other u x true (among xs u) h.0 ∙ not_among xs u h.1

gone : (xs : List ℕ) (u : ℕ) → AreDistinct xs → among (without_first u xs) u ≡ false
gone [] u h = refl
gone (x ∷ xs) u h = elim (cases_eq x u) [
  | inl is ↦ rw (if_same x u xs (x ∷ without_first u xs) is) (not_among xs u (each_so (λ y. x ≢ y) (λ y. u ≢ y) (λ y ne e. ne (is ∙ e)) xs h.0))
  | inr other ↦ rw (if_other x u xs (x ∷ without_first u xs) other) (if_other u x true (among (without_first u xs) u) (λ e. other (sym e)) ∙ gone xs u h.1)
]

each_without : (P : ℕ → Type 0) (xs : List ℕ) (u : ℕ) → AllByRecursion P xs → AllByRecursion P (without_first u xs)
each_without P [] u h = h
each_without P (x ∷ xs) u h = elim (cases_eq x u) [
  | inl is ↦ rw (if_same x u xs (x ∷ without_first u xs) is) h.1
  | inr other ↦ rw (if_other x u xs (x ∷ without_first u xs) other) (h.0, each_without P xs u h.1)
]

distinct_without : (xs : List ℕ) (u : ℕ) → AreDistinct xs → AreDistinct (without_first u xs)
distinct_without [] u h = h
distinct_without (x ∷ xs) u h = elim (cases_eq x u) [
  | inl is ↦ rw (if_same x u xs (x ∷ without_first u xs) is) h.1
  | inr other ↦ rw (if_other x u xs (x ∷ without_first u xs) other) (each_without (λ y. x ≢ y) xs u h.0, distinct_without xs u h.1)
]

later : (y x : ℕ) (xs : List ℕ) → among xs y ≡ true → among (x ∷ xs) y ≡ true
later y x xs e = grind (arith, nat_tests)

each_among : (P : ℕ → Type 0) (xs : List ℕ) → ((y : ℕ) → among xs y ≡ true → P y) → AllByRecursion P xs
each_among P [] h = tt
each_among P (x ∷ xs) h = (h x (if_same x x true (among xs x) refl), each_among P xs (λ y e. h y (later y x xs e)))

fewer : (xs : List ℕ) (u : ℕ) → length (without_first u xs) ≤ length xs
fewer [] u = omega arith
fewer (x ∷ xs) u = elim (cases_eq x u) [
  | inl is ↦ rw (if_same x u xs (x ∷ without_first u xs) is) (omega arith)
  | inr other ↦ let more = fewer xs u in rw (if_other x u xs (x ∷ without_first u xs) other) (omega (arith, more))
]

-- a hold just won owes no receipt
pub owes_new : (book : List (List Entry)) → Owes (new_hold book)
owes_new book = record {
  each = λ u e f. absurd (true_is_false false e refl);
  only = λ u e. absurd (true_is_false false e refl);
  distinct = tt;
  few = omega arith;
  below = λ u e. absurd (true_is_false false e refl);
  early = λ e. refl;
}

took_either : (v : ℕ) (call : Call) (taken : List Call) → took_in (taken ++ call ∷ []) v ≡ true → v ≢ call.worker → took_in taken v ≡ true
took_either v call taken e ne = sym (if_other v call.worker true (took_in taken v) ne) ∙ (sym (took_put taken call v) ∙ e)

-- after a take it owes one more
pub owes_taken : (h : HoldView) (call : OpRecord) → h.published ≡ false → Owes h → Owes (after_take (call_by h.looks call) h)
owes_taken h call unpublished o =
    let u = h.looks in
    let mine = call_by u call in
    let long = length-append h.owed (u ∷ []) in record {
      each = λ v took yet. elim (cases_eq v u) [
        | inl is ↦ subst (λ y. among (h.owed ++ u ∷ []) y ≡ true) (sym is) (among_last h.owed u)
        | inr ne ↦ among_front h.owed (u ∷ []) v (o.each v (took_either v mine h.taken took ne) yet)
      ];
      only = λ v e. elim (cases_eq v u) [
        | inl is ↦ (took_put h.taken mine v ∙ if_same v u true (took_in h.taken v) is, rw (o.early unpublished) refl)
        | inr ne ↦ let was = o.only v (among_either h.owed u v e ne) in (took_put h.taken mine v ∙ (if_other v u true (took_in h.taken v) ne ∙ was.0), was.1)
      ];
      distinct = distinct_last h.owed u o.distinct (each_among (λ y. y ≢ u) h.owed (λ y e is. let low = o.below y (o.only y e).0 in absurd (omega (arith, low, is))));
      few = omega (arith, long, o.few);
      below = λ v took. elim (cases_eq v u) [
        | inl is ↦ omega (arith, is)
        | inr ne ↦ let low = o.below v (took_either v mine h.taken took ne) in omega (arith, low)
      ];
      early = o.early;
    }

pub owes_passed : (h : HoldView) (status : ℕ) → Owes h → Owes (after_pass status h)
owes_passed h status o = record { each = o.each; only = o.only; distinct = o.distinct; few = omega (arith, o.few); below = λ v took. let low = o.below v took in omega (arith, low); early = o.early }

pub owes_published : (h : HoldView) (batch : List Entry) → Owes h → Owes (after_publish batch h)
owes_published h batch o = record { each = o.each; only = o.only; distinct = o.distinct; few = o.few; below = o.below; early = λ e. absurd (true_is_false true refl e) }

-- after an answer it owes one less
pub owes_answered : (h : HoldView) (u : ℕ) → h.published ≡ true → Owes h → Owes (after_answer u h)
owes_answered h u published o =
    let less = fewer h.owed u in record {
      each = λ v took yet. elim (cases_eq v u) [
        | inl is ↦ absurd (true_is_false (among (h.answered ++ u ∷ []) v) (among_put h.answered u v ∙ if_same v u true (among h.answered v) is) yet)
        | inr ne ↦ among_without h.owed u v ne (o.each v took (sym (if_other v u true (among h.answered v) ne) ∙ (sym (among_put h.answered u v) ∙ yet)))
      ];
      only = λ v e. elim (cases_eq v u) [
        | inl is ↦ absurd (true_is_false (among (without_first u h.owed) u) (subst (λ y. among (without_first u h.owed) y ≡ true) is e) (gone h.owed u o.distinct))
        | inr ne ↦ let was = o.only v (within h.owed u v e) in (was.0, among_put h.answered u v ∙ (if_other v u true (among h.answered v) ne ∙ was.1))
      ];
      distinct = distinct_without h.owed u o.distinct;
      few = omega (arith, less, o.few);
      below = o.below;
      early = λ e. absurd (true_is_false h.published published e);
    }

none_owed : (xs : List ℕ) → ((u : ℕ) → among xs u ≡ true → ⊥) → xs ≡ []
none_owed [] h = refl
none_owed (x ∷ xs) h = absurd (h x (if_same x x true (among xs x) refl))

-- it owes none once every taken worker is answered
pub owes_nobody : (h : HoldView) → Owes h → ((u : ℕ) → took_in h.taken u ≡ true → among h.answered u ≡ true) → h.owed ≡ []
owes_nobody h o all = none_owed h.owed (λ u e. true_is_false (among h.answered u) (all u (o.only u e).0) (o.only u e).1)

held_some : (a : Maybe HoldView) (h : HoldView) → a ≡ Some h → a ≡ None → ⊥
held_some a h e f = absurd (cc)

-- `TracksHold` after a call that does not change the hold
pub remembers_kept : (v w : View) (owed : List ℕ) (published : Bool) → w.own.hold ≡ v.own.hold → TracksHold v owed published → TracksHold w owed published
remembers_kept v w owed published same m = record { none = λ e. m.none (sym same ∙ e); holds = λ h e. m.holds h (sym same ∙ e) }

-- after one that sets the hold, and after one that clears it
pub remembers_hold : (w : View) (owed : List ℕ) (published : Bool) (h : HoldView) → w.own.hold ≡ Some h → owed ≡ h.owed → published ≡ h.published → Owes h → TracksHold w owed published
remembers_hold w owed published h holds same told o = record {
  none = λ e. absurd (held_some w.own.hold h holds e);
  holds = λ g e. subst (λ (z : HoldView). (owed ≡ z.owed) × (published ≡ z.published) × Owes z) (same_Some h g (sym holds ∙ e)) (same, told, o);
}

pub remembers_none : (w : View) (owed : List ℕ) (published : Bool) → w.own.hold ≡ None → owed ≡ [] → TracksHold w owed published
remembers_none w owed published nothing empty = record { none = λ _. empty; holds = λ h e. absurd (held_some w.own.hold h e nothing) }

-- rotation
turned_last : (x : ℕ × Slot) (xs ys : List (ℕ × Slot)) → turned ((x ∷ xs) ++ ys) ≡ xs ++ (ys ++ x ∷ [])
turned_last x xs ys = append_assoc xs ys (x ∷ [])

turned_first : (n : ℕ) (xs : List (ℕ × Slot)) → rotated n (turned xs) ≡ turned (rotated n xs)
turned_first zero xs = refl
turned_first (suc n) xs = ap turned (turned_first n xs)

-- `length xs` rotations bring xs to the back
pub rotated_all : (xs ys : List (ℕ × Slot)) → rotated (length xs) (xs ++ ys) ≡ ys ++ xs
rotated_all [] ys = sym (append-nil ys)
rotated_all (x ∷ xs) ys =
    sym (turned_first (length xs) ((x ∷ xs) ++ ys)) ∙ (ap (rotated (length xs)) (turned_last x xs ys) ∙ (rotated_all xs (ys ++ x ∷ []) ∙ append_assoc ys (x ∷ []) xs))

-- the first occurrence of a number satisfies `IsFirstAt`
pub first_at : (xs : List ℕ) (u i : ℕ) → i < length xs → get_or xs i 0 ≡ u → among (take i xs) u ≡ false → IsFirstAt xs u i
first_at [] u i low is yet = absurd (omega (arith, low))
first_at (x ∷ xs) u zero low is yet = record { low = low; split = ap (λ y. y ∷ xs) is; rest = if_same x u xs (x ∷ without_first u xs) is }
first_at (x ∷ xs) u (suc i) low is yet =
    let other : u ≢ x = λ e. true_is_false (if u == x then true else among (take i xs) u) (if_same u x true (among (take i xs) u) e) yet in
    let more = first_at xs u i (omega (arith, low)) is (sym (if_other u x true (among (take i xs) u) other) ∙ yet) in record {
      low = low;
      split = ap (λ l. x ∷ l) more.split;
      rest = if_other x u xs (x ∷ without_first u xs) (λ e. other (sym e)) ∙ ap (λ l. x ∷ l) more.rest;
    }

pub among_next : (xs : List ℕ) (i u : ℕ) → i < length xs → get_or xs i 0 ≢ u → among (take i xs) u ≡ false → among (take (i + 1) xs) u ≡ false
among_next [] i u low ne yet = absurd (omega (arith, low))
among_next (x ∷ xs) zero u low ne yet = if_other u x true false (λ e. ne (sym e))
among_next (x ∷ xs) (suc i) u low ne yet =
    let other : u ≢ x = λ e. true_is_false (if u == x then true else among (take i xs) u) (if_same u x true (among (take i xs) u) e) yet in
    let more = among_next xs i u (omega (arith, low)) ne (sym (if_other u x true (among (take i xs) u) other) ∙ yet) in
    let next : suc i + 1 ≡ suc (i + 1) = omega arith in
    ap (λ n. among (take n (x ∷ xs)) u) next ∙ (if_other u x true (among (take (i + 1) xs) u) other ∙ more)

pub all_passed : (xs : List ℕ) (i u : ℕ) → length xs ≤ i → among (take i xs) u ≡ false → among xs u ≡ true → ⊥
all_passed [] i u all yet is = absurd (true_is_false false is refl)
all_passed (x ∷ xs) zero u all yet is = absurd (omega (arith, all))
all_passed (x ∷ xs) (suc i) u all yet is =
    let other : u ≢ x = λ e. true_is_false (if u == x then true else among (take i xs) u) (if_same u x true (among (take i xs) u) e) yet in
    all_passed xs i u (omega (arith, all)) (sym (if_other u x true (among (take i xs) u) other) ∙ yet) (sym (if_other u x true (among xs u) other) ∙ is)

length_front : (xs : List ℕ) (i : ℕ) → i ≤ length xs → length (take i xs) ≡ i
length_front xs zero low = refl
length_front [] (suc i) low = absurd (omega (arith, low))
length_front (x ∷ xs) (suc i) low = let more = length_front xs i (omega (arith, low)) in omega (arith, more)

length_behind : (xs : List ℕ) (i : ℕ) → i < length xs → length (drop (suc i) xs) + 1 ≡ length xs - i
length_behind [] i low = absurd (omega (arith, low))
length_behind (x ∷ xs) zero low = omega arith
length_behind (x ∷ xs) (suc i) low = let more = length_behind xs i (omega (arith, low)) in omega (arith, more)

vacant_append : (xs ys : List ℕ) → vacant (xs ++ ys) ≡ vacant xs ++ vacant ys
vacant_append xs ys = rw map-append refl

-- i rotations bring the slot of u to the head
pub to_front : (owed : List ℕ) (u i : ℕ) (last : ℕ × Slot) → IsFirstAt owed u i
    → rotated i (vacant owed ++ last ∷ []) ≡ (u, Slots.Vacant) ∷ ((vacant (drop (suc i) owed) ++ last ∷ []) ++ vacant (take i owed))
to_front owed u i last at =
    let front = take i owed in
    let behind = drop (suc i) owed in
    let long : i ≡ length (vacant front) = let a = length_front owed i (omega (arith, at.low)) in let b = length-map {B = ℕ × Slot} front (λ (u : ℕ). (u, Slots.Vacant)) in omega (arith, a, b) in
    let cut : vacant owed ++ last ∷ [] ≡ vacant front ++ ((u, Slots.Vacant) ∷ (vacant behind ++ last ∷ [])) =
    ap (λ l. vacant l ++ last ∷ []) at.split ∙ (ap (λ l. l ++ last ∷ []) (vacant_append front (u ∷ behind)) ∙ append_assoc (vacant front) (vacant (u ∷ behind)) (last ∷ [])) in
    ap (rotated i) cut ∙ (ap (λ n. rotated n (vacant front ++ ((u, Slots.Vacant) ∷ (vacant behind ++ last ∷ [])))) long ∙ rotated_all (vacant front) ((u, Slots.Vacant) ∷ (vacant behind ++ last ∷ [])))

-- the remaining rotations restore the order of the others
pub to_places : (owed : List ℕ) (u i n : ℕ) (last : ℕ × Slot) → IsFirstAt owed u i → n ≡ length owed - i
    → rotated n ((vacant (drop (suc i) owed) ++ last ∷ []) ++ vacant (take i owed)) ≡ vacant (without_first u owed) ++ last ∷ []
to_places owed u i n last at is =
    let front = take i owed in
    let behind = drop (suc i) owed in
    let long : n ≡ length (vacant behind ++ last ∷ []) =
    let a = length_behind owed i at.low in let b = length-append (vacant behind) (last ∷ []) in let c = length-map {B = ℕ × Slot} behind (λ (u : ℕ). (u, Slots.Vacant)) in omega (arith, a, b, c, is) in
    ap (λ m. rotated m ((vacant behind ++ last ∷ []) ++ vacant front)) long
    ∙ (rotated_all (vacant behind ++ last ∷ []) (vacant front)
    ∙ (sym (append_assoc (vacant front) (vacant behind) (last ∷ [])) ∙ (ap (λ l. l ++ last ∷ []) (sym (vacant_append front behind)) ∙ ap (λ l. vacant l ++ last ∷ []) (sym at.rest))))
