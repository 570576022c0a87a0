-- Dealing items to groups one by one, and merging replies one by one.
use Rattle.std.proofs.Common.{◌≡◌, ℕ, zero, suc, ◌+◌, ◌-◌, ◌<◌, ◌≤◌, inl, inr, ◌⊎◌, true, false, cond, ◌==◌, List, [], ◌∷◌, ◌++◌, length, map, filter, drop, get_or, set, replicate, refl, ap, sym, subst, ◌∙◌, append_assoc, append-nil, arith, length-set, length-drop}
use Rattle.std.specs.List.{AllByRecursion}
use Rattle.std.proofs.lemmas.Bool.{cases_order}
use Rattle.std.proofs.lemmas.Bool.Decides.{nat_tests}
use Rattle.std.proofs.lemmas.List.{length-replicate, get_or-set_same, get_or-set_other}
use Rattle.std.proofs.lemmas.List.FromFn.{fill_by_all}
use Rattle.key_sets.specs.Groups.{group_of}
use Rattle.keyed_pieces.specs.Ranges.{ranges}
use Rattle.keyed_pieces.specs.Dealing.{of_group, dealt, HaveReplies}
use Rattle.keyed_pieces.proofs.Sides.{range_count, range_is}

-- lists after items are dealt to them one by one
abbrev pub with_dealt : {X : Type 0} → List (List X) → List ℕ → List X → List (List X)
with_dealt lists [] items = lists
with_dealt lists (g ∷ groups) [] = lists
with_dealt lists (g ∷ groups) (item ∷ items) = with_dealt (set lists g (get_or lists g [] ++ item ∷ [])) groups items

dealt_length : {X : Type 0} (lists : List (List X)) (groups : List ℕ) (items : List X) → length (with_dealt lists groups items) ≡ length lists
dealt_length lists [] items = refl
dealt_length lists (g ∷ groups) [] = refl
dealt_length lists (g ∷ groups) (item ∷ items) = dealt_length (set lists g (get_or lists g [] ++ item ∷ [])) groups items ∙ length-set lists g (get_or lists g [] ++ item ∷ [])

pub same_or_other : (g j : ℕ) → (g ≡ j) ⊎ ((g == j) ≡ false)
same_or_other g j = elim (cases_order g j) [
  | inl same ↦ inl same
  | inr apart ↦
      let other : g ≡ j → ⊥ = λ e. elim apart [ inl less ↦ omega (arith, e, less) | inr more ↦ omega (arith, e, more) ] in
      inr (grind (arith, nat_tests, other))
]

pub is_same : (j : ℕ) → (j == j) ≡ true
is_same j = grind (arith, nat_tests)

true_not_false : true ≡ false → ⊥
true_not_false e = subst (λ b. cond b Unit ⊥) e tt

pub are_apart : (g j : ℕ) → (g == j) ≡ false → j ≡ g → ⊥
are_apart g j test same = let yes : (g == j) ≡ true = grind (arith, nat_tests, same) in true_not_false (sym yes ∙ test)

dealt_get : {X : Type 0} (lists : List (List X)) (groups : List ℕ) (items : List X) (j : ℕ) → AllByRecursion (λ g. g < length lists) groups → length groups ≡ length items
    → get_or (with_dealt lists groups items) j [] ≡ get_or lists j [] ++ of_group j groups items
dealt_get lists [] items j below same = sym (append-nil (get_or lists j []))
dealt_get lists (g ∷ groups) [] j below same = absurd (omega (arith, same))
dealt_get {X} lists (g ∷ groups) (item ∷ items) j below same =
    let new = get_or lists g [] ++ item ∷ [] in
    let within : AllByRecursion (λ k. k < length (set lists g new)) groups = rw (length-set lists g new) below.1 in
    elim (same_or_other g j) [
      | inl is ↦
          let here : get_or (set lists g new) g [] ≡ new = get_or-set_same lists g new [] below.0 in
          let test : (g == g) ≡ true = is_same g in
          let own : get_or (with_dealt (set lists g new) groups items) g [] ≡ get_or lists g [] ++ of_group g (g ∷ groups) (item ∷ items) =
          rw test (dealt_get (set lists g new) groups items g within (omega (arith, same)) ∙ ap (λ xs. xs ++ of_group g groups items) here ∙ append_assoc (get_or lists g []) (item ∷ []) (of_group g groups items)) in
          subst (λ k. get_or (with_dealt (set lists g new) groups items) k [] ≡ get_or lists k [] ++ of_group k (g ∷ groups) (item ∷ items)) is own
      | inr other ↦
          let rest = dealt_get (set lists g new) groups items j within (omega (arith, same)) in
          let there : get_or (set lists g new) j [] ≡ get_or lists j [] = get_or-set_other lists g j new [] (are_apart g j other) in
          rw other (rest ∙ ap (λ xs. xs ++ of_group j groups items) there)
    ]

empty_get : {X : Type 0} (n j : ℕ) → get_or (replicate {A = List X} n []) j [] ≡ []
empty_get zero j = refl
empty_get (suc n) zero = refl
empty_get (suc n) (suc j) = empty_get n j

pub all_dealt : {X : Type 0} (count : ℕ) (groups : List ℕ) (items : List X) → AllByRecursion (λ g. g < count) groups → length groups ≡ length items
    → with_dealt (replicate count []) groups items ≡ dealt count groups items
all_dealt {X} count groups items below same =
    let long : length (replicate {A = List X} count []) ≡ count = length-replicate {A = List X} count [] in
    fill_by_all (λ j. of_group j groups items) (with_dealt (replicate count []) groups items) count [] (dealt_length (replicate count []) groups items ∙ long)
    (λ j less. dealt_get (replicate count []) groups items j (rw long below) same ∙ ap (λ xs. xs ++ of_group j groups items) (empty_get {X = X} count j))

-- the items of a group, found by a filter
group_is : {O : Type 0} (key : O → ℕ) (starts : List ℕ) (ops : List O) (group : ℕ)
    → filter (λ op. group_of (key op) starts == group) ops ≡ of_group group (map (λ op. group_of (key op) starts) ops) ops
group_is key starts [] group = refl
group_is key starts (op ∷ ops) group = ap (λ rest. cond (group_of (key op) starts == group) (op ∷ rest) rest) (group_is key starts ops group)

pub dealt_is : {O : Type 0} (key : O → ℕ) (starts : List ℕ) (ops : List O)
    → dealt (length starts + 1) (map (λ op. group_of (key op) starts) ops) ops ≡ ranges key starts ops
dealt_is key starts ops =
    sym (fill_by_all (λ group. of_group group (map (λ op. group_of (key op) starts) ops) ops) (ranges key starts ops) (length starts + 1) [] (range_count key starts ops)
    (λ group less. range_is key starts ops group ∙ group_is key starts ops group))

-- if each group has at least as many replies as items, each item finds a reply
pub have_replies : {R : Type 0} (groups : List ℕ) (replies : List (List R)) → AllByRecursion (λ group. group < length replies) groups
    → ((group : ℕ) → group < length replies → length (of_group group groups groups) ≤ length (get_or replies group []))
    → HaveReplies groups replies
have_replies [] replies below enough = tt
have_replies {R} (g ∷ groups) replies below enough =
    let mine = get_or replies g [] in
    let own : suc (length (of_group g groups groups)) ≤ length mine = rw (is_same g) at (enough g below.0) in
    let new = set replies g (drop 1 mine) in
    let long = length-set replies g (drop 1 mine) in (
      below.0,
      omega (arith, own),
      have_replies groups new (rw long below.1)
          (λ j less. elim (same_or_other g j) [
            | inl is ↦
                let here : get_or new g [] ≡ drop 1 mine = get_or-set_same replies g (drop 1 mine) [] below.0 in
                let e : length (drop 1 mine) ≡ length mine - 1 = length-drop 1 mine in
                let fits : length (of_group g groups groups) ≤ length (get_or new g []) = rw (here, e) (omega (arith, own)) in
                subst (λ k. length (of_group k groups groups) ≤ length (get_or new k [])) is fits
            | inr other ↦
                let there : get_or new j [] ≡ get_or replies j [] = get_or-set_other replies g j (drop 1 mine) [] (are_apart g j other) in
                rw there (rw other at (enough j (rw long at less)))
          ]),
    )

pub all_at : (P : ℕ → Type 0) (xs : List ℕ) (i : ℕ) → AllByRecursion P xs → i < length xs → P (get_or xs i 0)
all_at P [] i each less = absurd (omega (arith, less))
all_at P (x ∷ xs) zero each less = each.0
all_at P (x ∷ xs) (suc i) each less = all_at P xs i each.1 (omega (arith, less))
