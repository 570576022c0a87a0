-- If a book has each calling leaf once, its calls have the totals of the acts.
use Rattle.std.proofs.Common.{◌≡◌, ◌≢◌, ℕ, zero, suc, ◌+◌, ◌*◌, ◌<◌, ◌≤◌, true, false, ◌==◌, if◌then◌else◌, List, [], ◌∷◌, ◌++◌, length, map, take, get_or, Some, None, inl, inr, refl, sym, ap, ◌∙◌, arith}
use Rattle.std.specs.Prelude.{nat_lt, slice_get}
use Rattle.std.specs.declared.option.Option.{Option}
use Rattle.std.specs.List.{AllByRecursion}
use Rattle.std.proofs.lemmas.Bool.Decides.{nat_tests}
use Rattle.std.proofs.lemmas.Bool.{cases_eq}
use Rattle.std.proofs.lemmas.List.{take_more, take_all}
use Rattle.std.proofs.lemmas.Option.{slice_get-get_or, slice_get_within}
use Rattle.seq_objects.specs.declared.op.Op.{Op}
use Rattle.seq_objects.specs.declared.act.Act.{Act}
use Rattle.seq_objects.specs.declared.act.Act.TheVariants.{Work, Call}
use Rattle.seq_objects.specs.Orders.{one_if, copies}
use Rattle.seq_objects.specs.Pairs.{AreDistinct, IsEnumerationOf}
use Rattle.sp_order.specs.Jobs.{JobValue}
use Rattle.sp_order.specs.Sources.{IsCallLeaf}
use Rattle.sp_order.specs.Totals.{count_of_act, total}
use Rattle.batch_history.specs.Serving.{acts_in}
use Rattle.batch_history.specs.declared.batch.Entry.{Entry}

-- the number of a leaf, if it is below a bound
abbrev pick : (ℕ → ℕ) → ℕ → ℕ → ℕ
pick g m x = if nat_lt x m then g x else 0

-- the sum over those below a bound
abbrev part : (ℕ → ℕ) → ℕ → List ℕ → ℕ
part g m [] = 0
part g m (x ∷ xs) = pick g m x + part g m xs

pick_none : (g : ℕ → ℕ) (x : ℕ) → pick g 0 x ≡ 0
pick_none g x = grind (arith, nat_tests)

part_none : (g : ℕ → ℕ) (xs : List ℕ) → part g 0 xs ≡ 0
part_none g [] = refl
part_none g (x ∷ xs) = omega (arith, pick_none g x, part_none g xs)

pick_same : (g : ℕ → ℕ) (m x : ℕ) → x ≡ m → pick g (m + 1) x ≡ pick g m x + one_if (m == x) * g m
pick_same g m x same =
    let a : nat_lt m (m + 1) ≡ true = grind (arith, nat_tests) in
    let b : nat_lt m m ≡ false = grind (arith, nat_tests) in
    let c : (m == m) ≡ true = grind (arith, nat_tests) in
    rw same (rw (a, b, c) (omega arith))

pick_other : (g : ℕ → ℕ) (m x : ℕ) → x ≢ m → pick g (m + 1) x ≡ pick g m x + one_if (m == x) * g m
pick_other g m x other =
    let a : nat_lt x (m + 1) ≡ nat_lt x m = grind (arith, nat_tests) in
    let c : (m == x) ≡ false = grind (arith, nat_tests) in
    rw (a, c) (omega arith)

pick_more : (g : ℕ → ℕ) (m x : ℕ) → pick g (m + 1) x ≡ pick g m x + one_if (m == x) * g m
pick_more g m x = elim (cases_eq x m) [ inl same ↦ pick_same g m x same | inr other ↦ pick_other g m x other ]

spread : (a b c : ℕ) → (a + b) * c ≡ a * c + b * c
spread a b c = grind arith

part_more : (g : ℕ → ℕ) (m : ℕ) (xs : List ℕ) → part g (m + 1) xs ≡ part g m xs + copies m xs * g m
part_more g m [] = omega arith
part_more g m (x ∷ xs) = omega (arith, pick_more g m x, part_more g m xs, spread (one_if (m == x)) (copies m xs) (g m))

-- the number of occurrences in a list
none_of : (m x : ℕ) (xs : List ℕ) → m ≡ x → AllByRecursion (λ y. x ≢ y) xs → copies m xs ≡ 0
none_of m x [] same all = refl
none_of m x (y ∷ xs) same all =
    let rest = none_of m x xs same all.1 in
    let differ : m ≢ y = λ e. all.0 (sym same ∙ e) in
    let c : (m == y) ≡ false = grind (arith, nat_tests) in
    rw c (omega (arith, rest))

once : (m : ℕ) (xs : List ℕ) → AreDistinct xs → copies m xs ≤ 1
once m [] distinct = omega arith
once m (x ∷ xs) distinct = elim (cases_eq m x) [
  | inl same ↦ let c : (m == x) ≡ true = grind (arith, nat_tests) in rw c (omega (arith, none_of m x xs same distinct.0))
  | inr other ↦ let c : (m == x) ≡ false = grind (arith, nat_tests) in rw c (omega (arith, once m xs distinct.1))
]

at_head : (m x : ℕ) (xs : List ℕ) → x ≡ m → 1 ≤ copies m (x ∷ xs)
at_head m x xs same = let c : (m == x) ≡ true = grind (arith, nat_tests) in rw c (omega arith)

there : (m k : ℕ) (xs : List ℕ) → k < length xs → get_or xs k m ≡ m → 1 ≤ copies m xs
there m k [] less is = absurd (omega (arith, less))
there m zero (x ∷ xs) less is = at_head m x xs is
there m (suc k) (x ∷ xs) less is = omega (arith, there m k xs (omega (arith, less)) is)

-- the number of the act at a place
abbrev count_at : (Op → ℕ) → Option Act → ℕ
count_at f None = 0
count_at f (Some act) = count_of_act f act

total_append : (f : Op → ℕ) (xs ys : List Act) → total f (xs ++ ys) ≡ total f xs + total f ys
total_append f [] ys = omega arith
total_append f (x ∷ xs) ys = omega (arith, total_append f xs ys)

-- the entry's leaf calls, and its act counts as much as the entry's operation
abbrev pub CountsAlike : (Op → ℕ) → List Act → Entry → Type 0
CountsAlike f acts entry = (call : Op) × ((slice_get acts entry.leaf ≡ Some (Call call)) × (f call ≡ f entry.op))

module _ (job : JobValue) (leaves : List ℕ) (each : IsEnumerationOf (IsCallLeaf job.acts) leaves) (f : Op → ℕ) where
  abbrev at : ℕ → ℕ
  at n = count_at f (slice_get job.acts n)

  one_of : (m : ℕ) (act : Act) → slice_get job.acts m ≡ Some act → copies m leaves * at m ≡ at m
  one_of m (Work steps) is =
      let e : at m ≡ 0 = ap (count_at f) is in
      rw e (omega arith)
  one_of m (Call op) is =
      let c = each.each m (op, is) in
      let some = there m c.0 leaves c.1 c.2 in
      let most = once m leaves each.distinct in
      let one : copies m leaves ≡ 1 = omega (arith, some, most) in
      rw one (omega arith)

  front : (m : ℕ) → m ≤ length job.acts → part at m leaves ≡ total f (take m job.acts)
  front zero less = part_none at leaves
  front (suc m) less =
      let below : m < length job.acts = omega (arith, less) in
      let act = get_or job.acts m (Work 0) in
      let is : slice_get job.acts m ≡ Some act = slice_get-get_or job.acts m (Work 0) below in
      let next : take (m + 1) job.acts ≡ take m job.acts ++ act ∷ [] = take_more job.acts m (Work 0) below in
      let s : suc m ≡ m + 1 = omega arith in
      let same : at m ≡ count_of_act f act = ap (count_at f) is in
      rw s (rw next (omega (arith, part_more at m leaves, one_of m act is, front m (omega (arith, less)), total_append f (take m job.acts) (act ∷ []), same)))

  by_leaf : (entries : List Entry) → AllByRecursion (CountsAlike f job.acts) entries
      → total f (acts_in entries) ≡ part at (length job.acts) (map (λ (e : Entry). e.leaf) entries)
  by_leaf [] all = refl
  by_leaf (e ∷ entries) all =
      let below = slice_get_within job.acts e.leaf (Call all.0.0) all.0.1.0 in
      let t : nat_lt e.leaf (length job.acts) ≡ true = grind (arith, nat_tests) in
      let same : at e.leaf ≡ f e.op = ap (count_at f) all.0.1.0 ∙ all.0.1.1 in
      rw (t, same) (ap (λ n. f e.op + n) (by_leaf entries all.1))

-- the sum over the entries is that over the acts, for a count that counts them alike
pub alike_total : (job : JobValue) (entries : List Entry) → IsEnumerationOf (IsCallLeaf job.acts) (map (λ (e : Entry). e.leaf) entries)
    → (f : Op → ℕ) → AllByRecursion (CountsAlike f job.acts) entries → total f (acts_in entries) ≡ total f job.acts
alike_total job entries each f alike =
    let leaves = map (λ (e : Entry). e.leaf) entries in
    by_leaf job leaves each f entries alike ∙ front job leaves each f (length job.acts) (omega arith) ∙ ap (total f) (take_all (length job.acts) job.acts (omega arith))

-- where the entries have the acts' operations, each count counts them alike
same_counts : (f : Op → ℕ) (acts : List Act) (entries : List Entry) → AllByRecursion (λ (e : Entry). slice_get acts e.leaf ≡ Some (Call e.op)) entries
    → AllByRecursion (CountsAlike f acts) entries
same_counts f acts [] all = tt
same_counts f acts (e ∷ entries) all = ((e.op, (all.0, refl)), same_counts f acts entries all.1)

-- the sum over the entries is that over the acts
pub total_is : (job : JobValue) (entries : List Entry) → IsEnumerationOf (IsCallLeaf job.acts) (map (λ (e : Entry). e.leaf) entries)
    → AllByRecursion (λ (e : Entry). slice_get job.acts e.leaf ≡ Some (Call e.op)) entries → (f : Op → ℕ) → total f (acts_in entries) ≡ total f job.acts
total_is job entries each operations f = alike_total job entries each f (same_counts f job.acts entries operations)
