-- The items of the canonical text give the sources back.
use Rattle.std.proofs.Common.{◌≡◌, ℕ, zero, suc, ◌+◌, ◌*◌, ◌<◌, ◌≤◌, ◌^◌, ◌⊎◌, inl, inr, Bool, true, false, true≢false, List, [], ◌∷◌, ◌++◌, length, Option, Some, None, refl, sym, ap, ◌∙◌, arith, subst, append-nil}
use Rattle.std.specs.Prelude.{if◌then◌else◌, ◌||◌, slice_get, option_and_then}
use Rattle.std.specs.List.{AllByRecursion}
use Rattle.std.proofs.Common.{eqb-true, eq-eqb}
use Rattle.std.proofs.lemmas.List.{map-append}
use Rattle.job_names.specs.Names.{same_name}
use Rattle.job_names.proofs.SameNames.{same_from, same_to}
use Rattle.seq_objects.specs.declared.act.Act.{Act}
use Rattle.seq_objects.specs.declared.act.Act.TheVariants.{Work, Call}
use Rattle.seq_objects.specs.Parts.{argument_of, has_argument}
use Rattle.job_syntax.specs.declared.lexer.word.Word.TheVariants.{Number, Named}
use Rattle.sp_order.specs.Precedence.{Tree, seq, par, leaves, IsLeafOf, IsBeforeFrom}
use Rattle.job_syntax.specs.Grammar.{Items, nothing, Leaf}
use Rattle.job_lang.specs.Arguments.{name_in}
use Rattle.job_lang.specs.Counts.{count}
use Rattle.job_lang.specs.Meaning.{Known, leaf_known, source_of, known_by, known_behind, known_next, sources_in}
use Rattle.job_writer.specs.Canonical.{WrittenLeaf, is_leaf, is_source, written_from}
use Rattle.job_lang.proofs.ExpandLemmas.Joined.{before_is_smaller}
use Rattle.job_lang.proofs.ExpandLemmas.Sourcing.{HasLeaf}
use Rattle.job_writer.proofs.WriterLemmas.Grown.{Grown, lone, series, parallel, shape_of, leaves_of, size, size_is, Each}
use Rattle.job_writer.proofs.WriterLemmas.Items.{taken, leaf_of_act, given_name, leaf_of_written, items_of, inside, count_is, Stands, IsWell, acts_of, sources_of}
use Rattle.job_writer.proofs.WriterLemmas.Names.{leaf_name, one_leaf}
use Rattle.seq_objects.proofs.Elements.{each_append}
use Rattle.std.proofs.lemmas.Bool.{cases_lt, or_cases}
use Rattle.std.proofs.Math.Bool.{or-true}

-- the leaves of a job as they are written

pub acts_from : (all : List (Option ℕ)) (number : ℕ) (acts : List Act) (sources : List (Option ℕ)) → length sources ≡ length acts → acts_of (written_from all number acts sources) ≡ acts
acts_from all number [] [] same = refl
acts_from all number [] (source ∷ sources) same = absurd (omega (arith, same))
acts_from all number (act ∷ acts) [] same = absurd (omega (arith, same))
acts_from all number (act ∷ acts) (source ∷ sources) same = ap (λ x. act ∷ x) (acts_from all (number + 1) acts sources (omega (arith, same)))

pub sources_from : (all : List (Option ℕ)) (number : ℕ) (acts : List Act) (sources : List (Option ℕ)) → length sources ≡ length acts → sources_of (written_from all number acts sources) ≡ sources
sources_from all number [] [] same = refl
sources_from all number [] (source ∷ sources) same = absurd (omega (arith, same))
sources_from all number (act ∷ acts) [] same = absurd (omega (arith, same))
sources_from all number (act ∷ acts) (source ∷ sources) same = ap (λ x. source ∷ x) (sources_from all (number + 1) acts sources (omega (arith, same)))

pub length_from : (all : List (Option ℕ)) (number : ℕ) (acts : List Act) (sources : List (Option ℕ)) → length sources ≡ length acts → length (written_from all number acts sources) ≡ length acts
length_from all number [] [] same = refl
length_from all number [] (source ∷ sources) same = absurd (omega (arith, same))
length_from all number (act ∷ acts) [] same = absurd (omega (arith, same))
length_from all number (act ∷ acts) (source ∷ sources) same = ap suc (length_from all (number + 1) acts sources (omega (arith, same)))

leaf_is : (source : Option ℕ) (number : ℕ) → is_leaf number source ≡ true → source ≡ Some number
leaf_is None number h = cc
leaf_is (Some source) number h = ap (λ n. Some n) (eqb-true source number h)

pub found_source : (all : List (Option ℕ)) (number : ℕ) → is_source all number ≡ true → (v : ℕ) × (slice_get all v ≡ Some (Some number))
found_source [] number h = cc
found_source (source ∷ all) number h =
    elim (or_cases (is_leaf number source) (is_source all number) h) [
      | inl here ↦ (0, ap (λ s. Some s) (leaf_is source number here))
      | inr later ↦ let r = found_source all number later in (suc r.0, r.1)
    ]

pub source_found : (all : List (Option ℕ)) (v number : ℕ) → slice_get all v ≡ Some (Some number) → is_source all number ≡ true
source_found [] v number h = cc
source_found (source ∷ all) zero number h =
    let same : source ≡ Some number = cc in
    ap (λ s. is_leaf number s || is_source all number) same ∙ ap (λ b. b || is_source all number) (eq-eqb number number refl)
source_found (source ∷ all) (suc v) number h = ap (λ b. is_leaf number source || b) (source_found all v number h) ∙ or-true (is_leaf number source)

-- a leaf with the number that it should have, and a name where it is a source
pub record IsAt (all : List (Option ℕ)) (number : ℕ) (written : WrittenLeaf) : Type 0 where
  pub number_is : written.number ≡ number
  pub named_is : written.named ≡ is_source all number

abbrev pub AreInRow : List (Option ℕ) → ℕ → List WrittenLeaf → Type 0
AreInRow all first [] = Unit {0}
AreInRow all first (one ∷ written) = IsAt all first one × AreInRow all (first + 1) written

pub at_from : (all : List (Option ℕ)) (number : ℕ) (acts : List Act) (sources : List (Option ℕ)) → AreInRow all number (written_from all number acts sources)
at_from all number [] sources = tt
at_from all number (act ∷ acts) [] = tt
at_from all number (act ∷ acts) (source ∷ sources) = (record { number_is = refl; named_is = refl }, at_from all (number + 1) acts sources)

row_parts : (all : List (Option ℕ)) (first next : ℕ) (xs ys : List WrittenLeaf) → first + length xs ≡ next → AreInRow all first (xs ++ ys) → AreInRow all first xs × AreInRow all next ys
row_parts all first next [] ys e row = let same : first ≡ next = omega (arith, e) in (tt, subst (λ f. AreInRow all f ys) same row)
row_parts all first next (x ∷ xs) ys e row = let parts = row_parts all (first + 1) next xs ys (omega (arith, e)) row.1 in ((row.0, parts.0), parts.1)

-- the same of the leaves of a shape
abbrev pub AreAt : List (Option ℕ) → ℕ → Grown → Type 0
AreAt all first (lone one) = IsAt all first one
AreAt all first (series left right) = AreAt all first left × AreAt all (first + size left) right
AreAt all first (parallel left right) = AreAt all first left × AreAt all (first + size left) right

pub at_grown : (all : List (Option ℕ)) (first : ℕ) (grown : Grown) → AreInRow all first (leaves_of grown) → AreAt all first grown
at_grown all first (lone one) row = row.0
at_grown all first (series left right) row =
    let parts = row_parts all first (first + size left) (leaves_of left) (leaves_of right) (omega (arith, size_is left)) row in
    (at_grown all first left parts.0, at_grown all (first + size left) right parts.1)
at_grown all first (parallel left right) row =
    let parts = row_parts all first (first + size left) (leaves_of left) (leaves_of right) (omega (arith, size_is left)) row in
    (at_grown all first left parts.0, at_grown all (first + size left) right parts.1)

-- what holds of each leaf by its place
pub each_from : (P : WrittenLeaf → Type 0) (all : List (Option ℕ)) (number : ℕ) (acts : List Act) (sources : List (Option ℕ))
    → ((n i : ℕ) (act : Act) (source : Option ℕ) → n ≡ number + i → slice_get acts i ≡ Some act → slice_get sources i ≡ Some source → P (record { number = n; named = is_source all n; act = act; source = source }))
    → AllByRecursion P (written_from all number acts sources)
each_from P all number [] sources holds = tt
each_from P all number (act ∷ acts) [] holds = tt
each_from P all number (act ∷ acts) (source ∷ sources) holds =
    (holds number 0 act source (omega arith) refl refl, each_from P all (number + 1) acts sources (λ n i a s e f g. holds n (suc i) a s (omega (arith, e)) f g))

-- what holds of each element of a list holds of the one at a place
pub each_get : {X : Type 0} (P : X → Type 0) (xs : List X) (i : ℕ) (x : X) → AllByRecursion P xs → slice_get xs i ≡ Some x → P x
each_get P [] i x each is = cc
each_get P (first ∷ xs) zero x each is = let same : first ≡ x = cc in subst P same each.0
each_get P (first ∷ xs) (suc i) x each is = each_get P xs i x each.1 is

-- each source is known, or named before the leaf in the shape

abbrev pub IsNamedIn : List (Option ℕ) → Tree → ℕ → ℕ → Type 0
IsNamedIn all tree first u = IsLeafOf tree first u × (is_source all u ≡ true)

abbrev pub Sourced : List (Option ℕ) → Grown → ℕ → (ℕ → Type 0) → Type 0
Sourced all (lone one) first K = (u : ℕ) → one.source ≡ Some u → K u
Sourced all (series left right) first K = Sourced all left first K × Sourced all right (first + size left) (λ u. K u ⊎ IsNamedIn all (shape_of left) first u)
Sourced all (parallel left right) first K = Sourced all left first K × Sourced all right (first + size left) K

-- what holds of each leaf by its number
each_at : (P Q : WrittenLeaf → Type 0) (all : List (Option ℕ)) (first : ℕ) (grown : Grown) → AreAt all first grown → ((written : WrittenLeaf) → first ≤ written.number → written.number < first + size grown → P written → Q written) → Each P grown → Each Q grown
each_at P Q all first (lone one) at f each = let e = at.number_is in f one (omega (arith, e)) (omega (arith, e)) each
each_at P Q all first (series left right) at f each =
    (each_at P Q all first left at.0 (λ w low high. f w low (omega (arith, high))) each.0, each_at P Q all (first + size left) right at.1 (λ w low high. f w (omega (arith, low)) (omega (arith, high))) each.1)
each_at P Q all first (parallel left right) at f each =
    (each_at P Q all first left at.0 (λ w low high. f w low (omega (arith, high))) each.0, each_at P Q all (first + size left) right at.1 (λ w low high. f w (omega (arith, low)) (omega (arith, high))) each.1)

-- the source of a leaf, if it has one, is a leaf that some leaf has as its source, and is before it in this tree, or else it is known
abbrev pub IsFound : List (Option ℕ) → Tree → ℕ → (ℕ → Type 0) → WrittenLeaf → Type 0
IsFound all tree first K written = (u : ℕ) → written.source ≡ Some u → (IsBeforeFrom first tree u written.number × (is_source all u ≡ true)) ⊎ K u

in_left : (left right : Tree) (first u v : ℕ) → v < first + leaves left → IsBeforeFrom first (seq left right) u v → IsBeforeFrom first left u v
in_left left right first u v low (inl h) = h
in_left left right first u v low (inr (inl h)) =
    let r = before_is_smaller right (first + leaves left) u v h in let a = r.0 in let b = r.1.0 in absurd (omega (arith, low, a, b))
in_left left right first u v low (inr (inr c)) = let d = c.1.0 in absurd (omega (arith, low, d))

in_left_par : (left right : Tree) (first u v : ℕ) → v < first + leaves left → IsBeforeFrom first (par left right) u v → IsBeforeFrom first left u v
in_left_par left right first u v low (inl h) = h
in_left_par left right first u v low (inr h) =
    let r = before_is_smaller right (first + leaves left) u v h in let a = r.0 in let b = r.1.0 in absurd (omega (arith, low, a, b))

in_right : (left right : Tree) (first u v : ℕ) → first + leaves left ≤ v → IsBeforeFrom first (seq left right) u v → IsBeforeFrom (first + leaves left) right u v ⊎ IsLeafOf left first u
in_right left right first u v high (inl h) = let r = before_is_smaller left first u v h in let c = r.1.1 in absurd (omega (arith, high, c))
in_right left right first u v high (inr (inl h)) = inl h
in_right left right first u v high (inr (inr c)) = inr c.0

in_right_par : (left right : Tree) (first u v : ℕ) → first + leaves left ≤ v → IsBeforeFrom first (par left right) u v → IsBeforeFrom (first + leaves left) right u v
in_right_par left right first u v high (inl h) = let r = before_is_smaller left first u v h in let c = r.1.1 in absurd (omega (arith, high, c))
in_right_par left right first u v high (inr h) = h

pub sourced : (all : List (Option ℕ)) (grown : Grown) (first : ℕ) (K : ℕ → Type 0) → AreAt all first grown → Each (IsFound all (shape_of grown) first K) grown → Sourced all grown first K
sourced all (lone one) first K at found = λ u e. elim (found u e) [ inl b ↦ elim b.0 [ ] | inr k ↦ k ]
sourced all (series left right) first K at found = (
  sourced all left first K at.0
      (each_at _ _ all first left at.0 (λ w low high f u e. elim (f u e) [ inl b ↦ inl (in_left (shape_of left) (shape_of right) first u w.number high b.0, b.1) | inr k ↦ inr k ]) found.0),
  sourced all right (first + size left) (λ u. K u ⊎ IsNamedIn all (shape_of left) first u) at.1
      (each_at _ _ all (first + size left) right at.1
      (λ w low high f u e. elim (f u e) [
        | inl b ↦ elim (in_right (shape_of left) (shape_of right) first u w.number low b.0) [ inl later ↦ inl (later, b.1) | inr l ↦ inr (inr (l, b.1)) ]
        | inr k ↦ inr (inl k)
      ]) found.1),
)
sourced all (parallel left right) first K at found = (
  sourced all left first K at.0
      (each_at _ _ all first left at.0 (λ w low high f u e. elim (f u e) [ inl b ↦ inl (in_left_par (shape_of left) (shape_of right) first u w.number high b.0, b.1) | inr k ↦ inr k ]) found.0),
  sourced all right (first + size left) K at.1
      (each_at _ _ all (first + size left) right at.1 (λ w low high f u e. elim (f u e) [ inl b ↦ inl (in_right_par (shape_of left) (shape_of right) first u w.number low b.0, b.1) | inr k ↦ inr k ]) found.1),
)

-- what is known has the names of its leaves

abbrev pub IsRegular : Known → Type 0
IsRegular known = (known.name ≡ leaf_name known.leaf) × (known.leaf < 2 ^ 32)

abbrev pub AreRegular : List Known → Type 0
AreRegular known = AllByRecursion IsRegular known

known_leaf_by : (b : Bool) (k : Known) (known : List Known) (u : ℕ) → same_name k.name (leaf_name u) ≡ b → IsRegular k → u < 2 ^ 32 → (k.leaf ≡ u) ⊎ (leaf_known known (leaf_name u) ≡ Some u)
    → (if b then Some k.leaf else leaf_known known (leaf_name u)) ≡ Some u
known_leaf_by true k known u e is small h = ap (λ n. Some n) (one_leaf k.leaf u is.1 small (sym is.0 ∙ same_from k.name (leaf_name u) e))
known_leaf_by false k known u e is small (inl here) = absurd (true≢false (sym (same_to k.name (leaf_name u) (is.0 ∙ ap leaf_name here)) ∙ e))
known_leaf_by false k known u e is small (inr later) = later

known_leaf : (known : List Known) (u : ℕ) → AreRegular known → u < 2 ^ 32 → HasLeaf known u → leaf_known known (leaf_name u) ≡ Some u
known_leaf [] u are small h = elim h [ ]
known_leaf (k ∷ known) u are small (inl here) = known_leaf_by (same_name k.name (leaf_name u)) k known u refl are.0 small (inl here)
known_leaf (k ∷ known) u are small (inr later) = known_leaf_by (same_name k.name (leaf_name u)) k known u refl are.0 small (inr (known_leaf known u are.1 small later))

has_first : (xs ys : List Known) (u : ℕ) → HasLeaf xs u → HasLeaf (xs ++ ys) u
has_first [] ys u h = elim h [ ]
has_first (x ∷ xs) ys u (inl e) = inl e
has_first (x ∷ xs) ys u (inr h) = inr (has_first xs ys u h)

has_second : (xs ys : List Known) (u : ℕ) → HasLeaf ys u → HasLeaf (xs ++ ys) u
has_second [] ys u h = h
has_second (x ∷ xs) ys u h = inr (has_second xs ys u h)

module _ (names : List (List ℕ)) where
  -- the source of one leaf

  call_source : (takes : Bool) (u : ℕ) (known : List Known) → takes ≡ true → option_and_then (leaf_known known) (name_in (taken takes (Named (leaf_name u)))) ≡ leaf_known known (leaf_name u)
  call_source true u known h = refl
  call_source false u known h = cc

  no_call_source : (takes : Bool) (number : ℕ) (known : List Known) → option_and_then (leaf_known known) (name_in (taken takes (Number (Some number)))) ≡ None
  no_call_source true number known = refl
  no_call_source false number known = refl

  pub no_source : (act : Act) (known : List Known) → source_of known (leaf_of_act names act None) ≡ None
  no_source (Work steps) known = refl
  no_source (Call op) known = no_call_source (has_argument op) (argument_of op) known

  act_source : (act : Act) (source : Option ℕ) (known : List Known) → ((u : ℕ) → source ≡ Some u → Stands act) → ((u : ℕ) → source ≡ Some u → leaf_known known (leaf_name u) ≡ Some u) → source_of known (leaf_of_act names act source) ≡ source
  act_source act None known stands found = no_source act known
  act_source act (Some u) known stands found =
      let s = stands u refl in
      ap (λ a. source_of known (leaf_of_act names a (Some u))) s.1.0 ∙ call_source (has_argument s.0) u known s.1.1.0 ∙ found u refl

  given_source : (named : Bool) (number : ℕ) (given : Leaf) (known : List Known) → source_of known (given_name named number given) ≡ source_of known given
  given_source true number given known = refl
  given_source false number given known = refl

  given_known : (b : Bool) (number first : ℕ) (given : Leaf) (u : ℕ) → b ≡ true → u ≡ first → HasLeaf (known_by first (given_name b number given)) u
  given_known true number first given u e is = inl (sym is)
  given_known false number first given u e is = cc

  given_regular : (b : Bool) (number first : ℕ) (act : Act) (source : Option ℕ) → number ≡ first → first < 2 ^ 32 → AreRegular (known_by first (given_name b number (leaf_of_act names act source)))
  given_regular true number first act source e small = ((ap leaf_name e, small), tt)
  given_regular false number first (Work steps) source e small = tt
  given_regular false number first (Call op) source e small = tt

  -- the number of the leaf behind a block
  next_is : (first : ℕ) (left right : Grown) → first + (size left + size right) ≡ first + 1 * count (inside names left right)
  next_is first left right = omega (arith, count_is names left (items_of names right nothing), count_is names right nothing)

  -- what the leaves of a shape make known

  behind_more : (grown : Grown) (first : ℕ) (more : Items) (u : ℕ) → HasLeaf (known_behind (first + size grown) more) u → HasLeaf (known_behind first (items_of names grown more)) u
  behind_more (lone one) first more u h = has_first (known_behind (first + 1) more) (known_by first (leaf_of_written names one)) u h
  behind_more (series left right) first more u h =
      let body = inside names left right in
      has_first (known_behind (first + 1 * count body) more) (known_behind first body) u (subst (λ n. HasLeaf (known_behind n more) u) (next_is first left right) h)
  behind_more (parallel left right) first more u h =
      let body = inside names left right in
      has_first (known_behind (first + 1 * count body) more) (known_behind first body) u (subst (λ n. HasLeaf (known_behind n more) u) (next_is first left right) h)

  -- a leaf that is a source is known behind the shape
  abbrev IsKnownBehind : List (Option ℕ) → Grown → Type 0
  IsKnownBehind all grown = (first : ℕ) (more : Items) (u : ℕ) → AreAt all first grown → first ≤ u → u < first + size grown → is_source all u ≡ true → HasLeaf (known_behind first (items_of names grown more)) u

  both_hold : (all : List (Option ℕ)) (left right : Grown) → IsKnownBehind all left → IsKnownBehind all right → (first u : ℕ) → AreAt all first left → AreAt all (first + size left) right
      → first ≤ u → u < first + (size left + size right) → is_source all u ≡ true → HasLeaf (known_behind first (inside names left right)) u
  both_hold all left right front back first u at at' low high named =
      elim (cases_lt u (first + size left)) [
        | inl l ↦ front first (items_of names right nothing) u at low l named
        | inr r ↦ behind_more left first (items_of names right nothing) u (back (first + size left) nothing u at' r (omega (arith, high)) named)
      ]

  pub behind_holds : (all : List (Option ℕ)) (grown : Grown) → IsKnownBehind all grown
  behind_holds all (lone one) first more u at low high named =
      let is : u ≡ first = omega (arith, low, high) in
      has_second (known_behind (first + 1) more) (known_by first (leaf_of_written names one)) u
      (given_known one.named one.number first (leaf_of_act names one.act one.source) u (at.named_is ∙ ap (is_source all) (sym is) ∙ named) is)
  behind_holds all (series left right) first more u at low high named =
      let body = inside names left right in
      has_second (known_behind (first + 1 * count body) more) (known_behind first body) u (both_hold all left right (behind_holds all left) (behind_holds all right) first u at.0 at.1 low high named)
  behind_holds all (parallel left right) first more u at low high named =
      let body = inside names left right in
      has_second (known_behind (first + 1 * count body) more) (known_behind first body) u (both_hold all left right (behind_holds all left) (behind_holds all right) first u at.0 at.1 low high named)

  pub behind_regular : (all : List (Option ℕ)) (grown : Grown) (first : ℕ) (more : Items) → AreAt all first grown → first + size grown ≤ 2 ^ 32 → AreRegular (known_behind (first + size grown) more) → AreRegular (known_behind first (items_of names grown more))
  behind_regular all (lone one) first more at small are =
      each_append IsRegular (known_behind (first + 1) more) (known_by first (leaf_of_written names one)) are
      (given_regular one.named one.number first one.act one.source at.number_is (omega (arith, small)))
  behind_regular all (series left right) first more at small are =
      let body = inside names left right in
      each_append IsRegular (known_behind (first + 1 * count body) more) (known_behind first body) (subst (λ n. AreRegular (known_behind n more)) (next_is first left right) are)
      (behind_regular all left first (items_of names right nothing) at.0 (omega (arith, small)) (behind_regular all right (first + size left) nothing at.1 (omega (arith, small)) tt))
  behind_regular all (parallel left right) first more at small are =
      let body = inside names left right in
      each_append IsRegular (known_behind (first + 1 * count body) more) (known_behind first body) (subst (λ n. AreRegular (known_behind n more)) (next_is first left right) are)
      (behind_regular all left first (items_of names right nothing) at.0 (omega (arith, small)) (behind_regular all right (first + size left) nothing at.1 (omega (arith, small)) tt))

  -- the sources of the items

  abbrev sources_behind : Bool → List Known → ℕ → Grown → Items → List (Option ℕ)
  sources_behind in_series known first grown more = sources_in in_series (known_next in_series (known_behind first (items_of names grown nothing)) known) (first + size grown) more

  -- the two sides of a block, and what stands behind them
  both_sources : (in_block in_series : Bool) (known : List Known) (first : ℕ) (left right : Grown) (more : Items) → sources_in in_block known first (inside names left right) ≡ sources_of (leaves_of left) ++ (sources_of (leaves_of right) ++ [])
      → sources_in in_block known first (inside names left right)
      ++ sources_in in_series (known_next in_series (known_behind first (inside names left right)) known) (first + 1 * count (inside names left right)) more
      ≡ sources_of (leaves_of left ++ leaves_of right) ++ sources_in in_series (known_next in_series (known_behind first (inside names left right)) known) (first + (size left + size right)) more
  both_sources in_block in_series known first left right more given =
      let body = inside names left right in
      let all = given ∙ ap (λ x. sources_of (leaves_of left) ++ x) (append-nil (sources_of (leaves_of right))) ∙ sym (map-append (λ (one : WrittenLeaf). one.source) (leaves_of left) (leaves_of right)) in
      λ i. all i ++ sources_in in_series (known_next in_series (known_behind first body) known) (sym (next_is first left right) i) more

  pub tree_sources : (all : List (Option ℕ)) (grown : Grown) (first : ℕ) (in_series : Bool) (known : List Known) (K : ℕ → Type 0) (more : Items) → AreAt all first grown → Each IsWell grown
      → Sourced all grown first K → ((u : ℕ) → K u → HasLeaf known u × (u < 2 ^ 32)) → AreRegular known → first + size grown ≤ 2 ^ 32
      → sources_in in_series known first (items_of names grown more) ≡ sources_of (leaves_of grown) ++ sources_behind in_series known first grown more
  tree_sources all (lone one) first in_series known K more at well src holds are small =
      ap (λ s. s ∷ sources_in in_series (known_next in_series (known_by first (leaf_of_written names one)) known) (first + 1) more)
      (given_source one.named one.number (leaf_of_act names one.act one.source) known
      ∙ act_source one.act one.source known well.stands (λ u e. let k = holds u (src u e) in known_leaf known u are k.1 k.0))
  tree_sources all (series left right) first in_series known K more at well src holds are small =
      let gives = known_behind first (items_of names left nothing) in
      let regular : AreRegular (gives ++ known) = each_append IsRegular gives known (behind_regular all left first nothing at.0 (omega (arith, small)) tt) are in
      let front = tree_sources all left first true known K (items_of names right nothing) at.0 well.0 src.0 holds are (omega (arith, small)) in
      let back = tree_sources all right (first + size left) true (gives ++ known) (λ u. K u ⊎ IsNamedIn all (shape_of left) first u) nothing at.1 well.1 src.1
      (λ u k. elim k [
        | inl old ↦ let h = holds u old in (has_second gives known u h.0, h.1)
        | inr new ↦ (has_first gives known u (behind_holds all left first nothing u at.0 new.0.0 new.0.1 new.1), omega (arith, new.0.1, small))
      ]) regular (omega (arith, small)) in
      both_sources true in_series known first left right more (front ∙ ap (λ x. sources_of (leaves_of left) ++ x) back)
  tree_sources all (parallel left right) first in_series known K more at well src holds are small =
      let front = tree_sources all left first false known K (items_of names right nothing) at.0 well.0 src.0 holds are (omega (arith, small)) in
      let back = tree_sources all right (first + size left) false known K nothing at.1 well.1 src.1 holds are (omega (arith, small)) in
      both_sources false in_series known first left right more (front ∙ ap (λ x. sources_of (leaves_of left) ++ x) back)
