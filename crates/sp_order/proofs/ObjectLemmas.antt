-- Named objects: acts with the numbers that they are given, and the numbers in the order of their first use.
use Rattle.std.proofs.Common.{◌≡◌, ℕ, zero, suc, ◌+◌, ◌<◌, ◌≤◌, ◌⊎◌, inl, inr, List, [], ◌∷◌, None, Some, refl, sym, ap, subst, ◌∙◌, arith, length, map, replicate, take, set, get_or, slice_get}
use Rattle.std.specs.List.{AllByRecursion}
use Rattle.std.proofs.lemmas.Bool.{cases_order}
use Rattle.std.proofs.lemmas.List.{length-replicate}
use Rattle.seq_objects.specs.declared.op.Op.{Op}
use Rattle.seq_objects.specs.declared.act.Act.{Act}
use Rattle.seq_objects.specs.declared.act.Act.TheVariants.{Work, Call}
use Rattle.seq_objects.specs.Objects.{number_of}
use Rattle.seq_objects.proofs.Parts.{number_changed, number_leaves_argument, number_leaves_taking}
use Rattle.sp_order.specs.Objects.{number_in, numbered, with_number, with_numbers, AreByFirstUse, AreNamed, AreUnnamed, AreNumbered, IsFirstUsed}
use Rattle.sp_order.specs.Jobs.{JobValue, IsJob}
use Rattle.sp_order.specs.Precedence.{Tree}
use Rattle.sp_order.specs.Sources.{AreSources, Calls, IsSource, MayTake}
use Rattle.std.proofs.Common.{Option}

abbrev numbers_of : List Act → List ℕ
numbers_of acts = map (λ act. number_in act) acts

abbrev number_found : Option Act → ℕ
number_found None = 0
number_found (Some act) = number_in act

abbrev value_or_zero : Option ℕ → ℕ
value_or_zero None = 0
value_or_zero (Some n) = n

abbrev numbered_found : Option Act → ℕ → Option Act
numbered_found None number = None
numbered_found (Some act) number = Some (numbered act number)

some_same : {n m : ℕ} → Some n ≡ Some m → n ≡ m
some_same {n} {m} e = ap (λ found. value_or_zero found) e

-- calls of objects without names
pub unnamed_at : (acts : List Act) (leaf : ℕ) (op : Op) → AreUnnamed acts → slice_get acts leaf ≡ Some (Call op) → number_of op ≡ 0
unnamed_at [] leaf op h at = cc
unnamed_at (act ∷ acts) zero op h at = sym (ap (λ found. number_found found) at) ∙ h.0
unnamed_at (act ∷ acts) (suc leaf) op h at = unnamed_at acts leaf op h.1 at

none_used : (acts : List Act) → AreUnnamed acts → AreByFirstUse 0 (numbers_of acts) 0
none_used [] h = refl
none_used (act ∷ acts) h = inl (omega (arith, h.0), none_used acts h.1)

pub unnamed_are_named : (acts : List Act) → AreUnnamed acts → AreNamed acts []
unnamed_are_named acts h = record {
  spelled = tt;
  numbers = none_used acts h;
  kinds = λ u v first second at at' above same. absurd (omega (arith, above, unnamed_at acts u first h at));
  apart = λ u v first second at at' above above' same other. absurd (omega (arith, above, unnamed_at acts u first h at));
}

-- numbers in the order of their first use
pub most_used : (acts : List Act) (used count : ℕ) → AreByFirstUse used (numbers_of acts) count → (used ≤ count) × AllByRecursion (λ act. number_in act ≤ count) acts
most_used [] used count h = (omega (arith, h), tt)
most_used (act ∷ acts) used count (inl h) = let m = most_used acts used count h.1 in (m.0, (omega (arith, h.0, m.0), m.1))
most_used (act ∷ acts) used count (inr h) = let m = most_used acts (used + 1) count h.1 in (omega (arith, m.0), (omega (arith, h.0, m.0), m.1))

pub all_unnamed : (acts : List Act) (count : ℕ) → count ≡ 0 → AllByRecursion (λ act. number_in act ≤ count) acts → AreUnnamed acts
all_unnamed [] count none h = tt
all_unnamed (act ∷ acts) count none h = (omega (arith, none, h.0), all_unnamed acts count none h.1)

first_later : (act : Act) (acts : List Act) (number : ℕ) → number_in act < number → IsFirstUsed acts number → IsFirstUsed (act ∷ acts) number
first_later act acts number low first = record { leaf = suc first.leaf; uses = first.uses; before = (low, first.before) }

first_here : (act : Act) (acts : List Act) (number : ℕ) → number_in act ≡ number → IsFirstUsed (act ∷ acts) number
first_here act acts number is = record { leaf = 0; uses = ap Some is; before = tt }

here_or_later : (act : Act) (acts : List Act) (used number : ℕ) → number_in act ≡ used + 1 → (number ≡ used + 1) ⊎ ((number < used + 1) ⊎ (used + 1 < number))
    → used < number → (used + 1 < number → IsFirstUsed acts number) → IsFirstUsed (act ∷ acts) number
here_or_later act acts used number is (inl same) above rest = first_here act acts number (is ∙ sym same)
here_or_later act acts used number is (inr (inl below)) above rest = absurd (omega (arith, above, below))
here_or_later act acts used number is (inr (inr later)) above rest = first_later act acts number (omega (arith, is, later)) (rest later)

pub each_used : (acts : List Act) (used count number : ℕ) → AreByFirstUse used (numbers_of acts) count → used < number → number ≤ count → IsFirstUsed acts number
each_used [] used count number h above most = absurd (omega (arith, h, above, most))
each_used (act ∷ acts) used count number (inl h) above most =
    first_later act acts number (omega (arith, h.0, above)) (each_used acts used count number h.1 above most)
each_used (act ∷ acts) used count number (inr h) above most =
    here_or_later act acts used number h.0 (cases_order number (used + 1)) above (λ later. each_used acts (used + 1) count number h.1 later most)

-- given numbers
pub number_given : (op : Op) (number : ℕ) → number_of (with_number op number) ≡ number
number_given op number = number_changed op number

pub same_length : (acts : List Act) (numbers : List ℕ) → length (with_numbers acts numbers) ≡ length acts
same_length [] numbers = refl
same_length (act ∷ acts) [] = refl
same_length (act ∷ acts) (number ∷ numbers) = ap suc (same_length acts numbers)

AreOfWork : List Act → List ℕ → Type 0
AreOfWork acts numbers = (leaf steps : ℕ) → slice_get acts leaf ≡ Some (Work steps) → slice_get numbers leaf ≡ Some 0

pub numbers_given : (acts : List Act) (numbers : List ℕ) → length numbers ≡ length acts
    → ((leaf steps : ℕ) → slice_get acts leaf ≡ Some (Work steps) → slice_get numbers leaf ≡ Some 0) → numbers_of (with_numbers acts numbers) ≡ numbers
numbers_given [] [] as_many work = refl
numbers_given [] (number ∷ numbers) as_many work = absurd (omega (arith, as_many))
numbers_given (act ∷ acts) [] as_many work = absurd (omega (arith, as_many))
numbers_given (Work steps ∷ acts) (number ∷ numbers) as_many work =
    let zero_here : Some number ≡ Some 0 = work 0 steps refl in
    ap (λ rest. 0 ∷ rest) (numbers_given acts numbers (omega (arith, as_many)) (λ leaf. work (suc leaf)))
    ∙ ap (λ n. n ∷ numbers) (sym (some_same zero_here))
numbers_given (Call op ∷ acts) (number ∷ numbers) as_many work =
    ap (λ n. n ∷ numbers_of (with_numbers acts numbers)) (number_given op number)
    ∙ ap (λ rest. number ∷ rest) (numbers_given acts numbers (omega (arith, as_many)) (λ leaf. work (suc leaf)))

act_given : (acts : List Act) (numbers : List ℕ) (leaf : ℕ) (act : Act) → length numbers ≡ length acts → slice_get acts leaf ≡ Some act
    → (number : ℕ) × (slice_get (with_numbers acts numbers) leaf ≡ Some (numbered act number))
act_given [] numbers leaf act as_many at = cc
act_given (first ∷ acts) [] leaf act as_many at = absurd (omega (arith, as_many))
act_given (first ∷ acts) (number ∷ numbers) zero act as_many at = (number, ap (λ found. numbered_found found number) at)
act_given (first ∷ acts) (number ∷ numbers) (suc leaf) act as_many at = act_given acts numbers leaf act (omega (arith, as_many)) at

calls_still : (act : Act) (number : ℕ) → Calls act → Calls (numbered act number)
calls_still (Work steps) number is = is
calls_still (Call op) number is = tt

takes_still : (act from : Act) (number other : ℕ) → MayTake act from → MayTake (numbered act number) (numbered from other)
takes_still (Work steps) from number other is = (is.0, calls_still from other is.1)
takes_still (Call op) from number other is = (number_leaves_taking op number ∙ is.0, number_leaves_argument op number ∙ is.1)

source_stays : (shape : Option Tree) (acts : List Act) (numbers : List ℕ) (leaf source : ℕ) → length numbers ≡ length acts
    → IsSource shape acts leaf source → IsSource shape (with_numbers acts numbers) leaf source
source_stays shape acts numbers leaf source as_many is =
    let taking = act_given acts numbers leaf is.act as_many is.is in
    let giving = act_given acts numbers source is.from as_many is.stands in
    record {
      act = numbered is.act taking.0;
      is = taking.1;
      from = numbered is.from giving.0;
      stands = giving.1;
      takes = takes_still is.act is.from taking.0 giving.0 is.takes;
      before = is.before;
    }

-- leaves without sources
pub none_sourced : (shape : Option Tree) (acts : List Act) → AreSources shape acts (replicate (length acts) None)
none_sourced shape acts = record { as_many = length-replicate (length acts) None; each = λ leaf source at. absurd (none_there (length acts) leaf source at) }
  where
    none_there : (count leaf source : ℕ) → slice_get (replicate count None) leaf ≡ Some (Some source) → ⊥
    none_there zero leaf source at = cc
    none_there (suc count) zero source at = cc
    none_there (suc count) (suc leaf) source at = none_there count leaf source at

pub sources_stay : (shape : Option Tree) (acts : List Act) (numbers : List ℕ) (sources : List (Option ℕ)) → length numbers ≡ length acts
    → AreSources shape acts sources → AreSources shape (with_numbers acts numbers) sources
sources_stay shape acts numbers sources as_many are = record {
  as_many = are.as_many ∙ sym (same_length acts numbers);
  each = λ leaf source at. source_stays shape acts numbers leaf source as_many (are.each leaf source at);
}

-- numbers that are given one after another
pub none_given : (acts : List Act) → with_numbers acts [] ≡ acts
none_given [] = refl
none_given (act ∷ acts) = refl

pub next_given : (acts : List Act) (numbers : List ℕ) (leaf : ℕ) (act : Act) → leaf < length acts → leaf < length numbers
    → set (with_numbers acts (take leaf numbers)) leaf (numbered (get_or (with_numbers acts (take leaf numbers)) leaf act) (get_or numbers leaf 0))
    ≡ with_numbers acts (take (suc leaf) numbers)
next_given [] numbers leaf act in_acts in_numbers = absurd (omega (arith, in_acts))
next_given (first ∷ acts) [] leaf act in_acts in_numbers = absurd (omega (arith, in_numbers))
next_given (first ∷ acts) (number ∷ numbers) zero act in_acts in_numbers = ap (λ rest. numbered first number ∷ rest) (sym (none_given acts))
next_given (first ∷ acts) (number ∷ numbers) (suc leaf) act in_acts in_numbers =
    ap (λ rest. numbered first number ∷ rest) (next_given acts numbers leaf act (omega (arith, in_acts)) (omega (arith, in_numbers)))

pub job_numbered : (old new : JobValue) (numbers : List ℕ) (names : List (List ℕ)) → IsJob old → AreNumbered old.acts numbers names
    → new.shape ≡ old.shape → new.acts ≡ with_numbers old.acts numbers → new.sources ≡ old.sources → new.names ≡ names → IsJob new
job_numbered old new numbers names is are shape acts sources named =
    subst IsJob (λ i. record { shape = sym shape i; acts = sym acts i; sources = sym sources i; names = sym named i })
    (record {
      leaves = is.leaves ∙ sym (same_length old.acts numbers);
      most = omega (arith, is.most, same_length old.acts numbers);
      sources = sources_stay old.shape old.acts numbers old.sources are.as_many is.sources;
      objects = are.named;
    })
