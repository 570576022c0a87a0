-- The job of a sum, while it is built.
use Rattle.std.proofs.Common.{ℕ, ◌≡◌, ◌+◌, List, [], ◌∷◌, ◌++◌, length, map, take, drop, Option, None, arith, refl, ap, sym, ◌∙◌, length-append}
use Rattle.std.specs.Prelude.{sum, sum_by, nat_le, true, false, if◌then◌else◌}
use Rattle.std.proofs.lemmas.Bool.Decides.{nat_tests}
use Rattle.std.specs.List.{AllByRecursion}
use Rattle.std.proofs.lemmas.List.{map_push}
use Rattle.std.proofs.lemmas.List.Sums.{sum_by-cons, sum_by_push, sum_by-take-drop}
use Rattle.seq_objects.proofs.Elements.{each_push}
use Rattle.sp_order.specs.Objects.{AreUnnamed, number_in}
use Rattle.sp_order.specs.Precedence.{leaf, leaves}
use Rattle.job_lang.specs.declared.join.Order.TheVariants.{Series, Parallel}
use Rattle.job_lang.specs.Objects.{NamedObject}
use Rattle.joined_shapes.specs.Blocks.{Blocks, IsNested}
use Rattle.joined_shapes.specs.Blocks as blocks
use Rattle.joined_shapes.proofs.Nesting.{nested_closed}
use Rattle.joined_shapes.proofs.Precedence.{shown_before}
use Rattle.job_builder.specs.Drafts.{Draft, built, closed, with_leaf}
use Rattle.job_builder.proofs.Unnamed.{acts_stay}
use Rattle.job_uses.specs.Sums.{add_of, IsSumJob}

-- the draft while numbers are added in parallel
abbrev pub adding : List ℕ → Draft
adding numbers = record {
  job = 0;
  blocks = record {
    inner = record { order = Parallel; first = 0; items = map (λ _. leaf) numbers };
    around = record { order = Series; first = 0; items = [] } ∷ [];
    leaves = length numbers;
  };
  acts = map add_of numbers;
  sources = map (λ _. None) numbers;
  objects = map (λ _. None) numbers;
}

pub adding_more : (numbers : List ℕ) (number : ℕ) → with_leaf (adding numbers) (add_of number) None None ≡ adding (numbers ++ number ∷ [])
adding_more numbers number =
    let items : map (λ (n : ℕ). leaf) (numbers ++ number ∷ []) ≡ map (λ _. leaf) numbers ++ leaf ∷ [] = map_push (λ _. leaf) numbers number in
    let acts : map add_of (numbers ++ number ∷ []) ≡ map add_of numbers ++ add_of number ∷ [] = map_push add_of numbers number in
    let none : Option ℕ = None in
    let sources : map (λ (n : ℕ). none) (numbers ++ number ∷ []) ≡ map (λ _. none) numbers ++ none ∷ [] = map_push (λ _. none) numbers number in
    let no : Option NamedObject = None in
    let objects : map (λ (n : ℕ). no) (numbers ++ number ∷ []) ≡ map (λ _. no) numbers ++ no ∷ [] = map_push (λ _. no) numbers number in
    let count : length numbers + 1 ≡ length (numbers ++ number ∷ []) = sym (length-append numbers (number ∷ [])) in
    λ i. record {
      job = 0;
      blocks = record {
        inner = record { order = Parallel; first = 0; items = sym items i };
        around = record { order = Series; first = 0; items = [] } ∷ [];
        leaves = count i;
      };
      acts = sym acts i;
      sources = sym sources i;
      objects = sym objects i;
    }

leaves_of : (numbers : List ℕ) → sum_by leaves (map (λ (n : ℕ). leaf) numbers) ≡ length numbers
leaves_of [] = refl
leaves_of (number ∷ numbers) = let rest = leaves_of numbers in let more = sum_by-cons leaves leaf (map (λ (n : ℕ). leaf) numbers) in omega (arith, rest, more)

adding_nested : (numbers : List ℕ) → IsNested (adding numbers).blocks
adding_nested numbers = record { begins = (refl, refl); counted = let all = leaves_of numbers in omega (arith, all) }

each_none : (A : Type 0) (numbers : List ℕ) → AllByRecursion (λ (x : Option A). x ≡ None) (map (λ (n : ℕ). None) numbers)
each_none A [] = tt
each_none A (number ∷ numbers) = (refl, each_none A numbers)

each_unnamed : (numbers : List ℕ) → AreUnnamed (map add_of numbers)
each_unnamed [] = tt
each_unnamed (number ∷ numbers) = (refl, each_unnamed numbers)

-- outside the block each leaf is shown
pub all_shown : (u : ℕ) → (if nat_le 0 u then true else false) ≡ true
all_shown u = let on : nat_le 0 u ≡ true = grind (arith, nat_tests) in ap (λ b. if b then true else false) on

-- the job that is built
pub sum_built : (numbers : List ℕ) (total : ℕ) → sum numbers ≡ total → IsSumJob total (built (with_leaf (closed (adding numbers)) (add_of 0) None None)) (length numbers)
sum_built numbers total comes_to =
    let none : Option ℕ = None in
    let no : Option NamedObject = None in
    record {
      numbers = numbers;
      acts = acts_stay (map add_of numbers ++ add_of 0 ∷ []) (map (λ (n : ℕ). no) numbers ++ no ∷ [])
          (each_push (λ act. number_in act ≡ 0) (map add_of numbers) (add_of 0) (each_unnamed numbers) refl)
          (each_push (λ object. object ≡ None) (map (λ (n : ℕ). no) numbers) no (each_none NamedObject numbers) refl);
      plain = each_push (λ source. source ≡ None) (map (λ (n : ℕ). none) numbers) none (each_none ℕ numbers) refl;
      last_is = refl;
      behind = λ u less. shown_before (blocks.closed (adding numbers).blocks) u (nested_closed (adding numbers).blocks (adding_nested numbers)) less (all_shown u);
      comes_to = comes_to;
    }

-- the sums of parts

pub sum_push : (numbers : List ℕ) (number : ℕ) → sum (numbers ++ number ∷ []) ≡ sum numbers + number
sum_push numbers number = sum_by_push (λ (n : ℕ). n) numbers number

pub sum_parts : (items : List ℕ) (n : ℕ) (front back : List ℕ) → front ≡ take n items → back ≡ drop n items → sum front + sum back ≡ sum items
sum_parts items n front back a b = (λ i. sum (a i) + sum (b i)) ∙ sum_by-take-drop (λ (n : ℕ). n) items n

pub none_left : (items : List ℕ) → length items ≡ 0 → sum items ≡ 0
none_left [] none = refl
none_left (item ∷ items) none = absurd (omega (arith, none))
