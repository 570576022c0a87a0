-- The job of a total, while it is built.
use Rattle.std.proofs.Common.{◌≡◌, ℕ, zero, suc, ◌+◌, ◌<◌, List, [], ◌∷◌, ◌++◌, length, map, true, false, if◌then◌else◌, ◌==◌, ◌&&◌, Option, None, Some, refl, sym, ap, ◌∙◌, arith, append-nil, length-append}
use Rattle.std.specs.Prelude.{is_some, nat_le, slice_get, sum_by}
use Rattle.std.specs.List.{AllByRecursion, range_with_len}
use Rattle.std.proofs.lemmas.Bool.Decides.{nat_tests}
use Rattle.std.proofs.lemmas.List.{append_assoc}
use Rattle.std.proofs.lemmas.List.Sums.{sum_by-cons}
use Rattle.std.proofs.lemmas.List.FromFn.{length-map-range_with_len, map-range_with_len_more}
use Rattle.seq_objects.specs.declared.act.Act.{Act}
use Rattle.seq_objects.specs.declared.act.Act.TheVariants.{Work}
use Rattle.seq_objects.proofs.Elements.{each_append, each_push}
use Rattle.sp_order.specs.Objects.{AreUnnamed, number_in}
use Rattle.sp_order.specs.Precedence.{leaf, leaves}
use Rattle.job_lang.specs.declared.join.Order.TheVariants.{Series, Parallel}
use Rattle.job_lang.specs.Objects.{NamedObject}
use Rattle.joined_shapes.specs.Blocks.{Block, IsNested, is_shown, joined}
use Rattle.joined_shapes.specs.Blocks as blocks
use Rattle.joined_shapes.proofs.Nesting.{nested_closed, nested_opened}
use Rattle.joined_shapes.proofs.Precedence.{shown_before}
use Rattle.job_builder.specs.Drafts.{Draft, built, closed, may_use, opened, with_leaf}
use Rattle.job_builder.proofs.Unnamed.{acts_stay}
use Rattle.job_uses.specs.Sums.{add_of}
use Rattle.job_uses.specs.Totals.{AddsChunks}
use Rattle.job_uses.proofs.ChunkSums.{handle}
use Rattle.job_uses.proofs.SumJobs.{all_shown}
use Rattle.job_uses.proofs.ThreeParts.{get_front, get_mapped}

-- a value for each of the first numbers
abbrev each : {A : Type 0} → (ℕ → A) → ℕ → List A
each f n = map f (range_with_len 0 n)

each_more : {A : Type 0} (f : ℕ → A) (n : ℕ) → each f n ++ f n ∷ [] ≡ each f (n + 1)
each_more f n = sym (map-range_with_len_more f 0 n n (omega arith))

-- behind others
behind_more : {A : Type 0} (xs : List A) (f : ℕ → A) (n : ℕ) → xs ++ each f n ++ f n ∷ [] ≡ xs ++ each f (n + 1)
behind_more xs f n = append_assoc xs (each f n) (f n ∷ []) ∙ ap (λ ys. xs ++ ys) (each_more f n)

leaves_of : (first n : ℕ) → sum_by leaves (map (λ (k : ℕ). leaf) (range_with_len first n)) ≡ n
leaves_of first zero = refl
leaves_of first (suc n) =
    let rest = leaves_of (first + 1) n in
    let more = sum_by-cons leaves leaf (map (λ (k : ℕ). leaf) (range_with_len (first + 1) n)) in
    omega (arith, rest, more)

-- the open block of leaves of work
abbrev working : ℕ → Block
working n = record { order = Parallel; first = 0; items = each (λ _. leaf) n }

-- the draft while leaves of work are added in parallel
abbrev pub works : ℕ → Draft
works n = record {
  job = 0;
  blocks = record { inner = working n; around = record { order = Series; first = 0; items = [] } ∷ []; leaves = n };
  acts = each (λ k. Work k) n;
  sources = each (λ _. None) n;
  objects = each (λ _. None) n;
}

pub works_more : (n : ℕ) → with_leaf (works n) (Work n) None None ≡ works (n + 1)
works_more n =
    let items : each (λ _. leaf) n ++ leaf ∷ [] ≡ each (λ _. leaf) (n + 1) = each_more (λ _. leaf) n in
    let acts : each (λ k. Work k) n ++ Work n ∷ [] ≡ each (λ k. Work k) (n + 1) = each_more (λ k. Work k) n in
    let no : Option ℕ = None in
    let sources : each (λ _. no) n ++ no ∷ [] ≡ each (λ _. no) (n + 1) = each_more (λ _. no) n in
    let nothing : Option NamedObject = None in
    let objects : each (λ _. nothing) n ++ nothing ∷ [] ≡ each (λ _. nothing) (n + 1) = each_more (λ _. nothing) n in
    λ i. record {
      job = 0;
      blocks = record {
        inner = record { order = Parallel; first = 0; items = items i };
        around = record { order = Series; first = 0; items = [] } ∷ [];
        leaves = n + 1;
      };
      acts = acts i;
      sources = sources i;
      objects = objects i;
    }

-- the draft while calls are added behind them, in parallel
abbrev pub calling : ℕ → ℕ → Draft
calling n k = record {
  job = 0;
  blocks = record {
    inner = record { order = Parallel; first = n; items = each (λ _. leaf) k };
    around = record { order = Series; first = 0; items = joined (working n) } ∷ [];
    leaves = n + k;
  };
  acts = each (λ k. Work k) n ++ each (λ _. add_of 0) k;
  sources = each (λ _. None) n ++ each (λ k. Some k) k;
  objects = each (λ _. None) n ++ each (λ _. None) k;
}

pub calling_none : (n : ℕ) → opened (closed (works n)) Parallel ≡ calling n 0
calling_none n =
    let no : Option ℕ = None in
    let nothing : Option NamedObject = None in
    let count : n ≡ n + 0 = omega arith in
    λ i. record {
      job = 0;
      blocks = record {
        inner = record { order = Parallel; first = n; items = [] };
        around = record { order = Series; first = 0; items = joined (working n) } ∷ [];
        leaves = count i;
      };
      acts = sym (append-nil (each (λ k. Work k) n)) i;
      sources = sym (append-nil (each (λ _. no) n)) i;
      objects = sym (append-nil (each (λ _. nothing) n)) i;
    }

pub calling_more : (n k : ℕ) → with_leaf (calling n k) (add_of 0) (Some k) None ≡ calling n (k + 1)
calling_more n k =
    let items : each (λ _. leaf) k ++ leaf ∷ [] ≡ each (λ _. leaf) (k + 1) = each_more (λ _. leaf) k in
    let no : Option ℕ = None in
    let nothing : Option NamedObject = None in
    let count : n + k + 1 ≡ n + (k + 1) = omega arith in
    λ i. record {
      job = 0;
      blocks = record {
        inner = record { order = Parallel; first = n; items = items i };
        around = record { order = Series; first = 0; items = joined (working n) } ∷ [];
        leaves = count i;
      };
      acts = behind_more (each (λ k. Work k) n) (λ _. add_of 0) k i;
      sources = behind_more (each (λ _. no) n) (λ k. Some k) k i;
      objects = behind_more (each (λ _. nothing) n) (λ _. nothing) k i;
    }

pub works_long : (n : ℕ) → length (works n).acts ≡ n
works_long n = length-map-range_with_len (λ k. Work k) 0 n

pub calling_long : (n k : ℕ) → length (calling n k).acts ≡ n + k
calling_long n k =
    let add : ℕ → Act = λ _. add_of 0 in
    let all = length-append (each (λ k. Work k) n) (each add k) in
    let first = works_long n in
    let second = length-map-range_with_len add 0 k in
    omega (arith, all, first, second)

-- the blocks stand in one another

works_nested : (n : ℕ) → IsNested (works n).blocks
works_nested n = record { begins = (refl, refl); counted = let all = leaves_of 0 n in omega (arith, all) }

calling_nested : (n k : ℕ) → IsNested (calling n k).blocks
calling_nested n k = record {
  begins = (nested_opened (blocks.closed (works n).blocks) Parallel (nested_closed (works n).blocks (works_nested n))).begins;
  counted = let all = leaves_of 0 k in omega (arith, all);
}

-- a call may take the value of a leaf of work
pub may_take : (n k u : ℕ) → u < n → may_use (calling n k) (handle u) ≡ true
may_take n k u less =
    let works = each (λ k. Work k) n in
    let long = works_long n in
    let is : slice_get (calling n k).acts u ≡ Some (Work u) =
    get_front works (each (λ _. add_of 0) k) u (omega (arith, long, less)) ∙ get_mapped (λ k. Work k) n u less in
    let behind : nat_le n u ≡ false = grind (arith, nat_tests) in
    let first : nat_le 0 u ≡ true = grind (arith, nat_tests) in
    let shown : is_shown (calling n k).blocks u ≡ true =
    ap (λ b. if b then false else (if nat_le 0 u then true else false)) behind ∙ ap (λ b. if b then true else false) first in
    λ i. (0 == 0) && (is_some (is i) && shown i)

-- the job that is built

abbrev pub ending : ℕ → Draft
ending n = with_leaf (closed (calling n n)) (add_of 0) None None

pub each_has : {A : Type 0} (P : A → Type 0) (f : ℕ → A) → ((k : ℕ) → P (f k)) → (first n : ℕ) → AllByRecursion P (map f (range_with_len first n))
each_has P f has first zero = tt
each_has P f has first (suc n) = (has first, each_has P f has (first + 1) n)

pub total_built : (n : ℕ) → AddsChunks n (built (ending n)) (n + n)
total_built n =
    let add : ℕ → Act = λ _. add_of 0 in
    let nothing : Option NamedObject = None in
    let unnamed : AreUnnamed (each (λ k. Work k) n ++ each add n) =
    each_append (λ act. number_in act ≡ 0) (each (λ k. Work k) n) (each add n)
    (each_has (λ act. number_in act ≡ 0) (λ k. Work k) (λ k. refl) 0 n) (each_has (λ act. number_in act ≡ 0) add (λ k. refl) 0 n) in
    let is_none : Option NamedObject → Type 0 = λ object. object ≡ nothing in
    let objects : AllByRecursion is_none (each (λ _. nothing) n ++ each (λ _. nothing) n) =
    each_append is_none (each (λ _. nothing) n) (each (λ _. nothing) n) (each_has is_none (λ _. nothing) (λ k. refl) 0 n) (each_has is_none (λ _. nothing) (λ k. refl) 0 n) in
    record {
      acts = acts_stay (each (λ k. Work k) n ++ each add n ++ add_of 0 ∷ []) (each (λ _. nothing) n ++ each (λ _. nothing) n ++ nothing ∷ [])
          (each_push (λ act. number_in act ≡ 0) (each (λ k. Work k) n ++ each add n) (add_of 0) unnamed refl)
          (each_push is_none (each (λ _. nothing) n ++ each (λ _. nothing) n) nothing objects refl);
      sources = refl;
      last_is = omega arith;
      behind = λ u less. shown_before (blocks.closed (calling n n).blocks) u (nested_closed (calling n n).blocks (calling_nested n n)) less (all_shown u);
    }
