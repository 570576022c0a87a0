-- Distinct leaves that call are no more than the plan has.
use Rattle.std.proofs.Common.{ℕ, ◌≡◌, ◌≢◌, ◌<◌, ◌≤◌, Option, Some, None, List, [], ◌∷◌, length, map, arith, refl, sym}
use Rattle.std.proofs.lemmas.List.{length-map}
use Rattle.std.specs.List.{AllByRecursion}
use Rattle.core_model.proofs.Words.{Op, LeafNode, IsPlan, Entry, CoreJob, put}
use Rattle.seq_objects.specs.Pairs.{AreDistinct}
use Rattle.core_model.specs.Operations.{op_in, op_of, IsCall}
use Rattle.core_model.proofs.BookLemmas.Operations.{is_call}
use Rattle.core_model.specs.Measure.{total, one_if, one_if_call, call_count}
use Rattle.core_model.proofs.InvariantLemmas.Puts.{put_at, put_other}
use Rattle.core_model.proofs.MeasureLemmas.Jobs.{total_change}

-- numbers that stay counted after one other number is not
still_counted : (f : ℕ → ℕ) (bound x : ℕ) (xs : List ℕ) → AllByRecursion (λ y. (y < bound) × (1 ≤ f y)) xs → AllByRecursion (λ y. x ≢ y) xs
    → AllByRecursion (λ y. (y < bound) × (1 ≤ put f x 0 y)) xs
still_counted f bound x [] h apart = tt
still_counted f bound x (y ∷ ys) h apart =
    ((h.0.0, rw (put_other f x y 0 (λ e. apart.0 (sym e))) h.0.1), still_counted f bound x ys h.1 apart.1)

-- there are no more distinct numbers below a bound than counted there, where each counts one at least
few_counted : (f : ℕ → ℕ) (bound : ℕ) (xs : List ℕ) → AreDistinct xs → AllByRecursion (λ x. (x < bound) × (1 ≤ f x)) xs → length xs ≤ total f bound
few_counted f bound [] distinct h = omega arith
few_counted f bound (x ∷ xs) distinct h =
    let rest = few_counted (put f x 0) bound xs distinct.1 (still_counted f bound x xs h.1 distinct.0) in
    let change = total_change f (put f x 0) x bound h.0.0 (λ m other. put_other f x m 0 other) in
    let none = put_at f x x 0 refl in
    let one = h.0.1 in
    omega (arith, rest, change, none, one)

one_counted : (o : Option Op) → o ≢ None → 1 ≤ one_if o
one_counted None some = absurd (some refl)
one_counted (Some op) some = omega arith

-- the leaves of entries call
pub each_calls : (job : CoreJob) (book : List (List Entry)) (entries : List Entry) → AllByRecursion (λ (e : Entry). op_of job book e.leaf ≡ Some e.op) entries
    → AllByRecursion (IsCall job) (map (λ (e : Entry). e.leaf) entries)
each_calls job book [] h = tt
each_calls job book (e ∷ es) h = (is_call job book e.leaf e.op h.0, each_calls job book es h.1)

module _ (job : CoreJob) (laws : IsPlan job.plan) (there : (leaf : ℕ) → IsCall job leaf → (n : ℕ) × (job.plan.kind n ≡ Some (LeafNode leaf))) where
  -- a leaf that calls stands at its node
  at_node : (leaf : ℕ) → IsCall job leaf → job.plan.kind (job.plan.node_of leaf) ≡ Some (LeafNode leaf)
  at_node leaf calls =
      let found = there leaf calls in
      rw (← laws.one_node found.0 leaf found.1) found.1

  node_counted : (leaf : ℕ) → IsCall job leaf → (job.plan.node_of leaf < job.plan.count) × (1 ≤ one_if_call job (job.plan.kind (job.plan.node_of leaf)))
  node_counted leaf calls =
      let is = at_node leaf calls in
      (laws.within (job.plan.node_of leaf) (λ none. let e = is in cc), rw is (one_counted (op_in (job.act leaf)) calls))

  same_leaf : (a b : ℕ) → IsCall job a → IsCall job b → job.plan.node_of a ≡ job.plan.node_of b → a ≡ b
  same_leaf a b calls calls' same = let e = at_node a calls in let f = at_node b calls' in let g = rw same at e in cc

  each_counted : (leaves : List ℕ) → AllByRecursion (IsCall job) leaves
      → AllByRecursion (λ n. (n < job.plan.count) × (1 ≤ one_if_call job (job.plan.kind n))) (map job.plan.node_of leaves)
  each_counted [] calls = tt
  each_counted (leaf ∷ leaves) calls = (node_counted leaf calls.0, each_counted leaves calls.1)

  node_apart : (leaf : ℕ) (leaves : List ℕ) → IsCall job leaf → AllByRecursion (IsCall job) leaves → AllByRecursion (λ other. leaf ≢ other) leaves
      → AllByRecursion (λ n. job.plan.node_of leaf ≢ n) (map job.plan.node_of leaves)
  node_apart leaf [] here calls apart = tt
  node_apart leaf (other ∷ leaves) here calls apart =
      (λ same. apart.0 (same_leaf leaf other here calls.0 same), node_apart leaf leaves here calls.1 apart.1)

  -- distinct leaves that call stand at distinct nodes
  nodes_distinct : (leaves : List ℕ) → AllByRecursion (IsCall job) leaves → AreDistinct leaves → AreDistinct (map job.plan.node_of leaves)
  nodes_distinct [] calls distinct = tt
  nodes_distinct (leaf ∷ leaves) calls distinct =
      (node_apart leaf leaves calls.0 calls.1 distinct.0, nodes_distinct leaves calls.1 distinct.1)

  -- so there are no more of them than leaves that call
  pub few_leaves : (leaves : List ℕ) → AllByRecursion (IsCall job) leaves → AreDistinct leaves → length leaves ≤ call_count job
  few_leaves leaves calls distinct =
      let few = few_counted (λ n. one_if_call job (job.plan.kind n)) job.plan.count (map job.plan.node_of leaves)
      (nodes_distinct leaves calls distinct) (each_counted leaves calls) in
      rw length-map at few
