-- Steps that are taken one after another.
use Rattle.std.proofs.Common.{◌≡◌, ℕ, ◌+◌, ◌<◌, ◌≤◌, List, [], ◌∷◌, ◌++◌, length, map, reverse, drop, get_or, refl, sym, ◌∙◌, ap, arith}
use Rattle.std.specs.Prelude.{slice_index_or, nat_le, false, if◌then◌else◌}
use Rattle.std.proofs.lemmas.Bool.Decides.{nat_tests}
use Rattle.std.proofs.lemmas.List.{at_drop_more, reverse-append}
use Rattle.limits.specs.declared.TheConstants.{MOST_LEAVES}
use Rattle.job_lang.specs.declared.join.Order.{Order}
use Rattle.joined_shapes.specs.declared.open_blocks.Start.{Start}
use Rattle.joined_shapes.specs.declared.open_blocks.Step.{Step}
use Rattle.joined_shapes.specs.declared.open_blocks.Step.TheVariants.{Open, Leaf, Close}
use Rattle.joined_shapes.specs.Blocks.{Block, Blocks, closed, closed_in, is_series, is_shown, opened, outside, shows, with_leaf}
use Rattle.joined_shapes.specs.Code.Steps.{blocks_after, blocks_from, stepped, start_of, starts_show, IsKept}

pub from_push : (blocks : Blocks) (steps : List Step) (step : Step) → blocks_from blocks (steps ++ step ∷ []) ≡ stepped (blocks_from blocks steps) step
from_push blocks [] step = refl
from_push blocks (first ∷ steps) step = from_push (stepped blocks first) steps step

pub closed_leaves : (inner : Block) (around : List Block) (count : ℕ) → (closed_in inner around count).leaves ≡ count
closed_leaves inner [] count = refl
closed_leaves inner (block ∷ around) count = refl

step_leaves : (blocks : Blocks) (step : Step) → blocks.leaves ≤ (stepped blocks step).leaves
step_leaves blocks (Open order) = omega arith
step_leaves blocks Leaf = omega arith
step_leaves blocks Close = let same = closed_leaves blocks.inner blocks.around blocks.leaves in omega (arith, same)

-- no step takes a leaf away
pub from_leaves : (steps : List Step) (blocks : Blocks) → blocks.leaves ≤ (blocks_from blocks steps).leaves
from_leaves [] blocks = omega arith
from_leaves (step ∷ steps) blocks =
    let one = step_leaves blocks step in let rest = from_leaves steps (stepped blocks step) in omega (arith, one, rest)

pub after_push : (steps steps' : List Step) (step : Step) → steps' ≡ steps ++ step ∷ [] → blocks_after steps' ≡ stepped (blocks_after steps) step
after_push steps steps' step e = ap blocks_after e ∙ from_push outside steps step

-- the first of the steps to come leads to no more leaves than all of them
pub step_most : (steps : List Step) (i : ℕ) (step : Step) (blocks all : Blocks) → i < length steps → blocks_from blocks (drop i steps) ≡ all → all.leaves ≤ MOST_LEAVES
    → (stepped blocks (slice_index_or steps i step)).leaves ≤ MOST_LEAVES
step_most steps i step blocks all less leads most =
    let next : blocks_from (stepped blocks (get_or steps i step)) (drop (i + 1) steps) ≡ all = sym (at_drop_more (blocks_from blocks) steps i step less) ∙ leads in
    let fewer = from_leaves (drop (i + 1) steps) (stepped blocks (get_or steps i step)) in
    let same = ap (λ (b : Blocks). b.leaves) next in
    omega (arith, fewer, same, most)

-- what is kept beside the steps

pub leaf_kept : (blocks : Blocks) (inner : Start) (outer : List Start) (leaves : ℕ) → leaves < MOST_LEAVES → IsKept blocks inner outer leaves → IsKept (with_leaf blocks) inner outer (leaves + 1)
leaf_kept blocks inner outer leaves room is = record {
  inner_is = is.inner_is;
  outer_are = is.outer_are;
  leaves_are = ap (λ n. n + 1) is.leaves_are;
  most = omega (arith, room);
}

reversed : (outer outer' : List Start) (start : Start) → outer' ≡ outer ++ start ∷ [] → reverse outer' ≡ start ∷ reverse outer
reversed outer outer' start e = ap reverse e ∙ reverse-append outer (start ∷ [])

pub opened_kept : (blocks : Blocks) (order : Order) (inner : Start) (outer outer' : List Start) (leaves : ℕ) → outer' ≡ outer ++ inner ∷ [] → IsKept blocks inner outer leaves
    → IsKept (opened blocks order) (record { order = order; first = leaves }) outer' leaves
opened_kept blocks order inner outer outer' leaves e is = record {
  inner_is = λ i. record { order = order; first = is.leaves_are i };
  outer_are = (λ i. is.inner_is i ∷ is.outer_are i) ∙ sym (reversed outer outer' inner e);
  leaves_are = is.leaves_are;
  most = is.most;
}

closed_kept_in : (block : Block) (around : List Block) (count : ℕ) (inner start : Start) (outer before : List Start) (leaves : ℕ) → outer ≡ before ++ start ∷ []
    → IsKept (record { inner = block; around = around; leaves = count }) inner outer leaves → IsKept (closed_in block around count) start before leaves
closed_kept_in block [] count inner start outer before leaves e is = let none : [] ≡ start ∷ reverse before = is.outer_are ∙ reversed before outer start e in absurd cc
closed_kept_in block (other ∷ around) count inner start outer before leaves e is =
    let all : start_of other ∷ map start_of around ≡ start ∷ reverse before = is.outer_are ∙ reversed before outer start e in
    record { inner_is = cc; outer_are = cc; leaves_are = is.leaves_are; most = is.most }

pub closed_kept : (blocks : Blocks) (inner start : Start) (outer before : List Start) (leaves : ℕ) → outer ≡ before ++ start ∷ [] → IsKept blocks inner outer leaves → IsKept (closed blocks) start before leaves
closed_kept blocks inner start outer before leaves e is = closed_kept_in blocks.inner blocks.around blocks.leaves inner start outer before leaves e is

-- the test by the starts

shown_by_starts : (around : List Block) (u : ℕ) → starts_show (map start_of around) u ≡ shows around u
shown_by_starts [] u = refl
shown_by_starts (block ∷ around) u = ap (λ rest. if nat_le block.first u then is_series block.order else rest) (shown_by_starts around u)

-- a leaf before the innermost block
pub shown_outside : (blocks : Blocks) (inner : Start) (outer : List Start) (leaves u : ℕ) → IsKept blocks inner outer leaves → u < inner.first → is_shown blocks u ≡ starts_show (reverse outer) u
shown_outside blocks inner outer leaves u is less =
    let first : blocks.inner.first ≡ inner.first = ap (λ (start : Start). start.first) is.inner_is in
    let off : nat_le blocks.inner.first u ≡ false = grind (arith, nat_tests) in
    ap (λ b. if b then is_series blocks.inner.order else shows blocks.around u) off
    ∙ sym (shown_by_starts blocks.around u) ∙ ap (λ starts. starts_show starts u) is.outer_are
