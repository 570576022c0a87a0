-- Each name in the canonical text has its let shown.
use Rattle.std.proofs.Common.{◌≡◌, ℕ, ◌+◌, ◌<◌, ◌≤◌, ◌⊎◌, inl, inr, Bool, true, false, List, [], ◌∷◌, ◌++◌, Option, Some, None, is_some, refl, sym, ap, ◌∙◌, arith}
use Rattle.std.specs.Prelude.{IsTrue}
use Rattle.job_names.specs.declared.name.Name.{Name}
use Rattle.job_names.specs.declared.scopes.Let.{Let}
use Rattle.job_names.specs.Scopes.{Scope, last_of, lets_shown}
use Rattle.seq_objects.specs.declared.act.Act.{Act}
use Rattle.seq_objects.specs.declared.act.Act.TheVariants.{Work, Call}
use Rattle.seq_objects.specs.declared.verb.Verb.{Verb}
use Rattle.seq_objects.specs.Parts.{verb_of, number_of, argument_of, has_argument}
use Rattle.job_syntax.specs.Grammar.{Items, nothing, leaf_then, seq_block, par_block, ◌then◌, Leaf, call}
use Rattle.job_syntax.specs.Code.Shown.{OpenBlock, lets_of, lets_behind, scope_at, is_shown, IsShownLeaf, AreShown}
use Rattle.job_syntax.proofs.ParserLemmas.Shown.{in_first, in_second, own_from}
use Rattle.job_writer.specs.Canonical.{is_source}
use Rattle.job_writer.proofs.WriterLemmas.Grown.{Grown, lone, series, parallel, shape_of, size}
use Rattle.job_writer.proofs.WriterLemmas.Items.{name_at, taken, said, leaf_of_act, given_name, leaf_of_written, items_of, inside}
use Rattle.job_writer.proofs.WriterLemmas.Names.{leaf_name}
use Rattle.job_writer.proofs.WriterLemmas.Sources.{AreAt, Sourced, IsNamedIn}
use Rattle.std.proofs.lemmas.Bool.{cases_lt}

module _ (names : List (List ℕ)) where
  abbrev IsIn : Name → List Let → Type 0
  IsIn name lets = IsTrue (is_some (last_of name lets))

  given_let : (b : Bool) (number : ℕ) (given : Leaf) (u : ℕ) → b ≡ true → number ≡ u → IsIn (leaf_name u) (lets_of (given_name b number given))
  given_let true number given u e is = own_from (leaf_name number) (leaf_name u) (ap leaf_name is)
  given_let false number given u e is = cc

  shown_later : (grown : Grown) (more : Items) (name : Name) → IsIn name (lets_behind more) → IsIn name (lets_behind (items_of names grown more))
  shown_later (lone one) more name h = in_second name (lets_of (leaf_of_written names one)) (lets_behind more) h
  shown_later (series left right) more name h = in_second name (lets_behind (inside names left right)) (lets_behind more) h
  shown_later (parallel left right) more name h = in_second name (lets_behind (inside names left right)) (lets_behind more) h

  -- a source among the leaves has its let behind them
  abbrev IsShownBehind : List (Option ℕ) → Grown → Type 0
  IsShownBehind all grown = (first : ℕ) (more : Items) (u : ℕ) → AreAt all first grown → first ≤ u → u < first + size grown → is_source all u ≡ true → IsIn (leaf_name u) (lets_behind (items_of names grown more))

  both_shown : (all : List (Option ℕ)) (left right : Grown) → IsShownBehind all left → IsShownBehind all right → (first u : ℕ) (more : Items) → AreAt all first left → AreAt all (first + size left) right → first ≤ u → u < first + (size left + size right) → is_source all u ≡ true
      → IsIn (leaf_name u) (lets_behind (inside names left right) ++ lets_behind more)
  both_shown all left right front back first u more at at' low high named =
      in_first (leaf_name u) (lets_behind (inside names left right)) (lets_behind more)
      (elim (cases_lt u (first + size left)) [
        | inl l ↦ front first (items_of names right nothing) u at low l named
        | inr r ↦ shown_later left (items_of names right nothing) (leaf_name u) (back (first + size left) nothing u at' r (omega (arith, high)) named)
      ])

  shown_behind : (all : List (Option ℕ)) (grown : Grown) → IsShownBehind all grown
  shown_behind all (lone one) first more u at low high named =
      let is : u ≡ first = omega (arith, low, high) in
      in_first (leaf_name u) (lets_of (leaf_of_written names one)) (lets_behind more)
      (given_let one.named one.number (leaf_of_act names one.act one.source) u (at.named_is ∙ ap (is_source all) (sym is) ∙ named) (at.number_is ∙ sym is))
  shown_behind all (series left right) first more u at low high named = both_shown all left right (shown_behind all left) (shown_behind all right) first u more at.0 at.1 low high named
  shown_behind all (parallel left right) first more u at low high named = both_shown all left right (shown_behind all left) (shown_behind all right) first u more at.0 at.1 low high named

  -- a leaf whose source is shown

  said_shown : (takes : Bool) (verb : Verb) (object : Option Name) (number : ℕ) (source : Option ℕ) (scope : Scope) → ((u : ℕ) → source ≡ Some u → IsTrue (is_shown (leaf_name u) scope)) → IsShownLeaf scope (call verb object (taken takes (said number source)))
  said_shown true verb object number None scope h = tt
  said_shown true verb object number (Some u) scope h = h u refl
  said_shown false verb object number source scope h = tt

  act_shown : (act : Act) (source : Option ℕ) (scope : Scope) → ((u : ℕ) → source ≡ Some u → IsTrue (is_shown (leaf_name u) scope)) → IsShownLeaf scope (leaf_of_act names act source)
  act_shown (Work steps) source scope h = tt
  act_shown (Call op) source scope h = said_shown (has_argument op) (verb_of op) (name_at names (number_of op)) (argument_of op) source scope h

  given_shown : (b : Bool) (number : ℕ) (given : Leaf) (scope : Scope) → IsShownLeaf scope given → IsShownLeaf scope (given_name b number given)
  given_shown true number given scope h = h
  given_shown false number given scope h = h

  pub one_shown : (act : Act) → AreShown [] nothing (leaf_then (leaf_of_act names act None) nothing)
  one_shown act = (act_shown act None (scope_at [] nothing) (λ u e. absurd (cc e)), tt)

  -- Each source is known, or named before the leaf; where those known are shown, all uses have their lets shown.
  pub all_shown : (all : List (Option ℕ)) (grown : Grown) (first : ℕ) (blocks : List OpenBlock) (before : Items) (K : ℕ → Type 0) (more : Items) → AreAt all first grown → Sourced all grown first K
      → ((u : ℕ) → K u → IsTrue (is_shown (leaf_name u) (scope_at blocks before))) → AreShown blocks (before then items_of names grown nothing) more → AreShown blocks before (items_of names grown more)
  all_shown all (lone one) first blocks before K more at src holds rest =
      (given_shown one.named one.number (leaf_of_act names one.act one.source) (scope_at blocks before) (act_shown one.act one.source (scope_at blocks before) (λ u e. holds u (src u e))), rest)
  all_shown all (series left right) first blocks before K more at src holds rest =
      let inner : List OpenBlock = record { before = before; kind = seq_block } ∷ blocks in
      let outer = lets_shown (scope_at blocks before) in
      let front = lets_behind (items_of names left nothing) in
      let back : AreShown inner (items_of names left nothing) (items_of names right nothing) =
      all_shown all right (first + size left) inner (items_of names left nothing) (λ u. K u ⊎ IsNamedIn all (shape_of left) first u) nothing at.1 src.1
      (λ u k. elim k [
        | inl old ↦ in_first (leaf_name u) outer front (holds u old)
        | inr new ↦ in_second (leaf_name u) outer front (shown_behind all left first nothing u at.0 new.0.0 new.0.1 new.1)
      ]) tt in
      (all_shown all left first inner nothing K (items_of names right nothing) at.0 src.0 (λ u k. in_first (leaf_name u) outer [] (holds u k)) back, rest)
  all_shown all (parallel left right) first blocks before K more at src holds rest =
      let inner : List OpenBlock = record { before = before; kind = par_block } ∷ blocks in
      let outer = lets_shown (scope_at blocks before) in
      let shown : (u : ℕ) → K u → IsTrue (is_shown (leaf_name u) (scope_at inner nothing)) = λ u k. in_first (leaf_name u) outer [] (holds u k) in
      (all_shown all left first inner nothing K (items_of names right nothing) at.0 src.0 shown (all_shown all right (first + size left) inner (items_of names left nothing) K nothing at.1 src.1 shown tt), rest)
