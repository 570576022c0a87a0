-- Which leaves are sources, source by source.
use Rattle.std.proofs.Common.{◌≡◌, ℕ, zero, suc, ◌+◌, ◌<◌, List, [], ◌∷◌, ◌++◌, length, take, Result, Ok, Err, Option, Some, None, sym, ap, ◌∙◌, arith}
use Rattle.std.specs.Prelude.{◌||◌, slice_get, IfSome, OnOk}
use Rattle.seq_objects.specs.declared.act.Act.{Act}
use Rattle.sp_order.specs.Precedence.{Tree}
use Rattle.sp_order.specs.Sources.{AreSources}
use Rattle.job_writer.specs.Canonical.{WrittenLeaf, is_leaf, is_source, written_from}
use Rattle.std.proofs.lemmas.Option.{slice_get_within}
use Rattle.std.proofs.Math.Bool.{or-false, or_assoc}

-- the sources before a place, and one more
source_more_at : (sources : List (Option ℕ)) (i leaf : ℕ) (source : Option ℕ) → slice_get sources i ≡ Some source → is_source (take (suc i) sources) leaf ≡ (is_source (take i sources) leaf || is_leaf leaf source)
source_more_at [] i leaf source e = cc
source_more_at (first ∷ sources) zero leaf source e =
    let same : first ≡ source = cc in or-false (is_leaf leaf first) ∙ ap (is_leaf leaf) same
source_more_at (first ∷ sources) (suc i) leaf source e =
    ap (λ b. is_leaf leaf first || b) (source_more_at sources i leaf source e) ∙ sym (or_assoc (is_leaf leaf first) (is_source (take i sources) leaf) (is_leaf leaf source))

pub source_more : (sources : List (Option ℕ)) (i leaf : ℕ) (source : Option ℕ) → slice_get sources i ≡ Some source → is_source (take (i + 1) sources) leaf ≡ (is_source (take i sources) leaf || is_leaf leaf source)
source_more sources i leaf source e =
    let next : i + 1 ≡ suc i = omega arith in ap (λ n. is_source (take n sources) leaf) next ∙ source_more_at sources i leaf source e

-- a job's source is one of its leaves
pub source_below : (shape : Option Tree) (acts : List Act) (sources : List (Option ℕ)) (leaf : ℕ) (r : Option ℕ) → AreSources shape acts sources → slice_get sources leaf ≡ Some r → IfSome r (λ source. source < length acts)
source_below shape acts sources leaf None are e = tt
source_below shape acts sources leaf (Some source) are e = let is = are.each leaf source e in slice_get_within acts source is.from is.stands

-- the leaves before a place, and one more
written_more_at : (all : List (Option ℕ)) (number : ℕ) (acts : List Act) (sources : List (Option ℕ)) (i at : ℕ) (act : Act) (source : Option ℕ) → at ≡ number + i → slice_get acts i ≡ Some act → slice_get sources i ≡ Some source
    → written_from all number (take (suc i) acts) (take (suc i) sources) ≡ written_from all number (take i acts) (take i sources) ++ record { number = at; named = is_source all at; act = act; source = source } ∷ []
written_more_at all number [] sources i at act source n e f = cc
written_more_at all number (a ∷ acts) [] i at act source n e f = cc
written_more_at all number (a ∷ acts) (s ∷ sources) zero at act source n e f =
    let same : a ≡ act = cc in
    let same' : s ≡ source = cc in
    let place : number ≡ at = omega (arith, n) in
    λ j. record { number = place j; named = is_source all (place j); act = same j; source = same' j } ∷ []
written_more_at all number (a ∷ acts) (s ∷ sources) (suc i) at act source n e f =
    ap (λ l. record { number = number; named = is_source all number; act = a; source = s } ∷ l) (written_more_at all (number + 1) acts sources i at act source (omega (arith, n)) e f)

pub written_more : (all : List (Option ℕ)) (acts : List Act) (sources : List (Option ℕ)) (i : ℕ) (act : Act) (source : Option ℕ) → slice_get acts i ≡ Some act → slice_get sources i ≡ Some source
    → written_from all 0 (take (i + 1) acts) (take (i + 1) sources) ≡ written_from all 0 (take i acts) (take i sources) ++ record { number = i; named = is_source all i; act = act; source = source } ∷ []
written_more all acts sources i act source e f =
    let next : i + 1 ≡ suc i = omega arith in
    ap (λ n. written_from all 0 (take n acts) (take n sources)) next ∙ written_more_at all 0 acts sources i i act source (omega arith) e f

pub one_pushed : (all : List (Option ℕ)) (acts : List Act) (sources : List (Option ℕ)) (i : ℕ) (old new : List WrittenLeaf) (one : WrittenLeaf) → old ≡ written_from all 0 (take i acts) (take i sources) → new ≡ old ++ one ∷ []
    → one.number ≡ i → one.named ≡ is_source all i → slice_get acts i ≡ Some one.act → slice_get sources i ≡ Some one.source → new ≡ written_from all 0 (take (i + 1) acts) (take (i + 1) sources)
one_pushed all acts sources i old new one e f number named act source =
    f ∙ ap (λ l. l ++ one ∷ []) e
    ∙ (λ j. written_from all 0 (take i acts) (take i sources) ++ record { number = number j; named = named j; act = one.act; source = one.source } ∷ [])
    ∙ sym (written_more all acts sources i one.act one.source act source)

pub any_ok : {X E : Type 0} (r : Result X E) (A : Type 0) → A → OnOk r A
any_ok (Ok x) A a = a
any_ok (Err e) A a = tt
