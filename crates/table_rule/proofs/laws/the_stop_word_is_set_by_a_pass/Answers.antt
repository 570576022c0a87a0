use Rattle.std.proofs.Common.{◌≡◌, arith, ap, sym, ◌∙◌, ⊎_elim}
use mathlib.Core.Option.{some-injective}
use lib.ListN.{get_elem?}
use Rattle.table_rule.specs.declared.view.View.{View}
use Rattle.table_rule.proofs.laws.the_stop_word_is_set_by_a_pass.Goals as goal

pub returns-clause-found : goal.returns-clause-found
returns-clause-found c work key t shown id v at some_found =
    let b = shown.stop.by (shown.stop.found id v at some_found) in (b.0, b.1, b.2, b.3)

pub returns-clause-stays : goal.returns-clause-stays
returns-clause-stays c work key t shown id v at some_stops = shown.stop.set id v at some_stops

-- the one seat of the lowest worker of the setter's seat has set nothing
pub returns-clause-unset : goal.returns-clause-unset
returns-clause-unset c work key t shown none_set = ⊎_elim
    (λ zero. zero)
    (λ one.
    let b = shown.stop.by one in
    let mine = shown.views b.0 b.1 b.1.own.worker b.2 (omega arith) b.4 in
    let seat = none_set b.1.own.worker mine.0 in
    let other = shown.views seat.0 seat.1 b.1.own.worker seat.2 seat.3 seat.4 in
    let same : b.0 ≡ seat.0 = sym mine.1.sits ∙ other.1.sits in
    let view : b.1 ≡ seat.1 = some-injective _ _ (sym b.2 ∙ (ap (λ i. get_elem? t.views i) same ∙ seat.2)) in
    let stops = ap (λ (v : View). v.own.stops) view in
    let nothing = seat.5 in
    let some_stops = b.3 in
    absurd (omega (arith, nothing, some_stops, stops)))
    shown.stop.known

pub returns-clause-before : goal.returns-clause-before
returns-clause-before c work key t shown id by v u at some_worker set = shown.stop.unset id by v u at some_worker set
