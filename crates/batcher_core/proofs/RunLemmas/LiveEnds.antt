-- If the stopped workers have no task, a run of the live ones does not get stuck.
use Rattle.std.proofs.Common.{ℕ, ◌≡◌, ◌<◌, Bool, true, false, List, length, Contains, arith, sym, ◌∙◌}
use Rattle.std.proofs.lemmas.List.{get_or_default}
use Rattle.core_model.proofs.Words.{is_done}
use Rattle.batcher_core.specs.Cores.{CoreView, state_in, is_over_in}
use Rattle.core_state.specs.Places.{at}
use Rattle.batcher_core.proofs.RunLemmas.Taken.{goes_on}

pub not_stuck : (first core : CoreView) (live : List Bool)
    → ((one : ℕ) → one < first.workers → at live false one ≡ true → is_done ((state_in core).state.node 0) ≡ true)
    → length live ≡ first.workers → Contains live true → is_over_in core ≡ false → core.spent ≡ false → ⊥
not_stuck first core live done all some more unspent =
    let is = done some.0 (omega (arith, some.1, all)) (get_or_default live some.0 false true some.1 ∙ some.2) in
    let going = goes_on _ _ more unspent in
    let e = sym is ∙ going in cc
