-- A node chosen for a claim is at an end of one list and in no other.
use Rattle.std.proofs.Common.{ℕ, ◌≡◌, ◌≢◌, ◌-◌, ◌⊎◌, List, [], ◌∷◌, ◌++◌, length, arith, refl, inl, inr, sym, ◌∙◌, length-append}
use Rattle.std.proofs.lemmas.Bool.{cases_eq}
use Rattle.std.proofs.lemmas.List.{get_or_push}
use Rattle.core_model.proofs.Words.{CoreJob, CoreState}
use Rattle.core_state.specs.Words.{Progress, Idle, Free, Claim}
use Rattle.std.proofs.Common.{Some}
use Rattle.core_model.specs.Lists.{times}
use Rattle.core_model.specs.Invariant.ReadyLists.{ReadyListsInvariant}
use Rattle.core_model.proofs.Inductive.Parts.{InductiveParts}
use Rattle.core_model.specs.Choice.{choice, LeavesAnEnd}
use Rattle.ready_lists.specs.Ends.{IsOldest, IsNewest, IsAtEnd, IsAtOneEnd}
use Rattle.ready_lists.proofs.ListLemmas.Ends.{oldest_stands, newest_stands}
use Rattle.core_model.proofs.ChoiceLemmas.Ready.{once_there, idle_leaves, choice_of_idle}

-- the node is at an end of a list
abbrev EndsOne : (ℕ → List ℕ) → ℕ → Type 0
EndsOne ready n = (v : ℕ) × (IsOldest n (ready v) ⊎ IsNewest n (ready v))

newest_end : (rest : List ℕ) (n : ℕ) → IsNewest n (rest ++ n ∷ [])
newest_end rest n =
    let len = length-append rest (n ∷ []) in
    let e : length (rest ++ n ∷ []) - 1 ≡ length rest = omega (arith, len) in (omega (arith, len), rw e (get_or_push rest n n (length rest) refl))

ends_one : (ready : ℕ → List ℕ) (w n : ℕ) → LeavesAnEnd ready w n → EndsOne ready n
ends_one ready w n (inl (rest, at, off)) = (w, inr (rw at (newest_end rest n)))
ends_one ready w n (inr (v, rest, own, at, off)) = (v, inl (rw at (omega arith, refl)))

end_stands : (n : ℕ) (xs : List ℕ) → IsOldest n xs ⊎ IsNewest n xs → times n xs ≢ 0
end_stands n xs (inl h) = oldest_stands n xs h
end_stands n xs (inr h) = newest_stands n xs h

at_ends : (workers : ℕ) (node : ℕ → Progress) (ready : ℕ → List ℕ) (n : ℕ) → ReadyListsInvariant workers node ready → EndsOne ready n → (u : ℕ) → IsAtEnd n (ready u)
at_ends workers node ready n h one u =
    let there = once_there workers node ready one.0 n h (end_stands n (ready one.0) one.1) in
    elim (cases_eq u one.0) [
      | inl e ↦ rw e (record { once = omega (arith, there.0); end = λ some. one.1 })
      | inr other ↦ let none = there.1 u other in record { once = omega (arith, none); end = λ some. absurd (some none) }
    ]

pub claim_ends : (job : CoreJob) (s : CoreState) (w n : ℕ) → InductiveParts job s.state → ReadyListsInvariant job.workers s.state.node s.ready → s.state.status w ≡ Free → s.state.task w ≡ Idle
    → choice job s w ≡ Some (Claim n) → IsAtOneEnd n s.ready
claim_ends job s w n parts h status task chosen =
    let ends = ends_one s.ready w n (idle_leaves job s.state.node s.ready w n (s.ready w) h refl (sym (choice_of_idle job s w parts status task) ∙ chosen)) in record {
      at_ends = at_ends job.workers s.state.node s.ready n h ends;
      alone = λ u v other stands. (once_there job.workers s.state.node s.ready u n h stands).1 v (λ same. other (sym same));
    }
