-- The taken calls, in another order.
use Rattle.std.proofs.Common.{ℕ, ◌≡◌, Bool, true, inl, inr, List, [], ◌∷◌, ◌++◌, map, arith, sym, subst}
use Rattle.std.specs.Prelude.{Contains}
use Rattle.std.proofs.lemmas.List.{map-append}
use Rattle.std.proofs.lemmas.List.Elements.{Contains-append_left, Contains-append_right, Contains-append_cases}
use Rattle.seq_objects.specs.declared.call.Call.{Call}
use Rattle.launch_batch.specs.Calls.{ArePermutations}
use Rattle.launch_batch.proofs.ListLemmas.Same.{each_same, distinct_same}
use Rattle.core_model.proofs.Words.{CoreJob, Entry}
use Rattle.core_state.specs.Words.{Task}
use Rattle.core_model.specs.Batches.{IsCallOf, AreTakenCalls}

-- mapping a permuted list gives a permutation of the mapped list
contains_same : {X : Type 0} (f : X → ℕ) (xs others : List X) → ArePermutations xs others → (n : ℕ) → Contains (map f xs) n → Contains (map f others) n
contains_same f [] others same n there = absurd (omega (arith, there.1))
contains_same f (x ∷ xs) others same n there =
    let before = map f same.0 in
    let later = map f same.1 in
    subst (λ l. Contains (map f l) n) (sym same.2) (subst (λ l. Contains l n) (sym (map-append f same.0 (x ∷ same.1)))
    (elim (Contains-append_cases (f x ∷ []) (map f xs) n there) [
      | inl first ↦ Contains-append_right before (f x ∷ later) n (Contains-append_left (f x ∷ []) later n first)
      | inr more ↦ elim (Contains-append_cases before later n (subst (λ l. Contains l n) (map-append f same.0 same.1) (contains_same f xs (same.0 ++ same.1) same.3 n more))) [
        | inl sooner ↦ Contains-append_left before (f x ∷ later) n sooner
        | inr after ↦ Contains-append_right before (f x ∷ later) n (Contains-append_right (f x ∷ []) later n after)
      ]
    ]))

-- any permutation of the taken calls is the taken calls
pub taken_too : (job : CoreJob) (book : List (List Entry)) (task : ℕ → Task) (took : ℕ → Bool) (calls others : List Call) → ArePermutations calls others
    → AreTakenCalls job book task took calls → AreTakenCalls job book task took others
taken_too job book task took calls others same taken = record {
  distinct = distinct_same (λ (call : Call). call.worker) calls others same taken.distinct;
  only = each_same (λ (call : Call). (took call.worker ≡ true) × IsCallOf job book (task call.worker) call) calls others same taken.only;
  each = λ w below took_w. contains_same (λ (call : Call). call.worker) calls others same w (taken.each w below took_w);
}
