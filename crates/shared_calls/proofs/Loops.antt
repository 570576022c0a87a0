-- Lists in the loops of a batch.
use Rattle.std.proofs.Common.{◌≡◌, ℕ, zero, suc, ◌+◌, ◌<◌, List, [], ◌∷◌, ◌++◌, map, drop, length, get_or, sym, refl, ap, ◌∙◌, arith}
use Rattle.std.proofs.lemmas.List.{length-drop, get_or-drop}
use Rattle.shared_calls.specs.declared.view.Entry.{Entry}
use Rattle.shared_calls.specs.declared.view.Asked.{Asked}
use Rattle.shared_calls.specs.declared.view.Slot.{Slot}
use Rattle.shared_calls.specs.declared.view.Slot.TheVariants.{Vacant}
use Rattle.shared_calls.specs.Logs.{ask}
use Rattle.shared_calls.specs.Callers.{in_hand}

drop_next : {X : Type 0} (l : List X) (i : ℕ) → drop (suc i) l ≡ drop 1 (drop i l)
drop_next l zero = refl
drop_next [] (suc i) = refl
drop_next (x ∷ l) (suc i) = drop_next l i

pub hand_push : {T O R : Type 0} (asked : List (Asked O)) (u : ℕ) (op : O) → let hand : List ℕ → List (ℕ × Slot T O R) = in_hand in
    hand (map (λ (a : Asked O). a.caller) (asked ++ ask u op ∷ [])) ≡ hand (map (λ (a : Asked O). a.caller) asked) ++ (u, Vacant) ∷ []
hand_push [] u op = refl
hand_push (a ∷ asked) u op = ap (λ l. (a.caller, Vacant) ∷ l) (hand_push asked u op)

module _ {O R : Type 0} where
  -- the entry that is answered next
  pub split_left : (left : List (Entry O R)) (i : ℕ) (callers : List ℕ) (reply : R) (more : List R)
      → map (λ (e : Entry O R). e.caller) left ≡ drop i callers → map (λ (e : Entry O R). e.reply) left ≡ reply ∷ more
      → (e : Entry O R) × (d : List (Entry O R)) × (left ≡ e ∷ d) × (e.reply ≡ reply) × (map (λ (e : Entry O R). e.reply) d ≡ more)
      × (i < length callers) × ((x : ℕ) → e.caller ≡ get_or callers i x) × (map (λ (e : Entry O R). e.caller) d ≡ drop (i + 1) callers)
  split_left [] i callers reply more is are = cc
  split_left (e ∷ d) i callers reply more is are =
      let long = length-drop i callers in
      let same = ap (λ (l : List ℕ). length l) is in
      let one_more : suc i ≡ i + 1 = omega arith in (
        e,
        d,
        refl,
        ap (λ (l : List R). get_or l 0 reply) are,
        ap (λ (l : List R). drop 1 l) are,
        omega (arith, long, same),
        (λ x. ap (λ (l : List ℕ). get_or l 0 x) is ∙ (get_or-drop i callers 0 x ∙ ap (λ (n : ℕ). get_or callers n x) (plus_none i))),
        ap (λ (l : List ℕ). drop 1 l) is ∙ (sym (drop_next callers i) ∙ ap (λ (n : ℕ). drop n callers) one_more),
      )
    where
      plus_none : (n : ℕ) → n + 0 ≡ n
      plus_none n = omega arith

  pub none_left : (left : List (Entry O R)) → let replies : List R = map (λ (e : Entry O R). e.reply) left in replies ≡ [] → left ≡ []
  none_left [] is = refl
  none_left (e ∷ d) is = cc
