-- The table at the start.
use Rattle.std.proofs.Common.{◌≡◌, ℕ, zero, suc, ◌+◌, ◌-◌, ◌<◌, List, [], ◌∷◌, ◌++◌, map, length, get_or, set, replicate, Vec, Global, sym, refl, ap, ◌∙◌, subst, arith, length-set, length-append, get_or-set_other, get_or-set_same}
use Rattle.std.proofs.lemmas.List.{length-replicate, length-map, get_or_append_left, get_or_push, length_push}
use mathlib.Core.Option.{some}
use lib.ListN.{get_elem?}
use mathlib.Core.Logic.{dite}
use native.Mathlib.Decide.{ℕ_discrete}
use Rattle.atomic_table.specs.Table.{Me, Splits, opening}
use Rattle.shared_calls.specs.declared.view.Slot.{Slot}
use Rattle.shared_calls.specs.declared.view.Slot.TheVariants.{Vacant, Whole}
use Rattle.shared_calls.specs.declared.view.View.{View}
use Rattle.shared_calls.specs.Serial.{SerialObject}
use Rattle.shared_calls.specs.Stages.{away}
use Rattle.shared_calls.specs.Rule.{Keeps, Stands, Sees, first_view, newcomers}
use Rattle.shared_calls.specs.Plays.{first_caller, other_callers}
use Rattle.shared_calls.specs.declared.combined.Combined.{Ghosts}
use Rattle.shared_calls.specs.declared.shared.Shared.{Shared}
use Rattle.shared_calls.specs.declared.shared.Caller.{Caller}
use Rattle.shared_calls.specs.Views.{IsNewCaller, AreNewCallers}
use Rattle.shared_calls.proofs.Moves.{true_false}
use Rattle.shared_calls.proofs.Seats.{only_one, nils, others_are, first_is, cuts}

threes : (n k : ℕ) → k < n → let three : ℕ = 3 in get_or (replicate n three) k 0 ≡ three
threes zero k less = absurd (omega (arith, less))
threes (suc n) zero less = refl
threes (suc n) (suc k) less = threes n k (omega (arith, less))

module _ {T O R : Type 0} (object : SerialObject O R) (content : T → object.State) (fails : T → List O → Type 0) where
  vacant_at : (n k : ℕ) (xs : List (Slot T O R)) → k < n → get_elem? (map some (replicate n Vacant ++ xs)) k ≡ some (some Vacant)
  vacant_at zero k xs less = absurd (omega (arith, less))
  vacant_at (suc n) zero xs less = refl
  vacant_at (suc n) (suc k) xs less = vacant_at n k xs (omega (arith, less))

  whole_at : (n : ℕ) (x : Slot T O R) → get_elem? (map some (replicate n Vacant ++ x ∷ [])) n ≡ some (some x)
  whole_at zero x = refl
  whole_at (suc n) x = whole_at n x

  pub starts : (p q : ℕ) (t : T) (rs : Vec R Global) → q ≡ p + 1 → content t ≡ object.opening
      → Keeps object content fails p (opening (set (replicate q 3) p 0) (replicate p Vacant ++ Whole t rs ∷ []) (first_view p))
  starts p q t rs wide is =
      let three : ℕ = 3 in
      let threes_all : List ℕ = replicate q three in
      let ws : List ℕ = set threes_all p 0 in
      let xs : List (Slot T O R) = replicate p Vacant in
      let a : length threes_all ≡ q = length-replicate q three in
      let b : length ws ≡ length threes_all = length-set threes_all p 0 in
      let flag : get_or ws p 0 ≡ 0 = get_or-set_same threes_all p 0 0 (omega (arith, a, wide)) in
      let c : length xs ≡ p = length-replicate p Vacant in
      let d = length-append xs (Whole t rs ∷ []) in
      let e = length-map (xs ++ Whole t rs ∷ []) some in
      record {
        log = [];
        stage = λ w. away;
        seat = λ w. 0;
        wide = omega (arith, a, b, wide);
        slots = omega (arith, c, d, e);
        seated = λ w. omega arith;
        stages = λ w less. (get_or-set_other threes_all p w 0 0 (λ same. absurd (omega (arith, same, less))) ∙ threes q w (omega (arith, less, wide)), vacant_at p w (Whole t rs ∷ []) less);
        serial = refl;
        known = tt;
        few = omega (arith, flag);
        home = λ _. (t, rs, whole_at p (Whole t rs), is);
        none_taken = λ _ w less. tt;
        none_owed = λ lost. absurd (omega (arith, lost, flag));
        cause = λ lost. absurd (omega (arith, lost, flag));
        told = λ lost. absurd (omega (arith, lost, flag));
        sees = λ i u at. subst (Sees p (get_or ws p 0) []) (only_one u (first_view p) i at).1 (record { seen = ([], refl); heard = tt; lost = λ h. absurd (true_false (sym h)) });
        stands = λ i u w at lo hi. let o = only_one u (first_view p) i at in (
          subst (λ (m : ℕ). w < m) (ap (λ (y : View O R). y.to) (sym o.1)) hi,
          subst (λ (y : View O R). Stands p (get_or ws p 0) [] (λ w. away) 0 i y w) o.1 (record {
            sits = o.0;
            asks = refl;
            made = sym (ap (λ l. l ++ []) (nils p (w - 0)));
            own = λ _. sym (nils p (w - 0));
            free = λ _ h. absurd (omega (arith, h, flag));
            holds = λ h. absurd (true_false (sym h));
          }),
        );
      }

  -- the first caller can be split off newcomers
  pub can_cut : (p id n t c : ℕ) (m : Me (Slot T O R) (View O R)) → m ≡ (newcomers n t c, []) → n < t
      → Splits (Keeps object content fails p) id m.0 (other_callers m.0) (first_caller m.0)
  can_cut p id n t c m is less =
      let v : View O R = newcomers n t c in
      subst (λ (m : Me (Slot T O R) (View O R)). Splits (Keeps object content fails p) id m.0 (other_callers m.0) (first_caller m.0)) (sym is)
      (subst (λ (l : View O R). Splits (Keeps object content fails p) id v l (first_caller v)) (sym (others_are n t c))
      (subst (λ (r : View O R). Splits (Keeps object content fails p) id v (newcomers (n + 1) t (c - 1)) r) (sym (first_is n t c)) (cuts object content fails p id n t c less)))

module _ {T O R : Type 0} where
  pub left_then : (m n : Me (Slot T O R) (View O R)) (k t c d : ℕ) → m ≡ (newcomers k t c, []) → n ≡ (other_callers m.0, m.1) → c - 1 ≡ d → n ≡ (newcomers (k + 1) t d, [])
  left_then m n k t c d before is fewer = is ∙ (ap (λ (q : Me (Slot T O R) (View O R)). (other_callers q.0, q.1)) before
      ∙ (ap (λ (v : View O R). (v, [])) (others_are k t c) ∙ ap (λ (e : ℕ). (newcomers (k + 1) t e, [])) fewer))

  pub own_then : (m n : Me (Slot T O R) (View O R)) (k t c : ℕ) → m ≡ (newcomers k t c, []) → n ≡ (first_caller m.0, []) → n ≡ (newcomers k (k + 1) 1, [])
  own_then m n k t c before is = is ∙ (ap (λ (q : Me (Slot T O R) (View O R)). (first_caller q.0, [])) before ∙ ap (λ (v : View O R). (v, [])) (first_is k t c))

pub one_more : {T O R : Type 0} {g : Ghosts T O R} (n : ℕ) (s : Shared T O R) (callers : List (Caller T O R g)) (c : Caller T O R g)
    → AreNewCallers n s callers → IsNewCaller s n c → AreNewCallers (n + 1) s (callers ++ c ∷ [])
one_more {T} {O} {R} {g} n s callers c so_far new = record {
  count = omega (arith, length_push callers c, so_far.count);
  each = λ k e lt at. dite (ℕ_discrete k n)
      (λ is.
      let same : c ≡ e = sym (at ∙ get_or_push callers c e k (so_far.count ∙ sym is)) in
      subst (λ (q : Caller T O R g). IsNewCaller s k q) same (subst (λ (m : ℕ). IsNewCaller s m c) (sym is) new))
      (λ ne.
      let less : k < n = omega (arith, lt, ne) in
      so_far.each k e less (at ∙ get_or_append_left callers (c ∷ []) e k (omega (arith, so_far.count, less))));
}
