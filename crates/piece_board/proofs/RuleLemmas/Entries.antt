-- Adding entries to association lists, and removing them.
use Rattle.std.proofs.Common.{◌≡◌, ◌≢◌, ℕ, ◌++◌, List, [], ◌∷◌, Option, None, Some, if◌then◌else◌, eq-eqb, ne_eqb, sym, refl, ap, ◌∙◌, subst}
use mathlib.Core.Logic.{dite}
use native.Mathlib.Decide.{ℕ_discrete}
use Rattle.piece_board.specs.Entries.{entry_at, without, AreApart}

module _ {A : Type 0} where
  abbrev IsNothing : Option A → Type 0
  IsNothing None = Unit {0}
  IsNothing (Some x) = ⊥

  pub none_is_not : (x : A) → None ≡ Some x → ⊥
  none_is_not x e = subst IsNothing e tt

  abbrev given_or : A → Option A → A
  given_or d None = d
  given_or d (Some x) = x

  pub some_is : (x y : A) → Some x ≡ Some y → x ≡ y
  some_is x y e = ap (given_or x) e

  at_head : (n : ℕ) (e : ℕ × A) (es : List (ℕ × A)) → e.0 ≡ n → entry_at n (e ∷ es) ≡ Some e.1
  at_head n e es is = ap (λ b. if b then Some e.1 else entry_at n es) (eq-eqb e.0 n is)

  past_head : (n : ℕ) (e : ℕ × A) (es : List (ℕ × A)) → e.0 ≢ n → entry_at n (e ∷ es) ≡ entry_at n es
  past_head n e es ne = ap (λ b. if b then Some e.1 else entry_at n es) (ne_eqb e.0 n ne)

  without_head : (n : ℕ) (e : ℕ × A) (es : List (ℕ × A)) → e.0 ≡ n → without n (e ∷ es) ≡ es
  without_head n e es is = ap (λ b. if b then es else e ∷ without n es) (eq-eqb e.0 n is)

  without_later : (n : ℕ) (e : ℕ × A) (es : List (ℕ × A)) → e.0 ≢ n → without n (e ∷ es) ≡ e ∷ without n es
  without_later n e es ne = ap (λ b. if b then es else e ∷ without n es) (ne_eqb e.0 n ne)

  pub entry_first : (n : ℕ) (x : A) (es : List (ℕ × A)) → entry_at n ((n, x) ∷ es) ≡ Some x
  entry_first n x es = at_head n (n, x) es refl

  pub entry_later : (n m : ℕ) (x : A) (es : List (ℕ × A)) → n ≢ m → entry_at n ((m, x) ∷ es) ≡ entry_at n es
  entry_later n m x es ne = past_head n (m, x) es (λ e. ne (sym e))

  pub entry_before : (n m : ℕ) (x : A) (es : List (ℕ × A)) → n ≢ m → entry_at n (es ++ (m, x) ∷ []) ≡ entry_at n es
  entry_before n m x [] ne = entry_later n m x [] ne
  entry_before n m x (e ∷ es) ne = dite (ℕ_discrete e.0 n)
      (λ (is : e.0 ≡ n). at_head n e (es ++ (m, x) ∷ []) is ∙ sym (at_head n e es is))
      (λ (ap' : e.0 ≢ n). past_head n e (es ++ (m, x) ∷ []) ap' ∙ entry_before n m x es ne ∙ sym (past_head n e es ap'))

  not_at_head : (n : ℕ) (e : ℕ × A) (es : List (ℕ × A)) → entry_at n (e ∷ es) ≡ None → e.0 ≢ n
  not_at_head n e es free is = none_is_not e.1 (sym free ∙ at_head n e es is)

  nor_later : (n : ℕ) (e : ℕ × A) (es : List (ℕ × A)) → entry_at n (e ∷ es) ≡ None → entry_at n es ≡ None
  nor_later n e es free = sym (past_head n e es (not_at_head n e es free)) ∙ free

  pub entry_last : (n : ℕ) (x : A) (es : List (ℕ × A)) → entry_at n es ≡ None → entry_at n (es ++ (n, x) ∷ []) ≡ Some x
  entry_last n x [] free = entry_first n x []
  entry_last n x (e ∷ es) free =
      past_head n e (es ++ (n, x) ∷ []) (not_at_head n e es free) ∙ entry_last n x es (nor_later n e es free)

  pub entry_gone : (n : ℕ) (es : List (ℕ × A)) → AreApart es → entry_at n (without n es) ≡ None
  entry_gone n [] apart = refl
  entry_gone n (e ∷ es) apart = dite (ℕ_discrete e.0 n)
      (λ (is : e.0 ≡ n). ap (entry_at n) (without_head n e es is) ∙ ap (λ (m : ℕ). entry_at m es) (sym is) ∙ apart.0)
      (λ (ne : e.0 ≢ n). ap (entry_at n) (without_later n e es ne) ∙ past_head n e (without n es) ne
      ∙ entry_gone n es apart.1)

  pub entry_stays : (n m : ℕ) (es : List (ℕ × A)) → n ≢ m → entry_at n (without m es) ≡ entry_at n es
  entry_stays n m [] ne = refl
  entry_stays n m (e ∷ es) ne = dite (ℕ_discrete e.0 m)
      (λ (is : e.0 ≡ m). ap (entry_at n) (without_head m e es is) ∙ sym (past_head n e es (λ h. ne (sym h ∙ is))))
      (λ (other : e.0 ≢ m). ap (entry_at n) (without_later m e es other) ∙ dite (ℕ_discrete e.0 n)
      (λ (is : e.0 ≡ n). at_head n e (without m es) is ∙ sym (at_head n e es is))
      (λ (past : e.0 ≢ n). past_head n e (without m es) past ∙ entry_stays n m es ne ∙ sym (past_head n e es past)))

  pub apart_with_last : (n : ℕ) (x : A) (es : List (ℕ × A)) → entry_at n es ≡ None → AreApart es
      → AreApart (es ++ (n, x) ∷ [])
  apart_with_last n x [] free apart = (refl, tt)
  apart_with_last n x (e ∷ es) free apart = (
    entry_before e.0 n x es (not_at_head n e es free) ∙ apart.0,
    apart_with_last n x es (nor_later n e es free) apart.1,
  )

  pub apart_without : (n : ℕ) (es : List (ℕ × A)) → AreApart es → AreApart (without n es)
  apart_without n [] apart = tt
  apart_without n (e ∷ es) apart = dite (ℕ_discrete e.0 n)
      (λ (is : e.0 ≡ n). subst AreApart (sym (without_head n e es is)) apart.1)
      (λ (ne : e.0 ≢ n). subst AreApart (sym (without_later n e es ne))
      (entry_stays e.0 n es ne ∙ apart.0, apart_without n es apart.1))
