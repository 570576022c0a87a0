-- Which part of a list is the owner's.
use Rattle.std.proofs.Common.{◌≡◌, ◌≢◌, ℕ, zero, suc, ◌<◌, true, false, true≢false, List, [], ◌∷◌, ◌++◌, length, set, sym, refl, ap, ◌∙◌, ⊎_elim, arith}
use mathlib.Core.Option.{some, some-ne-none, some-injective}
use lib.ListN.{get_elem?}
use Rattle.crossbeam_deque.proofs.Lists.{at_set, at_snoc, set_here}
use Rattle.two_deques.specs.declared.rule.Part.{Part}
use Rattle.two_deques.specs.Rule.{ObeysRule}

-- no part other than this one is an owner's
abbrev pub IsAlone : {T : Type 0} → ℕ → List (Part T) → Type 0
IsAlone {T} owner parts = (port : ℕ) (p : Part T) → get_elem? parts port ≡ some p → p.owns ≡ true → port ≡ owner

inside : {X : Type 0} (xs : List X) (i : ℕ) (x : X) → get_elem? xs i ≡ some x → i < length xs
inside [] i x at = absurd (some-ne-none x (sym at))
inside (y ∷ xs) zero x at = omega arith
inside (y ∷ xs) (suc i) x at = omega (arith, inside xs i x at)

pub there_now : {X : Type 0} (xs : List X) (i : ℕ) (x y : X) → get_elem? xs i ≡ some x → get_elem? (set xs i y) i ≡ some y
there_now xs i x y at = set_here xs i y (inside xs i x at)

-- a part that owns is the owner's
pub owner_is : {T : Type 0} (items : List T) (parts : List (Part T)) (port : ℕ) (v : Part T)
    (rule : ObeysRule items parts) → get_elem? parts port ≡ some v → v.owns ≡ true
    → (port ≡ rule.owner) × (rule.mine ≡ v)
owner_is items parts port v rule at is =
    let same = rule.alone port v at is in (
      same,
      some-injective rule.mine v (sym rule.there ∙ ap (λ (k : ℕ). get_elem? parts k) (sym same) ∙ at),
    )

-- a part that does not own is not the owner's
pub thief_is : {T : Type 0} (items : List T) (parts : List (Part T)) (port : ℕ) (v : Part T)
    (rule : ObeysRule items parts) → get_elem? parts port ≡ some v → v.owns ≡ false → rule.owner ≢ port
thief_is items parts port v rule at is same =
    let one : rule.mine ≡ v =
    some-injective rule.mine v (sym rule.there ∙ ap (λ (k : ℕ). get_elem? parts k) same ∙ at) in
    true≢false (sym rule.owns ∙ ap (λ (p : Part _). p.owns) one ∙ is)

pub alone_at : {T : Type 0} (parts : List (Part T)) (owner port : ℕ) (w : Part T) → (w.owns ≡ true → port ≡ owner)
    → IsAlone owner parts → IsAlone owner (set parts port w)
alone_at parts owner port w mine alone j p at is =
    ⊎_elim (λ here. here.0 ∙ mine (ap (λ (q : Part _). q.owns) here.1 ∙ is)) (λ other. alone j p other.1 is)
    (at_set parts port j w p at)

pub alone_with_guest : {T : Type 0} (parts : List (Part T)) (owner : ℕ) (g : Part T) → g.owns ≡ false
    → IsAlone owner parts → IsAlone owner (parts ++ g ∷ [])
alone_with_guest parts owner g guest alone j p at is =
    ⊎_elim (λ old. alone j p old is)
    (λ new. absurd (true≢false (sym is ∙ ap (λ (q : Part _). q.owns) (sym new) ∙ guest))) (at_snoc parts g p j at)

pub first_alone : {T : Type 0} (v : Part T) → IsAlone 0 (v ∷ [])
first_alone v zero p at is = refl
first_alone v (suc k) p at is = absurd (some-ne-none p (sym at))
