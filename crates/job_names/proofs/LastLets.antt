-- The last let of a name among some.
use Rattle.std.proofs.Common.{ℕ, ◌≡◌, ◌≢◌, Bool, true, false, List, [], ◌∷◌, Option, Some, None, refl, sym, ap, ◌∙◌, if◌then◌else◌}
use Rattle.std.specs.List.{AllByRecursion}
use Rattle.std.proofs.Common.{true≢false}
use Rattle.job_names.specs.declared.name.Name.{Name}
use Rattle.job_names.specs.declared.scopes.Let.{Let}
use Rattle.job_names.specs.Names.{same_name}
use Rattle.job_names.specs.Scopes.{IsLastNamed, last_of, or_else}
use Rattle.job_names.proofs.SameNames.{same_from, same_to}

none_step : (b : Bool) (name : Name) (bound : Let) (r : Option ℕ) → same_name bound.name name ≡ b → or_else r (if b then Some bound.number else None) ≡ None → (r ≡ None) × (bound.name ≢ name)
none_step b name bound (Some n) e h = cc
none_step true name bound None e h = cc
none_step false name bound None e h = (refl, λ at. true≢false (sym (same_to bound.name name at) ∙ e))

pub none_named : (name : Name) (lets : List Let) → last_of name lets ≡ None → AllByRecursion (λ bound. bound.name ≢ name) lets
none_named name [] h = tt
none_named name (bound ∷ lets) h =
    let s = none_step (same_name bound.name name) name bound (last_of name lets) refl h in (s.1, none_named name lets s.0)

some_step : (b : Bool) (name : Name) (number : ℕ) (bound : Let) (lets : List Let) (r : Option ℕ) → same_name bound.name name ≡ b → last_of name lets ≡ r
    → ((n : ℕ) → r ≡ Some n → IsLastNamed name n lets) → or_else r (if b then Some bound.number else None) ≡ Some number → IsLastNamed name number (bound ∷ lets)
some_step b name number bound lets (Some n) e rest inner h =
    let i = inner number h in record { front = bound ∷ i.front; behind = i.behind; stands = ap (λ l. bound ∷ l) i.stands; last = i.last }
some_step true name number bound lets None e rest inner h =
    record { front = []; behind = lets; stands = here (same_from bound.name name e) h; last = none_named name lets rest }
  where
    value : Option ℕ → ℕ
    value None = 0
    value (Some n) = n

    here : bound.name ≡ name → Some bound.number ≡ Some number → record { name = name; number = number } ∷ lets ≡ bound ∷ lets
    here e h = λ i. record { name = sym e i; number = value (sym h i) } ∷ lets
some_step false name number bound lets None e rest inner h = cc

pub some_named : (name : Name) (number : ℕ) (lets : List Let) → last_of name lets ≡ Some number → IsLastNamed name number lets
some_named name number [] h = cc
some_named name number (bound ∷ lets) h =
    some_step (same_name bound.name name) name number bound lets (last_of name lets) refl refl (λ n e. some_named name n lets e) h
