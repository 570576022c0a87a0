-- Two names are the same exactly where the test says so.
use Rattle.std.proofs.Common.{Bool, true, false, ◌≡◌, refl, ap, subst, ◌∙◌, eqb-true, eq-eqb}
use Rattle.std.specs.Prelude.{bytes_eq, ◌&&◌, ◌==◌}
use Rattle.std.proofs.lemmas.Slice.Eq.{bytes_eq-Decides}
use Rattle.job_names.specs.declared.name.Name.{Name}
use Rattle.job_names.specs.Names.{same_name}

pub and_left : (a b : Bool) → (a && b) ≡ true → a ≡ true
and_left true b h = refl
and_left false b h = h

pub and_right : (a b : Bool) → (a && b) ≡ true → b ≡ true
and_right true b h = h
and_right false b h = cc

pub same_from : (x y : Name) → same_name x y ≡ true → x ≡ y
same_from x y h =
    let b : x.bytes ≡ y.bytes = (bytes_eq-Decides x.bytes y.bytes).0 (and_left (bytes_eq x.bytes y.bytes) (x.len == y.len) h) in
    let l : x.len ≡ y.len = eqb-true x.len y.len (and_right (bytes_eq x.bytes y.bytes) (x.len == y.len) h) in
    λ i. record { bytes = b i; len = l i }

same_self : (x : Name) → same_name x x ≡ true
same_self x =
    ap (λ b. b && x.len == x.len) ((bytes_eq-Decides x.bytes x.bytes).1 refl) ∙ eq-eqb x.len x.len refl

pub same_to : (x y : Name) → x ≡ y → same_name x y ≡ true
same_to x y e = subst (λ n. same_name x n ≡ true) e (same_self x)
