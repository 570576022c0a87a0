-- What holds of each result of a parallel map holds of the values, where no result is an error.
use Rattle.std.proofs.Common.{◌≡◌, ◌∙◌, ℕ, List, length, get_or, map, Result, Ok, Err, IfOk, Vec, Global, sym, ap, subst, arith}
use Rattle.std.proofs.lemmas.List.{length-map, get_or-map}
use Rattle.std.specs.List.{All}

pub all_count : {X E F : Type 0} (made : List (Result X E)) (count : ℕ) (result : Result (Vec X Global) F) → length made ≡ count
    → IfOk result (λ v. made ≡ map Ok v.items) → IfOk result (λ v. length v.items ≡ count)
all_count made count (Err e) long is = is
all_count made count (Ok v) long is = sym (length-map v.items Ok) ∙ ap length (sym is) ∙ long

pub all_new : {X E F : Type 0} (P : X → Type 0) (made : List (Result X E)) (result : Result (Vec X Global) F)
    → All (λ r. IfOk r P) made → IfOk result (λ v. made ≡ map Ok v.items) → IfOk result (λ v. All P v.items)
all_new P made (Err e) each is = is
all_new {X} {E} P made (Ok v) each is = λ k d less.
    let at : IfOk (get_or (map Ok v.items) k (Ok d)) P =
    subst (λ (l : List (Result X E)). All (λ r. IfOk r P) l) is each k (Ok d) (omega (arith, less, length-map {B = Result X E} v.items Ok)) in
    subst (λ (r : Result X E). IfOk r P) (get_or-map {Y = Result X E} Ok v.items k d (Ok d) less) at
