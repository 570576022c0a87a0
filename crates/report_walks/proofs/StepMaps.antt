-- Two steps of a map are one step of another.
use Rattle.std.proofs.Common.{◌≡◌, ℕ, zero, suc, ◌+◌, ◌*◌, ◌/◌, ◌%◌, ◌^◌, ◌<◌, refl, sym, ap, ◌∙◌, arith}
use Rattle.std.proofs.lemmas.Nat.{mul-mod_first, mul-mod_second}
use Rattle.std.proofs.Math.Nat.{mod-add-mod, add-mod-mod, div-add-mod}
use Rattle.seq_objects.specs.Spin.{step, after_steps}
use Rattle.report_walks.specs.Code.Maps.{mapped, times}

inner : (m f x a : ℕ) → (f * ((f * x + a) % m) + a) % m ≡ (f * (f * x + a) + a) % m
inner m f x a = sym (mod-add-mod (f * ((f * x + a) % m)) m a) ∙ ap (λ t. (t + a) % m) (mul-mod_second f (f * x + a) m) ∙ mod-add-mod (f * (f * x + a)) m a

swap : (p q r : ℕ) → p + (q + r) ≡ q + (p + r)
swap p q r = omega arith

swap' : (p q r : ℕ) → p + (q + r) ≡ q + (p + r)
swap' p q r = omega arith

outer : (m f x a : ℕ) → ((f * f) % m * x + ((f * a) % m + a) % m) % m ≡ ((f * f) * x + (f * a + a)) % m
outer m f x a =
    add-mod-mod ((f * f) % m * x) ((f * a) % m + a) m
    ∙ sym (mod-add-mod ((f * f) % m * x) m ((f * a) % m + a))
    ∙ ap (λ t. (t + ((f * a) % m + a)) % m) (mul-mod_first (f * f) x m)
    ∙ mod-add-mod ((f * f) * x) m ((f * a) % m + a)
    ∙ ap (λ t. t % m) (swap ((f * f) * x) ((f * a) % m) a)
    ∙ mod-add-mod (f * a) m ((f * f) * x + a)
    ∙ ap (λ t. t % m) (swap' (f * a) ((f * f) * x) a)

expands : (f x a : ℕ) → f * (f * x + a) + a ≡ (f * f) * x + (f * a + a)
expands f x a = omega arith

doubled : (f a x : ℕ) → mapped ((f * f) % 2 ^ 32) (((f * a) % 2 ^ 32 + a) % 2 ^ 32) x ≡ mapped f a (mapped f a x)
doubled f a x = outer (2 ^ 32) f x a ∙ ap (λ t. t % 2 ^ 32) (sym (expands f x a)) ∙ sym (inner (2 ^ 32) f x a)

even : (f a h x : ℕ) → times f a (h + h) x ≡ times ((f * f) % 2 ^ 32) (((f * a) % 2 ^ 32 + a) % 2 ^ 32) h x
even f a zero x = refl
even f a (suc h) x =
    let more : suc h + suc h ≡ suc (suc (h + h)) = omega arith in
    rw more (even f a h (mapped f a (mapped f a x)) ∙ ap (λ y. times ((f * f) % 2 ^ 32) (((f * a) % 2 ^ 32 + a) % 2 ^ 32) h y) (sym (doubled f a x)))

pub past_odd : (f a steps x : ℕ) → steps % 2 ≡ 1 → times ((f * f) % 2 ^ 32) (((f * a) % 2 ^ 32 + a) % 2 ^ 32) (steps / 2) (mapped f a x) ≡ times f a steps x
past_odd f a steps x odd =
    let parts : 2 * (steps / 2) + steps % 2 ≡ steps = div-add-mod steps 2 in
    let is : steps ≡ suc (steps / 2 + steps / 2) = omega (arith, parts, odd) in
    sym (even f a (steps / 2) (mapped f a x)) ∙ ap (λ k. times f a k x) (sym is)

pub past_even : (f a steps x : ℕ) → (steps % 2 ≡ 1 → ⊥) → times ((f * f) % 2 ^ 32) (((f * a) % 2 ^ 32 + a) % 2 ^ 32) (steps / 2) x ≡ times f a steps x
past_even f a steps x not_odd =
    let parts : 2 * (steps / 2) + steps % 2 ≡ steps = div-add-mod steps 2 in
    let below : steps % 2 < 2 = omega arith in
    let is : steps ≡ steps / 2 + steps / 2 = omega (arith, parts, below, not_odd) in
    sym (even f a (steps / 2) x) ∙ ap (λ k. times f a k x) (sym is)

one_more : (k x : ℕ) → times 5 1 k (step x) ≡ step (times 5 1 k x)
one_more zero x = refl
one_more (suc k) x = one_more k (step x)

pub all_steps : (k x : ℕ) → times 5 1 k x ≡ after_steps k x
all_steps zero x = refl
all_steps (suc k) x = one_more k x ∙ ap step (all_steps k x)

pub wrapped : (f a x : ℕ) → ((f * x) % 2 ^ 32 + a) % 2 ^ 32 ≡ mapped f a x
wrapped f a x = mod-add-mod (f * x) (2 ^ 32) a
