-- The sums of a counter.
use Rattle.std.proofs.Common.{◌≡◌, ℕ, zero, suc, ◌+◌, ◌%◌, ◌^◌, ◌<◌, ◌≤◌, List, [], ◌∷◌, ◌++◌, map, take, drop, length, get_or, refl, sym, ap, ◌∙◌, arith}
use Rattle.std.specs.Prelude.{sum_by}
use Rattle.std.proofs.lemmas.List.Sums.{sum_by-cons}
use Rattle.std.proofs.Math.Nat.{mod-add-mod, mod-eq_of_lt, mod-lt}
use Rattle.shared_calls.specs.declared.view.Entry.{Entry}
use Rattle.shared_calls.specs.Serial.{after_all, replies_to_all}
use Rattle.shared_structures.specs.Counters.{counter}

abbrev limit : ℕ
limit = 2 ^ 64

abbrev op : Entry ℕ ℕ → ℕ
op e = e.op

below : (n : ℕ) → n % limit < limit
below n = mod-lt n (omega arith)

-- a sum that has wrapped around may be added to as if it had not
wrapped : (s x n : ℕ) → ((s + x) % limit + n) % limit ≡ (s + (x + n)) % limit
wrapped s x n = mod-add-mod (s + x) limit n ∙ ap (λ (k : ℕ). k % limit) (omega arith)

-- a list whose end is reached
pub ended : {X : Type 0} (l : List X) (i : ℕ) → length l ≤ i → (take i l ≡ l) × (drop i l ≡ [])
ended [] zero less = (refl, refl)
ended [] (suc i) less = (refl, refl)
ended (x ∷ l) zero less = absurd (omega (arith, less))
ended (x ∷ l) (suc i) less = let t = ended l i (omega (arith, less)) in (ap (λ m. x ∷ m) t.0, t.1)

-- the number after these additions
pub after_is : (s : ℕ) (log : List (Entry ℕ ℕ)) → s < limit → after_all counter s (map op log) ≡ (s + sum_by op log) % limit
after_is s [] less = sym (mod-eq_of_lt less) ∙ ap (λ (k : ℕ). k % limit) (omega arith)
after_is s (e ∷ log) less =
    after_is ((s + e.op) % limit) log (below (s + e.op)) ∙ (wrapped s e.op (sum_by op log) ∙ ap (λ (k : ℕ). (s + k) % limit) (sym (sum_by-cons op e log)))

-- the reply of a call among others
pub reply_is : (s : ℕ) (before : List (Entry ℕ ℕ)) (call : Entry ℕ ℕ) (later : List (Entry ℕ ℕ))
    → map (λ (e : Entry ℕ ℕ). e.reply) (before ++ call ∷ later) ≡ replies_to_all counter s (map op (before ++ call ∷ later))
    → call.reply ≡ (s + (sum_by op before + call.op)) % limit
reply_is s [] call later is = ap (λ (l : List ℕ). get_or l 0 call.reply) is ∙ ap (λ (k : ℕ). k % limit) (omega arith)
reply_is s (b ∷ before) call later is =
    let rest : ℕ = sum_by op before in
    let all : sum_by op (b ∷ before) ≡ b.op + rest = sum_by-cons op b before in
    reply_is ((s + b.op) % limit) before call later (ap (λ (l : List ℕ). drop 1 l) is)
    ∙ (wrapped s b.op (rest + call.op) ∙ ap (λ (k : ℕ). k % limit) (omega (arith, all)))
