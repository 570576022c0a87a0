-- The structures by number where one is put in or taken out.
use Rattle.std.proofs.Common.{ℕ, ◌≡◌, ◌≢◌, ◌==◌, if◌then◌else◌, cond, Option, Some, None, refl, ap, sym, ◌∙◌, arith}
use Rattle.std.specs.BTreeMap.{get, is_at}
use Rattle.std.specs.Option.{unwrap_or}
use Rattle.std.specs.Ordering.{nat_cmp}
use Rattle.std.proofs.lemmas.Bool.Decides.{nat_tests}
use Rattle.object_rows.specs.declared.by_number.ByNumber.{ByNumber}
use Rattle.object_rows.specs.Contents.{structure_at}

pub at_first : {T : Type 0} (s : ByNumber T) (number : ℕ) → number ≡ 0 → structure_at s number ≡ s.first
unfolding structure_at
at_first s number is = rw is refl

at_other : {T : Type 0} (s : ByNumber T) (number : ℕ) → number ≢ 0 → structure_at s number ≡ unwrap_or (get nat_cmp s.others number) None
unfolding structure_at
at_other s number above = grind (arith, nat_tests)

-- what the place of a number has
pub at_place : {T : Type 0} (s : ByNumber T) (number : ℕ) (found : Option T) → number ≢ 0 → Some found ≡ get nat_cmp s.others number → found ≡ structure_at s number
at_place s number found above is = sym (at_other s number above ∙ ap (λ place. unwrap_or place None) (sym is))

pub no_place : {T : Type 0} (s : ByNumber T) (number : ℕ) → number ≢ 0 → None ≡ get nat_cmp s.others number → None ≡ structure_at s number
no_place s number above is = sym (at_other s number above ∙ ap (λ place. unwrap_or place None) (sym is))

pub first_replaced : {T : Type 0} (s s' : ByNumber T) (number : ℕ) (now : Option T) → number ≡ 0 → s'.first ≡ now → ((q : ℕ) → get nat_cmp s'.others q ≡ get nat_cmp s.others q)
    → (other : ℕ) → structure_at s' other ≡ (if other == number then now else structure_at s other)
unfolding structure_at
first_replaced s s' number now zero first others other = let same = others other in grind (arith, nat_tests)

pub other_replaced : {T : Type 0} (s s' : ByNumber T) (number : ℕ) (now : Option T) → number ≢ 0 → s'.first ≡ s.first
    → ((q : ℕ) → get nat_cmp s'.others q ≡ cond (is_at (nat_cmp number) q) (Some now) (get nat_cmp s.others q))
    → (other : ℕ) → structure_at s' other ≡ (if other == number then now else structure_at s other)
unfolding structure_at
other_replaced s s' number now above first others other = let same = others other in grind (arith, nat_tests)

-- a number without a place has no structure to take out
pub none_taken : {T : Type 0} (s s' : ByNumber T) (number : ℕ) → number ≢ 0 → s'.first ≡ s.first → None ≡ get nat_cmp s.others number → ((q : ℕ) → get nat_cmp s'.others q ≡ get nat_cmp s.others q)
    → (other : ℕ) → structure_at s' other ≡ (if other == number then None else structure_at s other)
unfolding structure_at
none_taken s s' number above first none others other = let same = others other in grind (arith, nat_tests)
