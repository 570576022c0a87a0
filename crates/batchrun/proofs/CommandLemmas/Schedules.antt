-- The workers that a schedule names.
use Rattle.std.proofs.Common.{◌≡◌, ℕ, ◌<◌, ◌≤◌, List, [], ◌∷◌, ◌++◌, length, sym, ap, ◌∙◌, append-nil}
use Rattle.std.specs.Prelude.{IsTrue, nat_lt, nat_le, drop}
use Rattle.std.proofs.lemmas.List.{drop_all}
use Rattle.std.specs.List.{AllByRecursion, list_all}
use Rattle.std.proofs.lemmas.Bool.{and_parts, ltb-true}
use Rattle.batchrun.specs.Words.{digit_value, is_schedule, workers_named}
use Rattle.limits.specs.declared.TheConstants.{MOST_TURNS}

all_below : (workers : ℕ) (word : List ℕ) → IsTrue (list_all (λ byte. nat_lt (digit_value byte) workers) word) → AllByRecursion (λ worker. worker < workers) (workers_named word)
all_below workers [] names = tt
all_below workers (byte ∷ word) names =
    let both = and_parts (nat_lt (digit_value byte) workers) (list_all (λ byte. nat_lt (digit_value byte) workers) word) names in
    (ltb-true (digit_value byte) workers both.0, all_below workers word both.1)

-- each worker of a schedule is below `workers`
pub scheduled_below : (workers : ℕ) (word : List ℕ) → IsTrue (is_schedule workers word) → AllByRecursion (λ worker. worker < workers) (workers_named word)
scheduled_below workers word is = all_below workers word (and_parts (nat_le (length word) MOST_TURNS) (list_all (λ byte. nat_lt (digit_value byte) workers) word) is).1

-- after the last digit all workers are named
pub all_named : (so_far word : List ℕ) (at : ℕ) → length word ≤ at → so_far ++ workers_named (drop at word) ≡ workers_named word → so_far ≡ workers_named word
all_named so_far word at past named = sym (append-nil so_far) ∙ ap (λ rest. so_far ++ workers_named rest) (sym (drop_all at word past)) ∙ named
