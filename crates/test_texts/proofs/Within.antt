-- Tests of the numbers of objects.
use Rattle.std.proofs.Common.{◌≡◌, ℕ, ◌≤◌, true, List, [], ◌∷◌, arith}
use Rattle.std.specs.Prelude.{nat_le}
use Rattle.std.specs.List.{AllByRecursion, list_all}
use Rattle.std.proofs.lemmas.Bool.{and_parts}
use Rattle.std.proofs.lemmas.Bool.Decides.{nat_tests}
use Rattle.seq_objects.specs.Objects.{number_of}
use Rattle.batch_history.specs.declared.batch.Entry.{Entry}
use Rattle.batch_history.specs.Book.{flat}
use Rattle.seq_objects.proofs.Elements.{each_append}

within : (most : ℕ) (entries : List Entry) → list_all (λ (entry : Entry). nat_le (number_of entry.op) most) entries ≡ true
    → AllByRecursion (λ (entry : Entry). number_of entry.op ≤ most) entries
within most [] all = tt
within most (entry ∷ entries) all =
    let here = and_parts (nat_le (number_of entry.op) most) (list_all (λ (entry : Entry). nat_le (number_of entry.op) most) entries) all in
    (grind (arith, nat_tests, here.0), within most entries here.1)

pub all_within : (most : ℕ) (book : List (List Entry)) → list_all (λ (batch : List Entry). list_all (λ (entry : Entry). nat_le (number_of entry.op) most) batch) book ≡ true
    → AllByRecursion (λ (entry : Entry). number_of entry.op ≤ most) (flat book)
all_within most [] all = tt
all_within most (batch ∷ book) all =
    let here = and_parts (list_all (λ (entry : Entry). nat_le (number_of entry.op) most) batch) (list_all (λ (batch : List Entry). list_all (λ (entry : Entry). nat_le (number_of entry.op) most) batch) book) all in
    each_append (λ (entry : Entry). number_of entry.op ≤ most) batch (flat book) (within most batch here.0) (all_within most book here.1)
