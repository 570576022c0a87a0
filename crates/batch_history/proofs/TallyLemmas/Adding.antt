-- Extending a tally entry by entry.
use Rattle.std.proofs.Common.{◌≡◌, ℕ, ◌+◌, ◌<◌, List, [], ◌∷◌, ◌++◌, length, drop, get_or, refl, ap, sym, ◌∙◌, arith}
use Rattle.std.proofs.lemmas.List.{drop_more}
use Rattle.sp_order.specs.Totals.{pushes}
use Rattle.batch_history.specs.Book.{flat}
use Rattle.batch_history.specs.Tally.{tally_of}
use Rattle.batch_history.specs.Code.Tallies.{with_entries, Fits}
use Rattle.batch_history.specs.declared.batch.Entry.{Entry}
use Rattle.batch_history.specs.declared.tally.Tally.{Tally}

-- tallies with equal numbers are equal
pub same_tally : (a b : Tally) → a.calls ≡ b.calls → a.counter ≡ b.counter → a.pushed ≡ b.pushed → a.popped ≡ b.popped
    → a.keys ≡ b.keys → a.found ≡ b.found → a.inserted ≡ b.inserted → a.taken ≡ b.taken → a ≡ b
same_tally a b calls counter pushes pops keys found inserted taken =
    let fields : record a { calls = a.calls; counter = a.counter; pushed = a.pushed; popped = a.popped; keys = a.keys; found = a.found; inserted = a.inserted; taken = a.taken }
    ≡ record b { calls = b.calls; counter = b.counter; pushed = b.pushed; popped = b.popped; keys = b.keys; found = b.found; inserted = b.inserted; taken = b.taken } =
    rw (calls, counter, pushes, pops, keys, found, inserted, taken) refl in
    fields

pub with_none : (tally : Tally) → with_entries tally [] ≡ tally
with_none tally = same_tally (with_entries tally []) tally (omega arith) refl (omega arith) (omega arith) (omega arith) (omega arith) (omega arith) (omega arith)

-- the first entry, then the rest
pub with_more : (tally : Tally) (entry : Entry) (entries : List Entry)
    → with_entries (with_entries tally (entry ∷ [])) entries ≡ with_entries tally (entry ∷ entries)
with_more tally entry entries =
    same_tally (with_entries (with_entries tally (entry ∷ [])) entries) (with_entries tally (entry ∷ entries))
    (omega arith) refl (omega arith) (omega arith) (omega arith) (omega arith) (omega arith) (omega arith)

pub with_both : (tally : Tally) (xs ys : List Entry) → with_entries (with_entries tally xs) ys ≡ with_entries tally (xs ++ ys)
with_both tally [] ys = ap (λ t. with_entries t ys) (with_none tally)
with_both tally (x ∷ xs) ys =
    ap (λ t. with_entries t ys) (sym (with_more tally x xs)) ∙ with_both (with_entries tally (x ∷ [])) xs ys ∙ with_more tally x (xs ++ ys)

-- the batch at a place, then those after it
pub with_batch : (tally : Tally) (book : List (List Entry)) (i : ℕ) (batch : List Entry) → i < length book → batch ≡ get_or book i batch
    → with_entries (with_entries tally batch) (flat (drop (i + 1) book)) ≡ with_entries tally (flat (drop i book))
with_batch tally book i batch within is =
    let split : drop i book ≡ batch ∷ drop (i + 1) book = drop_more book i batch within ∙ ap (λ b. b ∷ drop (i + 1) book) (sym is) in
    with_both tally batch (flat (drop (i + 1) book)) ∙ ap (λ b. with_entries tally (flat b)) (sym split)

-- a tally extended by nothing
abbrev pub nothing : Tally
nothing = record { calls = 0; counter = 0; pushed = 0; popped = 0; keys = 0; found = 0; inserted = 0; taken = 0 }

pub from_nothing : (entries : List Entry) → with_entries nothing entries ≡ tally_of entries
from_nothing entries =
    same_tally (with_entries nothing entries) (tally_of entries) (omega arith) refl (omega arith) (omega arith) (omega arith) (omega arith) (omega arith) (omega arith)

-- what fits with more entries fits with fewer
pub fits_before : (tally : Tally) (entries : List Entry) → Fits (with_entries tally entries) → Fits tally
fits_before tally entries fits = record {
  calls = omega (arith, fits.calls);
  pushed = omega (arith, fits.pushed);
  popped = omega (arith, fits.popped);
  keys = omega (arith, fits.keys);
  found = omega (arith, fits.found);
  inserted = omega (arith, fits.inserted);
  taken = omega (arith, fits.taken);
}
