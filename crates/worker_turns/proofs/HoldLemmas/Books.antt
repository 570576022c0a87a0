-- Where the entry of a leaf stands in a book that has one more batch.
use Rattle.std.proofs.Common.{ℕ, zero, suc, ◌≡◌, ◌≢◌, ◌+◌, Option, None, Some, List, [], ◌∷◌, ◌++◌, length, map, arith, refl, sym, ap, ◌∙◌, subst}
use Rattle.std.specs.Prelude.{slice_get}
use Rattle.std.specs.List.{AllByRecursion}
use Rattle.seq_objects.specs.Pairs.{AreDistinct}
use Rattle.launch_batch.proofs.ListLemmas.Elements.{each_mapped}
use Rattle.batch_history.specs.Book.{flat}
use Rattle.core_model.specs.Operations.{Place, place_in, place_of, or_else, IsReceipt}
use Rattle.batch_history.proofs.BookLemmas.Books.{each_in_book, found_in_book, place_append}
use Rattle.core_model.specs.Words.{Entry}
use Rattle.worker_crew.specs.Words.{Receipt}
use Rattle.core_model.proofs.ReportLemmas.RowLists.{each_got}
use Rattle.seq_objects.proofs.Elements.{each_unmapped}
use Rattle.core_model.proofs.BookLemmas.OwnEntries.{if_other, if_same}

-- a leaf that is not found there is that of no entry
pub new_leaf : (book : List (List Entry)) (leaf : ℕ) → place_of book leaf ≡ None → AllByRecursion (λ other. leaf ≢ other) (map (λ (entry : Entry). entry.leaf) (flat book))
new_leaf book leaf none =
    each_mapped (λ (entry : Entry). entry.leaf) (λ (entry : Entry). place_of book entry.leaf ≢ None) (λ other. leaf ≢ other)
    (λ entry found is. found (ap (place_of book) (sym is) ∙ none)) (flat book) (each_in_book book)

-- and the other way round
pub unbooked : (book : List (List Entry)) (leaf : ℕ) → AllByRecursion (λ other. leaf ≢ other) (map (λ (entry : Entry). entry.leaf) (flat book)) → place_of book leaf ≡ None
unbooked book leaf new = not_found (place_of book leaf) refl
  where
    not_found : (found : Option Place) → place_of book leaf ≡ found → place_of book leaf ≡ None
    not_found None at = at
    not_found (Some place) at =
        let other = found_in_book (λ (entry : Entry). leaf ≢ entry.leaf) book leaf place (each_unmapped (λ (entry : Entry). entry.leaf) (λ other. leaf ≢ other) (flat book) new) at in
        absurd (other.0 (sym other.1))

-- where no leaf stands twice in a batch, each of its entries is found at its place
pub found_at : (number first : ℕ) (batch : List Entry) (place : ℕ) (entry : Entry) → AreDistinct (map (λ (e : Entry). e.leaf) batch) → slice_get batch place ≡ Some entry
    → place_in number first batch entry.leaf ≡ Some (record { batch = number; place = first + place; entry = entry })
found_at number first [] place entry distinct at = absurd (cc)
found_at number first (e ∷ batch) zero entry distinct at =
    let same : e ≡ entry = cc in
    let there : first ≡ first + zero = omega arith in
    if_same e.leaf entry.leaf (Some (record { batch = number; place = first; entry = e })) (place_in number (first + 1) batch entry.leaf) (ap (λ (x : Entry). x.leaf) same)
    ∙ (λ i. Some (record { batch = number; place = there i; entry = same i }))
found_at number first (e ∷ batch) (suc place) entry distinct at =
    let there : first + 1 + place ≡ first + suc place = omega arith in
    if_other e.leaf entry.leaf (Some (record { batch = number; place = first; entry = e })) (place_in number (first + 1) batch entry.leaf)
    (each_got (λ (x : Entry). e.leaf ≢ x.leaf) batch place entry (each_unmapped (λ (x : Entry). x.leaf) (λ n. e.leaf ≢ n) batch distinct.0) at)
    ∙ found_at number (first + 1) batch place entry distinct.1 at
    ∙ (λ i. Some (record { batch = number; place = there i; entry = entry }))

-- the receipt of an entry of the batch that was published last
pub receipt_due : (before : List (List Entry)) (batch : List Entry) (receipt : Receipt) (entry : Entry)
    → AllByRecursion (λ other. entry.leaf ≢ other) (map (λ (e : Entry). e.leaf) (flat before)) → AreDistinct (map (λ (e : Entry). e.leaf) batch)
    → receipt.batch ≡ length before → slice_get batch receipt.place ≡ Some entry → entry.reply ≡ receipt.reply
    → IsReceipt (place_of (before ++ batch ∷ []) entry.leaf) receipt
receipt_due before batch receipt entry new distinct number at reply =
    let there : 0 + receipt.place ≡ receipt.place = omega arith in
    let found = place_append before batch entry.leaf
    ∙ ap (λ o. or_else o (place_in (length before) 0 batch entry.leaf)) (unbooked before entry.leaf new)
    ∙ found_at (length before) 0 batch receipt.place entry distinct at
    ∙ (λ i. Some (record { batch = sym number i; place = there i; entry = entry })) in
    subst (λ (o : Option Place). IsReceipt o receipt) (sym found) (λ i. record { batch = receipt.batch; place = receipt.place; reply = sym reply i })
