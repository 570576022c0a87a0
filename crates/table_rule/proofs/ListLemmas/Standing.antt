-- An entry of a book keeps its batch and place in every longer book.
use Rattle.std.proofs.Common.{ℕ, zero, suc, ◌≡◌, Some, List, [], ◌∷◌, ◌++◌, sym, subst}
use Rattle.std.specs.Prelude.{slice_get}
use Rattle.batch_history.specs.declared.batch.Entry.{Entry}
use Rattle.core_model.specs.Entries.{StandsAt}
use Rattle.table_rule.specs.Shows.{IsPrefix}

get_longer : {A : Type 0} (xs ys : List A) (j : ℕ) (a : A) → slice_get xs j ≡ Some a → slice_get (xs ++ ys) j ≡ Some a
get_longer [] ys j a e = absurd (cc)
get_longer (x ∷ xs) ys zero a e = e
get_longer (x ∷ xs) ys (suc j) a e = get_longer xs ys j a e

-- an entry in a prefix of a book has the same batch and place in the book
pub stands_longer : (xs ys : List (List Entry)) (batch place : ℕ) (entry : Entry) → IsPrefix xs ys → StandsAt xs batch place entry → StandsAt ys batch place entry
stands_longer xs ys batch place entry front at = (at.0, subst (λ (l : List (List Entry)). slice_get l batch ≡ Some at.0) (sym front.1) (get_longer xs front.0 batch at.0 at.1), at.2)
