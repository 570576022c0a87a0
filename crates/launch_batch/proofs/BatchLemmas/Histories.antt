-- A history with one more batch is a history.
use Rattle.std.proofs.Common.{ℕ, ◌≡◌, ◌≢◌, ◌<◌, ◌+◌, ◌^◌, List, [], ◌∷◌, ◌++◌, length, map, arith, sym, ap, subst, ◌∙◌, length-append}
use Rattle.std.proofs.lemmas.List.{length-map}
use Rattle.std.proofs.lemmas.Simd.{map-map}
use Rattle.launch_batch.proofs.Words.{AllByRecursion, Call, Store, opening_store, store_after, AreDistinct, Entry, flat, IsLegalFrom, IsBatch, IsHistory, served, call_in, calls_in, MayServe, IsServiceOf, IsNarrow}
use Rattle.seq_objects.specs.BatchOrder.{ComesFirst}
use Rattle.seq_objects.proofs.Elements.{each_append, each_unmapped, distinct_append, pairs_unmapped}
use Rattle.launch_batch.proofs.ListLemmas.Elements.{each_mapped, apart_turned, map_append}
use Rattle.launch_batch.proofs.ListLemmas.Same.{each_same, distinct_same, length_same}
use Rattle.batch_history.proofs.BookLemmas.Books.{flat_append}

legal_append : (store : Store) (xs ys : List Entry) → IsLegalFrom store xs → IsLegalFrom (served store xs) ys → IsLegalFrom store (xs ++ ys)
legal_append store [] ys h g = g
legal_append store (e ∷ xs) ys h g = (h.0, legal_append (store_after store e.op) xs ys h.1 g)

pub length_calls : (batch : List Entry) → length (calls_in batch) ≡ length batch
length_calls batch = length-map batch call_in

module _ (book : List (List Entry)) (calls : List Call) (batch : List Entry) (may : MayServe book calls) (is : IsServiceOf book calls batch) where
  -- there are as many entries as calls
  pub many : length batch ≡ length calls
  many = sym (length_calls batch) ∙ length_same calls (calls_in batch) is.same

  is_batch : IsBatch batch
  is_batch = record {
    some = λ none. let n = many in let zero = ap length none in omega (arith, n, zero, may.some);
    order = pairs_unmapped call_in (λ (a b : Call). ComesFirst a.op a.worker b.op b.worker) batch is.order;
    workers = subst AreDistinct (map-map (λ (c : Call). c.worker) call_in batch) (distinct_same (λ (c : Call). c.worker) calls (calls_in batch) is.same may.workers);
  }

  abbrev earlier : List ℕ
  earlier = map (λ (e : Entry). e.leaf) (flat book)

  apart : AllByRecursion (λ leaf. AllByRecursion (λ other. leaf ≢ other) earlier) (map (λ (e : Entry). e.leaf) batch)
  apart = subst (AllByRecursion (λ leaf. AllByRecursion (λ other. leaf ≢ other) earlier)) (map-map (λ (c : Call). c.leaf) call_in batch)
      (each_mapped (λ (c : Call). c.leaf) (λ (c : Call). AllByRecursion (λ other. c.leaf ≢ other) earlier) (λ leaf. AllByRecursion (λ other. leaf ≢ other) earlier) (λ c other. other) (calls_in batch)
      (each_same (λ (c : Call). AllByRecursion (λ other. c.leaf ≢ other) earlier) calls (calls_in batch) is.same
      (each_unmapped (λ (c : Call). c.leaf) (λ leaf. AllByRecursion (λ other. leaf ≢ other) earlier) calls may.new)))

  pub history_made : IsHistory book → AllByRecursion IsNarrow (calls_in batch) → IsHistory (book ++ batch ∷ [])
  history_made h narrow = record {
    legal = subst (IsLegalFrom opening_store) (sym (flat_append book batch)) (legal_append opening_store (flat book) batch h.legal is.replies);
    batches = each_append IsBatch book (batch ∷ []) h.batches (is_batch, tt);
    workers = subst (AllByRecursion (λ (e : Entry). e.worker < 32)) (sym (flat_append book batch)) (each_append (λ (e : Entry). e.worker < 32) (flat book) batch h.workers
        (each_unmapped call_in (λ (c : Call). c.worker < 32) batch (each_same (λ (c : Call). c.worker < 32) calls (calls_in batch) is.same may.below)));
    leaves = subst (λ l. AreDistinct (map (λ (e : Entry). e.leaf) l)) (sym (flat_append book batch)) (subst AreDistinct (sym (map_append (λ (e : Entry). e.leaf) (flat book) batch))
        (distinct_append earlier (map (λ (e : Entry). e.leaf) batch) h.leaves (subst AreDistinct (map-map (λ (c : Call). c.leaf) call_in batch) (distinct_same (λ (c : Call). c.leaf) calls (calls_in batch) is.same may.leaves))
        (apart_turned (map (λ (e : Entry). e.leaf) batch) earlier apart)));
    numbers = subst (λ l. AllByRecursion (λ leaf. leaf < 2 ^ 32) (map (λ (e : Entry). e.leaf) l)) (sym (flat_append book batch)) (subst (AllByRecursion (λ leaf. leaf < 2 ^ 32)) (sym (map_append (λ (e : Entry). e.leaf) (flat book) batch))
        (each_append (λ leaf. leaf < 2 ^ 32) earlier (map (λ (e : Entry). e.leaf) batch) h.numbers
        (subst (AllByRecursion (λ leaf. leaf < 2 ^ 32)) (map-map (λ (c : Call). c.leaf) call_in batch) (each_mapped (λ (c : Call). c.leaf) IsNarrow (λ leaf. leaf < 2 ^ 32) (λ c n. n.0) (calls_in batch) narrow))));
  }

-- the number of entries in the book with this batch
pub length_book : (book : List (List Entry)) (batch : List Entry) → length (flat (book ++ batch ∷ [])) ≡ length (flat book) + length batch
length_book book batch = ap length (flat_append book batch) ∙ length-append (flat book) batch
