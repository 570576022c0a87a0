-- The calls that a test gives to a shop may be served, and leave room for the next ones.
use Rattle.std.proofs.Common.{◌≡◌, ◌≢◌, ℕ, zero, suc, ◌+◌, ◌<◌, ◌≤◌, List, [], ◌∷◌, ◌++◌, length, map, sym, ap, subst, ◌∙◌, arith}
use Rattle.std.specs.List.{AllByRecursion, range_with_len}
use Rattle.std.proofs.lemmas.List.{length-map}
use Rattle.std.proofs.lemmas.List.FromFn.{length-range_with_len}
use Rattle.seq_objects.specs.declared.call.Call.{Call}
use Rattle.seq_objects.specs.Pairs.{AreDistinct}
use Rattle.seq_objects.proofs.Elements.{each_append, each_so, each_unmapped}
use Rattle.batch_history.specs.declared.batch.Entry.{Entry}
use Rattle.batch_history.specs.Book.{flat}
use Rattle.batch_history.specs.Serving.{call_in, calls_in}
use Rattle.launch_batch.specs.Calls.{MayServe, IsServiceOf}
use Rattle.launch_batch.proofs.ListLemmas.Elements.{map_append}
use Rattle.launch_batch.proofs.ListLemmas.Same.{each_same, length_same}
use Rattle.launch_batch.proofs.BatchLemmas.Histories.{length_book, length_calls}
use Rattle.structure_tests.specs.Shops.{AreFrom, IsBelow}
use Rattle.batch_history.proofs.BookLemmas.Books.{flat_append}

range_more : (a n j : ℕ) → a + n ≡ j → range_with_len a (n + 1) ≡ range_with_len a n ++ j ∷ []
range_more a zero j is = let e : a ≡ j = omega (arith, is) in ap (λ x. x ∷ []) e
range_more a (suc n) j is = let e : suc n + 1 ≡ suc (n + 1) = omega arith in rw e (ap (λ l. a ∷ l) (range_more (a + 1) n j (omega (arith, is))))

pub one_more : (first n : ℕ) (calls : List Call) (call : Call) → call.worker ≡ n → call.leaf ≡ first + n → AreFrom first n calls → AreFrom first (n + 1) (calls ++ call ∷ [])
one_more first n calls call worker leaf from = record {
  workers = map_append (λ (c : Call). c.worker) calls (call ∷ []) ∙ ap (λ l. l ++ call.worker ∷ []) from.workers ∙ sym (range_more 0 n call.worker (omega (arith, worker)));
  leaves = map_append (λ (c : Call). c.leaf) calls (call ∷ []) ∙ ap (λ l. l ++ call.leaf ∷ []) from.leaves ∙ sym (range_more first n call.leaf (omega (arith, leaf)));
}

range_from : (a n b : ℕ) → b ≤ a → AllByRecursion (λ k. b ≤ k) (range_with_len a n)
range_from a zero b le = tt
range_from a (suc n) b le = (le, range_from (a + 1) n b (omega (arith, le)))

range_below : (a n b : ℕ) → a + n ≤ b → AllByRecursion (λ k. k < b) (range_with_len a n)
range_below a zero b le = tt
range_below a (suc n) b le = (omega (arith, le), range_below (a + 1) n b (omega (arith, le)))

range_distinct : (a n : ℕ) → AreDistinct (range_with_len a n)
range_distinct a zero = tt
range_distinct a (suc n) = (each_so (λ k. a + 1 ≤ k) (λ k. a ≢ k) (λ k le same. absurd (omega (arith, le, same))) (range_with_len (a + 1) n) (range_from (a + 1) n (a + 1) (omega arith)), range_distinct (a + 1) n)

new_leaf : (n leaf : ℕ) (entries : List Entry) → n ≤ leaf → AllByRecursion (λ (e : Entry). e.leaf < n) entries → AllByRecursion (λ other. leaf ≢ other) (map (λ (e : Entry). e.leaf) entries)
new_leaf n leaf [] le below = tt
new_leaf n leaf (e ∷ entries) le below = ((λ same. absurd (omega (arith, le, same, below.0))), new_leaf n leaf entries le below.1)

module _ (first n : ℕ) (book : List (List Entry)) (calls : List Call) (from : AreFrom first n calls) (below : IsBelow first book) (low : first ≤ 1000) (few : n ≤ 32) where
  many : length calls ≡ n
  many = sym (length-map calls (λ (c : Call). c.worker)) ∙ ap length from.workers ∙ length-range_with_len 0 n

  pub may_serve : 0 < n → MayServe book calls
  may_serve some = record {
    some = let m = many in omega (arith, m, some);
    workers = subst AreDistinct (sym from.workers) (range_distinct 0 n);
    below = each_unmapped (λ (c : Call). c.worker) (λ w. w < 32) calls (subst (AllByRecursion (λ w. w < 32)) (sym from.workers) (range_below 0 n 32 (omega (arith, few))));
    leaves = subst AreDistinct (sym from.leaves) (range_distinct first n);
    new = subst (AllByRecursion (λ leaf. AllByRecursion (λ other. leaf ≢ other) (map (λ (e : Entry). e.leaf) (flat book)))) (sym from.leaves)
        (each_so (λ k. first ≤ k) (λ leaf. AllByRecursion (λ other. leaf ≢ other) (map (λ (e : Entry). e.leaf) (flat book))) (λ leaf le. new_leaf first leaf (flat book) le below.leaves) (range_with_len first n) (range_from first n first (omega arith)));
    most = let m = many in let c = below.count in omega (arith, m, c, low, few);
  }
