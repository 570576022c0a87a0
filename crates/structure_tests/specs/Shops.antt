-- The calls of the batches that a test gives to a shop, at leaves that ascend from batch to batch.
use Rattle.std.specs.Prelude.{◌≡◌, ℕ, ◌<◌, ◌≤◌, List, length, map}
use Rattle.std.specs.List.{AllByRecursion, range_with_len}
use Rattle.seq_objects.specs.declared.call.Call.{Call}
use Rattle.batch_history.specs.declared.batch.Entry.{Entry}
use Rattle.batch_history.specs.Book.{flat}

-- calls of the workers below n, in their order, at consecutive leaves
pub record AreFrom (first n : ℕ) (calls : List Call) : Type 0 where
  pub workers : map (λ call. call.worker) calls ≡ range_with_len 0 n
  pub leaves : map (λ call. call.leaf) calls ≡ range_with_len first n

-- the leaves of a book are below a number, and there are no more of them
pub record IsBelow (n : ℕ) (book : List (List Entry)) : Type 0 where
  pub leaves : AllByRecursion (λ entry. entry.leaf < n) (flat book)
  pub count : length (flat book) ≤ n
