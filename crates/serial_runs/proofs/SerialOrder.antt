-- The calls of a lawful report, batch after batch, are those of one thread.
use Rattle.std.proofs.Common.{◌≡◌, ℕ, suc, ◌+◌, ◌<◌, ◌≤◌, List, [], ◌∷◌, length, get_or, Option, Some, None, inl, inr, refl, sym, ap, ◌∙◌, arith}
use Rattle.std.specs.Prelude.{slice_get, Contains, IsSomeAnd}
use Rattle.std.specs.List.{AllByRecursion}
use Rattle.std.proofs.lemmas.List.{length-map}
use Rattle.std.proofs.lemmas.List.FromFn.{length-range_with_len}
use Rattle.std.proofs.lemmas.Option.{slice_get-get_or}
use Rattle.seq_objects.specs.Pairs.{AllPairsByRecursion}
use Rattle.seq_objects.proofs.Elements.{each_append, each_so}
use Rattle.sp_order.specs.Precedence.{Tree, leaf, seq, par, leaves, leaf_count, IsBeforeFrom, IsBefore}
use Rattle.sp_order.specs.Jobs.{JobValue}
use Rattle.batch_history.specs.declared.batch.Entry.{Entry}
use Rattle.batch_history.specs.declared.row.Row.{Row}
use Rattle.batch_history.specs.declared.report.Report.{Report}
use Rattle.batch_history.specs.Book.{flat}
use Rattle.batch_history.specs.Lawful.{HasRows, LawfulWith}
use Rattle.batch_history.specs.Operations.{source_of, op_of}
use Rattle.serial_runs.specs.SerialRuns.{IsAsked, IsSerialRunWith}
use Rattle.serial_runs.proofs.Elements.{each_contained, pairs_append, pairs_contained}
use Rattle.serial_runs.proofs.Values.{asked_from}

-- the entry stands in the batch of that number
abbrev InBook : List (List Entry) → ℕ → Entry → Type 0
InBook book n e = IsSomeAnd (slice_get book n) (λ batch. Contains batch e)

each_flat : (P : Entry → Type 0) (book : List (List Entry)) → ((n : ℕ) (e : Entry) → InBook book n e → P e) → AllByRecursion P (flat book)
each_flat P [] h = tt
each_flat P (batch ∷ book) h = each_append P batch (flat book) (each_contained P batch (λ e c. h 0 e c)) (each_flat P book (λ n e s. h (suc n) e s))

flat_pairs : (R : Entry → Entry → Type 0) (book : List (List Entry))
    → ((i j : ℕ) (a b : Entry) → i ≤ j → InBook book i a → InBook book j b → R a b) → AllPairsByRecursion R (flat book)
flat_pairs R [] h = tt
flat_pairs R (batch ∷ book) h = pairs_append R batch (flat book)
    (pairs_contained R batch (λ a b ca cb. h 0 0 a b (omega arith) ca cb))
    (flat_pairs R book (λ i j a b le sa sb. h (suc i) (suc j) a b (omega (arith, le)) sa sb))
    (each_contained (λ a. AllByRecursion (R a) (flat book)) batch (λ a ca. each_flat (R a) book (λ n b sb. h 0 (suc n) a b (omega arith) ca sb)))

-- leaves related by precedence are leaves of the tree
before_in : (first : ℕ) (tree : Tree) (u v : ℕ) → IsBeforeFrom first tree u v → (u < first + leaves tree) × (v < first + leaves tree)
before_in first leaf u v h = absurd h
before_in first (par left right) u v (inl h) = let is = before_in first left u v h in (omega (arith, is.0), omega (arith, is.1))
before_in first (par left right) u v (inr h) = let is = before_in (first + leaves left) right u v h in (omega (arith, is.0), omega (arith, is.1))
before_in first (seq left right) u v (inl h) = let is = before_in first left u v h in (omega (arith, is.0), omega (arith, is.1))
before_in first (seq left right) u v (inr (inl h)) = let is = before_in (first + leaves left) right u v h in (omega (arith, is.0), omega (arith, is.1))
before_in first (seq left right) u v (inr (inr h)) = (omega (arith, h.0.1), omega (arith, h.1.1))

before_below : (shape : Option Tree) (u v : ℕ) → IsBefore shape u v → (u < leaf_count shape) × (v < leaf_count shape)
before_below None u v h = absurd h
before_below (Some tree) u v h = let is = before_in 0 tree u v h in (omega (arith, is.0), omega (arith, is.1))

no_row : Row
no_row = record { leaf = 0; worker = 0; start = 0; end = 0; value = 0 }

-- there is a row for each leaf
pub rows_fill : (job : JobValue) (workers : ℕ) (report : Report) → HasRows job workers report → length report.rows ≡ leaf_count job.shape
rows_fill job workers report rows = sym (length-map report.rows (λ (row : Row). row.leaf)) ∙ ap length rows.leaves ∙ length-range_with_len 0 (leaf_count job.shape)

-- whatever the leaves of work compute
module _ (meaning : ℕ → ℕ) (job : JobValue) (workers : ℕ) (report : Report) (lawful : LawfulWith meaning job workers report) where
  long : length report.rows ≡ leaf_count job.shape
  long = rows_fill job workers report lawful.rows

  -- of two entries, the later one is not before the first in the job
  not_before : (i j : ℕ) (a b : Entry) → i ≤ j → InBook report.history i a → InBook report.history j b → IsBefore job.shape b.leaf a.leaf → ⊥
  not_before i j a b le sa sb before =
      let below = before_below job.shape b.leaf a.leaf before in
      let row_b = slice_get-get_or report.rows b.leaf no_row (omega (arith, below.0, long)) in
      let row_a = slice_get-get_or report.rows a.leaf no_row (omega (arith, below.1, long)) in
      let ends = lawful.order.before b.leaf a.leaf before (get_or report.rows b.leaf no_row) row_b (get_or report.rows a.leaf no_row) row_a in
      let earlier : j < i = lawful.ticks j i b a sb sa (get_or report.rows b.leaf no_row) row_b (get_or report.rows a.leaf no_row) row_a ends in
      omega (arith, earlier, le)

  pub serial : IsSerialRunWith meaning job (flat report.history)
  serial = record {
    each = lawful.calls.leaves;
    asked = each_so (λ (e : Entry). op_of meaning job report.history e.leaf ≡ Some e.op) (IsAsked meaning job (flat report.history))
        (λ e is. asked_from meaning job report.history e (source_of job e.leaf) refl is) (flat report.history) lawful.calls.operations;
    order = flat_pairs (λ a b. IsBefore job.shape b.leaf a.leaf → ⊥) report.history not_before;
    replies = lawful.replies;
  }
