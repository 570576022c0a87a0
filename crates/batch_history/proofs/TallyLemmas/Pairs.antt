-- In a lawful report, calls are ordered as their leaves are.
use Rattle.std.proofs.Common.{◌≡◌, ℕ, zero, suc, ◌+◌, ◌<◌, ◌≤◌, List, [], ◌∷◌, ◌++◌, length, get_or, Some, None, inl, inr, refl, sym, ap, ◌∙◌, arith}
use Rattle.std.specs.Prelude.{slice_get, Contains, Option, IsSomeAnd}
use Rattle.std.specs.List.{AllByRecursion}
use Rattle.std.proofs.lemmas.List.{length-map}
use Rattle.std.proofs.lemmas.List.Elements.{Contains-append_left, Contains-append_right}
use Rattle.std.proofs.lemmas.Option.{slice_get-get_or}
use Rattle.seq_objects.specs.Spin.{spin_of}
use Rattle.seq_objects.specs.declared.op.Op.{Op}
use Rattle.seq_objects.specs.declared.act.Act.TheVariants.{Call}
use Rattle.seq_objects.specs.Pairs.{AllPairsByRecursion}
use Rattle.seq_objects.proofs.Elements.{each_append, each_at}
use Rattle.sp_order.specs.Precedence.{Tree, leaf, seq, par, leaves, leaf_count, IsBeforeFrom, IsBefore}
use Rattle.sp_order.specs.Jobs.{JobValue}
use Rattle.sp_order.specs.Phases.{ComesBefore, HasNoSources}
use Rattle.batch_history.specs.declared.batch.Entry.{Entry}
use Rattle.batch_history.specs.declared.row.Row.{Row}
use Rattle.batch_history.specs.declared.report.Report.{Report}
use Rattle.batch_history.specs.Book.{flat}
use Rattle.batch_history.specs.Lawful.{Lawful}
use Rattle.batch_history.specs.Filling.{StandsBefore}
use Rattle.batch_history.proofs.ActLemmas.{acts_at}
use Rattle.std.proofs.lemmas.List.FromFn.{length-range_with_len}

each_contained : {A : Type 0} (P : A → Type 0) (xs : List A) → ((x : A) → Contains xs x → P x) → AllByRecursion P xs
each_contained P [] h = tt
each_contained P (x ∷ xs) h = (h x (0, omega arith, refl), each_contained P xs (λ y c. h y (Contains-append_right (x ∷ []) xs y c)))

pairs_append : {A : Type 0} (R : A → A → Type 0) (xs ys : List A) → AllPairsByRecursion R xs → AllPairsByRecursion R ys
    → AllByRecursion (λ x. AllByRecursion (R x) ys) xs → AllPairsByRecursion R (xs ++ ys)
pairs_append R [] ys h g across = g
pairs_append R (x ∷ xs) ys h g across = (each_append (R x) xs ys h.0 across.0, pairs_append R xs ys h.1 g across.1)

pairs_contained : {A : Type 0} (R : A → A → Type 0) (xs : List A) → ((a b : A) → Contains xs a → Contains xs b → R a b) → AllPairsByRecursion R xs
pairs_contained R [] h = tt
pairs_contained R (x ∷ xs) h = (
  each_contained (R x) xs (λ b c. h x b (0, omega arith, refl) (Contains-append_right (x ∷ []) xs b c)),
  pairs_contained R xs (λ a b ca cb. h a b (Contains-append_right (x ∷ []) xs a ca) (Contains-append_right (x ∷ []) xs b cb)),
)

-- the entry stands in the batch of that number
abbrev InBook : List (List Entry) → ℕ → Entry → Type 0
InBook book n e = IsSomeAnd (slice_get book n) (λ batch. Contains batch e)

each_flat : (P : Entry → Type 0) (book : List (List Entry)) → ((n : ℕ) (e : Entry) → InBook book n e → P e) → AllByRecursion P (flat book)
each_flat P [] h = tt
each_flat P (batch ∷ book) h = each_append P batch (flat book) (each_contained P batch (λ e c. h 0 e c)) (each_flat P book (λ n e s. h (suc n) e s))

flat_pairs : (R : Entry → Entry → Type 0) (book : List (List Entry))
    → ((i j : ℕ) (a b : Entry) → i ≤ j → InBook book i a → InBook book j b → R a b) → AllPairsByRecursion R (flat book)
flat_pairs R [] h = tt
flat_pairs R (batch ∷ book) h = pairs_append R batch (flat book)
    (pairs_contained R batch (λ a b ca cb. h 0 0 a b (omega arith) ca cb))
    (flat_pairs R book (λ i j a b le sa sb. h (suc i) (suc j) a b (omega (arith, le)) sa sb))
    (each_contained (λ a. AllByRecursion (R a) (flat book)) batch (λ a ca. each_flat (R a) book (λ n b sb. h 0 (suc n) a b (omega arith) ca sb)))

in_flat : (book : List (List Entry)) (n : ℕ) (e : Entry) → InBook book n e → Contains (flat book) e
in_flat [] n e s = absurd s
in_flat (batch ∷ book) zero e s = Contains-append_left batch (flat book) e s
in_flat (batch ∷ book) (suc n) e s = Contains-append_right batch (flat book) e (in_flat book n e s)

-- leaves related by precedence are leaves of the tree
before_in : (first : ℕ) (tree : Tree) (u v : ℕ) → IsBeforeFrom first tree u v → (u < first + leaves tree) × (v < first + leaves tree)
before_in first leaf u v h = absurd h
before_in first (par left right) u v (inl h) = let is = before_in first left u v h in (omega (arith, is.0), omega (arith, is.1))
before_in first (par left right) u v (inr h) = let is = before_in (first + leaves left) right u v h in (omega (arith, is.0), omega (arith, is.1))
before_in first (seq left right) u v (inl h) = let is = before_in first left u v h in (omega (arith, is.0), omega (arith, is.1))
before_in first (seq left right) u v (inr (inl h)) = let is = before_in (first + leaves left) right u v h in (omega (arith, is.0), omega (arith, is.1))
before_in first (seq left right) u v (inr (inr h)) = (omega (arith, h.0.1), omega (arith, h.1.1))

before_below : (shape : Option Tree) (u v : ℕ) → IsBefore shape u v → (u < leaf_count shape) × (v < leaf_count shape)
before_below None u v h = absurd h
before_below (Some tree) u v h = let is = before_in 0 tree u v h in (omega (arith, is.0), omega (arith, is.1))

no_row : Row
no_row = record { leaf = 0; worker = 0; start = 0; end = 0; value = 0 }

pub rows_long : (job : JobValue) (workers : ℕ) (report : Report) → Lawful job workers report → length report.rows ≡ leaf_count job.shape
rows_long job workers report lawful = sym (length-map report.rows (λ (r : Row). r.leaf)) ∙ ap length lawful.rows.leaves ∙ length-range_with_len 0 (leaf_count job.shape)

module _ (job : JobValue) (workers : ℕ) (report : Report) (lawful : Lawful job workers report) (none : HasNoSources job) where
  long : length report.rows ≡ leaf_count job.shape
  long = rows_long job workers report lawful

  called : (entry : Entry) (n : ℕ) → InBook report.history n entry → slice_get job.acts entry.leaf ≡ Some (Call entry.op)
  called entry n stands =
      each_at (λ (e : Entry). slice_get job.acts e.leaf ≡ Some (Call e.op)) (flat report.history) entry (acts_at spin_of job report.history (flat report.history) none lawful.calls.operations)
      (in_flat report.history n entry stands)

  -- calls counted by `early` come before calls counted by `late`
  pub apart : (early late : Op → ℕ) → ComesBefore job early late → StandsBefore early late (flat report.history)
  apart early late before = flat_pairs (λ a b. 1 ≤ late a.op → 1 ≤ early b.op → ⊥) report.history (λ i j a b le sa sb is_late is_early.
      let first = before b.leaf a.leaf b.op a.op (called b j sb) (called a i sa) is_early is_late in
      let below = before_below job.shape b.leaf a.leaf first in
      let row_b = slice_get-get_or report.rows b.leaf no_row (omega (arith, below.0, long)) in
      let row_a = slice_get-get_or report.rows a.leaf no_row (omega (arith, below.1, long)) in
      let ends = lawful.order.before b.leaf a.leaf first (get_or report.rows b.leaf no_row) row_b (get_or report.rows a.leaf no_row) row_a in
      let earlier : j < i = lawful.ticks j i b a sb sa (get_or report.rows b.leaf no_row) row_b (get_or report.rows a.leaf no_row) row_a ends in
      omega (arith, earlier, le))
