-- Jobs that fill each structure before they query it.
use Rattle.std.specs.Prelude.{◌≡◌, ℕ, ◌≤◌, ◌&&◌, Bool, not, List, [], ◌∷◌, None, Some, slice_get}
use Rattle.std.specs.List.{AllByRecursion, list_any}
use Rattle.seq_objects.specs.declared.op.Op.{Op}
use Rattle.seq_objects.specs.declared.act.Act.TheVariants.{Call}
use Rattle.seq_objects.specs.Orders.{one_if}
use Rattle.seq_objects.specs.Parts.{verb_of}
use Rattle.seq_objects.specs.Verbs.{kind_of_verb, word_of_verb, same_kind, same_word}
use Rattle.seq_objects.specs.declared.verb.Verb.{Verb}
use Rattle.seq_objects.specs.declared.verb.Verb.TheVariants as verb
use Rattle.sp_order.specs.Objects.{AreUnnamed}
use Rattle.sp_order.specs.Precedence.{IsBefore}
use Rattle.sp_order.specs.Jobs.{JobValue}
use Rattle.sp_order.specs.Totals.{pushes, pops, tree_inserts, tree_finds, queue_inserts, queue_takes, total}

-- each leaf whose call counts under `early` is before each leaf whose call counts under `late`
abbrev pub ComesBefore : JobValue → (Op → ℕ) → (Op → ℕ) → Type 0
ComesBefore job early late =
    (u v : ℕ) (first second : Op) → slice_get job.acts u ≡ Some (Call first) → slice_get job.acts v ≡ Some (Call second)
    → 1 ≤ early first → 1 ≤ late second → IsBefore job.shape u v

-- no leaf has a source
abbrev pub HasNoSources : JobValue → Type 0
HasNoSources job = AllByRecursion (λ source. source ≡ None) job.sources

-- whether two verbs are the same
abbrev pub same_verb : Verb → Verb → Bool
same_verb a b = same_kind (kind_of_verb a) (kind_of_verb b) && same_word (word_of_verb a) (word_of_verb b)

-- 1 for an operation by none of these verbs
abbrev pub others : List Verb → Op → ℕ
others verbs op = one_if (not (list_any (same_verb (verb_of op)) verbs))

-- the verbs that fill structures, and those that query or empty what is filled
abbrev pub filling_verbs : List Verb
filling_verbs = verb.CounterAdd ∷ verb.Push ∷ verb.Pop ∷ verb.TreeInsert ∷ verb.TreeFind ∷ verb.TreeNext ∷ verb.PqInsert ∷ verb.PqTake ∷ []

-- All calls are by these verbs. Pushes are before pops, inserts of the queue before takes, and inserts of the tree
-- before finds. There are no fewer pops than pushes, and no fewer takes than inserts of the queue. No leaf has a source,
-- and all calls are of objects with the number 0.
pub record FillsFirst (job : JobValue) : Type 0 where
  pub verbs : total (others filling_verbs) job.acts ≡ 0
  pub stack : ComesBefore job pushes pops
  pub queue : ComesBefore job queue_inserts queue_takes
  pub tree : ComesBefore job tree_inserts tree_finds
  pub empties_stack : total pushes job.acts ≤ total pops job.acts
  pub empties_queue : total queue_inserts job.acts ≤ total queue_takes job.acts
  pub no_sources : HasNoSources job
  pub unnamed : AreUnnamed job.acts
