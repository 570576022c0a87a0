-- Jobs, as contracts see them: a shape, for each of its leaves an act, and a source or none, and the names of objects.
use Rattle.std.specs.Prelude.{◌≡◌, ℕ, ◌≤◌, List, length, None, Option, Some, refl}
use Rattle.std.specs.Coded.{Coded, code_by, coded×, coded_list, coded_option, coded_ℕ}
use Rattle.limits.specs.declared.TheConstants.{MOST_LEAVES}
use Rattle.seq_objects.specs.declared.act.Act.{Act}
use Rattle.seq_objects.specs.contracts.act.Act as act
use Rattle.sp_order.specs.Precedence.{Tree, leaf, leaf_count}
use Rattle.sp_order.specs.Objects.{AreNamed}
use Rattle.sp_order.specs.Sources.{AreSources}
use Rattle.sp_order.specs.TreeEncoding.{coded_tree}

-- A shape, and for its leaves from left to right their acts and their sources. A leaf's source is the leaf whose value it
-- takes. The names are those of the objects with the numbers 1, 2, and so on.
pub record JobValue : Type 0 where
  pub shape : Option Tree
  pub acts : List Act
  pub sources : List (Option ℕ)
  pub names : List (List ℕ)

-- the tree, or a leaf where there is none
abbrev pub tree_or_leaf : Option Tree → Tree
tree_or_leaf None = leaf
tree_or_leaf (Some tree) = tree

-- the tree of a job, for jobs that have leaves
abbrev pub job_tree : JobValue → Tree
job_tree job = tree_or_leaf job.shape

-- there is one act for each leaf, at most `MOST_LEAVES`, each source is one that its leaf may have, and the objects are named
pub record IsJob (job : JobValue) : Type 0 where
  pub leaves : leaf_count job.shape ≡ length job.acts
  pub most : length job.acts ≤ MOST_LEAVES
  pub sources : AreSources job.shape job.acts job.sources
  pub objects : AreNamed job.acts job.names

-- an injective encoding of jobs, by which proofs compare them
abbrev pub coded_job : Coded JobValue
coded_job =
    code_by (Option Tree × (List Act × (List (Option ℕ) × List (List ℕ))))
    (coded× (coded_option coded_tree)
    (coded× (coded_list act.the_row.coded) (coded× (coded_list (coded_option coded_ℕ)) (coded_list (coded_list coded_ℕ)))))
    (λ job. (job.shape, (job.acts, (job.sources, job.names))))
    (λ parts. record { shape = parts.0; acts = parts.1.0; sources = parts.1.1.0; names = parts.1.1.1 })
    (λ _. refl)
