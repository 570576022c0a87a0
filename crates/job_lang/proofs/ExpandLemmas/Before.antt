-- What is before what in a list of shapes.
use Rattle.std.proofs.Common.{◌≡◌, refl, ℕ, ◌+◌, ◌<◌, ◌≤◌, ◌⊎◌, List, [], ◌∷◌, Bool, true, false, Option, Some, None}
use Rattle.sp_order.specs.Precedence.{Tree, seq, par, leaves, IsLeafOf, IsBeforeFrom}
use Rattle.job_syntax.specs.Grammar.{BlockKind, seq_block, par_block, for_loop, pfor_loop}
use Rattle.job_lang.specs.Meaning.{join_in}

-- the leaves of all the shapes
abbrev pub total : List Tree → ℕ
total [] = 0
total (t ∷ ts) = leaves t + total ts

-- how shapes are joined, in series or in parallel
abbrev pub kind_by : Bool → Tree → Tree → Tree
kind_by true = seq
kind_by false = par

-- whether a block joins its shapes in series
abbrev pub joins_series : BlockKind → Bool
joins_series seq_block = true
joins_series par_block = false
joins_series (for_loop copies) = true
joins_series (pfor_loop copies) = false

pub join_is : (kind : BlockKind) → kind_by (joins_series kind) ≡ join_in kind
join_is seq_block = refl
join_is par_block = refl
join_is (for_loop copies) = refl
join_is (pfor_loop copies) = refl

-- Leaf u is before leaf v in a list of shapes: inside one of them; or the list is a series and u's shape stands
-- before v's.
abbrev pub IsBeforeIn : Bool → ℕ → List Tree → ℕ → ℕ → Type 0
IsBeforeIn series first [] u v = ⊥
IsBeforeIn series first (t ∷ ts) u v =
    IsBeforeFrom first t u v
    ⊎ (IsBeforeIn series (first + leaves t) ts u v
    ⊎ ((series ≡ true) × (IsLeafOf t first u × ((first + leaves t ≤ v) × (v < first + leaves t + total ts)))))

abbrev pub IsBeforeOpt : ℕ → Option Tree → ℕ → ℕ → Type 0
IsBeforeOpt first None u v = ⊥
IsBeforeOpt first (Some t) u v = IsBeforeFrom first t u v
