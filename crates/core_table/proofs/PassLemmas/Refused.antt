-- What a call of a pass tells of its moment, as its clauses say it.
use Rattle.std.proofs.Common.{ℕ, ◌≡◌, ◌≢◌, ◌==◌, false, arith, subst}
use Rattle.std.proofs.lemmas.Bool.Decides.{nat_tests}
use Rattle.core_model.specs.State.{CoreJob}
use Rattle.table_rule.specs.declared.view.Miss.{Miss}
use Rattle.table_rule.specs.Shows.{room_of}
use Rattle.table_rule.specs.Moments.{IsMomentOf, IsMissAt}
use Rattle.table_rule.specs.Tasks.{job_seen_with}
use Rattle.core_table.specs.declared.table.CoreTable.{CoreTable}
use Rattle.core_table.specs.declared.table.Pass.{Pass}
use Rattle.core_table.proofs.PassLemmas.PassKept.{known_with}
use Rattle.core_table.specs.Passes.{IsPassOf, IsMomentIn, IsMissOf}

-- a number that a look found is not the one that it looked for
pub not_equal : (a b : ℕ) → (a == b) ≡ false → a ≢ b
not_equal a b denied e = grind (arith, nat_tests)

pub moment_told : {B : Type 0} (work : ℕ → ℕ) (table : CoreTable B) (pass : Pass) (moment : ℕ) → IsPassOf table pass → IsMomentOf (job_seen_with work pass.seat.me.0) pass.seat.me.0.room pass.seat.me.0 moment → IsMomentIn work table pass moment
unfolding IsMomentIn
moment_told work table pass moment p h =
    subst (λ (job : CoreJob). IsMomentOf job (room_of table.setting) pass.seat.me.0 moment) (known_with work pass.seat.me.0 table.setting p.9)
    (subst (λ (room : ℕ). IsMomentOf (job_seen_with work pass.seat.me.0) room pass.seat.me.0 moment) p.6 h)

pub miss_told : {B : Type 0} (work : ℕ → ℕ) (table : CoreTable B) (pass : Pass) (place at : ℕ) (miss : Miss) → IsPassOf table pass → place ≡ at → IsMissAt (job_seen_with work pass.seat.me.0) pass.seat.me.0.room pass.seat.me.0 place miss → IsMissOf work table pass at miss
unfolding IsMissOf
miss_told work table pass place at miss p is h =
    subst (λ (place : ℕ). IsMissOf work table pass place miss) is
    (subst (λ (job : CoreJob). IsMissAt job (room_of table.setting) pass.seat.me.0 place miss) (known_with work pass.seat.me.0 table.setting p.9)
    (subst (λ (room : ℕ). IsMissAt (job_seen_with work pass.seat.me.0) room pass.seat.me.0 place miss) p.6 h))
