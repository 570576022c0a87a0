use Rattle.job_names.specs.Scopes.{lets_shown}
use Rattle.job_names.proofs.LastLets.{some_named, none_named}
use Rattle.job_names.proofs.laws.uses_see_the_last_let_shown.Goals as goal

pub returns-clause-some : goal.returns-clause-some
returns-clause-some c = λ name scope number h. some_named name number (lets_shown scope) h

pub returns-clause-none : goal.returns-clause-none
returns-clause-none c = λ name scope h. none_named name (lets_shown scope) h
