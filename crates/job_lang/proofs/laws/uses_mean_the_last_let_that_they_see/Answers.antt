use Rattle.std.proofs.Common.{◌∙◌, false, sym, ap, subst}
use Rattle.sp_order.specs.Jobs.{JobValue}
use Rattle.sp_order.specs.Objects.{with_numbers}
use Rattle.job_syntax.specs.Faults.{words_of}
use Rattle.job_syntax.specs.Words.{words_on_lines}
use Rattle.job_syntax.proofs.ParserLemmas.NamesSeen.{flat_items}
use Rattle.job_syntax.proofs.ParserLemmas.Uses.{items_shown}
use Rattle.job_lang.specs.Meaning.{objects_in}
use Rattle.job_lang.specs.Objects.{numbers_of}
use Rattle.job_lang.specs.Places.{placed_leaves, HaveTheirLets}
use Rattle.job_lang.proofs.LetLemmas.Meant.{leaves_are_meant}
use Rattle.job_lang.proofs.LetLemmas.Placed.{acts_placed}
use Rattle.job_lang.proofs.laws.uses_mean_the_last_let_that_they_see.Goals as goal

pub returns-clause-sources : goal.returns-clause-sources
returns-clause-sources c = λ text job is.
    let tokens = words_on_lines text in
    let read = is.read in
    subst (λ (job : JobValue). HaveTheirLets (words_of tokens) (placed_leaves is.items) job.sources) (sym is.means)
    (leaves_are_meant (words_of tokens) is.items read.derives.writes (flat_items false is.items read.derives.fits)
    (items_shown tokens is.items read.derives.writes read.derives.fits read.known))

pub returns-clause-leaves : goal.returns-clause-leaves
returns-clause-leaves c = λ text job is.
    ap (λ (job : JobValue). job.acts) is.means ∙ ap (λ acts. with_numbers acts (numbers_of (objects_in is.items))) (acts_placed is.items)
