use Rattle.std.proofs.Common.{◌∙◌, [], true, false, ap, map, is_some}
use Rattle.sp_order.specs.Jobs.{JobValue}
use Rattle.job_syntax.specs.Faults.{words_of}
use Rattle.job_syntax.specs.Words.{words_on_lines}
use Rattle.job_syntax.proofs.ParserLemmas.NamesSeen.{flat_items}
use Rattle.job_syntax.proofs.ParserLemmas.Uses.{items_shown}
use Rattle.job_lang.specs.Meaning.{sources_in}
use Rattle.job_lang.proofs.LetLemmas.Meant.{each_is_good}
use Rattle.job_lang.proofs.LetLemmas.Placed.{sources_used}
use Rattle.job_lang.proofs.laws.uses_have_sources.Goals as goal

pub returns : goal.returns
returns c = λ text job is.
    let tokens = words_on_lines text in
    let items = is.items in
    let read = is.read in
    ap (λ (job : JobValue). map is_some job.sources) is.means
    ∙ sources_used (words_of tokens) items (sources_in true [] 0 items)
    (each_is_good (words_of tokens) items read.derives.writes (flat_items false items read.derives.fits)
    (items_shown tokens items read.derives.writes read.derives.fits read.known))
