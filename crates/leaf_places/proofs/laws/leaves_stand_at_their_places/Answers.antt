use Rattle.job_syntax.specs.Faults.{words_of}
use Rattle.job_syntax.specs.Words.{words_on_lines}
use Rattle.leaf_places.proofs.Standing.{all_stand}
use Rattle.leaf_places.proofs.laws.leaves_stand_at_their_places.Goals as goal

pub returns : goal.returns
returns c text job is = all_stand (words_of (words_on_lines text)) is.items is.read.derives.writes
