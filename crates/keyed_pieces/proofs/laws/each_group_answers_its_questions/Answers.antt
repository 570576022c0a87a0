use Rattle.keyed_pieces.proofs.Apart.{group_answers}
use Rattle.keyed_pieces.proofs.laws.each_group_answers_its_questions.Goals as goal

pub returns : goal.returns
returns g c = group_answers
