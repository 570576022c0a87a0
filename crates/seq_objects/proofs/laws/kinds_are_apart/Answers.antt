use Rattle.seq_objects.proofs.Apart.{replies_alone, content_alone}
use Rattle.seq_objects.proofs.laws.kinds_are_apart.Goals as goal

pub returns-clause-replies : goal.returns-clause-replies
returns-clause-replies c = replies_alone

pub returns-clause-content : goal.returns-clause-content
returns-clause-content c = content_alone
