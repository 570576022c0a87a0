use Rattle.seq_objects.proofs.Apart.{own_replies, same_replies, each_content}
use Rattle.seq_objects.proofs.laws.each_kind_serves_its_own_calls.Goals as goal

pub returns-clause-replies : goal.returns-clause-replies
returns-clause-replies c = own_replies

pub returns-clause-one : goal.returns-clause-one
returns-clause-one c = same_replies

pub returns-clause-content : goal.returns-clause-content
returns-clause-content c = each_content
