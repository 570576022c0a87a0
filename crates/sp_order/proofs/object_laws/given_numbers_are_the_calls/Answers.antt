use Rattle.sp_order.proofs.ObjectLemmas.{numbers_given}
use Rattle.sp_order.proofs.object_laws.given_numbers_are_the_calls.Goals as goal

pub returns : goal.returns
returns c = λ acts numbers names are. numbers_given acts numbers are.as_many are.work
