use Rattle.std.proofs.Common.{subst}
use Rattle.shared_calls.specs.Callers.{IsServed}
use Rattle.shared_calls.specs.Views.{number_of, made, seen}
use Rattle.shared_collections.specs.declared.fifo.FifoOp.TheVariants.{Put}
use Rattle.shared_collections.specs.Fifos.{fifo}
use Rattle.shared_collections.proofs.FifoServing.{put_is_done}
use Rattle.shared_collections.proofs.shared_fifo.SharedFifo.put.Goals as goal

pub returns-in-Ok-clause-served : goal.returns-in-Ok-clause-served
returns-in-Ok-clause-served g c =
    let served = c.in-Ok.ensures.served in
    subst (λ reply. IsServed fifo (number_of c.args.caller.now) (made c.args.caller.now) (seen c.args.caller.now) (Put c.args.item) reply (made c.call.new.caller) (seen c.call.new.caller))
    (put_is_done _ _ _ _ _ _ _ served) served
