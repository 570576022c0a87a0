use Rattle.std.proofs.Common.{◌≡◌, subst}
use Rattle.std.specs.List.{AllByRecursion}
use Rattle.seq_objects.specs.declared.call.Call.{Call}
use Rattle.seq_objects.specs.Objects.{number_of}
use Rattle.seq_objects.proofs.Numbers.{are_at}
use Rattle.object_rows.proofs.serve.serve_one.Goals as goal

pub serve_batch-requires-clause-one : goal.serve_batch-requires-clause-one
serve_batch-requires-clause-one g c = λ lifetimes bounds.
    (c.args.number, subst (AllByRecursion (λ (call : Call). number_of call.op ≡ c.args.number)) c.requires.one (are_at c.args.number c.args.own.now))

pub serve_batch-requires-clause-may : goal.serve_batch-requires-clause-may
serve_batch-requires-clause-may g c = λ lifetimes bounds. c.requires.may c.in_ok-structure.structure c.in_ok-structure.ensures.content
