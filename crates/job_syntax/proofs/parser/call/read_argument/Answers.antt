use Rattle.std.proofs.Common.{rules, ◌∙◌, [], ap, sym}
use Rattle.job_syntax.specs.Views.{items_of, argument_word}
use Rattle.job_syntax.specs.Code.Machine.{given_leaf, with_leaf, read_from}
use Rattle.job_syntax.specs.Code.OpenBlocks.{blocks_on}
use Rattle.job_syntax.proofs.ParserLemmas.Arguments.{argument_reads, argument_fails}
use Rattle.job_syntax.proofs.parser.call.read_argument.Goals as goal

pub returns-in_err-argument-clause-steps : goal.returns-in_err-argument-clause-steps
returns-in_err-argument-clause-steps c =
    let blocks = blocks_on [] c.args.stack.now.blocks.items in
    let items = items_of c.args.stack.now.items.items in
    let fails = argument_fails c.args.last blocks items c.args.given c.args.op c.args.words.now in
    search (rules, fails)

pub returns-clause-steps : goal.returns-clause-steps
returns-clause-steps c =
    let blocks = blocks_on [] c.args.stack.now.blocks.items in
    let items = items_of c.args.stack.now.items.items in
    argument_reads c.args.last blocks items c.args.given c.args.op c.args.words.now (argument_word c.in_ok-argument.argument) c.argument.new.self c.in_ok-argument.ensures.gives
    ∙ ap (λ leaf. read_from c.args.last (with_leaf blocks items (given_leaf c.args.given leaf)) c.argument.new.self) (sym c.with_operand.ensures)
    ∙ ap (λ state. read_from c.args.last state c.argument.new.self) (sym c.in_ok-add.ensures.view)
