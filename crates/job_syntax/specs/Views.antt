-- The view of the code's items, as derivations of the grammar.
use Rattle.std.specs.Prelude.{List, [], ◌∷◌, Some, map, option_map}
use Rattle.job_syntax.specs.declared.lexer.word.Word.{Word}
use Rattle.job_syntax.specs.declared.lexer.word.Word.TheVariants.{Number, Copies, Named}
use Rattle.job_syntax.specs.declared.item.Argument.{Argument}
use Rattle.job_syntax.specs.declared.item.Argument.TheVariants as argument
use Rattle.job_syntax.specs.declared.item.Leaf.{Leaf}
use Rattle.job_syntax.specs.declared.item.Leaf.TheVariants as leaf
use Rattle.job_syntax.specs.declared.item.BlockKind.{BlockKind}
use Rattle.job_syntax.specs.declared.item.BlockKind.TheVariants as kind
use Rattle.job_syntax.specs.declared.item.Item.{Item, fold-Item}
use Rattle.job_syntax.specs.declared.item.Item.TheOpen.{Item-F}
use Rattle.job_syntax.specs.Grammar.{◌then◌}
use Rattle.job_syntax.specs.Grammar as grammar

abbrev pub argument_word : Argument → Word
argument_word (argument.Number number) = Number (Some number)
argument_word (argument.Copies factor addend) = Copies (Some (factor, addend))
argument_word (argument.Reply name) = Named name

abbrev pub leaf_of : Leaf → grammar.Leaf
leaf_of (leaf.Work argument) = grammar.work (argument_word argument)
leaf_of (leaf.Call verb object argument) = grammar.call verb object (option_map argument_word argument)

abbrev pub block_kind_of : BlockKind → grammar.BlockKind
block_kind_of kind.Seq = grammar.seq_block
block_kind_of kind.Par = grammar.par_block
block_kind_of (kind.For copies) = grammar.for_loop (Number (Some copies))
block_kind_of (kind.Pfor copies) = grammar.pfor_loop (Number (Some copies))

-- the derivation of several lists of items, one after another
abbrev pub one_after_another : List grammar.Items → grammar.Items
one_after_another [] = grammar.nothing
one_after_another (items ∷ more) = items then one_after_another more

-- one level of an item, whose inner items are derivations already
abbrev pub item_step : Item-F grammar.Items → grammar.Items
item_step (Item-F.Leaf leaf) = grammar.leaf_then (leaf_of leaf) grammar.nothing
item_step (Item-F.Let name call) = grammar.leaf_then (grammar.bound name (leaf_of call)) grammar.nothing
item_step (Item-F.Block kind inside) = grammar.block_then (block_kind_of kind) (one_after_another inside.items) grammar.nothing

-- the derivation of a single item
abbrev pub item_of : Item → grammar.Items
item_of = fold-Item grammar.Items item_step

abbrev pub items_of : List Item → grammar.Items
items_of items = one_after_another (map item_of items)
