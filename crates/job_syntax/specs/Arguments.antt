-- The argument of a leaf, and the name that it is, if it is one.
use Rattle.std.specs.Prelude.{Option, Some, None}
use Rattle.job_names.specs.declared.name.Name.{Name}
use Rattle.job_syntax.specs.declared.lexer.word.Word.{Word}
use Rattle.job_syntax.specs.declared.lexer.word.Word.TheVariants.{Named}
use Rattle.job_syntax.specs.Grammar.{Leaf, work, call, bound}

-- the argument of a leaf, if it takes one; that of a bound call is the call's
abbrev pub leaf_argument : Leaf → Option Word
leaf_argument (work argument) = Some argument
leaf_argument (call verb object argument) = argument
leaf_argument (bound name given) = leaf_argument given

-- the name that an argument is, if it is one
abbrev pub name_in : Option Word → Option Name
name_in (Some (Named name)) = Some name
name_in _ = None

-- the name that a leaf uses, if its argument is a name
abbrev pub name_used : Leaf → Option Name
name_used leaf = name_in (leaf_argument leaf)
