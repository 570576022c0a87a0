-- Which leaves use a name.
use Rattle.std.specs.Prelude.{List, Bool, is_some}
use Rattle.job_syntax.specs.Grammar.{Items, Leaf}
use Rattle.job_syntax.specs.Arguments.{name_used}
use Rattle.job_lang.specs.Meaning.{each_leaf}

abbrev pub uses_name : Leaf → Bool
uses_name leaf = is_some (name_used leaf)

-- whether each leaf of the items uses a name, copy by copy
abbrev pub uses_in : Items → List Bool
uses_in items = each_leaf uses_name items
