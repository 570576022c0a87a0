-- What the code needs to write acts: names for the numbers of their objects.
use Rattle.std.specs.Prelude.{◌≤◌, ℕ, List, length, map}
use Rattle.std.specs.List.{AllByRecursion}
use Rattle.job_names.specs.declared.name.Name.{Name}
use Rattle.job_names.specs.Names.{AreSpelled, spelling}
use Rattle.seq_objects.specs.declared.act.Act.{Act}
use Rattle.sp_order.specs.Objects.{number_in}
use Rattle.job_writer.specs.Canonical.{WrittenLeaf}

-- the texts of names
abbrev pub texts_of : List Name → List (List ℕ)
texts_of names = map (λ name. spelling name) names

-- the number of an act's object has a name, if it is above 0, and the names are spelled as names
pub record IsWritable (names : List Name) (act : Act) : Type 0 where
  pub number : number_in act ≤ length names
  pub spelled : AreSpelled (texts_of names)

pub record AreWritable (names : List Name) (written : List WrittenLeaf) : Type 0 where
  pub numbers : AllByRecursion (λ leaf. number_in leaf.act ≤ length names) written
  pub spelled : AreSpelled (texts_of names)
