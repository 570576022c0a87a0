-- The numbers of leaves as they are written.
use Rattle.std.specs.Prelude.{◌<◌, ◌^◌, List, IfSome}
use Rattle.std.specs.List.{AllByRecursion}
use Rattle.job_writer.specs.Canonical.{WrittenLeaf}
use Rattle.job_lang.specs.ActNumbers.{act_number, IsSmall}

-- each number fits 32 bits: that of the act, the leaf's own, and its source's
pub record IsSmallLeaf (written : WrittenLeaf) : Type 0 where
  pub act : IsSmall (act_number written.act)
  pub number : written.number < 2 ^ 32
  pub source : IfSome written.source (λ source. source < 2 ^ 32)

abbrev pub AreSmallLeaves : List WrittenLeaf → Type 0
AreSmallLeaves written = AllByRecursion IsSmallLeaf written
