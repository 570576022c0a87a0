-- The values of kept sources and of kept jobs.
use Rattle.std.specs.Prelude.{ℕ, List, None, Option, length, map, replicate}
use Rattle.job_names.specs.declared.name.Name.{Name}
use Rattle.job_names.specs.Names.{spelling}
use Rattle.seq_objects.specs.declared.act.Act.{Act}
use Rattle.sp_order.specs.declared.sources.Sources.{Sources}
use Rattle.sp_order.specs.declared.sources.Sources.TheVariants.{Absent, Each}
use Rattle.sp_order.specs.Jobs.{JobValue}
use Rattle.sp_order.specs.Precedence.{Tree}

-- the sources of this many leaves: none of them has one, or they stand in a list
abbrev pub listed : Sources → ℕ → List (Option ℕ)
listed Absent leaves = replicate leaves None
listed (Each sources) leaves = sources.items

-- the job that is kept as these
abbrev pub job_of : Option Tree → List Act → Sources → List Name → JobValue
job_of shape acts sources names = record {
  shape = shape;
  acts = acts;
  sources = listed sources (length acts);
  names = map (λ name. spelling name) names;
}
