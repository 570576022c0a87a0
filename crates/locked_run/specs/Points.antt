-- The points of the run that an event brings a worker to.
use Rattle.std.specs.Prelude.{Option, Some, None}
use Rattle.core_state.specs.declared.doing.Doing.{Doing}
use Rattle.core_state.specs.declared.doing.Doing.TheVariants.{Started, Calling, Other}
use Rattle.run_points.specs.declared.pause.Point.{Point}
use Rattle.run_points.specs.declared.pause.Point.TheVariants.{LeafStart, Posted}

-- For a worker whose call is now outstanding: the point `Posted`, unless the worker was calling before the event too.
abbrev pub posted_by : Doing → Point → Option Point
posted_by (Calling leaf) point = None
posted_by (Started leaf) point = Some point
posted_by Other point = Some point

-- by what the worker did before the event, and does after it
abbrev pub point_by : Doing → Doing → Option Point
point_by was (Started leaf) = Some (LeafStart leaf)
point_by was (Calling leaf) = posted_by was (Posted leaf)
point_by was Other = None
