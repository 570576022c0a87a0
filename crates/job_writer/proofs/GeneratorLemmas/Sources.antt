-- A generated job has no sources, so its leaves take replies alone.
use Rattle.std.proofs.Common.{◌≡◌, ℕ, zero, suc, List, length, Option, Some, None, replicate, refl}
use Rattle.std.specs.Prelude.{slice_get}
use Rattle.std.specs.List.{AllByRecursion}
use Rattle.std.proofs.lemmas.List.{length-replicate}
use Rattle.seq_objects.specs.declared.act.Act.{Act}
use Rattle.sp_order.specs.Precedence.{Tree}
use Rattle.sp_order.specs.Sources.{AreSources, TakeReplies}

pub none_each : (n : ℕ) → AllByRecursion (λ (source : Option ℕ). source ≡ None) (replicate n None)
none_each zero = tt
none_each (suc n) = (refl, none_each n)

none_at : (n leaf source : ℕ) → slice_get (replicate n None) leaf ≡ Some (Some source) → ⊥
none_at zero leaf source e = cc
none_at (suc n) zero source e = cc
none_at (suc n) (suc leaf) source e = none_at n leaf source e

pub none_are_sources : (shape : Option Tree) (acts : List Act) → AreSources shape acts (replicate (length acts) None)
none_are_sources shape acts = record {
  as_many = length-replicate (length acts) None;
  each = λ leaf source e. absurd (none_at (length acts) leaf source e);
}

pub none_take_replies : (acts : List Act) → TakeReplies acts (replicate (length acts) None)
none_take_replies acts leaf source e = absurd (none_at (length acts) leaf source e)
