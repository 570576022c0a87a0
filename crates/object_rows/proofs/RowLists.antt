-- Lists of rows, of which those in front have one member each.
use Rattle.std.proofs.Common.{ℕ, ◌≡◌, List, [], ◌∷◌, ◌++◌, length, map, sym, append-nil}
use Rattle.object_rows.specs.declared.members.Members.{Members}
use Rattle.object_rows.specs.declared.members.Members.TheVariants.{One}
use Rattle.seq_objects.specs.Pieces.{AllMeet}
use Rattle.object_rows.specs.Rows.{members, MembersMeet}
use Rattle.object_rows.specs.Code.Lasts.{lasts}
use Rattle.object_rows.proofs.Taking.{lasts_ones}

-- the last members, where there are no other rows
pub lasts_of_ones : {X : Type 0} (ones : List X) (others : List (Members X)) (count : ℕ) → others ≡ [] → count ≡ length ones → ones ≡ lasts count (members (map One ones ++ others))
lasts_of_ones ones others count none is = rw none (rw append-nil (sym (lasts_ones count ones is)))

-- outs that meet the only members, and outs that meet the rows behind them, meet all rows
pub parts_meet : {In Out : Type 0} (meets : In → Out → Type 0) (ins : List In) (outs : List Out) (rows : List (Members In)) (more : List (Members Out)) → AllMeet meets ins outs
    → AllMeet (MembersMeet meets) rows more → AllMeet (MembersMeet meets) (map One ins ++ rows) (map One outs ++ more)
parts_meet meets [] [] rows more met all = all
parts_meet meets [] (out ∷ outs) rows more met all = absurd met
parts_meet meets (input ∷ ins) [] rows more met all = absurd met
parts_meet meets (input ∷ ins) (out ∷ outs) rows more met all = ((met.0, tt), parts_meet meets ins outs rows more met.1 all)
