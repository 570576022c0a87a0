-- Lists in rows: those members that are at one place of their lists go together, in the order of the lists.
use Rattle.std.specs.Prelude.{List, [], ◌∷◌, ◌++◌, map}
use Rattle.seq_objects.specs.Pieces.{AllMeet}
use Rattle.object_rows.specs.declared.members.Members.{Members}
use Rattle.object_rows.specs.declared.members.Members.TheVariants.{One, Many}

-- the members of one row, in their order
abbrev pub list_of : {X : Type 0} → Members X → List X
list_of (One member) = member ∷ []
list_of (Many all) = all.items

-- the members of each row
abbrev pub members : {X : Type 0} → List (Members X) → List (List X)
members rows = map list_of rows

-- what contracts see of a `RowList`
pub record RowListView (X : Type 0) : Type 0 where
  pub items : List (Members X)

-- each member of the list at the end of the row at its place; those beyond the last row are rows of their own
abbrev pub added : {X : Type 0} → List (List X) → List X → List (List X)
added rows [] = rows
added [] (x ∷ xs) = (x ∷ []) ∷ added [] xs
added (row ∷ rows) (x ∷ xs) = (row ++ x ∷ []) ∷ added rows xs

-- the lists, one after another, added to the rows
abbrev pub all_added : {X : Type 0} → List (List X) → List (List X) → List (List X)
all_added rows [] = rows
all_added rows (list ∷ lists) = all_added (added rows list) lists

-- the rows of the lists
abbrev pub in_rows : {X : Type 0} → List (List X) → List (List X)
in_rows lists = all_added [] lists

-- there are as many outs as inputs, and each meets the input at its position
abbrev pub MembersMeet : {In Out : Type 0} → (In → Out → Type 0) → Members In → Members Out → Type 0
MembersMeet meets ins outs = AllMeet meets (list_of ins) (list_of outs)
