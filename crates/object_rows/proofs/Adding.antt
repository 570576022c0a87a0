-- Lists added to rows.
use Rattle.std.proofs.Common.{ℕ, zero, suc, ◌≡◌, ◌<◌, ◌≤◌, ◌+◌, max, List, [], ◌∷◌, ◌++◌, length, get_or, slice_set, map, refl, ap, sym, ◌∙◌, arith}
use Rattle.std.proofs.lemmas.List.{length-map}
use Rattle.object_rows.specs.declared.members.Members.{Members}
use Rattle.object_rows.specs.declared.members.Members.TheVariants.{One}
use Rattle.object_rows.specs.Rows.{list_of, members, added, all_added, in_rows}
use Rattle.object_rows.specs.Cuts.{longest}
use Rattle.object_rows.specs.Code.Members.{with_member, added_from}

pub length_members : {X : Type 0} (rows : List (Members X)) → length (members rows) ≡ length rows
length_members rows = length-map rows list_of

-- a member is pushed to a row that is there, or to one that is new
pub put_there : {X : Type 0} (rows : List (Members X)) (place : ℕ) (row now : Members X) (x : X) → place < length rows → row ≡ get_or rows place row → list_of now ≡ list_of row ++ x ∷ []
    → members (slice_set rows place now) ≡ with_member place x (members rows)
put_there [] place row now x below is more = absurd (omega (arith, below))
put_there (v ∷ rows) zero row now x below is more = ap (λ l. l ∷ members rows) (more ∙ ap (λ (r : Members _). list_of r ++ x ∷ []) is)
put_there (v ∷ rows) (suc place) row now x below is more = ap (λ l. list_of v ∷ l) (put_there rows place row now x (omega (arith, below)) is more)

pub put_behind : {X : Type 0} (rows : List (Members X)) (place : ℕ) (now : Members X) (x : X) → place ≡ length rows → list_of now ≡ x ∷ []
    → members (rows ++ now ∷ []) ≡ with_member place x (members rows)
put_behind [] zero now x is more = ap (λ l. l ∷ []) more
put_behind [] (suc place) now x is more = absurd (omega (arith, is))
put_behind (v ∷ rows) zero now x is more = absurd (omega (arith, is))
put_behind (v ∷ rows) (suc place) now x is more = ap (λ l. list_of v ∷ l) (put_behind rows place now x (omega (arith, is)) more)

pub length_with : {X : Type 0} (place : ℕ) (x : X) (rows : List (List X)) → place ≤ length rows → place + 1 ≤ length (with_member place x rows)
length_with zero x [] le = omega arith
length_with zero x (row ∷ rows) le = omega arith
length_with (suc place) x [] le = absurd (omega (arith, le))
length_with (suc place) x (row ∷ rows) le = let rest = length_with place x rows (omega (arith, le)) in omega (arith, rest)

step : {X : Type 0} (place : ℕ) (x : X) (rows : List (List X)) (xs : List X) → place ≤ length rows → added_from (suc place) (with_member place x rows) xs ≡ added_from place rows (x ∷ xs)
step zero x [] xs le = refl
step zero x (row ∷ rows) xs le = refl
step (suc place) x [] xs le = absurd (omega (arith, le))
step (suc place) x (row ∷ rows) xs le = ap (λ l. row ∷ l) (step place x rows xs (omega (arith, le)))

pub added_step : {X : Type 0} (place next : ℕ) (x : X) (rows : List (List X)) (xs : List X) → next ≡ place + 1 → place ≤ length rows → added_from next (with_member place x rows) xs ≡ added_from place rows (x ∷ xs)
added_step place next x rows xs is le = let one : next ≡ suc place = omega (arith, is) in rw one (step place x rows xs le)

pub added_end : {X : Type 0} (place : ℕ) (rows : List (List X)) → place ≤ length rows → added_from place rows [] ≡ rows
added_end zero rows le = refl
added_end (suc place) [] le = refl
added_end (suc place) (row ∷ rows) le = ap (λ l. row ∷ l) (added_end place rows (omega (arith, le)))

pub all_added_more : {X : Type 0} (rows lists : List (List X)) (list : List X) → all_added rows (lists ++ list ∷ []) ≡ added (all_added rows lists) list
all_added_more rows [] list = refl
all_added_more rows (l ∷ lists) list = all_added_more (added rows l) lists list

-- each member of a list in a row of its own
pub added_ones : {X : Type 0} (list : List X) → members (map One list) ≡ added [] list
added_ones [] = refl
added_ones (x ∷ xs) = ap (λ rows. (x ∷ []) ∷ rows) (added_ones xs)

-- there are as many rows as the longest list has members
length_added : {X : Type 0} (rows : List (List X)) (xs : List X) → length (added rows xs) ≡ max (length rows) (length xs)
length_added rows [] = omega arith
length_added [] (x ∷ xs) = let rest = length_added [] xs in omega (arith, rest)
length_added (row ∷ rows) (x ∷ xs) = let rest = length_added rows xs in omega (arith, rest)

length_all : {X : Type 0} (rows lists : List (List X)) → length (all_added rows lists) ≡ max (length rows) (longest lists)
length_all rows [] = omega arith
length_all rows (list ∷ lists) = let rest = length_all (added rows list) lists in let first = length_added rows list in omega (arith, rest, first)

pub length_in_rows : {X : Type 0} (ins : List (Members X)) (lists : List (List X)) → members ins ≡ in_rows lists → length ins ≡ longest lists
length_in_rows ins lists is = let all = length_all [] lists in let same = sym (length-map ins list_of) ∙ ap length is in omega (arith, all, same)
