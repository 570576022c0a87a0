-- Outs of rows, dealt back to the lists that were added.
use Rattle.std.proofs.Common.{◌≡◌, ◌-◌, List, [], ◌∷◌, ◌++◌, length, refl, sym, subst}
use Rattle.seq_objects.specs.Pieces.{AllMeet}
use Rattle.object_rows.specs.declared.members.Members.{Members}
use Rattle.object_rows.specs.Rows.{members, added, MembersMeet}
use Rattle.object_rows.specs.Code.Lasts.{last_of, front_of, lasts, fronts}
use Rattle.object_rows.proofs.ListLemmas.{last_meets, take_front, drop_front}

module _ {In Out : Type 0} (meets : In → Out → Type 0) where
  -- the outs of each row meet it; beyond the rows there are none
  abbrev pub RowsMeet : List (List In) → List (List Out) → Type 0
  RowsMeet [] [] = Unit {0}
  RowsMeet [] (outs ∷ rest) = (outs ≡ []) × RowsMeet [] rest
  RowsMeet (row ∷ rows) [] = ⊥
  RowsMeet (row ∷ rows) (outs ∷ rest) = AllMeet meets row outs × RowsMeet rows rest

  pub rows_meet : (ins : List (Members In)) (outs : List (Members Out)) → AllMeet (MembersMeet meets) ins outs → RowsMeet (members ins) (members outs)
  rows_meet [] [] m = tt
  rows_meet [] (out ∷ outs) m = absurd m
  rows_meet (input ∷ ins) [] m = absurd m
  rows_meet (input ∷ ins) (out ∷ outs) m = (m.0, rows_meet ins outs m.1)

  -- a row with one more member
  last_one : (row : List In) (x : In) (outs : List Out) → AllMeet meets (row ++ x ∷ []) outs → AllMeet meets (x ∷ []) (last_of outs)
  last_one row x outs m =
      let parts = last_meets meets row x outs m in
      subst (λ l. AllMeet meets (x ∷ []) (last_of l)) (sym parts.is)
      (subst (AllMeet meets (x ∷ [])) (sym (drop_front parts.front parts.last (length (parts.front ++ parts.last ∷ []) - 1) refl)) (parts.lasts, tt))

  front_one : (row : List In) (x : In) (outs : List Out) → AllMeet meets (row ++ x ∷ []) outs → AllMeet meets row (front_of outs)
  front_one row x outs m =
      let parts = last_meets meets row x outs m in
      subst (λ l. AllMeet meets row (front_of l)) (sym parts.is)
      (subst (AllMeet meets row) (sym (take_front parts.front parts.last (length (parts.front ++ parts.last ∷ []) - 1) refl)) parts.fronts)

  one_and : (x : In) (xs : List In) (first rest : List Out) → AllMeet meets (x ∷ []) first → AllMeet meets xs rest → AllMeet meets (x ∷ xs) (first ++ rest)
  one_and x xs [] rest m n = absurd m
  one_and x xs (y ∷ []) rest m n = (m.0, n)
  one_and x xs (y ∷ z ∷ ys) rest m n = absurd m.1

  none_meet : (outs : List Out) → AllMeet meets [] outs → outs ≡ []
  none_meet [] m = refl
  none_meet (out ∷ outs) m = absurd m

  -- the last members of the rows meet the list that was added last, and the others the rows before it
  pub lasts_meet : (rows : List (List In)) (list : List In) (outs : List (List Out)) → RowsMeet (added rows list) outs → AllMeet meets list (lasts (length list) outs)
  lasts_meet rows [] outs m = tt
  lasts_meet [] (x ∷ xs) [] m = absurd m
  lasts_meet [] (x ∷ xs) (out ∷ outs) m = one_and x xs (last_of out) (lasts (length xs) outs) (last_one [] x out m.0) (lasts_meet [] xs outs m.1)
  lasts_meet (row ∷ rows) (x ∷ xs) [] m = absurd m
  lasts_meet (row ∷ rows) (x ∷ xs) (out ∷ outs) m = one_and x xs (last_of out) (lasts (length xs) outs) (last_one row x out m.0) (lasts_meet rows xs outs m.1)

  pub fronts_meet : (rows : List (List In)) (list : List In) (outs : List (List Out)) → RowsMeet (added rows list) outs → RowsMeet rows (fronts (length list) outs)
  fronts_meet rows [] outs m = m
  fronts_meet [] (x ∷ xs) [] m = absurd m
  fronts_meet [] (x ∷ xs) (out ∷ outs) m = (none_meet (front_of out) (front_one [] x out m.0), fronts_meet [] xs outs m.1)
  fronts_meet (row ∷ rows) (x ∷ xs) [] m = absurd m
  fronts_meet (row ∷ rows) (x ∷ xs) (out ∷ outs) m = (front_one row x out m.0, fronts_meet rows xs outs m.1)
