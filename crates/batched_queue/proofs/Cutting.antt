-- Cutting stripe by stripe, and putting the stripes back.
use Rattle.std.proofs.Common.{◌≡◌, ℕ, zero, suc, ◌+◌, ◌<◌, ◌≤◌, ◌⊎◌, append-nil, inl, inr, List, [], ◌∷◌, ◌++◌, length, take, drop, get_or, set, replicate, refl, ap, sym, ◌∙◌, arith, Contains, length-set}
use Rattle.std.specs.List.{AllByRecursion}
use Rattle.std.proofs.lemmas.Bool.{cases_order}
use Rattle.std.proofs.lemmas.List.{length-replicate, map-append, get_or-set_same, get_or-set_other}
use Rattle.std.proofs.lemmas.List.Elements.{Contains-append_left, Contains-append_right}
use Rattle.seq_objects.specs.Pieces.{AllMeet}
use Rattle.batched_queue.specs.declared.piece.Piece.{Piece}
use Rattle.batched_queue.specs.declared.piece.Served.{Served}
use Rattle.batched_queue.specs.Code.Stripes.{stripe, count_in}
use Rattle.batched_queue.specs.Code.Pieces.{Meets, IsTaken, IsPieceOf, IsUntouched, IsCut, numbers_in, with_outs}
use Rattle.seq_objects.proofs.Elements.{each_push}

-- stripe j, which has no piece, is as it was, and is untouched if it is below the number
pub record IsLeft (stripes : List (List ℕ)) (first count : ℕ) (puts : List ℕ) (found number : ℕ) (rest : List (List ℕ)) (j : ℕ) : Type 0 where
  pub same : get_or rest j [] ≡ get_or stripes j []
  pub no_puts : j < number → stripe (first + count) j puts ≡ []
  pub no_gets : j < number → count_in first j found ≡ 0

-- the stripes below the number are cut, and the others are as they were
pub record IsCutBelow (stripes : List (List ℕ)) (first count : ℕ) (puts : List ℕ) (found number : ℕ) (rest : List (List ℕ)) (pieces : List Piece) : Type 0 where
  pub each : AllByRecursion (IsPieceOf stripes first count puts found) pieces
  pub all : (j : ℕ) → j < 16 → Contains (numbers_in pieces) j ⊎ IsLeft stripes first count puts found number rest j
  pub above : (j : ℕ) → number ≤ j → get_or rest j [] ≡ get_or stripes j []

pub all_cut : (stripes : List (List ℕ)) (first count : ℕ) (puts : List ℕ) (found : ℕ) (rest : List (List ℕ)) (pieces : List Piece)
    → IsCutBelow stripes first count puts found 16 rest pieces → IsCut stripes first count puts found rest pieces
all_cut stripes first count puts found rest pieces cut = record {
  each = cut.each;
  all = λ j low. elim (cut.all j low) [
    | inl has ↦ inl has
    | inr left ↦ inr (record { same = left.same; no_puts = left.no_puts low; no_gets = left.no_gets low })
  ];
}

-- a stripe without calls stays
pub skip : (stripes : List (List ℕ)) (first count : ℕ) (puts : List ℕ) (found number : ℕ) (rest : List (List ℕ)) (pieces : List Piece)
    → IsCutBelow stripes first count puts found number rest pieces
    → stripe (first + count) number puts ≡ [] → count_in first number found ≡ 0
    → IsCutBelow stripes first count puts found (number + 1) rest pieces
skip stripes first count puts found number rest pieces cut no_puts no_gets = record {
  each = cut.each;
  all = λ j low. elim (cut.all j low) [
    | inl has ↦ inl has
    | inr left ↦ inr (elim (cases_order j number) [
      | inl same ↦ record {
        same = left.same;
        no_puts = λ less. ap (λ k. stripe (first + count) k puts) same ∙ no_puts;
        no_gets = λ less. ap (λ k. count_in first k found) same ∙ no_gets;
      }
      | inr (inl less) ↦ record { same = left.same; no_puts = λ _. left.no_puts less; no_gets = λ _. left.no_gets less }
      | inr (inr more) ↦ record { same = left.same; no_puts = λ less. absurd (omega (arith, less, more)); no_gets = λ less. absurd (omega (arith, less, more)) }
    ])
  ];
  above = λ j le. cut.above j (omega (arith, le));
}

-- a stripe with calls goes to a piece
pub take_out : (stripes : List (List ℕ)) (first count : ℕ) (puts : List ℕ) (found number : ℕ) (rest new : List (List ℕ)) (pieces more : List Piece) (mine : List ℕ) (takes : ℕ)
    → IsCutBelow stripes first count puts found number rest pieces
    → mine ≡ stripe (first + count) number puts → takes ≡ count_in first number found → new ≡ set rest number []
    → (piece : Piece) × (more ≡ pieces ++ piece ∷ []) × IsTaken rest number mine takes piece
    → IsCutBelow stripes first count puts found (number + 1) new more
take_out stripes first count puts found number rest new pieces more mine takes cut is_mine is_takes is_new (piece, is_more, has) =
    let own : IsPieceOf stripes first count puts found piece = record {
      number = refl;
      items = has.items ∙ cut.above number (omega arith) ∙ ap (λ k. get_or stripes k []) (sym has.number);
      puts = has.puts ∙ is_mine ∙ ap (λ k. stripe (first + count) k puts) (sym has.number);
      gets = has.gets ∙ is_takes ∙ ap (λ k. count_in first k found) (sym has.number);
    } in
    let numbers : numbers_in more ≡ numbers_in pieces ++ number ∷ [] = ap numbers_in is_more ∙ map-append (λ (p : Piece). p.number) pieces (piece ∷ []) ∙ ap (λ k. numbers_in pieces ++ k ∷ []) has.number in
    let other : (j : ℕ) → (j ≡ number → ⊥) → get_or new j [] ≡ get_or rest j [] = λ j apart. ap (λ l. get_or l j []) is_new ∙ get_or-set_other rest number j [] [] apart in
    record {
      each = rw is_more (each_push (IsPieceOf stripes first count puts found) pieces piece cut.each own);
      all = λ j low. elim (cases_order j number) [
        | inl same ↦ inl (rw (numbers, same) (Contains-append_right (numbers_in pieces) (number ∷ []) number (0, omega arith, refl)))
        | inr apart ↦ elim (cut.all j low) [
          | inl there ↦ inl (rw numbers (Contains-append_left (numbers_in pieces) (number ∷ []) j there))
          | inr left ↦ inr (record {
            same = other j (λ e. elim apart [ inl less ↦ omega (arith, e, less) | inr more ↦ omega (arith, e, more) ]) ∙ left.same;
            no_puts = λ less. left.no_puts (elim apart [ inl l ↦ l | inr more ↦ absurd (omega (arith, less, more)) ]);
            no_gets = λ less. left.no_gets (elim apart [ inl l ↦ l | inr more ↦ absurd (omega (arith, less, more)) ]);
          })
        ]
      ];
      above = λ j le. other j (λ e. omega (arith, e, le)) ∙ cut.above j (omega (arith, le));
    }

-- stripe j is served: the puts to it were appended, and then its share of the gets took its first items
pub record IsServed (stripes : List (List ℕ)) (first count : ℕ) (puts : List ℕ) (found : ℕ) (left took : List (List ℕ)) (j : ℕ) : Type 0 where
  pub items : get_or left j [] ≡ drop (count_in first j found) (get_or stripes j [] ++ stripe (first + count) j puts)
  pub taken : get_or took j [] ≡ take (count_in first j found) (get_or stripes j [] ++ stripe (first + count) j puts)

none_there : (n j : ℕ) → get_or (replicate {A = List ℕ} n []) j [] ≡ []
none_there zero j = refl
none_there (suc n) zero = refl
none_there (suc n) (suc j) = none_there n j

untouched_served : (stripes : List (List ℕ)) (first count : ℕ) (puts : List ℕ) (found : ℕ) (rest : List (List ℕ)) (j : ℕ)
    → IsUntouched stripes first count puts found rest j → IsServed stripes first count puts found rest (replicate 16 []) j
untouched_served stripes first count puts found rest j left = record {
  items = rw (left.no_puts, left.no_gets, append-nil (get_or stripes j [])) left.same;
  taken = rw left.no_gets (none_there 16 j);
}

-- once a stripe is served it stays so, and each piece serves its stripe
step_served : (stripes : List (List ℕ)) (first count : ℕ) (puts : List ℕ) (found : ℕ) (items taken : List (List ℕ)) (piece : Piece) (out : Served) (pieces : List Piece) (j : ℕ)
    → IsPieceOf stripes first count puts found piece → Meets piece out → j < length items → j < length taken
    → Contains (numbers_in (piece ∷ pieces)) j ⊎ IsServed stripes first count puts found items taken j
    → Contains (numbers_in pieces) j ⊎ IsServed stripes first count puts found (set items out.number out.items.items) (set taken out.number out.taken.items) j
step_served stripes first count puts found items taken piece out pieces j own meets within within' before =
    elim (cases_order j out.number) [
      | inl same ↦
          let e : j ≡ piece.number = same ∙ meets.number in
          inr (record {
            items = rw same (get_or-set_same items out.number out.items.items [] (rw same at within)) ∙ meets.items ∙ rw (own.items, own.puts, own.gets, e) refl;
            taken = rw same (get_or-set_same taken out.number out.taken.items [] (rw same at within')) ∙ meets.taken ∙ rw (own.items, own.puts, own.gets, e) refl;
          })
      | inr apart ↦
          let other : j ≡ out.number → ⊥ = λ e. elim apart [ inl less ↦ omega (arith, e, less) | inr more ↦ omega (arith, e, more) ] in
          elim before [
            | inl (zero, less, is) ↦ absurd (other (sym is ∙ sym meets.number))
            | inl (suc k, less, is) ↦ inl (k, omega (arith, less), is)
            | inr served ↦ inr (record {
              items = get_or-set_other items out.number j out.items.items [] other ∙ served.items;
              taken = get_or-set_other taken out.number j out.taken.items [] other ∙ served.taken;
            })
          ]
    ]

served_by : (stripes : List (List ℕ)) (first count : ℕ) (puts : List ℕ) (found : ℕ) (items taken : List (List ℕ)) (pieces : List Piece) (outs : List Served) (j : ℕ)
    → AllByRecursion (IsPieceOf stripes first count puts found) pieces → AllMeet Meets pieces outs → j < length items → j < length taken
    → Contains (numbers_in pieces) j ⊎ IsServed stripes first count puts found items taken j
    → IsServed stripes first count puts found (with_outs (λ out. out.items.items) items outs) (with_outs (λ out. out.taken.items) taken outs) j
served_by stripes first count puts found items taken [] [] j each meet within within' (inl (k, less, is)) = absurd (omega (arith, less))
served_by stripes first count puts found items taken [] [] j each meet within within' (inr served) = served
served_by stripes first count puts found items taken [] (out ∷ outs) j each meet within within' before = absurd meet
served_by stripes first count puts found items taken (piece ∷ pieces) [] j each meet within within' before = absurd meet
served_by stripes first count puts found items taken (piece ∷ pieces) (out ∷ outs) j each meet within within' before =
    served_by stripes first count puts found (set items out.number out.items.items) (set taken out.number out.taken.items) pieces outs j each.1 meet.1
    (rw (length-set items out.number out.items.items) within) (rw (length-set taken out.number out.taken.items) within')
    (step_served stripes first count puts found items taken piece out pieces j each.0 meet.0 within within' before)

-- where the outs of all pieces are put back, each stripe is served
pub all_served : (stripes : List (List ℕ)) (first count : ℕ) (puts : List ℕ) (found : ℕ) (rest : List (List ℕ)) (pieces : List Piece) (outs : List Served)
    → IsCut stripes first count puts found rest pieces → AllMeet Meets pieces outs → length rest ≡ 16 → (j : ℕ) → j < 16
    → IsServed stripes first count puts found (with_outs (λ out. out.items.items) rest outs) (with_outs (λ out. out.taken.items) (replicate 16 []) outs) j
all_served stripes first count puts found rest pieces outs cut meet sixteen j low =
    served_by stripes first count puts found rest (replicate 16 []) pieces outs j cut.each meet (rw sixteen low) (rw (length-replicate {A = List ℕ} 16 []) low)
    (elim (cut.all j low) [
      | inl has ↦ inl has
      | inr left ↦ inr (untouched_served stripes first count puts found rest j left)
    ])
