use Rattle.std.proofs.Common.{◌≡◌, ℕ, ◌+◌, ◌-◌, ◌*◌, ◌/◌, ◌<◌, ◌≤◌, ◌⊎◌, inl, inr, min, List, [], ◌∷◌, ◌++◌, take, drop, length, arith, rules, ◌∙◌}
use Rattle.std.proofs.Math.Nat.{mul-le-mul_left}
use Rattle.std.proofs.lemmas.Bool.{cases_lt}
use Rattle.std.proofs.lemmas.Grind.{common_steps}
use Rattle.batched_counter.specs.declared.piece.Piece.{Piece}
use Rattle.batched_counter.specs.Calls.{addends}
use Rattle.batched_counter.proofs.BeginLemmas.Pieces.{total_part, one_more, addends_part, addends_in_more, length_addends, sixteenth, all_cut}
use Rattle.batched_counter.proofs.begin.pieces_of.Goals as goal

pub invariant_of-push : goal.invariant_of-push
invariant_of-push c = rw (c.addends_of-addends.ensures, addends_part) (record { fits = total_part _ _ _ (addends c.args.calls.now) c.requires.fits })

far_more : (count size at len end : ℕ) → (count * size ≤ at) ⊎ (at ≡ len) → at < len
    → end ≡ min (at + size) len → ((count + 1) * size ≤ end) ⊎ (end ≡ len)
far_more count size at len end (inl far) lt is = grind arith
far_more count size at len end (inr far) lt is = absurd (omega arith)

-- where calls are left, the pieces before them are fewer than sixteen
room_left : (count size at len : ℕ) → (count * size ≤ at) ⊎ (at ≡ len) → at < len
    → size ≡ (len + 15) / 16 → count + 1 ≤ 16
room_left count size at len (inl far) lt is =
    elim (cases_lt count 16) [
      | inl few ↦ omega (arith, few)
      | inr many ↦ let m = mul-le-mul_left size many in absurd (omega (arith, m, far, lt, is))
    ]
room_left count size at len (inr far) lt is = absurd (omega arith)

length_more : (pieces : List Piece) (piece : Piece) → length (pieces ++ piece ∷ []) ≡ length pieces + 1
length_more pieces piece = grind (arith, common_steps)

pub cuts-preserved : goal.cuts-preserved
cuts-preserved c =
    let i = c.cuts.invariant in
    let len = length_addends c.args.calls.now in
    let e : c.min-end.result ≡ min (c.cuts.at + ((length c.args.calls.now - 1) / 16 + 1)) (length c.args.calls.now) = search rules in
    let e' : c.min-end.result ≡ min (c.cuts.at + ((length c.args.calls.now - 1) / 16 + 1)) (length (addends c.args.calls.now)) = rw len e in
    let lt : c.cuts.at < length (addends c.args.calls.now) = rw len c.cuts-test.true in
    let piece : c.addends_of-addends.result.items ≡ take (c.min-end.result - c.cuts.at) (drop c.cuts.at (addends c.args.calls.now)) = c.addends_of-addends.ensures ∙ addends_part (c.min-end.result - c.cuts.at) c.cuts.at c.args.calls.now in
    let s = sixteenth (length c.args.calls.now) c.requires.some in
    rw (c.in_ok-push.ensures.items, addends_in_more, length_more)
    (record {
      cut = one_more _ _ _ _ _ _ lt e' piece i.cut;
      within = omega arith;
      far = far_more _ _ _ _ _ i.far c.cuts-test.true e;
      few = room_left _ _ _ _ i.far c.cuts-test.true s;
      some = inr (omega arith);
    })

pub returns-clause-cut : goal.returns-clause-cut
returns-clause-cut c =
    let s = sixteenth (length c.args.calls.now) c.requires.some in
    rw (← s) (all_cut _ _ _ _ (rw length_addends c.cuts-test.false) c.cuts.invariant.cut)

some_cut : (at len count : ℕ) → (at ≡ 0) ⊎ (1 ≤ count) → 0 < len → len ≤ at → 1 ≤ count
some_cut at len count (inl none) p le = absurd (omega arith)
some_cut at len count (inr some) p le = some

pub returns-clause-count : goal.returns-clause-count
returns-clause-count c =
    let i = c.cuts.invariant in
    (some_cut _ _ _ i.some c.requires.some c.cuts-test.false, i.few)
