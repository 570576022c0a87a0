-- Outs of pieces run in any order, put back at the places of their pieces.
use Rattle.std.proofs.Common.{ℕ, ◌≡◌, ◌<◌, inl, inr, List, [], ◌∷◌, map, refl, sym, ap, subst, ◌∙◌, arith}
use Rattle.launch_batch.proofs.Words.{AllByRecursion, AllMeet, PieceIn, PieceOut, ArePermutations, Run, Meets, place_of, IsOutAt, ArePutBack}
use Rattle.key_sets.specs.Keys.{StrictlyAscends}
use Rattle.seq_objects.proofs.Elements.{each_so, each_unmapped}
use Rattle.launch_batch.proofs.ListLemmas.Same.{each_same}
use Rattle.launch_batch.proofs.ListLemmas.Among.{Among, all_among, each_among, among_same}

-- a piece is found by its place
by_place : (ins : List PieceIn) (a b : PieceIn) → StrictlyAscends (map place_of ins) → Among a ins → Among b ins → place_of a ≡ place_of b → a ≡ b
by_place [] a b up here there is = absurd here
by_place (i ∷ ins) a b up here there is =
    let above : AllByRecursion (λ j. place_of i < place_of j) ins = each_unmapped place_of (λ k. place_of i < k) ins up.0 in
    elim here [
      | inl first ↦ elim there [
        | inl other ↦ first ∙ sym other
        | inr later ↦ let e = ap place_of first in let less = each_among (λ j. place_of i < place_of j) ins b above later in absurd (omega (arith, e, less, is))
      ]
      | inr later ↦ elim there [
        | inl other ↦ let e = ap place_of other in let less = each_among (λ j. place_of i < place_of j) ins a above later in absurd (omega (arith, e, less, is))
        | inr both ↦ by_place ins a b up.1 later both is
      ]
    ]

-- the piece of an out is a piece of the batch, has the out's place, and is met by the out
found : (ins : List PieceIn) (runs : List Run) (place : ℕ) (out : PieceOut) → AllByRecursion (λ (run : Run). Among run.input ins) runs → AllByRecursion (λ (run : Run). Meets run.input run.out) runs
    → IsOutAt runs place out → (input : PieceIn) × Among input ins × (place_of input ≡ place) × Meets input out
found ins [] place out among met at = absurd at
found ins (run ∷ runs) place out among met at = elim at [
  | inl here ↦ (run.input, among.0, here.0, subst (Meets run.input) here.1 met.0)
  | inr later ↦ found ins runs place out among.1 met.1 later
]

put_back : (ins rest : List PieceIn) (runs : List Run) (outs : List PieceOut) → StrictlyAscends (map place_of ins) → AllByRecursion (λ input. Among input ins) rest → AllByRecursion (λ (run : Run). Among run.input ins) runs
    → AllByRecursion (λ (run : Run). Meets run.input run.out) runs → AllMeet (IsOutAt runs) (map place_of rest) outs → AllMeet Meets rest outs
put_back ins [] runs [] up there among met at = tt
put_back ins [] runs (out ∷ outs) up there among met at = absurd at
put_back ins (input ∷ rest) runs [] up there among met at = absurd at
put_back ins (input ∷ rest) runs (out ∷ outs) up there among met at =
    let f = found ins runs (place_of input) out among met at.0 in
    let one : f.0 ≡ input = by_place ins f.0 input up f.1 there.0 f.2 in
    (subst (λ i. Meets i out) one f.3, put_back ins rest runs outs up there.1 among met at.1)

pub all_meet : (ins : List PieceIn) (runs : List Run) (outs : List PieceOut) → StrictlyAscends (map place_of ins) → ArePermutations ins (map (λ (run : Run). run.input) runs)
    → AllByRecursion (λ (run : Run). Meets run.input run.out) runs → ArePutBack runs (map place_of ins) outs → AllMeet Meets ins outs
all_meet ins runs outs up same met at =
    let among = each_unmapped (λ (run : Run). run.input) (λ input. Among input ins) runs (each_same (λ input. Among input ins) ins (map (λ (run : Run). run.input) runs) same (all_among ins)) in
    put_back ins ins runs outs up (all_among ins) among met at

out_of : (runs : List Run) (input : PieceIn) → Among input (map (λ (run : Run). run.input) runs) → (out : PieceOut) × IsOutAt runs (place_of input) out
out_of [] input there = absurd there
out_of (run ∷ runs) input there = elim there [
  | inl is ↦ (run.out, inl (ap place_of (sym is), refl))
  | inr later ↦ let more = out_of runs input later in (more.0, inr more.1)
]

outs_of_each : (rest : List PieceIn) (runs : List Run) → AllByRecursion (λ input. Among input (map (λ (run : Run). run.input) runs)) rest → (outs : List PieceOut) × AllMeet (IsOutAt runs) (map place_of rest) outs
outs_of_each [] runs each = ([], tt)
outs_of_each (input ∷ rest) runs each =
    let first = out_of runs input each.0 in
    let more = outs_of_each rest runs each.1 in
    (first.0 ∷ more.0, (first.1, more.1))

pub some_outs : (ins : List PieceIn) (runs : List Run) → ArePermutations ins (map (λ (run : Run). run.input) runs) → (outs : List PieceOut) × ArePutBack runs (map place_of ins) outs
some_outs ins runs same =
    let inputs = map (λ (run : Run). run.input) runs in
    outs_of_each ins runs (each_so (λ input. Among input ins) (λ input. Among input inputs) (λ input there. among_same ins inputs same input there) ins (all_among ins))
