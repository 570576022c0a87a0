-- Bundles of pieces.
use Rattle.std.proofs.Common.{◌≡◌, ℕ, ◌<◌, suc, List, [], ◌∷◌, ◌++◌, length, get_or, Result, Ok, Err, IfOk, Option, Some, None, refl, ap, sym, ◌∙◌, append_assoc, append-nil, arith, Vec, Global}
use Rattle.seq_objects.specs.Pieces.{AllMeet}
use Rattle.piece_threads.specs.Code.Bundles.{pieces_in, before_outs, outs_in}

pub meets_append : {In Out : Type 0} (meets : In → Out → Type 0) (ins : List In) (outs : List Out) (ins' : List In) (outs' : List Out)
    → AllMeet meets ins outs → AllMeet meets ins' outs' → AllMeet meets (ins ++ ins') (outs ++ outs')
meets_append meets [] [] ins' outs' all all' = all'
meets_append meets [] (o ∷ outs) ins' outs' all all' = absurd all
meets_append meets (i ∷ ins) [] ins' outs' all all' = absurd all
meets_append meets (i ∷ ins) (o ∷ outs) ins' outs' all all' = (all.0, meets_append meets ins outs ins' outs' all.1 all')

pub pieces_in_more : {In : Type 0} (bundles : List (Vec In Global)) (last : Vec In Global) → pieces_in (bundles ++ last ∷ []) ≡ pieces_in bundles ++ last.items
pieces_in_more [] last = append-nil last.items
pieces_in_more (bundle ∷ bundles) last = ap (λ xs. bundle.items ++ xs) (pieces_in_more bundles last) ∙ sym (append_assoc bundle.items (pieces_in bundles) last.items)

-- the outs of one bundle more
pub outs_more : {Out E : Type 0} (results : List (Result (Vec Out Global) E)) (outs : List Out) (more : Vec Out Global)
    → outs_in results ≡ Some outs → outs_in {E = E} (results ++ Ok more ∷ []) ≡ Some (outs ++ more.items)
outs_more [] outs more is =
    let e : outs ≡ [] = cc in
    rw (e, append-nil more.items) refl
outs_more (Err e ∷ results) outs more is = absurd (cc)
outs_more {Out} {E} (Ok first ∷ results) outs more is = step (outs_in results) refl is (λ rest same. outs_more {E = E} results rest more same) where
  step : (found : Option (List Out)) → outs_in results ≡ found → before_outs first.items found ≡ Some outs
      → ((rest : List Out) → outs_in results ≡ Some rest → outs_in {E = E} (results ++ Ok more ∷ []) ≡ Some (rest ++ more.items))
      → before_outs first.items (outs_in {E = E} (results ++ Ok more ∷ [])) ≡ Some (outs ++ more.items)
  step None here is later = absurd (cc)
  step (Some rest) here is later =
      let e : outs ≡ first.items ++ rest = cc in
      rw (later rest here, e) (ap Some (sym (append_assoc first.items rest more.items)))

-- where each bundle's outs meet its pieces, all outs meet all pieces
pub served_each : {In Out E : Type 0} (meets : In → Out → Type 0) (bundles : List (Vec In Global)) (results : List (Result (Vec Out Global) E)) (outs : List Out)
    → length results ≡ length bundles
    → ((i : ℕ) (b : Vec In Global) (r : Result (Vec Out Global) E) → i < length bundles → b ≡ get_or bundles i b → r ≡ get_or results i r → IfOk r (λ outs. AllMeet meets b.items outs.items))
    → outs_in results ≡ Some outs → AllMeet meets (pieces_in bundles) outs
served_each meets [] [] outs same each is =
    let e : outs ≡ [] = cc in
    rw e tt
served_each meets [] (r ∷ results) outs same each is = absurd (omega arith)
served_each meets (b ∷ bundles) [] outs same each is = absurd (omega arith)
served_each meets (b ∷ bundles) (Err e ∷ results) outs same each is = absurd (cc)
served_each {In} {Out} {E} meets (b ∷ bundles) (Ok first ∷ results) outs same each is =
    step (outs_in results) refl is (λ rest found. served_each meets bundles results rest (omega arith) (λ i b' r' less is is'. each (suc i) b' r' (omega arith) is is') found) where
      step : (found : Option (List Out)) → outs_in results ≡ found → before_outs first.items found ≡ Some outs
          → ((rest : List Out) → outs_in results ≡ Some rest → AllMeet meets (pieces_in bundles) rest)
          → AllMeet meets (b.items ++ pieces_in bundles) outs
      step None here is later = absurd (cc)
      step (Some rest) here is later =
          let e : outs ≡ first.items ++ rest = cc in
          rw e (meets_append meets b.items first.items (pieces_in bundles) rest (each 0 b (Ok first) (omega arith) refl refl) (later rest here))

pub served_all : {In Out E F : Type 0} (meets : In → Out → Type 0) (bundles : List (Vec In Global)) (results : List (Result (Vec Out Global) E)) (ins : List In) (result : Result (Vec Out Global) F)
    → pieces_in bundles ≡ ins → length results ≡ length bundles
    → ((i : ℕ) (b : Vec In Global) (r : Result (Vec Out Global) E) → i < length bundles → b ≡ get_or bundles i b → r ≡ get_or results i r → IfOk r (λ outs. AllMeet meets b.items outs.items))
    → IfOk result (λ outs. outs_in results ≡ Some outs.items) → IfOk result (λ outs. AllMeet meets ins outs.items)
served_all meets bundles results ins (Ok outs) is same each found = rw (← is) (served_each meets bundles results outs.items same each found)
served_all meets bundles results ins (Err e) is same each found = found
