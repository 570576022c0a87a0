-- A shape together with its leaves as they are written.
use Rattle.std.proofs.Common.{◌≡◌, ℕ, List, [], ◌∷◌, ◌++◌, length, take, drop, codes, refl, sym, ap, ◌∙◌, arith, length-append, length-take, length-drop}
use Rattle.std.proofs.Math.Seq.{take-append_seam, drop-append_seam}
use Rattle.std.proofs.lemmas.List.{take-append-drop}
use Rattle.std.specs.List.{AllByRecursion}
use Rattle.seq_objects.proofs.Elements.{each_front}
use Rattle.sp_order.specs.Precedence.{Tree, leaf, seq, par, leaves}
use Rattle.job_writer.specs.Canonical.{WrittenLeaf, leaf_text, tree_text}

pub data Grown : Type 0 where
  lone : WrittenLeaf → Grown
  series : Grown → Grown → Grown
  parallel : Grown → Grown → Grown

abbrev pub shape_of : Grown → Tree
shape_of (lone written) = leaf
shape_of (series left right) = seq (shape_of left) (shape_of right)
shape_of (parallel left right) = par (shape_of left) (shape_of right)

abbrev pub leaves_of : Grown → List WrittenLeaf
leaves_of (lone written) = written ∷ []
leaves_of (series left right) = leaves_of left ++ leaves_of right
leaves_of (parallel left right) = leaves_of left ++ leaves_of right

abbrev pub size : Grown → ℕ
size grown = leaves (shape_of grown)

pub size_is : (grown : Grown) → length (leaves_of grown) ≡ size grown
size_is (lone written) = refl
size_is (series left right) = length-append (leaves_of left) (leaves_of right) ∙ omega (arith, size_is left, size_is right)
size_is (parallel left right) = length-append (leaves_of left) (leaves_of right) ∙ omega (arith, size_is left, size_is right)

-- with each list of as many leaves as the shape has it grows
abbrev Grows : Tree → List WrittenLeaf → Type 0
Grows tree written = (grown : Grown) × ((shape_of grown ≡ tree) × (leaves_of grown ≡ written))

pub grow : (tree : Tree) (written : List WrittenLeaf) → length written ≡ leaves tree → Grows tree written
grow leaf [] same = absurd (omega (arith, same))
grow leaf (one ∷ []) same = (lone one, (refl, refl))
grow leaf (one ∷ next ∷ written) same = absurd (omega (arith, same))
grow (seq left right) written same =
    let front = grow left (take (leaves left) written) (length-take (leaves left) written ∙ omega (arith, same)) in
    let back = grow right (drop (leaves left) written) (length-drop (leaves left) written ∙ omega (arith, same)) in
    (series front.0 back.0, ((λ i. seq (front.1.0 i) (back.1.0 i)), (λ i. front.1.1 i ++ back.1.1 i) ∙ take-append-drop (leaves left) written))
grow (par left right) written same =
    let front = grow left (take (leaves left) written) (length-take (leaves left) written ∙ omega (arith, same)) in
    let back = grow right (drop (leaves left) written) (length-drop (leaves left) written ∙ omega (arith, same)) in
    (parallel front.0 back.0, ((λ i. par (front.1.0 i) (back.1.0 i)), (λ i. front.1.1 i ++ back.1.1 i) ∙ take-append-drop (leaves left) written))

-- what holds of each leaf
abbrev pub Each : (WrittenLeaf → Type 0) → Grown → Type 0
Each P (lone written) = P written
Each P (series left right) = Each P left × Each P right
Each P (parallel left right) = Each P left × Each P right

pub each_grown : (P : WrittenLeaf → Type 0) (grown : Grown) → AllByRecursion P (leaves_of grown) → Each P grown
each_grown P (lone written) all = all.0
each_grown P (series left right) all = let sides = each_front P (leaves_of left) (leaves_of right) all in (each_grown P left sides.0, each_grown P right sides.1)
each_grown P (parallel left right) all = let sides = each_front P (leaves_of left) (leaves_of right) all in (each_grown P left sides.0, each_grown P right sides.1)

-- the text
abbrev pub text_of : List (List ℕ) → Grown → List ℕ
text_of names (lone written) = leaf_text names written
text_of names (series left right) = codes "seq { " ++ text_of names left ++ codes " " ++ text_of names right ++ codes " }"
text_of names (parallel left right) = codes "par { " ++ text_of names left ++ codes " " ++ text_of names right ++ codes " }"

front_is : (left : Grown) (more : List WrittenLeaf) → take (size left) (leaves_of left ++ more) ≡ leaves_of left
front_is left more = ap (λ n. take n (leaves_of left ++ more)) (sym (size_is left)) ∙ take-append_seam (leaves_of left) more

back_is : (left : Grown) (more : List WrittenLeaf) → drop (size left) (leaves_of left ++ more) ≡ more
back_is left more = ap (λ n. drop n (leaves_of left ++ more)) (sym (size_is left)) ∙ drop-append_seam (leaves_of left) more

pub text_is : (names : List (List ℕ)) (grown : Grown) → tree_text names (shape_of grown) (leaves_of grown) ≡ text_of names grown
text_is names (lone written) = refl
text_is names (series left right) =
    let front = ap (tree_text names (shape_of left)) (front_is left (leaves_of right)) ∙ text_is names left in
    let back = ap (tree_text names (shape_of right)) (back_is left (leaves_of right)) ∙ text_is names right in
    λ i. codes "seq { " ++ front i ++ codes " " ++ back i ++ codes " }"
text_is names (parallel left right) =
    let front = ap (tree_text names (shape_of left)) (front_is left (leaves_of right)) ∙ text_is names left in
    let back = ap (tree_text names (shape_of right)) (back_is left (leaves_of right)) ∙ text_is names right in
    λ i. codes "par { " ++ front i ++ codes " " ++ back i ++ codes " }"
