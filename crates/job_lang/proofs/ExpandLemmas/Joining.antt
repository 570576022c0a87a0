-- Lists of shapes that are joined in halves.
use Rattle.std.proofs.Common.{◌≡◌, ℕ, zero, suc, ◌+◌, ◌-◌, ◌/◌, ◌<◌, ◌≤◌, List, [], ◌∷◌, ◌++◌, length, map, take, drop, Option, Some, refl, sym, ap, ◌∙◌, arith, append-nil, length-take, length-drop}
use Rattle.std.specs.Prelude.{option_to_list}
use Rattle.std.specs.Option.{option_map}
use Rattle.std.proofs.Math.Seq.{take-append_seam, drop-append_seam}
use Rattle.std.proofs.lemmas.List.{map-append, take-map, drop-map, length-map, drop-take, drop-drop}
use Rattle.sp_order.specs.declared.shape.Shape.{Shape}
use Rattle.sp_order.specs.Precedence.{Tree, tree_of}
use Rattle.job_syntax.specs.Grammar.{Items, nothing, block_then, BlockKind}
use Rattle.job_lang.specs.Joins.{join_within, join_of, both, half}
use Rattle.job_lang.specs.Meaning.{shapes_in, join_list, join_in}
use Rattle.job_lang.specs.Code.Orders.{shapes_inside}

-- all sufficient bounds give the same join
enough : (kind : Tree → Tree → Tree) (n m : ℕ) (xs : List Tree) → length xs ≤ n → length xs ≤ m → join_within kind n xs ≡ join_within kind m xs
enough kind zero zero xs h k = refl
enough kind zero (suc m) [] h k = refl
enough kind zero (suc m) (x ∷ xs) h k = absurd (omega (arith, h))
enough kind (suc n) zero [] h k = refl
enough kind (suc n) zero (x ∷ xs) h k = absurd (omega (arith, k))
enough kind (suc n) (suc m) [] h k = refl
enough kind (suc n) (suc m) (x ∷ []) h k = refl
enough kind (suc n) (suc m) (x ∷ y ∷ zs) h k =
    let xs : List Tree = x ∷ y ∷ zs in
    let at : ℕ = half (length xs) in
    ap (λ a. both kind a (join_within kind n (drop at xs))) (enough kind n m (take at xs) (simp length-take (omega (arith, h))) (simp length-take (omega (arith, k))))
    ∙ ap (λ b. both kind (join_within kind m (take at xs)) b) (enough kind n m (drop at xs) (simp length-drop (omega (arith, h))) (simp length-drop (omega (arith, k))))

join_of_halves : (kind : Tree → Tree → Tree) (xs : List Tree) → 2 ≤ length xs → join_of kind xs ≡ both kind (join_of kind (take (half (length xs)) xs)) (join_of kind (drop (half (length xs)) xs))
join_of_halves kind [] h = absurd (omega (arith, h))
join_of_halves kind (x ∷ []) h = absurd (omega (arith, h))
join_of_halves kind (x ∷ y ∷ zs) h =
    let xs : List Tree = x ∷ y ∷ zs in
    let at : ℕ = half (length xs) in
    let n : ℕ = suc (length zs) in
    ap (λ a. both kind a (join_within kind n (drop at xs))) (enough kind n (length (take at xs)) (take at xs) (simp length-take (omega arith)) (omega arith))
    ∙ ap (λ b. both kind (join_of kind (take at xs)) b) (enough kind n (length (drop at xs)) (drop at xs) (simp length-drop (omega arith)) (omega arith))

-- joining the joined halves of a list joins the list
join_halves : (kind : Tree → Tree → Tree) (xs front back : List Shape) (left right : Option Shape) → 2 ≤ length xs → front ≡ take (half (length xs)) xs → back ≡ drop (half (length xs)) xs
    → option_map tree_of left ≡ join_of kind (map tree_of front) → option_map tree_of right ≡ join_of kind (map tree_of back)
    → both kind (option_map tree_of left) (option_map tree_of right) ≡ join_of kind (map tree_of xs)
join_halves kind xs front back left right many is is' l r =
    let ts : List Tree = map tree_of xs in
    let same : length ts ≡ length xs = length-map xs tree_of in
    let p : option_map tree_of left ≡ join_of kind (take (half (length ts)) ts) = l ∙ ap (λ f. join_of kind (map tree_of f)) is ∙ ap (join_of kind) (sym (take-map tree_of (half (length xs)) xs)) ∙ ap (λ m. join_of kind (take (half m) ts)) (sym same) in
    let q : option_map tree_of right ≡ join_of kind (drop (half (length ts)) ts) = r ∙ ap (λ f. join_of kind (map tree_of f)) is' ∙ ap (join_of kind) (sym (drop-map tree_of (half (length xs)) xs)) ∙ ap (λ m. join_of kind (drop (half m) ts)) (sym same) in
    ap (λ a. both kind a (option_map tree_of right)) p ∙ ap (both kind (join_of kind (take (half (length ts)) ts))) q ∙ sym (join_of_halves kind ts (omega (arith, same, many)))

-- joining the last shapes of a list, by the last half of them and then by the last ones of what is left
pub join_last_halves : (kind : Tree → Tree → Tree) (old mid : List Shape) (count : ℕ) (left right : Shape) → 2 ≤ count → count ≤ length old
    → mid ≡ take (length old - count / 2) old
    → Some (tree_of right) ≡ join_of kind (map tree_of (drop (length old - count / 2) old))
    → Some (tree_of left) ≡ join_of kind (map tree_of (drop (length mid - (count - count / 2)) mid))
    → Some (kind (tree_of left) (tree_of right)) ≡ join_of kind (map tree_of (drop (length old - count) old))
join_last_halves kind old mid count left right many enough is r l =
    let rest : ℕ = length old - count in
    let few : ℕ = count - count / 2 in
    let xs : List Shape = drop rest old in
    let cut : length old - count / 2 ≡ rest + few = omega (arith, enough) in
    let middle : mid ≡ take (rest + few) old = is ∙ ap (λ k. take k old) cut in
    let at : length mid - few ≡ rest = rw middle (simp length-take (omega (arith, enough))) in
    let size : few ≡ half (length xs) = simp length-drop (omega (arith, enough)) in
    let front : drop (length mid - few) mid ≡ take (half (length xs)) xs =
    ap (λ k. drop k mid) at ∙ ap (drop rest) middle ∙ drop-take rest few old ∙ ap (λ k. take k xs) size in
    let back : drop (length old - count / 2) old ≡ drop (half (length xs)) xs =
    ap (λ k. drop k old) cut ∙ sym (drop-drop few rest old) ∙ ap (λ k. drop k xs) size in
    join_halves kind xs (drop (length mid - few) mid) (drop (length old - count / 2) old) (Some left) (Some right) (simp length-drop (omega (arith, enough, many))) front back l r

-- fewer than two shapes are joined as they stand
pub few_joined : (kind : Tree → Tree → Tree) (before : ℕ) (xs : List Shape) → before ≤ length xs → length xs - before < 2
    → map tree_of xs ≡ map tree_of (take before xs) ++ join_list kind (map tree_of (drop before xs))
few_joined kind zero [] within few = refl
few_joined kind zero (x ∷ []) within few = refl
few_joined kind zero (x ∷ y ∷ zs) within few = absurd (omega (arith, few))
few_joined kind (suc before) [] within few = absurd (omega (arith, within))
few_joined kind (suc before) (x ∷ xs) within few = ap (λ trees. tree_of x ∷ trees) (few_joined kind before xs (omega (arith, within)) (omega (arith, few)))

-- the last shapes of a list are taken off, and the shape that joins them is put back
pub many_joined : (kind : Tree → Tree → Tree) (old rest new : List Shape) (before count : ℕ) (shape : Shape) → before ≤ length old → count ≡ length old - before
    → rest ≡ take (length old - count) old → Some (tree_of shape) ≡ join_of kind (map tree_of (drop (length old - count) old)) → new ≡ rest ++ shape ∷ []
    → map tree_of new ≡ map tree_of (take before old) ++ join_list kind (map tree_of (drop before old))
many_joined kind old rest new before count shape within is left joined pushed =
    let at : length old - count ≡ before = omega (arith, within, is) in
    ap (map tree_of) (pushed ∙ ap (λ xs. xs ++ shape ∷ []) (left ∙ ap (λ k. take k old) at)) ∙ map-append tree_of (take before old) (shape ∷ [])
    ∙ ap (λ o. map tree_of (take before old) ++ option_to_list o) (joined ∙ ap (λ k. join_of kind (map tree_of (drop k old))) at)

-- shapes that are put behind others, and joined there
pub joined_behind : (kind : Tree → Tree → Tree) (old now new : List Shape) (made : List Tree) (before : ℕ) → before ≡ length old → map tree_of now ≡ map tree_of old ++ made
    → map tree_of new ≡ map tree_of (take before now) ++ join_list kind (map tree_of (drop before now))
    → map tree_of new ≡ map tree_of old ++ join_list kind made
joined_behind kind old now new made before is grown joined =
    let at : before ≡ length (map tree_of old) = is ∙ sym (length-map old tree_of) in
    let front : map tree_of (take before now) ≡ map tree_of old =
    sym (take-map tree_of before now) ∙ ap (take before) grown ∙ ap (λ k. take k (map tree_of old ++ made)) at ∙ take-append_seam (map tree_of old) made in
    let back : map tree_of (drop before now) ≡ made =
    sym (drop-map tree_of before now) ∙ ap (drop before) grown ∙ ap (λ k. drop k (map tree_of old ++ made)) at ∙ drop-append_seam (map tree_of old) made in
    joined ∙ ap (λ trees. trees ++ join_list kind (map tree_of (drop before now))) front ∙ ap (λ trees. map tree_of old ++ join_list kind trees) back

-- what a block joins is the shape of the block
pub joined_block : (c : ℕ) (kind : BlockKind) (body : Items) → join_list (join_in kind) (shapes_inside c kind body) ≡ shapes_in c (block_then kind body nothing)
joined_block c kind body = sym (append-nil (join_list (join_in kind) (shapes_inside c kind body)))
