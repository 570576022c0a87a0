-- The text of a shape depends only on as many leaves as it has leaves.
use Rattle.std.proofs.Common.{◌≡◌, ℕ, ◌+◌, List, [], ◌∷◌, ◌++◌, take, drop, codes, refl, sym, ap, arith, append_assoc}
use Rattle.std.proofs.lemmas.List.{drop-take, take-take}
use Rattle.sp_order.specs.Precedence.{Tree, leaf, seq, par, leaves}
use Rattle.job_writer.specs.Canonical.{WrittenLeaf, tree_text}
use Rattle.job_writer.specs.Code.Sides.{sides_text}

pub front_text : (names : List (List ℕ)) (tree : Tree) (written : List WrittenLeaf) → tree_text names tree (take (leaves tree) written) ≡ tree_text names tree written
front_text names leaf [] = refl
front_text names leaf (act ∷ written) = refl
front_text names (seq left right) written =
    rw (take-take (leaves left) (leaves left + leaves right) written (omega arith), drop-take (leaves left) (leaves right) written, front_text names right (drop (leaves left) written)) refl
front_text names (par left right) written =
    rw (take-take (leaves left) (leaves left + leaves right) written (omega arith), drop-take (leaves left) (leaves right) written, front_text names right (drop (leaves left) written)) refl

-- The text of a block is its word and the texts that its sides append.

pub seq_text : {whole left right left' right' : Tree} {one two : List ℕ} (names : List (List ℕ)) (written : List WrittenLeaf) (before : List ℕ) → whole ≡ seq left right → left' ≡ left → right' ≡ right → one ≡ before ++ codes "seq " → two ≡ one ++ sides_text names left' right' written → two ≡ before ++ tree_text names whole written
seq_text {left = left} {right = right} names written before shape same_left same_right first second =
    let pieces = append_assoc before (codes "seq ") (sides_text names left right written) in
    let front : codes "seq " ++ sides_text names left right written ≡ tree_text names (seq left right) written =
    ap (λ t. codes "seq { " ++ t ++ codes " " ++ tree_text names right (drop (leaves left) written) ++ codes " }") (sym (front_text names left written)) in
    cc

pub par_text : {whole left right left' right' : Tree} {one two : List ℕ} (names : List (List ℕ)) (written : List WrittenLeaf) (before : List ℕ) → whole ≡ par left right → left' ≡ left → right' ≡ right → one ≡ before ++ codes "par " → two ≡ one ++ sides_text names left' right' written → two ≡ before ++ tree_text names whole written
par_text {left = left} {right = right} names written before shape same_left same_right first second =
    let pieces = append_assoc before (codes "par ") (sides_text names left right written) in
    let front : codes "par " ++ sides_text names left right written ≡ tree_text names (par left right) written =
    ap (λ t. codes "par { " ++ t ++ codes " " ++ tree_text names right (drop (leaves left) written) ++ codes " }") (sym (front_text names left written)) in
    cc
