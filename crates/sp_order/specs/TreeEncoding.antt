-- Trees in postfix notation, as lists of numbers: an injective encoding, by which proofs compare trees.
use Rattle.std.specs.Prelude.{◌≡◌, ℕ, zero, suc, List, [], ◌∷◌, ◌++◌, refl}
use Rattle.std.proofs.Common.{◌∙◌, ap, sym, append_assoc, append-nil}
use Rattle.std.specs.Coded.{Coded, code_by, coded_list, coded_ℕ}
use Rattle.sp_order.specs.Precedence.{Tree, leaf, seq, par}

-- the left side, the right side, and then 1 for `seq` or 2 for `par`; 0 for a leaf
abbrev pub encode : Tree → List ℕ
encode leaf = 0 ∷ []
encode (seq left right) = encode left ++ (encode right ++ 1 ∷ [])
encode (par left right) = encode left ++ (encode right ++ 2 ∷ [])

-- the stack of trees after these numbers; a block that finds fewer than two trees there is skipped
abbrev pub decode_onto : List ℕ → List Tree → List Tree
decode_onto [] stack = stack
decode_onto (zero ∷ more) stack = decode_onto more (leaf ∷ stack)
decode_onto (suc zero ∷ more) (right ∷ left ∷ stack) = decode_onto more (seq left right ∷ stack)
decode_onto (suc zero ∷ more) stack = decode_onto more stack
decode_onto (suc (suc _) ∷ more) (right ∷ left ∷ stack) = decode_onto more (par left right ∷ stack)
decode_onto (suc (suc _) ∷ more) stack = decode_onto more stack

abbrev pub top : List Tree → Tree
top [] = leaf
top (tree ∷ stack) = tree

-- decoding the numbers of a tree pushes that tree
pub decode_onto-encode : (tree : Tree) (more : List ℕ) (stack : List Tree) → decode_onto (encode tree ++ more) stack ≡ decode_onto more (tree ∷ stack)
decode_onto-encode leaf more stack = refl
decode_onto-encode (seq a b) more stack =
    ap (λ (ns : List ℕ). decode_onto ns stack) (append_assoc (encode a) (encode b ++ 1 ∷ []) more ∙ ap (λ ns. encode a ++ ns) (append_assoc (encode b) (1 ∷ []) more))
    ∙ decode_onto-encode a (encode b ++ 1 ∷ more) stack ∙ decode_onto-encode b (1 ∷ more) (a ∷ stack)
decode_onto-encode (par a b) more stack =
    ap (λ (ns : List ℕ). decode_onto ns stack) (append_assoc (encode a) (encode b ++ 2 ∷ []) more ∙ ap (λ ns. encode a ++ ns) (append_assoc (encode b) (2 ∷ []) more))
    ∙ decode_onto-encode a (encode b ++ 2 ∷ more) stack ∙ decode_onto-encode b (2 ∷ more) (a ∷ stack)

pub decode_encode : (tree : Tree) → top (decode_onto (encode tree) []) ≡ tree
decode_encode tree = ap (λ (ns : List ℕ). top (decode_onto ns [])) (sym (append-nil (encode tree))) ∙ ap top (decode_onto-encode tree [] [])

abbrev pub coded_tree : Coded Tree
coded_tree = code_by (List ℕ) (coded_list coded_ℕ) encode (λ ns. top (decode_onto ns [])) decode_encode
