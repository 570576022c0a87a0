-- Appending four lists, one after another.
use Rattle.std.proofs.Common.{◌≡◌, List, ◌++◌, map, ap, ◌∙◌, append_assoc}
use Rattle.std.proofs.lemmas.List.{map-append}

pub in_a_row : {X : Type 0} (p q r s old first second third new : List X) → first ≡ old ++ p → second ≡ first ++ q → third ≡ second ++ r → new ≡ third ++ s
    → new ≡ old ++ (p ++ (q ++ (r ++ s)))
in_a_row p q r s old first second third new e f g h =
    h ∙ ap (λ xs. xs ++ s) (g ∙ ap (λ xs. xs ++ r) (f ∙ ap (λ xs. xs ++ q) e)) ∙ simp append_assoc

pub map_in_a_row : {X Y : Type 0} (f : X → Y) (p q r s : List X) → map f p ++ (map f q ++ (map f r ++ map f s)) ≡ map f (p ++ (q ++ (r ++ s)))
map_in_a_row f p q r s = simp map-append
