-- Two lists, element by element, and a list that is a part of another.
use Rattle.std.proofs.Common.{ℕ, zero, suc, ◌≡◌, ◌+◌, ◌*◌, List, [], ◌∷◌, ◌++◌, length, Some, arith, refl, ap, subst}
use Rattle.std.specs.Prelude.{slice_get}
use Rattle.job_syntax.specs.Grammar.{BlockKind, seq_block, par_block, for_loop, pfor_loop}
use Rattle.job_syntax.specs.Blocks.{word_number}
use Rattle.job_lang.specs.Meaning.{each_copy, in_block, in_block_from}
use Rattle.job_lang.proofs.ExpandLemmas.Blocks.{each_length}

abbrev pub EachWith : {X Y : Type 0} → (X → Y → Type 0) → List X → List Y → Type 0
EachWith P [] [] = Unit {0}
EachWith P [] (y ∷ ys) = ⊥
EachWith P (x ∷ xs) [] = ⊥
EachWith P (x ∷ xs) (y ∷ ys) = P x y × EachWith P xs ys

pub each_both : {X Y : Type 0} (P : X → Y → Type 0) (xs xs' : List X) (ys ys' : List Y) → EachWith P xs ys → EachWith P xs' ys' → EachWith P (xs ++ xs') (ys ++ ys')
each_both P [] xs' [] ys' h h' = h'
each_both P [] xs' (y ∷ ys) ys' h h' = elim h [ ]
each_both P (x ∷ xs) xs' [] ys' h h' = elim h [ ]
each_both P (x ∷ xs) xs' (y ∷ ys) ys' h h' = (h.0, each_both P xs xs' ys ys' h.1 h')

pub each_from : {X Y : Type 0} (P Q : X → Y → Type 0) → ((x : X) (y : Y) → P x y → Q x y) → (xs : List X) (ys : List Y) → EachWith P xs ys → EachWith Q xs ys
each_from P Q f [] [] h = tt
each_from P Q f [] (y ∷ ys) h = elim h [ ]
each_from P Q f (x ∷ xs) [] h = elim h [ ]
each_from P Q f (x ∷ xs) (y ∷ ys) h = (f x y h.0, each_from P Q f xs ys h.1)

pub each_long : {X Y : Type 0} (P : X → Y → Type 0) (xs : List X) (ys : List Y) → EachWith P xs ys → length xs ≡ length ys
each_long P [] [] h = refl
each_long P [] (y ∷ ys) h = elim h [ ]
each_long P (x ∷ xs) [] h = elim h [ ]
each_long P (x ∷ xs) (y ∷ ys) h = ap suc (each_long P xs ys h.1)

pub each_get : {X Y : Type 0} (P : X → Y → Type 0) (xs : List X) (ys : List Y) (i : ℕ) (x : X) (y : Y) → EachWith P xs ys → slice_get ys i ≡ Some y → slice_get xs i ≡ Some x → P x y
each_get P [] [] i x y h e f = cc
each_get P [] (z ∷ ys) i x y h e f = elim h [ ]
each_get P (z ∷ xs) [] i x y h e f = elim h [ ]
each_get P (w ∷ xs) (z ∷ ys) zero x y h e f = let same : z ≡ y = cc in let same' : w ≡ x = cc in subst (λ x. P x y) same' (subst (λ y. P w y) same h.0)
each_get P (w ∷ xs) (z ∷ ys) (suc i) x y h e f = each_get P xs ys i x y h.1 e f

-- the elements of the part stand in the whole one after another, the first behind `first` others
abbrev pub Part : {X : Type 0} → ℕ → List X → List X → Type 0
Part {X} first part all = (i : ℕ) (x : X) → slice_get part i ≡ Some x → slice_get all (first + i) ≡ Some x

get_left : {X : Type 0} (xs ys : List X) (i : ℕ) (x : X) → slice_get xs i ≡ Some x → slice_get (xs ++ ys) i ≡ Some x
get_left [] ys i x e = cc
get_left (z ∷ xs) ys zero x e = e
get_left (z ∷ xs) ys (suc i) x e = get_left xs ys i x e

get_right : {X : Type 0} (xs ys : List X) (i j : ℕ) (x : X) → j ≡ length xs + i → slice_get ys i ≡ Some x → slice_get (xs ++ ys) j ≡ Some x
get_right [] ys i j x far e = let same : i ≡ j = omega (arith, far) in subst (λ n. slice_get ys n ≡ Some x) same e
get_right (z ∷ xs) ys i zero x far e = absurd (omega (arith, far))
get_right (z ∷ xs) ys i (suc j) x far e = get_right xs ys i j x (omega (arith, far)) e

pub part_left : {X : Type 0} (first : ℕ) (xs ys all : List X) → Part first (xs ++ ys) all → Part first xs all
part_left first xs ys all h i x e = h i x (get_left xs ys i x e)

pub part_right : {X : Type 0} (first at : ℕ) (xs ys all : List X) → at ≡ first + length xs → Part first (xs ++ ys) all → Part at ys all
part_right first at xs ys all far h i x e =
    let same : first + (length xs + i) ≡ at + i = omega (arith, far) in
    subst (λ n. slice_get all n ≡ Some x) same (h (length xs + i) x (get_right xs ys i (length xs + i) x refl e))

pub part_head : {X : Type 0} (first : ℕ) (x : X) (xs all : List X) → Part first (x ∷ xs) all → slice_get all first ≡ Some x
part_head first x xs all h =
    let same : first + 0 ≡ first = omega arith in
    subst (λ n. slice_get all n ≡ Some x) same (h 0 x refl)

pub part_tail : {X : Type 0} (first : ℕ) (x : X) (xs all : List X) → Part first (x ∷ xs) all → Part (first + 1) xs all
part_tail first x xs all h i y e =
    let same : first + suc i ≡ first + 1 + i = omega arith in
    subst (λ n. slice_get all n ≡ Some y) same (h (suc i) y e)

-- copy by copy
each_copies : {X Y : Type 0} (P : X → Y → Type 0) (n m first : ℕ) (f : ℕ → List X) (g : ℕ → List Y) (all : List Y) → ((k : ℕ) → length (g k) ≡ m)
    → ((k : ℕ) → Part (first + k * m) (g k) all → EachWith P (f k) (g k)) → Part first (each_copy n g) all → EachWith P (each_copy n f) (each_copy n g)
each_copies P zero m first f g all long one h = tt
each_copies P (suc n) m first f g all long one h =
    each_both P (each_copy n f) (f n) (each_copy n g) (g n)
    (each_copies P n m first f g all long one (part_left first (each_copy n g) (g n) all h))
    (one n (part_right first (first + n * m) (each_copy n g) (g n) all (omega (arith, each_length n m g long)) h))

pub each_in_block : {X Y : Type 0} (P : X → Y → Type 0) (kind : BlockKind) (m first : ℕ) (f : ℕ → List X) (g : ℕ → List Y) (all : List Y) → ((k : ℕ) → length (g k) ≡ m)
    → ((from k : ℕ) → Part from (g k) all → EachWith P (f from) (g k)) → Part first (in_block kind 0 g) all → EachWith P (in_block_from kind first m f) (in_block kind 0 g)
each_in_block P seq_block m first f g all long one h = one first 0 h
each_in_block P par_block m first f g all long one h = one first 0 h
each_in_block P (for_loop n) m first f g all long one h = each_copies P (word_number n) m first (λ k. f (first + k * m)) g all long (λ k. one (first + k * m) k) h
each_in_block P (pfor_loop n) m first f g all long one h = each_copies P (word_number n) m first (λ k. f (first + k * m)) g all long (λ k. one (first + k * m) k) h
