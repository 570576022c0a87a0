-- Scopes of open blocks and lets.
use Rattle.std.proofs.Common.{ℕ, ◌≡◌, ◌+◌, ◌-◌, ◌<◌, ◌≤◌, Bool, true, false, if◌then◌else◌, List, [], ◌∷◌, ◌++◌, length, take, drop, arith, refl, sym, ap, subst, ◌∙◌, append-nil, length-take, take-append-drop, reverse, get_or, Option, Some, None}
use Rattle.std.proofs.lemmas.List.{length-reverse, reverse-append, take-append-le, drop-append-le, take-take, drop_more, get_or-reverse}
use Rattle.job_names.specs.declared.scopes.Let.{Let}
use Rattle.job_names.specs.declared.kind.Kind.{Kind}
use Rattle.job_names.specs.declared.scopes.Start.{Start}
use Rattle.job_names.specs.declared.name.Name.{Name}
use Rattle.job_names.specs.Names.{same_name}
use Rattle.job_names.specs.Scopes.{Scope, job, inside, is_loop, is_par, or_else, last_of, lets_shown, with_lets, closed}
use Rattle.job_names.proofs.SameNames.{same_from, same_to}
use Rattle.job_names.specs.Code.Places.{places_from}
use Rattle.job_names.specs.Code.Kept.{AreStarts, scope_of}
use Rattle.job_names.proofs.PlaceLemmas.{places_append}

pub starts_grow : (blocks : List Start) (m n : ℕ) → AreStarts blocks m → m ≤ n → AreStarts blocks n
starts_grow [] m n h le = h
starts_grow (block ∷ blocks) m n h le = (omega (arith, h.0), h.1)

pub with_lets_scope : (blocks : List Start) (xs ys : List Let) → AreStarts blocks (length xs) → with_lets (scope_of blocks xs) ys ≡ scope_of blocks (xs ++ ys)
with_lets_scope [] xs ys h = refl
with_lets_scope (block ∷ blocks) xs ys h =
    ap (λ l. inside (scope_of blocks l) block.kind (drop block.first xs ++ ys)) (sym (take-append-le block.first xs ys h.0))
    ∙ ap (λ l. inside (scope_of blocks (take block.first (xs ++ ys))) block.kind l) (sym (drop-append-le block.first xs ys h.0))

pub with_nothing : (s : Scope) → with_lets s [] ≡ s
with_nothing (job lets) = ap job (append-nil lets)
with_nothing (inside outer kind lets) = ap (inside outer kind) (append-nil lets)

starts_taken : (block : Start) (blocks : List Start) (xs : List Let) → AreStarts (block ∷ blocks) (length xs) → AreStarts blocks (length (take block.first xs))
starts_taken block blocks xs h =
    let e = length-take block.first xs in let f : block.first ≡ length (take block.first xs) = omega (arith, e, h.0) in subst (AreStarts blocks) f h.1

pub closed_loop : (block : Start) (blocks : List Start) (xs : List Let) → is_loop block.kind ≡ true → closed (scope_of (block ∷ blocks) xs) ≡ scope_of blocks (take block.first xs)
closed_loop block blocks xs e =
    ap (λ b. with_lets (scope_of blocks (take block.first xs)) (if b then [] else drop block.first xs)) e ∙ with_nothing (scope_of blocks (take block.first xs))

pub closed_other : (block : Start) (blocks : List Start) (xs : List Let) → AreStarts (block ∷ blocks) (length xs) → is_loop block.kind ≡ false → closed (scope_of (block ∷ blocks) xs) ≡ scope_of blocks xs
closed_other block blocks xs h e =
    ap (λ b. with_lets (scope_of blocks (take block.first xs)) (if b then [] else drop block.first xs)) e
    ∙ with_lets_scope blocks (take block.first xs) (drop block.first xs) (starts_taken block blocks xs h)
    ∙ ap (scope_of blocks) (take-append-drop block.first xs)

pub taken_starts : (block : Start) (blocks : List Start) (xs : List Let) → AreStarts (block ∷ blocks) (length xs) → AreStarts blocks (length (take block.first xs))
taken_starts block blocks xs h = starts_taken block blocks xs h

-- the places once a let is added, and once the last is dropped
last_places : (x : Name) (xs : List Let) (bound : Let) → places_from x 0 (xs ++ bound ∷ []) ≡ places_from x 0 xs ++ ((if same_name bound.name x then length xs ∷ [] else []) ++ [])
last_places x xs bound = places_append x 0 (length xs) xs (bound ∷ []) (omega arith)

pub added : (x : Name) (xs : List Let) (bound : Let) → same_name bound.name x ≡ true → places_from x 0 (xs ++ bound ∷ []) ≡ places_from x 0 xs ++ length xs ∷ []
added x xs bound e =
    last_places x xs bound ∙ ap (λ b. places_from x 0 xs ++ ((if b then length xs ∷ [] else []) ++ [])) e

pub added_own : (xs : List Let) (bound : Let) → places_from bound.name 0 (xs ++ bound ∷ []) ≡ places_from bound.name 0 xs ++ length xs ∷ []
added_own xs bound = added bound.name xs bound (same_to bound.name bound.name refl)

not_added : (x : Name) (xs : List Let) (bound : Let) → same_name bound.name x ≡ false → places_from x 0 (xs ++ bound ∷ []) ≡ places_from x 0 xs
not_added x xs bound e =
    last_places x xs bound ∙ ap (λ b. places_from x 0 xs ++ ((if b then length xs ∷ [] else []) ++ [])) e ∙ append-nil (places_from x 0 xs)

bound_by : (b : Bool) (new old : Name → List ℕ) (bound : Let) (xs : List Let) (x : Name) → same_name bound.name x ≡ b
    → ((y : Name) → old y ≡ places_from y 0 xs) → ((y : Name) → same_name bound.name y ≡ false → new y ≡ old y) → new bound.name ≡ old bound.name ++ length xs ∷ []
    → new x ≡ places_from x 0 (xs ++ bound ∷ [])
bound_by true new old bound xs x e was others own =
    let at = same_from bound.name x e in
    ap new (sym at) ∙ own ∙ ap (λ l. l ++ length xs ∷ []) (ap old at ∙ was x) ∙ sym (added x xs bound e)
bound_by false new old bound xs x e was others own =
    others x e ∙ was x ∙ sym (not_added x xs bound e)

pub bound_places : (new old : Name → List ℕ) (bound : Let) (xs : List Let)
    → ((y : Name) → old y ≡ places_from y 0 xs) → ((y : Name) → same_name bound.name y ≡ false → new y ≡ old y) → new bound.name ≡ old bound.name ++ length xs ∷ []
    → (x : Name) → new x ≡ places_from x 0 (xs ++ bound ∷ [])
bound_places new old bound xs was others own x = bound_by (same_name bound.name x) new old bound xs x refl was others own

dropped_by : (b : Bool) (new old : Name → List ℕ) (bound : Let) (xs : List Let) (x : Name) → same_name bound.name x ≡ b
    → ((y : Name) → old y ≡ places_from y 0 (xs ++ bound ∷ [])) → ((y : Name) → same_name bound.name y ≡ false → new y ≡ old y)
    → ((place : ℕ) (front : List ℕ) → old bound.name ≡ front ++ place ∷ [] → new bound.name ≡ front)
    → new x ≡ places_from x 0 xs
dropped_by true new old bound xs x e was others own =
    let at = same_from bound.name x e in
    ap new (sym at) ∙ own (length xs) (places_from bound.name 0 xs) (was bound.name ∙ added_own xs bound) ∙ ap (λ y. places_from y 0 xs) at
dropped_by false new old bound xs x e was others own =
    others x e ∙ was x ∙ not_added x xs bound e

pub dropped_places : (new old : Name → List ℕ) (bound : Let) (xs : List Let)
    → ((y : Name) → old y ≡ places_from y 0 (xs ++ bound ∷ [])) → ((y : Name) → same_name bound.name y ≡ false → new y ≡ old y)
    → ((place : ℕ) (front : List ℕ) → old bound.name ≡ front ++ place ∷ [] → new bound.name ≡ front)
    → (x : Name) → new x ≡ places_from x 0 xs
dropped_places new old bound xs was others own x = dropped_by (same_name bound.name x) new old bound xs x refl was others own

-- what looking for a name does at a block
pub rev_push : (xs : List Start) (x : Start) → reverse (xs ++ x ∷ []) ≡ x ∷ reverse xs
rev_push xs x = reverse-append xs (x ∷ [])

pub next_block : (blocks : List Start) (i : ℕ) (block : Start) → i < length blocks → block ≡ get_or blocks (length blocks - 1 - i) block → drop i (reverse blocks) ≡ block ∷ drop (i + 1) (reverse blocks)
next_block blocks i block lt e =
    let long = length-reverse blocks in
    drop_more (reverse blocks) i block (omega (arith, lt, long)) ∙ ap (λ b. b ∷ drop (i + 1) (reverse blocks)) (get_or-reverse blocks i block lt ∙ sym e)

-- the last of a name in two lists, one behind the other
or_none : (a : Option ℕ) → a ≡ or_else a None
or_none (Some n) = refl
or_none None = refl

or_assoc : (a b c : Option ℕ) → or_else (or_else a b) c ≡ or_else a (or_else b c)
or_assoc (Some n) b c = refl
or_assoc None b c = refl

pub last_append : (name : Name) (xs ys : List Let) → last_of name (xs ++ ys) ≡ or_else (last_of name ys) (last_of name xs)
last_append name [] ys = or_none (last_of name ys)
last_append name (x ∷ xs) ys =
    ap (λ r. or_else r (if same_name x.name name then Some x.number else None)) (last_append name xs ys)
    ∙ or_assoc (last_of name ys) (last_of name xs) (if same_name x.name name then Some x.number else None)

last_shown_in : (name : Name) (b : Bool) (lets outer : List Let) → last_of name (outer ++ (if b then [] else lets)) ≡ or_else (if b then None else last_of name lets) (last_of name outer)
last_shown_in name true lets outer = last_append name outer []
last_shown_in name false lets outer = last_append name outer lets

-- what is seen inside a block: the last in it, unless it is a par, and else what is seen around it
pub last_shown : (name : Name) (outer : Scope) (kind : Kind) (lets : List Let)
    → last_of name (lets_shown (inside outer kind lets)) ≡ or_else (if is_par kind then None else last_of name lets) (last_of name (lets_shown outer))
last_shown name outer kind lets = last_shown_in name (is_par kind) lets (lets_shown outer)

pub found_here : (name : Name) (n end : ℕ) (block : Start) (rest : List Start) (lets : List Let) (all : Option ℕ)
    → Some n ≡ (if is_par block.kind then None else last_of name (drop block.first (take end lets)))
    → last_of name (lets_shown (scope_of (block ∷ rest) (take end lets))) ≡ all → Some n ≡ all
found_here name n end block rest lets all h same =
    ap (λ r. or_else r (last_of name (lets_shown (scope_of rest (take block.first (take end lets)))))) h
    ∙ sym (last_shown name (scope_of rest (take block.first (take end lets))) block.kind (drop block.first (take end lets))) ∙ same

pub found_outside : (name : Name) (end : ℕ) (block : Start) (rest : List Start) (lets : List Let) (all : Option ℕ)
    → None ≡ (if is_par block.kind then None else last_of name (drop block.first (take end lets)))
    → block.first ≤ end
    → last_of name (lets_shown (scope_of (block ∷ rest) (take end lets))) ≡ all → last_of name (lets_shown (scope_of rest (take block.first lets))) ≡ all
found_outside name end block rest lets all h le same =
    ap (λ l. last_of name (lets_shown (scope_of rest l))) (sym (take-take block.first end lets le))
    ∙ ap (λ r. or_else r (last_of name (lets_shown (scope_of rest (take block.first (take end lets)))))) h
    ∙ sym (last_shown name (scope_of rest (take block.first (take end lets))) block.kind (drop block.first (take end lets))) ∙ same

pub fewer : (lets all : List Let) (n m : ℕ) → lets ≡ take n all → n ≤ length all → m ≡ n - 1 → take (length lets - 1) lets ≡ take m all
fewer lets all n m e le h =
    let long : length lets ≡ n = ap length e ∙ length-take n all ∙ omega (arith, le) in
    let k : length lets - 1 ≡ m = omega (arith, long, h) in
    ap (λ i. take i lets) k ∙ ap (take m) e ∙ take-take m n all (omega (arith, h))
