-- The lets that are seen behind a front of a text. The number of each is its place: how many words stand before its
-- item.
use Rattle.std.proofs.Common.{ℕ, ◌≡◌, ◌+◌, ◌⊎◌, inl, inr, Bool, true, false, List, [], ◌∷◌, ◌++◌, length, length-append, map, arith, refl, sym, ap, ◌∙◌, subst}
use Rattle.std.specs.Prelude.{if◌then◌else◌}
use Rattle.std.proofs.lemmas.List.{map-append}
use Rattle.job_names.specs.declared.name.Name.{Name}
use Rattle.job_names.specs.declared.scopes.Let.{Let}
use Rattle.job_syntax.specs.declared.lexer.word.Word.{Word}
use Rattle.job_syntax.specs.declared.lexer.word.Word.TheVariants.{Open, Close}
use Rattle.job_syntax.specs.Grammar.{Leaf, work, call, bound, BlockKind, Items, nothing, leaf_then, block_then, leaf_words, kind_words, items_words, is_loop, is_par}
use Rattle.job_syntax.specs.Code.Shown.{OpenBlock}
use Rattle.job_syntax.specs.Code.Reached.{opening_words}
use Rattle.job_syntax.proofs.ParserLemmas.NamesSeen.{Has, names_of, names_behind, names_seen}

-- a let of the name with this place stands among the lets
abbrev pub HasLet : List Let → Name → ℕ → Type 0
HasLet [] name place = ⊥
HasLet (x ∷ xs) name place = ((x.name ≡ name) × (x.number ≡ place)) ⊎ HasLet xs name place

-- the let of a leaf, behind this many words
abbrev pub lets_of : ℕ → Leaf → List Let
lets_of at (work argument) = []
lets_of at (call verb object argument) = []
lets_of at (bound name leaf) = record { name = name; number = at } ∷ []

-- the lets that items give to what comes behind them, the latest first
abbrev pub lets_behind : ℕ → Items → List Let
lets_behind at nothing = []
lets_behind at (leaf_then leaf more) = lets_behind (at + length (leaf_words leaf)) more ++ lets_of at leaf
lets_behind at (block_then kind body more) =
    lets_behind (at + length (items_words (block_then kind body nothing))) more
    ++ (if is_loop kind then [] else lets_behind (at + length (kind_words kind ++ Open ∷ [])) body)

abbrev pub lets_seen : List OpenBlock → Items → List Let
lets_seen [] items = lets_behind 0 items
lets_seen (block ∷ blocks) items =
    (if is_par block.kind then [] else lets_behind (length (opening_words (block ∷ blocks))) items) ++ lets_seen blocks block.before

pub lets_append : (xs ys : List Let) (name : Name) (place : ℕ) → HasLet (xs ++ ys) name place → HasLet xs name place ⊎ HasLet ys name place
lets_append [] ys name place h = inr h
lets_append (x ∷ xs) ys name place (inl e) = inl (inl e)
lets_append (x ∷ xs) ys name place (inr h) = elim (lets_append xs ys name place h) [ inl l ↦ inl (inr l) | inr r ↦ inr r ]

pub lets_left : (xs ys : List Let) (name : Name) (place : ℕ) → HasLet xs name place → HasLet (xs ++ ys) name place
lets_left [] ys name place h = absurd h
lets_left (x ∷ xs) ys name place (inl e) = inl e
lets_left (x ∷ xs) ys name place (inr h) = inr (lets_left xs ys name place h)

pub lets_right : (xs ys : List Let) (name : Name) (place : ℕ) → HasLet ys name place → HasLet (xs ++ ys) name place
lets_right [] ys name place h = h
lets_right (x ∷ xs) ys name place h = inr (lets_right xs ys name place h)

-- how many words a block has, with more behind it
pub block_length : (kind : BlockKind) (body : Items) (rest : List Word)
    → length (kind_words kind ++ Open ∷ (items_words body ++ Close ∷ rest)) ≡ length (items_words (block_then kind body nothing)) + length rest
block_length kind body rest = simp length-append (omega arith)

-- the names alone

kept_names : (b : Bool) (names : List Name) (lets : List Let) → names ≡ map (λ (l : Let). l.name) lets → (if b then [] else names) ≡ map (λ (l : Let). l.name) (if b then [] else lets)
kept_names true names lets e = refl
kept_names false names lets e = e

both_names : (ns ms : List Name) (xs ys : List Let) → ns ≡ map (λ (l : Let). l.name) xs → ms ≡ map (λ (l : Let). l.name) ys → ns ++ ms ≡ map (λ (l : Let). l.name) (xs ++ ys)
both_names ns ms xs ys e f = ap (λ n. n ++ ms) e ∙ ap (λ m. map (λ (l : Let). l.name) xs ++ m) f ∙ sym (map-append (λ (l : Let). l.name) xs ys)

leaf_names : (at : ℕ) (leaf : Leaf) → names_of leaf ≡ map (λ (l : Let). l.name) (lets_of at leaf)
leaf_names at (work argument) = refl
leaf_names at _ = refl

behind_names : (at : ℕ) (items : Items) → names_behind items ≡ map (λ (l : Let). l.name) (lets_behind at items)
behind_names at nothing = refl
behind_names at (leaf_then leaf more) =
    let next = at + length (leaf_words leaf) in
    both_names (names_behind more) (names_of leaf) (lets_behind next more) (lets_of at leaf) (behind_names next more) (leaf_names at leaf)
behind_names at (block_then kind body more) =
    let next = at + length (items_words (block_then kind body nothing)) in
    let inside = at + length (kind_words kind ++ Open ∷ []) in
    both_names (names_behind more) (if is_loop kind then [] else names_behind body) (lets_behind next more) (if is_loop kind then [] else lets_behind inside body)
    (behind_names next more) (kept_names (is_loop kind) (names_behind body) (lets_behind inside body) (behind_names inside body))

seen_names : (blocks : List OpenBlock) (items : Items) → names_seen blocks items ≡ map (λ (l : Let). l.name) (lets_seen blocks items)
seen_names [] items = behind_names 0 items
seen_names (block ∷ blocks) items =
    let at = length (opening_words (block ∷ blocks)) in
    both_names (if is_par block.kind then [] else names_behind items) (names_seen blocks block.before) (if is_par block.kind then [] else lets_behind at items) (lets_seen blocks block.before)
    (kept_names (is_par block.kind) (names_behind items) (lets_behind at items) (behind_names at items)) (seen_names blocks block.before)

has_place : (lets : List Let) (name : Name) → Has (map (λ (l : Let). l.name) lets) name → (place : ℕ) × HasLet lets name place
has_place [] name h = absurd h
has_place (x ∷ lets) name (inl e) = (x.number, inl (e, refl))
has_place (x ∷ lets) name (inr h) = let r = has_place lets name h in (r.0, inr r.1)

has_name : (lets : List Let) (name : Name) (place : ℕ) → HasLet lets name place → Has (map (λ (l : Let). l.name) lets) name
has_name [] name place h = absurd h
has_name (x ∷ lets) name place (inl e) = inl e.0
has_name (x ∷ lets) name place (inr h) = inr (has_name lets name place h)

-- each name that is seen is that of a let with a place, and the other way round
pub place_seen : (blocks : List OpenBlock) (items : Items) (name : Name) → Has (names_seen blocks items) name → (place : ℕ) × HasLet (lets_seen blocks items) name place
place_seen blocks items name h = has_place (lets_seen blocks items) name (subst (λ names. Has names name) (seen_names blocks items) h)

pub name_seen : (blocks : List OpenBlock) (items : Items) (name : Name) (place : ℕ) → HasLet (lets_seen blocks items) name place → Has (names_seen blocks items) name
name_seen blocks items name place h = subst (λ names. Has names name) (sym (seen_names blocks items)) (has_name (lets_seen blocks items) name place h)
