-- The open blocks show a let of a name exactly where a use of the name behind them sees one.
use Rattle.std.proofs.Common.{◌≡◌, ℕ, ◌⊎◌, inl, inr, Bool, true, false, true≢false, Option, Some, None, List, [], ◌∷◌, ◌++◌, length, refl, sym, ap, ◌∙◌, subst, is_some}
use Rattle.std.specs.Prelude.{if◌then◌else◌, IsTrue}
use Rattle.job_names.specs.declared.name.Name.{Name}
use Rattle.job_names.specs.declared.scopes.Let.{Let}
use Rattle.job_names.specs.Names.{same_name}
use Rattle.job_names.specs.Scopes.{last_of, lets_shown, or_else}
use Rattle.job_names.specs.Scopes as names
use Rattle.job_names.proofs.SameNames.{same_from, same_to}
use Rattle.job_names.proofs.ScopeLemmas.{last_append}
use Rattle.job_syntax.specs.declared.lexer.word.Word.{Word}
use Rattle.job_syntax.specs.declared.lexer.word.Word.TheVariants.{Named}
use Rattle.job_syntax.specs.declared.parser.call.Operator.{Operator}
use Rattle.job_syntax.specs.declared.parser.call.Operator.TheVariants as operator
use Rattle.job_syntax.specs.Blocks.{name_kind}
use Rattle.job_syntax.specs.Grammar.{items_words, Leaf, work, call, bound, BlockKind, seq_block, Items, nothing, leaf_then, block_then, is_loop, is_par}
use Rattle.job_syntax.specs.Visibility.{Sees, is_let, ends_in_let}
use Rattle.job_syntax.specs.Code.Machine.{OpenBlock, operator_words, State, at, are_looped, Place, a_let_name, an_argument, is_known, step_at}
use Rattle.job_syntax.specs.Code.Reached.{IsReached, opening_words, given_words, place_words}
use Rattle.job_syntax.specs.Code.Shown.{lets_of, lets_behind, scope_at, is_shown}
use Rattle.job_syntax.proofs.ParserLemmas.NamesSeen.{Has, has_append, has_left, has_right, names_of, names_behind, names_seen, flat_items, flat_blocks}
use Rattle.job_syntax.proofs.ParserLemmas.LetsSeen.{place_seen, name_seen}
use Rattle.job_syntax.proofs.ParserLemmas.Seen.{begun_closes, visible_is_seen}
use Rattle.job_syntax.proofs.ParserLemmas.Visible.{seen_is_visible}

abbrev IsIn : Name → List Let → Type 0
IsIn name lets = IsTrue (is_some (last_of name lets))

or_split : (a b : Option ℕ) → IsTrue (is_some (or_else a b)) → IsTrue (is_some a) ⊎ IsTrue (is_some b)
or_split (Some n) b h = inl refl
or_split None b h = inr h

or_left : (a b : Option ℕ) → IsTrue (is_some a) → IsTrue (is_some (or_else a b))
or_left (Some n) b h = refl
or_left None b h = cc

or_right : (a b : Option ℕ) → IsTrue (is_some b) → IsTrue (is_some (or_else a b))
or_right (Some n) b h = refl
or_right None b h = h

-- among two lists, one behind the other
in_split : (name : Name) (xs ys : List Let) → IsIn name (xs ++ ys) → IsIn name xs ⊎ IsIn name ys
in_split name xs ys h =
    elim (or_split (last_of name ys) (last_of name xs) (subst (λ r. IsTrue (is_some r)) (last_append name xs ys) h)) [ inl y ↦ inr y | inr x ↦ inl x ]

pub in_first : (name : Name) (xs ys : List Let) → IsIn name xs → IsIn name (xs ++ ys)
in_first name xs ys h = subst (λ r. IsTrue (is_some r)) (sym (last_append name xs ys)) (or_right (last_of name ys) (last_of name xs) h)

pub in_second : (name : Name) (xs ys : List Let) → IsIn name ys → IsIn name (xs ++ ys)
in_second name xs ys h = subst (λ r. IsTrue (is_some r)) (sym (last_append name xs ys)) (or_left (last_of name ys) (last_of name xs) h)

own_to : (b : Bool) (x name : Name) → same_name x name ≡ b → IsTrue (is_some (or_else None (if b then Some 0 else None))) → x ≡ name
own_to true x name e h = same_from x name e
own_to false x name e h = cc

pub own_from : (x name : Name) → x ≡ name → IsTrue (is_some (or_else None (if same_name x name then Some 0 else None)))
own_from x name e = subst (λ b. IsTrue (is_some (or_else None (if b then Some 0 else None)))) (sym (same_to x name e)) refl

leaf_to : (leaf : Leaf) (name : Name) → IsIn name (lets_of leaf) → Has (names_of leaf) name
leaf_to (work argument) name h = cc
leaf_to (call verb object argument) name h = cc
leaf_to (bound x leaf) name h = inl (own_to (same_name x name) x name refl h)

leaf_from : (leaf : Leaf) (name : Name) → Has (names_of leaf) name → IsIn name (lets_of leaf)
leaf_from (work argument) name h = elim h [ ]
leaf_from (call verb object argument) name h = elim h [ ]
leaf_from (bound x leaf) name (inl e) = own_from x name e
leaf_from (bound x leaf) name (inr h) = elim h [ ]

kept_to : (b : Bool) (name : Name) (lets : List Let) (given : List Name) → (IsIn name lets → Has given name) → IsIn name (if b then [] else lets) → Has (if b then [] else given) name
kept_to true name lets given h s = cc
kept_to false name lets given h s = h s

kept_from : (b : Bool) (name : Name) (lets : List Let) (given : List Name) → (Has given name → IsIn name lets) → Has (if b then [] else given) name → IsIn name (if b then [] else lets)
kept_from true name lets given h s = elim s [ ]
kept_from false name lets given h s = h s

behind_to : (items : Items) (name : Name) → IsIn name (lets_behind items) → Has (names_behind items) name
behind_to nothing name h = cc
behind_to (leaf_then leaf more) name h =
    elim (in_split name (lets_of leaf) (lets_behind more) h) [
      | inl here ↦ has_right (names_behind more) (names_of leaf) name (leaf_to leaf name here)
      | inr later ↦ has_left (names_behind more) (names_of leaf) name (behind_to more name later)
    ]
behind_to (block_then kind body more) name h =
    elim (in_split name (if is_loop kind then [] else lets_behind body) (lets_behind more) h) [
      | inl here ↦ has_right (names_behind more) (if is_loop kind then [] else names_behind body) name (kept_to (is_loop kind) name (lets_behind body) (names_behind body) (behind_to body name) here)
      | inr later ↦ has_left (names_behind more) (if is_loop kind then [] else names_behind body) name (behind_to more name later)
    ]

behind_from : (items : Items) (name : Name) → Has (names_behind items) name → IsIn name (lets_behind items)
behind_from nothing name h = elim h [ ]
behind_from (leaf_then leaf more) name h =
    elim (has_append (names_behind more) (names_of leaf) name h) [
      | inl later ↦ in_second name (lets_of leaf) (lets_behind more) (behind_from more name later)
      | inr here ↦ in_first name (lets_of leaf) (lets_behind more) (leaf_from leaf name here)
    ]
behind_from (block_then kind body more) name h =
    elim (has_append (names_behind more) (if is_loop kind then [] else names_behind body) name h) [
      | inl later ↦ in_second name (if is_loop kind then [] else lets_behind body) (lets_behind more) (behind_from more name later)
      | inr here ↦ in_first name (if is_loop kind then [] else lets_behind body) (lets_behind more) (kept_from (is_loop kind) name (lets_behind body) (names_behind body) (behind_from body name) here)
    ]

par_same : (kind : BlockKind) → names.is_par (name_kind kind) ≡ is_par kind
par_same seq_block = refl
par_same _ = refl

pub shown_to : (blocks : List OpenBlock) (items : Items) (name : Name) → IsIn name (lets_shown (scope_at blocks items)) → Has (names_seen blocks items) name
shown_to [] items name h = behind_to items name h
shown_to (block ∷ blocks) items name h =
    elim (in_split name (lets_shown (scope_at blocks block.before)) (if names.is_par (name_kind block.kind) then [] else lets_behind items) h) [
      | inl outer ↦ has_right (if is_par block.kind then [] else names_behind items) (names_seen blocks block.before) name (shown_to blocks block.before name outer)
      | inr here ↦ has_left (if is_par block.kind then [] else names_behind items) (names_seen blocks block.before) name
          (kept_to (is_par block.kind) name (lets_behind items) (names_behind items) (behind_to items name) (subst (λ b. IsIn name (if b then [] else lets_behind items)) (par_same block.kind) here))
    ]

pub shown_from : (blocks : List OpenBlock) (items : Items) (name : Name) → Has (names_seen blocks items) name → IsIn name (lets_shown (scope_at blocks items))
shown_from [] items name h = behind_from items name h
shown_from (block ∷ blocks) items name h =
    elim (has_append (if is_par block.kind then [] else names_behind items) (names_seen blocks block.before) name h) [
      | inl here ↦ in_second name (lets_shown (scope_at blocks block.before)) (if names.is_par (name_kind block.kind) then [] else lets_behind items)
          (subst (λ b. IsIn name (if b then [] else lets_behind items)) (sym (par_same block.kind))
          (kept_from (is_par block.kind) name (lets_behind items) (names_behind items) (behind_from items name) here))
      | inr outer ↦ in_first name (lets_shown (scope_at blocks block.before)) (if names.is_par (name_kind block.kind) then [] else lets_behind items) (shown_from blocks block.before name outer)
    ]

-- In the place of an argument, the blocks show a let of the name where the words see one, and only there.
pub shown_sees : (words : List Word) (blocks : List OpenBlock) (items : Items) (given : Option Name) (op : Operator) (name : Name) → IsReached words (at blocks items (an_argument given op)) →
    IsTrue (is_shown name (scope_at blocks items)) → Sees words name
shown_sees words blocks items given op name reached shown =
    let there = place_seen blocks items name (shown_to blocks items name shown) in
    subst (λ all. Sees all name) reached.writes
    (seen_is_visible blocks items (given_words given ++ operator_words op) name there.0 (flat_blocks blocks reached.blocks) (flat_items (are_looped blocks) items reached.items) (begun_closes given op)
    there.1).0

pub sees_shown : (words : List Word) (blocks : List OpenBlock) (items : Items) (given : Option Name) (op : Operator) (name : Name) → IsReached words (at blocks items (an_argument given op)) →
    Sees words name → IsTrue (is_shown name (scope_at blocks items))
sees_shown words blocks items given op name reached sees =
    let here = subst (λ all. Sees all name) (sym reached.writes) sees in
    shown_from blocks items name
    (name_seen blocks items name (length here.front) (visible_is_seen blocks items given op name (flat_blocks blocks reached.blocks) (flat_items (are_looped blocks) items reached.items) reached.place here))

-- whether words end in `let`
pub ends_append : (was : Bool) (xs ys : List Word) → ends_in_let was (xs ++ ys) ≡ ends_in_let (ends_in_let was xs) ys
ends_append was [] ys = refl
ends_append was (x ∷ xs) ys = ends_append (is_let x) xs ys

pub ends_state : (words : List Word) (blocks : List OpenBlock) (items : Items) (place : Place) → IsReached words (at blocks items place) →
    ends_in_let false words ≡ ends_in_let (ends_in_let (ends_in_let false (opening_words blocks)) (items_words items)) (place_words place)
ends_state words blocks items place reached =
    ap (ends_in_let false) (sym reached.writes)
    ∙ ends_append false (opening_words blocks) (items_words items ++ place_words place)
    ∙ ends_append (ends_in_let false (opening_words blocks)) (items_words items) (place_words place)

op_ends : (was : Bool) (op : Operator) → ends_in_let was (operator_words op) ≡ false
op_ends was operator.Work = refl
op_ends was (operator.Call verb object) = refl

pub argument_ends : (was : Bool) (given : Option Name) (op : Operator) → ends_in_let was (place_words (an_argument given op)) ≡ false
argument_ends was None op = op_ends was op
argument_ends was (Some name) op = op_ends false op

-- A name that the machine takes as known is a let's own, or sees a let.
pub known_sees : (words : List Word) (blocks : List OpenBlock) (items : Items) (place : Place) (name : Name) (new : State) → IsReached words (at blocks items place) →
    step_at blocks items place (Named name) ≡ Some new → is_known place blocks items name ≡ true → ends_in_let false words ≡ false → Sees words name
known_sees words blocks items (an_argument given op) name new reached e known ends = shown_sees words blocks items given op name reached known
known_sees words blocks items a_let_name name new reached e known ends =
    absurd (true≢false (sym (ends_state words blocks items a_let_name reached) ∙ ends))
known_sees words blocks items place name new reached e known ends = cc

-- One that it does not take is a use that sees none.
pub unknown_sees_none : (words : List Word) (blocks : List OpenBlock) (items : Items) (place : Place) (name : Name) → IsReached words (at blocks items place) →
    is_known place blocks items name ≡ false → (ends_in_let false words ≡ false) × (Sees words name → ⊥)
unknown_sees_none words blocks items (an_argument given op) name reached unknown =
    (ends_state words blocks items (an_argument given op) reached ∙ argument_ends _ given op, (λ sees. true≢false (sym (sees_shown words blocks items given op name reached sees) ∙ unknown)))
unknown_sees_none words blocks items place name reached unknown = cc
