-- The names that are seen behind a front of a text: its open blocks with the items before each, and the items in the
-- innermost.
use Rattle.std.proofs.Common.{◌≡◌, ◌⊎◌, inl, inr, List, [], ◌∷◌, ◌++◌, Bool, true, false, Option, Some, None}
use Rattle.std.specs.Prelude.{if◌then◌else◌, IsTrue, ◌||◌}
use Rattle.job_names.specs.declared.name.Name.{Name}
use Rattle.job_syntax.specs.declared.lexer.word.Word.{Word}
use Rattle.job_syntax.specs.declared.lexer.word.Word.TheVariants.{Number, Copies, Named}
use Rattle.seq_objects.specs.Verbs.{takes_argument}
use Rattle.job_syntax.specs.Grammar.{Leaf, work, call, bound, Items, nothing, leaf_then, block_then, is_argument, is_call_argument, is_loop, is_par, FitsVerb, IsCall, IsLeaf, IsBlockKind, AreItems}
use Rattle.job_syntax.specs.Code.Shown.{OpenBlock}
use Rattle.job_syntax.specs.Code.Machine.{are_looped}
use Rattle.job_syntax.specs.Code.Reached.{AreBlocks}

abbrev pub Has : List Name → Name → Type 0
Has [] n = ⊥
Has (x ∷ xs) n = (x ≡ n) ⊎ Has xs n

pub has_append : (xs ys : List Name) (n : Name) → Has (xs ++ ys) n → Has xs n ⊎ Has ys n
has_append [] ys n h = inr h
has_append (x ∷ xs) ys n (inl e) = inl (inl e)
has_append (x ∷ xs) ys n (inr h) = elim (has_append xs ys n h) [ inl l ↦ inl (inr l) | inr r ↦ inr r ]

pub has_left : (xs ys : List Name) (n : Name) → Has xs n → Has (xs ++ ys) n
has_left (x ∷ xs) ys n (inl e) = inl e
has_left (x ∷ xs) ys n (inr h) = inr (has_left xs ys n h)
has_left [] ys n h = absurd h

pub has_right : (xs ys : List Name) (n : Name) → Has ys n → Has (xs ++ ys) n
has_right [] ys n h = h
has_right (x ∷ xs) ys n h = inr (has_right xs ys n h)

abbrev pub names_of : Leaf → List Name
names_of (work argument) = []
names_of (call verb object argument) = []
names_of (bound name leaf) = name ∷ []

-- the names that items give to what comes behind them, the latest first
abbrev pub names_behind : Items → List Name
names_behind nothing = []
names_behind (leaf_then leaf more) = names_behind more ++ names_of leaf
names_behind (block_then kind body more) = names_behind more ++ (if is_loop kind then [] else names_behind body)

abbrev pub names_seen : List OpenBlock → Items → List Name
names_seen [] items = names_behind items
names_seen (block ∷ blocks) items = (if is_par block.kind then [] else names_behind items) ++ names_seen blocks block.before

-- items as they may stand inside a loop
abbrev pub AreFlat : Items → Type 0
AreFlat nothing = Unit {0}
AreFlat (leaf_then leaf more) = IsLeaf true leaf × AreFlat more
AreFlat (block_then kind body more) = AreFlat body × AreFlat more × IsBlockKind kind

abbrev pub AreFlatBlocks : List OpenBlock → Type 0
AreFlatBlocks [] = Unit {0}
AreFlatBlocks (block ∷ blocks) = AreFlat block.before × AreFlatBlocks blocks × IsBlockKind block.kind

flat_argument : (looped : Bool) (w : Word) → IsTrue (is_argument looped w) → IsTrue (is_argument true w)
flat_argument looped (Number n) h = h
flat_argument looped (Copies n) h = λ i. true
flat_argument looped _ h = cc

flat_value : (looped : Bool) (w : Word) → IsTrue (is_call_argument looped w) → IsTrue (is_call_argument true w)
flat_value looped (Number n) h = h
flat_value looped (Copies n) h = λ i. true
flat_value looped (Named n) h = h
flat_value looped _ h = cc

flat_behind : (looped takes : Bool) (argument : Option Word) → FitsVerb looped takes argument → FitsVerb true takes argument
flat_behind looped true (Some w) h = flat_value looped w h
flat_behind looped true None h = h
flat_behind looped false None h = h
flat_behind looped false (Some w) h = h

pub flat_call : (looped : Bool) (leaf : Leaf) → IsCall looped leaf → IsCall true leaf
flat_call looped (work w) h = h
flat_call looped (call verb object argument) h = flat_behind looped (takes_argument verb) argument h
flat_call looped (bound name leaf) h = h

flat_leaf : (looped : Bool) (leaf : Leaf) → IsLeaf looped leaf → IsLeaf true leaf
flat_leaf looped (work w) h = flat_argument looped w h
flat_leaf looped (call verb object argument) h = flat_behind looped (takes_argument verb) argument h
flat_leaf looped (bound name leaf) h = flat_call looped leaf h

pub flat_items : (looped : Bool) (items : Items) → AreItems looped items → AreFlat items
flat_items looped nothing h = h
flat_items looped (leaf_then leaf more) h = (flat_leaf looped leaf h.0, flat_items looped more h.1)
flat_items looped (block_then kind body more) h = (flat_items (looped || is_loop kind) body h.1, flat_items looped more h.2, h.0)

pub flat_blocks : (blocks : List OpenBlock) → AreBlocks blocks → AreFlatBlocks blocks
flat_blocks [] h = h
flat_blocks (block ∷ blocks) h = (flat_items (are_looped blocks) block.before h.0, flat_blocks blocks h.2, h.1)
