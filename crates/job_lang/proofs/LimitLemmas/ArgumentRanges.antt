-- The flags of arguments out of range, item by item, and the search for the first one that is set.
use Rattle.std.proofs.Common.{◌≡◌, ℕ, ◌+◌, ◌<◌, List, [], ◌∷◌, ◌++◌, length, take, drop, get_or, Vec, Global, Bool, true, false, Option, Some, None, refl, sym, ap, ◌∙◌, append_assoc, append-nil}
use Rattle.std.specs.Prelude.{◌||◌}
use Rattle.std.specs.List.{list_any}
use Rattle.std.proofs.lemmas.List.Folds.{list_any-append}
use Rattle.job_syntax.specs.declared.lexer.word.WordOnLine.{WordOnLine}
use Rattle.job_names.specs.declared.name.Name.{Name}
use Rattle.job_syntax.specs.declared.item.Item.{Item, Leaf as ItemLeaf, Let as ItemLet, Block}
use Rattle.job_syntax.specs.declared.item.Leaf.{Leaf as CodeLeaf}
use Rattle.job_syntax.specs.declared.item.BlockKind.{BlockKind as CodeBlockKind}
use Rattle.job_syntax.specs.Grammar.{Items, nothing, leaf_then, block_then, ◌then◌}
use Rattle.job_lang.specs.Limits.{copies_inside, leaf_range_flags, range_flags, first_line, argument_line}
use Rattle.job_lang.specs.Code.Searches.{dependents, found_or, Finds}
use Rattle.job_syntax.specs.Views.{items_of, item_of, leaf_of, block_kind_of}
use Rattle.job_syntax.proofs.ParserLemmas.Levels.{items_of_more, items_of_parts, item_of_leaf, item_of_let, item_of_block}

pub range_flags_then : (c : ℕ) (a b : Items) → range_flags c (a then b) ≡ range_flags c a ++ range_flags c b
range_flags_then c nothing b = refl
range_flags_then c (leaf_then leaf a) b = simp (range_flags_then c a b, append_assoc) refl
range_flags_then c (block_then kind body a) b = simp (range_flags_then c a b, append_assoc) refl

pub range_flags_of_leaf : (c : ℕ) (leaf : CodeLeaf) → range_flags c (item_of (ItemLeaf leaf)) ≡ leaf_range_flags c (leaf_of leaf)
range_flags_of_leaf c leaf = ap (range_flags c) (item_of_leaf leaf) ∙ append-nil (leaf_range_flags c (leaf_of leaf))

pub range_flags_of_let : (c : ℕ) (name : Name) (call : CodeLeaf) → range_flags c (item_of (ItemLet name call)) ≡ leaf_range_flags c (leaf_of call)
range_flags_of_let c name call = ap (range_flags c) (item_of_let name call) ∙ append-nil (leaf_range_flags c (leaf_of call))

pub range_flags_of_block : (c : ℕ) (kind : CodeBlockKind) (inside : Vec Item Global) → range_flags c (item_of (Block kind inside)) ≡ range_flags (copies_inside c (block_kind_of kind)) (items_of inside.items)
range_flags_of_block c kind inside = ap (range_flags c) (item_of_block kind inside) ∙ append-nil (range_flags (copies_inside c (block_kind_of kind)) (items_of inside.items))

-- the flags of the first items and of one more
flags_more : (c : ℕ) (xs : List Item) (i : ℕ) (x : Item) → i < length xs → x ≡ get_or xs i x → range_flags c (items_of (take (i + 1) xs)) ≡ range_flags c (items_of (take i xs)) ++ range_flags c (item_of x)
flags_more c xs i x within is = ap (range_flags c) (items_of_more xs i x within is) ∙ range_flags_then c (items_of (take i xs)) (item_of x)

flags_parts : (c : ℕ) (xs : List Item) (i : ℕ) (x : Item) → i < length xs → x ≡ get_or xs i x
    → range_flags c (items_of xs) ≡ (range_flags c (items_of (take i xs)) ++ range_flags c (item_of x)) ++ range_flags c (items_of (drop (i + 1) xs))
flags_parts c xs i x within is =
    ap (range_flags c) (sym (items_of_parts xs (i + 1))) ∙ range_flags_then c (items_of (take (i + 1) xs)) (items_of (drop (i + 1) xs))
    ∙ ap (λ e. e ++ range_flags c (items_of (drop (i + 1) xs))) (flags_more c xs i x within is)

-- whether some flag is set
abbrev any : List Bool → Bool
any flags = list_any (λ flag. flag) flags

any_then : (a b : List Bool) (first last : Bool) → any a ≡ first → any b ≡ last → any (a ++ b) ≡ (first || last)
any_then a b first last one other = list_any-append (λ flag. flag) a b ∙ rw (one, other) refl

-- after one more item in which no argument is out of range
pub none_more : (c : ℕ) (xs : List Item) (i : ℕ) (x : Item) → i < length xs → x ≡ get_or xs i x → any (range_flags c (items_of (take i xs))) ≡ false → any (range_flags c (item_of x)) ≡ false
    → any (range_flags c (items_of (take (i + 1) xs))) ≡ false
none_more c xs i x within is front here = ap any (flags_more c xs i x within is) ∙ any_then (range_flags c (items_of (take i xs))) (range_flags c (item_of x)) false false front here

-- after an item in which one is
pub some_here : (c : ℕ) (xs : List Item) (i : ℕ) (x : Item) → i < length xs → x ≡ get_or xs i x → any (range_flags c (items_of (take i xs))) ≡ false → any (range_flags c (item_of x)) ≡ true
    → any (range_flags c (items_of xs)) ≡ true
some_here c xs i x within is front here =
    let first = range_flags c (items_of (take i xs)) in
    let own = range_flags c (item_of x) in
    let rest = range_flags c (items_of (drop (i + 1) xs)) in
    ap any (flags_parts c xs i x within is) ∙ any_then (first ++ own) rest true (any rest) (any_then first own false true front here) refl

-- where no flag is set no line is found
pub none_set : (flags : List Bool) (words : List WordOnLine) → any flags ≡ false → first_line flags words ≡ None
none_set [] words none = refl
none_set (true ∷ flags) words none = absurd (cc none)
none_set (false ∷ flags) [] none = refl
none_set (false ∷ flags) (word ∷ words) none = none_set flags words none

-- without words no line is found
pub no_words : (flags : List Bool) → first_line flags [] ≡ None
no_words [] = refl
no_words (true ∷ flags) = refl
no_words (false ∷ flags) = refl

pub ran_out : (flags : List Bool) (words rest : List WordOnLine) → dependents words ≡ [] → dependents rest ≡ [] → Finds flags words None rest
ran_out flags words rest none none' = λ behind.
    ap (first_line (flags ++ behind)) none ∙ no_words (flags ++ behind) ∙ sym (ap (first_line behind) none' ∙ no_words behind)

-- after one more item in which no line was found
pub passed : (c : ℕ) (xs : List Item) (i : ℕ) (x : Item) (words before behind : List WordOnLine) → i < length xs → x ≡ get_or xs i x
    → Finds (range_flags c (items_of (take i xs))) words None before → Finds (range_flags c (item_of x)) before None behind
    → Finds (range_flags c (items_of (take (i + 1) xs))) words None behind
passed c xs i x words before behind within is front here = λ flags.
    ap (λ e. first_line (e ++ flags) (dependents words)) (flags_more c xs i x within is)
    ∙ ap (λ e. first_line e (dependents words)) (append_assoc (range_flags c (items_of (take i xs))) (range_flags c (item_of x)) flags)
    ∙ front (range_flags c (item_of x) ++ flags) ∙ here flags

-- after an item in which a line was found
pub found_here : (c : ℕ) (xs : List Item) (i : ℕ) (x : Item) (line : ℕ) (words before behind : List WordOnLine) → i < length xs → x ≡ get_or xs i x
    → Finds (range_flags c (items_of (take i xs))) words None before → Finds (range_flags c (item_of x)) before (Some line) behind
    → Finds (range_flags c (items_of xs)) words (Some line) behind
found_here c xs i x line words before behind within is front here = λ flags.
    let rest : List Bool = range_flags c (items_of (drop (i + 1) xs)) in
    let first : List Bool = range_flags c (items_of (take i xs)) in
    ap (λ e. first_line (e ++ flags) (dependents words)) (flags_parts c xs i x within is)
    ∙ ap (λ e. first_line e (dependents words)) (append_assoc (first ++ range_flags c (item_of x)) rest flags ∙ append_assoc first (range_flags c (item_of x)) (rest ++ flags))
    ∙ front (range_flags c (item_of x) ++ (rest ++ flags)) ∙ here (rest ++ flags)

found_alone : (found : Option ℕ) → found_or found None ≡ found
found_alone None = refl
found_alone (Some line) = refl

-- the result of the search in all items is `argument_line`
pub found_line : (items : Items) (words behind : List WordOnLine) (found : Option ℕ) → Finds (range_flags 0 items) words found behind → found ≡ argument_line words items
found_line items words behind found finds =
    sym (found_alone found) ∙ sym (finds [])
    ∙ ap (λ e. first_line e (dependents words)) (append-nil (range_flags 0 items))
