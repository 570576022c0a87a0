-- The machine's run on words that the grammar derives.
use Rattle.std.proofs.Common.{◌≡◌, List, [], ◌∷◌, ◌++◌, Bool, true, false, Option, Some, None, refl, sym, ap, ◌∙◌, append_assoc, append-nil}
use Rattle.std.specs.Prelude.{option_and_then, map}
use Rattle.job_syntax.specs.declared.lexer.word.Word.{Word}
use Rattle.job_syntax.specs.declared.lexer.word.Word.TheVariants.{Open, Close}
use Rattle.job_syntax.specs.Words.{word_of}
use Rattle.job_syntax.specs.Grammar.{Items, nothing, leaf_then, block_then, ◌then◌, BlockKind, seq_block, par_block, for_loop, pfor_loop, Leaf, work, call, bound, FitsVerb, IsLeaf, IsBlockKind, AreItems, Derives, CanGoOn, items_words, leaf_words, kind_words}
use Rattle.job_syntax.proofs.ParserLemmas.Derivations.{then_assoc, then_nothing}
use Rattle.job_syntax.specs.Code.Machine.{OpenBlock, an_item, State, at, start, are_looped, given_leaf, with_leaf, after_open, call_step, step, run}
use Rattle.job_names.specs.declared.name.Name.{Name}
use Rattle.seq_objects.specs.declared.verb.Verb.{Verb}
use Rattle.seq_objects.specs.Verbs.{takes_argument}
use Rattle.std.specs.Option.{option_to_list}
use Rattle.seq_objects.proofs.Verbs.{verb_found}

-- a run over two lists is a run over one and then the other
pub run-append : (state : Option State) (a b : List Word) → run state (a ++ b) ≡ run (run state a) b
run-append state [] b = refl
run-append state (first ∷ a) b = run-append (option_and_then (λ state. step state first) state) a b

-- a run that has failed stays failed
pub run-none : (words : List Word) → run None words ≡ None
run-none [] = refl
run-none (first ∷ words) = run-none words

-- what stands behind the verb of a call leads to the state with the call
run_behind : (blocks : List OpenBlock) (items : Items) (given object : Option Name) (verb : Verb) (takes : Bool) (argument : Option Word) (words : List Word) → takes_argument verb ≡ takes → FitsVerb (are_looped blocks) takes argument →
    run (call_step blocks items given object (Some verb)) (option_to_list argument ++ words) ≡ run (Some (with_leaf blocks items (given_leaf given (call verb object argument)))) words
run_behind blocks items given object verb true (Some argument) words e fits = rw (e, fits) refl
run_behind blocks items given object verb false None words e fits = rw e refl
run_behind blocks items given object verb true None words e fits = elim fits [ ]
run_behind blocks items given object verb false (Some argument) words e fits = elim fits [ ]

-- the words of a leaf lead to the state with that leaf
run_leaf : (blocks : List OpenBlock) (items : Items) (leaf : Leaf) (words : List Word) → IsLeaf (are_looped blocks) leaf →
    run (Some (at blocks items an_item)) (leaf_words leaf ++ words) ≡ run (Some (with_leaf blocks items leaf)) words
run_leaf blocks items (work argument) words fits = rw fits refl
run_leaf blocks items (call verb object argument) words fits =
    ap (λ found. run (call_step blocks items None object found) (option_to_list argument ++ words)) (verb_found verb)
    ∙ run_behind blocks items None object verb (takes_argument verb) argument words refl fits
run_leaf blocks items (bound name (call verb object argument)) words fits =
    ap (λ found. run (call_step blocks items (Some name) object found) (option_to_list argument ++ words)) (verb_found verb)
    ∙ run_behind blocks items (Some name) object verb (takes_argument verb) argument words refl fits
run_leaf blocks items (bound name (work argument)) words fits = elim fits [ ]
run_leaf blocks items (bound name (bound other leaf)) words fits = elim fits [ ]

-- the words that open a block lead to the state inside it
run_kind : (blocks : List OpenBlock) (items : Items) (kind : BlockKind) (words : List Word) → IsBlockKind kind →
    run (Some (at blocks items an_item)) (kind_words kind ++ Open ∷ words) ≡ run (Some (after_open blocks items kind)) words
run_kind blocks items seq_block words fits = refl
run_kind blocks items par_block words fits = refl
run_kind blocks items (for_loop copies) words fits = rw fits refl
run_kind blocks items (pfor_loop copies) words fits = rw fits refl

-- the words of items lead to the state with those items
run_items : (blocks : List OpenBlock) (before items : Items) (words : List Word) → AreItems (are_looped blocks) items →
    run (Some (at blocks before an_item)) (items_words items ++ words) ≡ run (Some (at blocks (before then items) an_item)) words
run_items blocks before nothing words fits = rw then_nothing refl
run_items blocks before (leaf_then leaf more) words fits =
    ap (run (Some (at blocks before an_item))) (append_assoc (leaf_words leaf) (items_words more) words)
    ∙ run_leaf blocks before leaf (items_words more ++ words) fits.0
    ∙ run_items blocks (before then leaf_then leaf nothing) more words fits.1
    ∙ ap (λ items. run (Some (at blocks items an_item)) words) (then_assoc before (leaf_then leaf nothing) more)
run_items blocks before (block_then kind body more) words fits =
    ap (run (Some (at blocks before an_item))) (append_assoc (kind_words kind) (Open ∷ (items_words body ++ Close ∷ items_words more)) words)
    ∙ run_kind blocks before kind ((items_words body ++ Close ∷ items_words more) ++ words) fits.0
    ∙ ap (run (Some (after_open blocks before kind))) (append_assoc (items_words body) (Close ∷ items_words more) words)
    ∙ run_items (record { before = before; kind = kind } ∷ blocks) nothing body (Close ∷ (items_words more ++ words)) fits.1
    ∙ run_items blocks (before then block_then kind body nothing) more words fits.2
    ∙ ap (λ items. run (Some (at blocks items an_item)) words) (then_assoc before (block_then kind body nothing) more)

-- derived words lead to their items, with no block open
pub run_derived : {words : List Word} {items : Items} → Derives words items → run (Some start) words ≡ Some (at [] items an_item)
run_derived {words} {items} derives =
    ap (run (Some start)) (sym derives.writes)
    ∙ ap (run (Some start)) (sym (append-nil (items_words items)))
    ∙ run_items [] nothing items [] derives.fits

-- words on which the machine fails cannot go on
pub dead : (words : List Word) → run (Some start) words ≡ None → CanGoOn words → ⊥
dead words stops goes =
    let more = map word_of goes.further in
    let a = run-append (Some start) words more in
    let b = run_derived goes.derives in
    let c = run-none more in
    let d : run (run (Some start) words) more ≡ run None more = ap (λ state. run state more) stops in
    cc (a, b, c, d)

-- a list of words has one derivation
pub one_derivation : {words : List Word} {a b : Items} → Derives words a → Derives words b → a ≡ b
one_derivation {words} {a} {b} derives also =
    let p = run_derived derives in
    let q = run_derived also in
    let same : at [] a an_item ≡ at [] b an_item = cc (p, q) in
    ap (λ (state : State). state.items) same
