-- Words that lead the machine to a state can go on to a job: an argument and closing braces complete them.
use Rattle.std.proofs.Common.{◌≡◌, List, [], ◌∷◌, ◌++◌, Bool, true, false, Option, Some, None, refl, sym, ap, ◌∙◌, append_assoc, append-nil, subst}
use Rattle.std.specs.Prelude.{ℕ, map, codes, if◌then◌else◌, IfSome}
use Rattle.job_syntax.specs.declared.lexer.word.Word.{Word}
use Rattle.job_syntax.specs.declared.lexer.word.Word.TheVariants.{Equals, Number, Named}
use Rattle.job_syntax.specs.declared.lexer.word.Word.TheVariants as word
use Rattle.job_names.specs.declared.name.Name.{Name}
use Rattle.job_names.specs.Names.{name_of}
use Rattle.job_syntax.specs.declared.parser.call.Object.{Object}
use Rattle.job_syntax.specs.declared.parser.call.Operator.{Operator}
use Rattle.job_syntax.specs.declared.parser.call.Operator.TheVariants as operator
use Rattle.seq_objects.specs.declared.verb.Verb.{Verb}
use Rattle.seq_objects.specs.declared.kind.Kind.TheVariants.{Stack}
use Rattle.seq_objects.specs.Verbs.{word_of_verb, word_text, takes_argument}
use Rattle.job_syntax.specs.Words.{word_of}
use Rattle.job_syntax.specs.Grammar.{Items, nothing, block_then, ◌then◌, BlockKind, for_loop, pfor_loop, call, AreItems, Derives, CanGoOn, items_words}
use Rattle.job_syntax.specs.Code.Machine.{OpenBlock, Place, an_item, a_let_name, an_equals, a_let_object, an_argument, a_call, for_copies, pfor_copies, a_brace, State, at, start, are_looped, given_leaf, with_leaf, step, run}
use Rattle.job_syntax.proofs.ParserLemmas.Derivations.{words_then}
use Rattle.job_syntax.proofs.ParserLemmas.Runs.{run-none, run-append, run_derived}
use Rattle.job_syntax.proofs.ParserLemmas.Reached.{opening_words, AreBlocks, IsReached, start_reached, fits-then, moved, added_zero, reach, reach_verb, reach_brace}
use Rattle.job_syntax.proofs.LexerLemmas.KindWords.{verb_said, verb_for, verb_for_kind}

-- the items after each open block is closed
abbrev completed : List OpenBlock → Items → Items
completed [] items = items
completed (block ∷ blocks) items = completed blocks (block.before then block_then block.kind items nothing)

abbrev closing_braces : List OpenBlock → List (List ℕ)
closing_braces [] = []
closing_braces (block ∷ blocks) = codes "}" ∷ closing_braces blocks

words-completed : (blocks : List OpenBlock) (items : Items) → items_words (completed blocks items) ≡ opening_words blocks ++ (items_words items ++ map word_of (closing_braces blocks))
words-completed [] items = sym (append-nil (items_words items))
words-completed (block ∷ blocks) items =
    words-completed blocks (block.before then block_then block.kind items nothing) ∙ simp (words_then, append_assoc) refl

fits-completed : (blocks : List OpenBlock) (items : Items) → AreBlocks blocks → AreItems (are_looped blocks) items → AreItems false (completed blocks items)
fits-completed [] items outer fits = fits
fits-completed (block ∷ blocks) items outer fits =
    fits-completed blocks _ outer.2 (fits-then (are_looped blocks) block.before (block_then block.kind items nothing) outer.0 (outer.1, fits, tt))

-- words that can go on after one more token can go on
goes_on_by : (words : List Word) (text : List ℕ) → CanGoOn (words ++ word_of text ∷ []) → CanGoOn words
goes_on_by words text goes = record {
  further = text ∷ goes.further;
  items = goes.items;
  derives = record {
    writes = goes.derives.writes ∙ append_assoc words (word_of text ∷ []) (map word_of goes.further);
    fits = goes.derives.fits;
  };
}

goes_on_item : {words : List Word} {blocks : List OpenBlock} {items : Items} → IsReached words (at blocks items an_item) → CanGoOn words
goes_on_item {words} {blocks} {items} reached = record {
  further = closing_braces blocks;
  items = completed blocks items;
  derives = record {
    writes = words-completed blocks items ∙ simp append_assoc refl ∙ ap (λ all. all ++ map word_of (closing_braces blocks)) (simp append-nil at reached.writes);
    fits = fits-completed blocks items reached.blocks reached.items;
  };
}

goes_on_brace : {words : List Word} {blocks : List OpenBlock} {items : Items} (kind : BlockKind) → IsReached words (at blocks items (a_brace kind)) → CanGoOn words
goes_on_brace {words} kind reached = goes_on_by words (codes "{") (goes_on_item (reach_brace kind reached))

goes_on_argument : {words : List Word} {blocks : List OpenBlock} {items : Items} (given : Option Name) (op : Operator) → IsReached words (at blocks items (an_argument given op)) → CanGoOn words
goes_on_argument {words} given op reached =
    goes_on_by words (codes "0") (goes_on_item (added_zero given op reached))

-- behind an object a verb of its kind can follow
goes_on_verb : (words : List Word) (blocks : List OpenBlock) (items : Items) (given : Option Name) (of : Object) (verb : Verb) (carries : Bool) →
    IsReached words (if carries then at blocks items (an_argument given (operator.Call verb of.name)) else with_leaf blocks items (given_leaf given (call verb of.name None))) → CanGoOn words
goes_on_verb words blocks items given of verb true reached = goes_on_argument given (operator.Call verb of.name) reached
goes_on_verb words blocks items given of verb false reached = goes_on_item reached

goes_on_call : {words : List Word} {blocks : List OpenBlock} {items : Items} (given : Option Name) (of : Object) → IsReached words (at blocks items (a_call given of)) → CanGoOn words
goes_on_call {words} {blocks} {items} given of reached =
    let verb = verb_for of.kind in
    let spelled = word.Verb (word_of_verb verb) in
    let next = reach_verb given of spelled verb reached (ap (λ kind. word.Object kind of.name ∷ spelled ∷ []) (sym (verb_for_kind of.kind))) (takes_argument verb) refl in
    goes_on_by words (word_text (word_of_verb verb))
    (subst (λ last. CanGoOn (words ++ last ∷ [])) (sym (verb_said (word_of_verb verb))) (goes_on_verb (words ++ spelled ∷ []) blocks items given of verb (takes_argument verb) next))

goes_on_object : {words : List Word} {blocks : List OpenBlock} {items : Items} (name : Name) → IsReached words (at blocks items (a_let_object name)) → CanGoOn words
goes_on_object {words} name reached =
    let of : Object = record { kind = Stack; name = None } in
    goes_on_by words (codes "stack") (goes_on_call (Some name) of (moved (a_call (Some name) of) (word.Object Stack None) reached refl tt))

goes_on_equals : {words : List Word} {blocks : List OpenBlock} {items : Items} (name : Name) → IsReached words (at blocks items (an_equals name)) → CanGoOn words
goes_on_equals {words} name reached = goes_on_by words (codes "=") (goes_on_object name (moved (a_let_object name) Equals reached refl tt))

goes_on_let : {words : List Word} {blocks : List OpenBlock} {items : Items} → IsReached words (at blocks items a_let_name) → CanGoOn words
goes_on_let {words} reached =
    let name = name_of (codes "a") in
    goes_on_by words (codes "a") (goes_on_equals name (moved (an_equals name) (Named name) reached refl tt))

pub goes_on : (words : List Word) (blocks : List OpenBlock) (items : Items) (place : Place) → IsReached words (at blocks items place) → CanGoOn words
goes_on words blocks items an_item reached = goes_on_item reached
goes_on words blocks items a_let_name reached = goes_on_let reached
goes_on words blocks items (an_equals name) reached = goes_on_equals name reached
goes_on words blocks items (a_let_object name) reached = goes_on_object name reached
goes_on words blocks items (an_argument given op) reached = goes_on_argument given op reached
goes_on words blocks items (a_call given of) reached = goes_on_call given of reached
goes_on words blocks items for_copies reached =
    let zero = Number (Some 0) in
    goes_on_by words (codes "0") (goes_on_brace (for_loop zero) (moved (a_brace (for_loop zero)) zero reached refl refl))
goes_on words blocks items pfor_copies reached =
    let zero = Number (Some 0) in
    goes_on_by words (codes "0") (goes_on_brace (pfor_loop zero) (moved (a_brace (pfor_loop zero)) zero reached refl refl))
goes_on words blocks items (a_brace kind) reached = goes_on_brace kind reached

-- the same for a list of further words
reach_all : (more words : List Word) (from : Option State) → IfSome from (IsReached words) → IfSome (run from more) (IsReached (words ++ more))
reach_all [] words from reached = subst (λ all. IfSome from (IsReached all)) (sym (append-nil words)) reached
reach_all (first ∷ more) words None reached = rw (run-none more) tt
reach_all (first ∷ more) words (Some state) reached =
    subst (λ all. IfSome (run (step state first) more) (IsReached all)) (append_assoc words (first ∷ []) more)
    (reach_all more (words ++ first ∷ []) (step state first) (reach words state.blocks state.items state.place first reached))

goes_on_from : (words more : List Word) (items : Items) (to : Option State) → IfSome to (IsReached words) → run to more ≡ Some (at [] items an_item) → CanGoOn words
goes_on_from words more items None reached leads = let dies = run-none more in absurd (cc (dies, leads))
goes_on_from words more items (Some state) reached leads = goes_on words state.blocks state.items state.place reached

-- Each front of a derived list can go on.
pub front_goes_on : (words more : List Word) (items : Items) → Derives (words ++ more) items → CanGoOn words
front_goes_on words more items derives =
    goes_on_from words more items (run (Some start) words) (reach_all words [] (Some start) start_reached)
    (sym (run-append (Some start) words more) ∙ run_derived derives)
