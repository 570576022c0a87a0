-- What a state that the machine reaches implies for the words that led there.
use Rattle.std.proofs.Common.{◌≡◌, List, [], ◌∷◌, ◌++◌, Bool, true, false, Option, Some, None, refl, sym, ap, ◌∙◌, append_assoc, append-nil, subst}
use Rattle.std.specs.Prelude.{if◌then◌else◌, IfSome}
use Rattle.job_syntax.specs.declared.lexer.word.Word.{Word}
use Rattle.job_syntax.specs.declared.lexer.word.Word.TheVariants.{Open, Close, Work, Seq, Par, For, Pfor, Let, Equals, Number, Named}
use Rattle.job_syntax.specs.declared.lexer.word.Word.TheVariants as word
use Rattle.job_names.specs.declared.name.Name.{Name}
use Rattle.job_syntax.specs.declared.parser.call.Object.{Object}
use Rattle.job_syntax.specs.declared.parser.call.Operator.{Operator}
use Rattle.job_syntax.specs.declared.parser.call.Operator.TheVariants as operator
use Rattle.seq_objects.specs.declared.verb.Verb.{Verb}
use Rattle.seq_objects.specs.Verbs.{takes_argument}
use Rattle.job_syntax.specs.Grammar.{Items, nothing, leaf_then, block_then, ◌then◌, BlockKind, seq_block, par_block, for_loop, pfor_loop, Leaf, call, is_number, FitsVerb, IsLeaf, AreItems, items_words, leaf_words, kind_words}
use Rattle.job_syntax.specs.Code.Machine.{OpenBlock, operator_words, takes, with_operand, verb_behind, Place, an_item, a_let_name, an_equals, a_let_object, object_of, given_leaf, let_name_step, equals_step, object_step, an_argument, a_call, for_copies, pfor_copies, a_brace, at, start, are_looped, with_leaf, after_open, item_step, call_step, step_at}
pub use Rattle.job_syntax.specs.Code.Reached.{opening_words, object_words, given_words, place_words, state_words, AreBlocks, IsGiven, IsPlace, IsReached}
use Rattle.job_syntax.proofs.ParserLemmas.Derivations.{words_then}
use Rattle.seq_objects.proofs.Verbs.{verb_has_parts}

pub start_reached : IsReached [] start
start_reached = record { writes = refl; blocks = tt; items = tt; place = tt }

pub fits-then : (looped : Bool) (a b : Items) → AreItems looped a → AreItems looped b → AreItems looped (a then b)
fits-then looped nothing b fits more = more
fits-then looped (leaf_then leaf a) b fits more = (fits.0, fits-then looped a b fits.1 more)
fits-then looped (block_then kind body a) b fits more = (fits.0, fits.1, fits-then looped a b fits.2 more)

longer : (front items place next words : List Word) (last : Word) → front ++ (items ++ place) ≡ words → place ++ last ∷ [] ≡ next →
    front ++ (items ++ next) ≡ words ++ last ∷ []
longer front items place next words last writes e =
    ap (λ end. front ++ (items ++ end)) (sym e) ∙ simp append_assoc refl ∙ ap (λ all. all ++ last ∷ []) writes

-- a step that changes only the place
pub moved : {words : List Word} {blocks : List OpenBlock} {items : Items} {old : Place} (new : Place) (last : Word) →
    IsReached words (at blocks items old) → place_words old ++ last ∷ [] ≡ place_words new → IsPlace new →
    IsReached (words ++ last ∷ []) (at blocks items new)
moved {words} {blocks} {items} {old} new last reached e fits = record {
  writes = longer (opening_words blocks) (items_words items) (place_words old) (place_words new) words last reached.writes e;
  blocks = reached.blocks;
  items = reached.items;
  place = fits;
}

-- a step that completes a leaf
pub added : {words : List Word} {blocks : List OpenBlock} {items : Items} {old : Place} (leaf : Leaf) (last : Word) →
    IsReached words (at blocks items old) → place_words old ++ last ∷ [] ≡ leaf_words leaf → IsLeaf (are_looped blocks) leaf →
    IsReached (words ++ last ∷ []) (with_leaf blocks items leaf)
added {words} {blocks} {items} {old} leaf last reached e fits = record {
  writes = simp (words_then, append-nil) (longer (opening_words blocks) (items_words items) (place_words old) (leaf_words leaf) words last reached.writes e);
  blocks = reached.blocks;
  items = fits-then (are_looped blocks) items (leaf_then leaf nothing) reached.items (fits, tt);
  place = tt;
}

-- the words of a leaf whose argument is the last word, and what it needs to fit
given_argument : (given : Option Name) (op : Operator) (last : Word) → place_words (an_argument given op) ++ last ∷ [] ≡ leaf_words (given_leaf given (with_operand op last))
given_argument None operator.Work last = refl
given_argument None _ last = refl
given_argument (Some name) operator.Work last = refl
given_argument (Some name) _ last = refl

fits_call : (looped : Bool) (given : Option Name) (verb : Verb) (object : Option Name) (argument : Option Word) (carries : Bool) → takes_argument verb ≡ carries → FitsVerb looped carries argument → IsLeaf looped (given_leaf given (call verb object argument))
fits_call looped None verb object argument carries is fits = subst (λ carries. FitsVerb looped carries argument) (sym is) fits
fits_call looped (Some name) verb object argument carries is fits = subst (λ carries. FitsVerb looped carries argument) (sym is) fits

fits_given : (looped : Bool) (given : Option Name) (op : Operator) (last : Word) → IsGiven given op → takes op looped last ≡ true → IsLeaf looped (given_leaf given (with_operand op last))
fits_given looped None operator.Work last is e = e
fits_given looped (Some name) operator.Work last is e = elim is [ ]
fits_given looped given (operator.Call verb object) last is e = fits_call looped given verb object (Some last) true is e

reach_argument : (words : List Word) (blocks : List OpenBlock) (items : Items) (given : Option Name) (op : Operator) (last : Word) → IsReached words (at blocks items (an_argument given op)) →
    (b : Bool) → takes op (are_looped blocks) last ≡ b →
    IfSome (if b then Some (with_leaf blocks items (given_leaf given (with_operand op last))) else None) (IsReached (words ++ last ∷ []))
reach_argument words blocks items given op last reached false e = tt
reach_argument words blocks items given op last reached true e =
    added (given_leaf given (with_operand op last)) last reached (given_argument given op last) (fits_given (are_looped blocks) given op last reached.place e)

takes_zero : (looped : Bool) (op : Operator) → takes op looped (Number (Some 0)) ≡ true
takes_zero looped operator.Work = refl
takes_zero looped (operator.Call verb object) = refl

-- a step by the argument 0
pub added_zero : {words : List Word} {blocks : List OpenBlock} {items : Items} (given : Option Name) (op : Operator) → IsReached words (at blocks items (an_argument given op)) →
    IsReached (words ++ Number (Some 0) ∷ []) (with_leaf blocks items (given_leaf given (with_operand op (Number (Some 0)))))
added_zero {words} {blocks} {items} given op reached =
    added (given_leaf given (with_operand op (Number (Some 0)))) (Number (Some 0)) reached (given_argument given op (Number (Some 0)))
    (fits_given (are_looped blocks) given op (Number (Some 0)) reached.place (takes_zero (are_looped blocks) op))

reach_let_name : (words : List Word) (blocks : List OpenBlock) (items : Items) (last : Word) → IsReached words (at blocks items a_let_name) →
    IfSome (let_name_step blocks items last) (IsReached (words ++ last ∷ []))
reach_let_name words blocks items (Named name) reached = moved (an_equals name) (Named name) reached refl tt
reach_let_name words blocks items _ reached = tt

reach_equals : (words : List Word) (blocks : List OpenBlock) (items : Items) (name : Name) (last : Word) → IsReached words (at blocks items (an_equals name)) →
    IfSome (equals_step blocks items name last) (IsReached (words ++ last ∷ []))
reach_equals words blocks items name Equals reached = moved (a_let_object name) Equals reached refl tt
reach_equals words blocks items name _ reached = tt

reach_object : (words : List Word) (blocks : List OpenBlock) (items : Items) (name : Name) (last : Word) → IsReached words (at blocks items (a_let_object name)) →
    IfSome (object_step blocks items name (object_of last)) (IsReached (words ++ last ∷ []))
reach_object words blocks items given (word.Object kind name) reached = moved (a_call (Some given) (record { kind = kind; name = name })) (word.Object kind name) reached refl tt
reach_object words blocks items given _ reached = tt

reach_for : (words : List Word) (blocks : List OpenBlock) (items : Items) (last : Word) → IsReached words (at blocks items for_copies) →
    (b : Bool) → is_number last ≡ b →
    IfSome (if b then Some (at blocks items (a_brace (for_loop last))) else None) (IsReached (words ++ last ∷ []))
reach_for words blocks items last reached false e = tt
reach_for words blocks items last reached true e = moved (a_brace (for_loop last)) last reached refl e

reach_pfor : (words : List Word) (blocks : List OpenBlock) (items : Items) (last : Word) → IsReached words (at blocks items pfor_copies) →
    (b : Bool) → is_number last ≡ b →
    IfSome (if b then Some (at blocks items (a_brace (pfor_loop last))) else None) (IsReached (words ++ last ∷ []))
reach_pfor words blocks items last reached false e = tt
reach_pfor words blocks items last reached true e = moved (a_brace (pfor_loop last)) last reached refl e

behind_given : (given : Option Name) (of : Object) (last : Word) (words : List Word) → object_words of ++ last ∷ [] ≡ words → place_words (a_call given of) ++ last ∷ [] ≡ given_words given ++ words
behind_given None of last words e = e
behind_given (Some name) of last words e = ap (λ ws. Let ∷ Named name ∷ Equals ∷ ws) e

given_whole : (given : Option Name) (leaf : Leaf) → given_words given ++ leaf_words leaf ≡ leaf_words (given_leaf given leaf)
given_whole None leaf = refl
given_whole (Some name) leaf = refl

-- the words of a call up to its verb
spelled_call : (of : Object) (last : Word) (verb : Verb) → verb_behind of.kind last ≡ Some verb → object_words of ++ last ∷ [] ≡ operator_words (operator.Call verb of.name)
spelled_call of (word.Verb spelled) verb e = let is = verb_has_parts of.kind spelled verb e in λ i. word.Object (sym is.0 i) of.name ∷ word.Verb (sym is.1 i) ∷ []
spelled_call of _ verb e = cc

pub reach_verb : {words : List Word} {blocks : List OpenBlock} {items : Items} (given : Option Name) (of : Object) (last : Word) (verb : Verb) → IsReached words (at blocks items (a_call given of)) →
    object_words of ++ last ∷ [] ≡ operator_words (operator.Call verb of.name) → (carries : Bool) → takes_argument verb ≡ carries →
    IsReached (words ++ last ∷ []) (if carries then at blocks items (an_argument given (operator.Call verb of.name)) else with_leaf blocks items (given_leaf given (call verb of.name None)))
reach_verb {words} {blocks} {items} given of last verb reached written true e =
    moved (an_argument given (operator.Call verb of.name)) last reached (behind_given given of last (operator_words (operator.Call verb of.name)) written) e
reach_verb {words} {blocks} {items} given of last verb reached written false e =
    added (given_leaf given (call verb of.name None)) last reached (behind_given given of last (operator_words (operator.Call verb of.name)) written ∙ given_whole given (call verb of.name None))
    (fits_call (are_looped blocks) given verb of.name None false e tt)

reach_call : (words : List Word) (blocks : List OpenBlock) (items : Items) (given : Option Name) (of : Object) (last : Word) → IsReached words (at blocks items (a_call given of)) →
    (found : Option Verb) → verb_behind of.kind last ≡ found → IfSome (call_step blocks items given of.name found) (IsReached (words ++ last ∷ []))
reach_call words blocks items given of last reached None e = tt
reach_call words blocks items given of last reached (Some verb) e = reach_verb given of last verb reached (spelled_call of last verb e) (takes_argument verb) refl

pub reach_brace : {words : List Word} {blocks : List OpenBlock} {items : Items} (kind : BlockKind) → IsReached words (at blocks items (a_brace kind)) →
    IsReached (words ++ Open ∷ []) (after_open blocks items kind)
reach_brace {words} {blocks} {items} kind reached = record {
  writes = simp append-nil (longer (opening_words blocks) (items_words items) (kind_words kind) (kind_words kind ++ Open ∷ []) words Open reached.writes refl);
  blocks = (reached.items, reached.place, reached.blocks);
  items = tt;
  place = tt;
}

pub reach_close : {words : List Word} (block : OpenBlock) (blocks : List OpenBlock) (items : Items) → IsReached words (at (block ∷ blocks) items an_item) →
    IsReached (words ++ Close ∷ []) (at blocks (block.before then block_then block.kind items nothing) an_item)
reach_close {words} block blocks items reached = record {
  writes = simp (words_then, append_assoc, append-nil) refl ∙ ap (λ all. all ++ Close ∷ []) reached.writes;
  blocks = reached.blocks.2;
  items = fits-then (are_looped blocks) block.before (block_then block.kind items nothing) reached.blocks.0 (reached.blocks.1, reached.items, tt);
  place = tt;
}

reach_item : (words : List Word) (blocks : List OpenBlock) (items : Items) (last : Word) → IsReached words (at blocks items an_item) →
    IfSome (item_step blocks items last) (IsReached (words ++ last ∷ []))
reach_item words [] items Close reached = tt
reach_item words (block ∷ blocks) items Close reached = reach_close block blocks items reached
reach_item words blocks items Work reached = moved (an_argument None operator.Work) Work reached refl tt
reach_item words blocks items (word.Object kind name) reached = moved (a_call None (record { kind = kind; name = name })) (word.Object kind name) reached refl tt
reach_item words blocks items Let reached = moved a_let_name Let reached refl tt
reach_item words blocks items Seq reached = moved (a_brace seq_block) Seq reached refl tt
reach_item words blocks items Par reached = moved (a_brace par_block) Par reached refl tt
reach_item words blocks items For reached = moved for_copies For reached refl tt
reach_item words blocks items Pfor reached = moved pfor_copies Pfor reached refl tt
reach_item words blocks items _ reached = tt

-- a step by one word reaches its state by the words so far and this one
pub reach : (words : List Word) (blocks : List OpenBlock) (items : Items) (place : Place) (last : Word) → IsReached words (at blocks items place) →
    IfSome (step_at blocks items place last) (IsReached (words ++ last ∷ []))
reach words blocks items an_item last reached = reach_item words blocks items last reached
reach words blocks items a_let_name last reached = reach_let_name words blocks items last reached
reach words blocks items (an_equals name) last reached = reach_equals words blocks items name last reached
reach words blocks items (a_let_object name) last reached = reach_object words blocks items name last reached
reach words blocks items (an_argument given op) last reached = reach_argument words blocks items given op last reached _ refl
reach words blocks items (a_call given of) last reached = reach_call words blocks items given of last reached (verb_behind of.kind last) refl
reach words blocks items for_copies last reached = reach_for words blocks items last reached _ refl
reach words blocks items pfor_copies last reached = reach_pfor words blocks items last reached _ refl
reach words blocks items (a_brace kind) Open reached = reach_brace kind reached
reach words blocks items (a_brace kind) _ reached = tt
