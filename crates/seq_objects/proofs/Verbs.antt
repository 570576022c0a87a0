-- The table of verbs: what is looked up by a kind and a word, or by a text, and what the texts are.
use Rattle.std.proofs.Common.{◌≡◌, ℕ, ◌<◌, Bool, true, false, ◌&&◌, Option, None, Some, List, [], ◌∷◌, length, refl, sym, ap, subst, ◌∙◌, cond, arith}
use denote.Enum.Bare.{sameb}
use Rattle.std.specs.List.{find, list_all}
use Rattle.std.specs.Char.{is_ascii_lowercase}
use Rattle.std.specs.Str.{bytes_eq}
use Rattle.std.proofs.lemmas.Slice.Eq.{bytes_eq-Decides}
use Rattle.seq_objects.specs.contracts.kind.Kind as kind
use Rattle.seq_objects.specs.declared.verb.Verb.{Verb}
use Rattle.seq_objects.specs.declared.verb.Verb.TheVariants as verb
use Rattle.seq_objects.specs.declared.verb.VerbWord.{VerbWord}
use Rattle.seq_objects.specs.declared.verb.VerbWord.TheVariants as word
use Rattle.seq_objects.specs.Verbs.{Kind, Counter, Stack, Tree, Queue, kind_of_verb, word_of_verb, kind_text, word_text, same_kind, same_word, kinds, verb_words, verbs, kind_by_text, word_by_text, verb_by}

-- the texts
pub kind_some : (kind : Kind) → 0 < length (kind_text kind)
kind_some Counter = omega arith
kind_some _ = omega arith

pub kind_letters : (kind : Kind) → list_all is_ascii_lowercase (kind_text kind) ≡ true
kind_letters Counter = refl
kind_letters _ = refl

pub word_some : (word : VerbWord) → 0 < length (word_text word)
word_some word.Add = omega arith
word_some _ = omega arith

pub word_letters : (word : VerbWord) → list_all is_ascii_lowercase (word_text word) ≡ true
word_letters word.Add = refl
word_letters _ = refl

-- what is found by its own text
pub kind_found : (kind : Kind) → kind_by_text (kind_text kind) ≡ Some kind
kind_found Counter = refl
kind_found _ = refl

pub word_found : (word : VerbWord) → word_by_text (word_text word) ≡ Some word
word_found word.Add = refl
word_found _ = refl

pub verb_found : (verb : Verb) → verb_by (kind_of_verb verb) (word_of_verb verb) ≡ Some verb
verb_found verb.CounterAdd = refl
verb_found _ = refl

-- `same_kind` decides equality of kinds
pub same_is : (a b : Kind) → same_kind a b ≡ true → b ≡ a
same_is Counter Counter is = refl
same_is Stack Stack is = refl
same_is Tree Tree is = refl
same_is Queue Queue is = refl
same_is _ _ is = absurd cc

pub same_self : (kind : Kind) → same_kind kind kind ≡ true
same_self Counter = refl
same_self _ = refl

pub same_from : (a b : Kind) → a ≡ b → same_kind a b ≡ true
same_from a b is = subst (λ k. same_kind a k ≡ true) is (same_self a)

-- the code tests kinds so
pub same_test_of_kinds : (x y : Kind) → sameb kind.the_type x y ≡ same_kind x y
same_test_of_kinds Counter Counter = refl
same_test_of_kinds Stack Stack = refl
same_test_of_kinds Tree Tree = refl
same_test_of_kinds Queue Queue = refl
same_test_of_kinds _ _ = refl

abbrev or_of : {X : Type 0} → X → Option X → X
or_of other None = other
or_of other (Some x) = x

some_same : {X : Type 0} (x y : X) → Some x ≡ Some y → x ≡ y
some_same x y is = ap (or_of x) is

-- kinds with one text are one, and so are words
pub same_kind_text : (a b : Kind) → kind_text a ≡ kind_text b → a ≡ b
same_kind_text a b is = some_same a b (sym (kind_found a) ∙ ap (λ text. kind_by_text text) is ∙ kind_found b)

pub same_word_text : (a b : VerbWord) → word_text a ≡ word_text b → a ≡ b
same_word_text a b is = some_same a b (sym (word_found a) ∙ ap (λ text. word_by_text text) is ∙ word_found b)

-- what is found passes the test
passes : {X : Type 0} (p : X → Bool) (xs : List X) (x : X) → find p xs ≡ Some x → p x ≡ true
passes p [] x is = cc
passes p (first ∷ xs) x found = step (p first) refl found (passes p xs x) where
  step : (b : Bool) → p first ≡ b → cond b (Some first) (find p xs) ≡ Some x → (find p xs ≡ Some x → p x ≡ true) → p x ≡ true
  step true is found later = ap p (sym (some_same first x found)) ∙ is
  step false is found later = later found

pub bytes_same : (a b : List ℕ) → bytes_eq a b ≡ true → a ≡ b
bytes_same a b is = (bytes_eq-Decides a b).0 is

pub kind_has_text : (text : List ℕ) (kind : Kind) → kind_by_text text ≡ Some kind → kind_text kind ≡ text
kind_has_text text kind is = sym (bytes_same text (kind_text kind) (passes (λ kind. bytes_eq text (kind_text kind)) kinds kind is))

pub word_has_text : (text : List ℕ) (word : VerbWord) → word_by_text text ≡ Some word → word_text word ≡ text
word_has_text text word is = sym (bytes_same text (word_text word) (passes (λ word. bytes_eq text (word_text word)) verb_words word is))

both : (a b : Bool) → (a && b) ≡ true → (a ≡ true) × (b ≡ true)
both true true is = (refl, refl)
both true false is = cc
both false b is = cc

pub verb_has_parts : (kind : Kind) (word : VerbWord) (verb : Verb) → verb_by kind word ≡ Some verb → (kind_of_verb verb ≡ kind) × (word_of_verb verb ≡ word)
verb_has_parts kind word verb is =
    let same = both _ _ (passes (λ verb. same_kind (kind_of_verb verb) kind && same_word (word_of_verb verb) word) verbs verb is) in
    (sym (same_is (kind_of_verb verb) kind same.0), same_word_text (word_of_verb verb) word (bytes_same (word_text (word_of_verb verb)) (word_text word) same.1))
