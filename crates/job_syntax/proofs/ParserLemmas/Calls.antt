-- What the grammar asks of calls, and what is begun before the argument of a leaf.
use Rattle.std.proofs.Common.{◌≡◌, List, [], ◌∷◌, ◌++◌, Bool, true, false, Option, Some, None, refl, subst}
use Rattle.std.specs.Prelude.{IsTrue}
use Rattle.job_names.specs.declared.name.Name.{Name}
use Rattle.job_names.specs.Scopes.{Scope}
use Rattle.seq_objects.specs.Verbs.{takes_argument}
use Rattle.job_syntax.specs.declared.lexer.word.Word.{Word}
use Rattle.job_syntax.specs.declared.lexer.word.Word.TheVariants.{Named}
use Rattle.job_syntax.specs.declared.parser.call.Operator.{Operator}
use Rattle.job_syntax.specs.declared.parser.call.Operator.TheVariants as operator
use Rattle.job_syntax.specs.Grammar.{Leaf, work, call, bound, leaf_words, FitsVerb, IsCall, IsLeaf}
use Rattle.job_syntax.specs.Arguments.{name_in, name_used}
use Rattle.job_syntax.specs.Code.Shown.{is_shown, IsShownWord, IsShownLeaf}
use Rattle.job_syntax.specs.Code.Reached.{IsGiven}
use Rattle.job_syntax.proofs.ParserLemmas.Seen.{begun_words}

pub call_is_leaf : (looped : Bool) (leaf : Leaf) → IsCall looped leaf → IsLeaf looped leaf
call_is_leaf looped (call verb object argument) is = is
call_is_leaf looped (work argument) is = elim is [ ]
call_is_leaf looped (bound name given) is = elim is [ ]

-- the verb of a call with an argument takes one
pub verb_takes : (looped takes : Bool) (argument : Word) → FitsVerb looped takes (Some argument) → takes ≡ true
verb_takes looped true argument fits = refl
verb_takes looped false argument fits = elim fits [ ]

-- the words of a leaf with an argument: what is begun, and the argument
pub record IsBegun (leaf : Leaf) : Type 0 where
  pub given : Option Name
  pub op : Operator
  pub argument : Word
  pub fits : IsGiven given op
  pub is : leaf_words leaf ≡ begun_words given op ++ argument ∷ []

begun_call : (name : Name) (leaf : Leaf) (used : Name) → IsCall true leaf → name_used leaf ≡ Some used → IsBegun (bound name leaf)
begun_call name (call verb object (Some w)) used is e =
    record { given = Some name; op = operator.Call verb object; argument = w; fits = verb_takes true (takes_argument verb) w is; is = refl }
begun_call name (call verb object None) used is e = cc
begun_call name (work w) used is e = elim is [ ]
begun_call name (bound other leaf) used is e = elim is [ ]

pub begun : (leaf : Leaf) (used : Name) → IsLeaf true leaf → name_used leaf ≡ Some used → IsBegun leaf
begun (work w) used is e = record { given = None; op = operator.Work; argument = w; fits = tt; is = refl }
begun (call verb object (Some w)) used is e =
    record { given = None; op = operator.Call verb object; argument = w; fits = verb_takes true (takes_argument verb) w is; is = refl }
begun (call verb object None) used is e = cc
begun (bound name leaf) used is e = begun_call name leaf used is e

-- a name that is used and shown
word_shown : (scope : Scope) (argument : Word) (name : Name) → IsShownWord scope argument → name_in (Some argument) ≡ Some name → IsTrue (is_shown name scope)
word_shown scope (Named other) name h e = let same : other ≡ name = cc in subst (λ n. IsTrue (is_shown n scope)) same h
word_shown scope _ name h e = cc

pub used_shown : (scope : Scope) (leaf : Leaf) (name : Name) → IsShownLeaf scope leaf → name_used leaf ≡ Some name → IsTrue (is_shown name scope)
used_shown scope (work argument) name h e = word_shown scope argument name h e
used_shown scope (call verb object (Some argument)) name h e = word_shown scope argument name h e
used_shown scope (call verb object None) name h e = cc
used_shown scope (bound given leaf) name h e = used_shown scope leaf name h e
