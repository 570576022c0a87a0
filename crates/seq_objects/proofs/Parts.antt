-- An operation is put together from its parts, and taken apart into them.
use Rattle.std.proofs.Common.{◌≡◌, ℕ, if◌then◌else◌, refl, sym, ap, subst, ◌∙◌}
use Rattle.seq_objects.specs.declared.op.Op.{Op}
use Rattle.seq_objects.specs.declared.op.Op.TheVariants.{CounterAdd}
use Rattle.seq_objects.specs.declared.verb.Verb.{Verb}
use Rattle.seq_objects.specs.declared.verb.Verb.TheVariants as verb
use Rattle.seq_objects.specs.Verbs.{kind_of_verb, takes_argument}
use Rattle.seq_objects.specs.Parts.{verb_of, number_of, argument_of, op_of, kind_of, has_argument, with_number, with_argument}

pub whole : (op : Op) → op_of (verb_of op) (number_of op) (argument_of op) ≡ op
whole (CounterAdd number addend) = refl
whole _ = refl

pub verb_given : (verb : Verb) (number argument : ℕ) → verb_of (op_of verb number argument) ≡ verb
verb_given verb.CounterAdd number argument = refl
verb_given _ number argument = refl

pub number_given : (verb : Verb) (number argument : ℕ) → number_of (op_of verb number argument) ≡ number
number_given verb.CounterAdd number argument = refl
number_given _ number argument = refl

pub argument_given : (verb : Verb) (number argument : ℕ) → argument_of (op_of verb number argument) ≡ (if takes_argument verb then argument else 0)
argument_given verb.CounterAdd number argument = refl
argument_given _ number argument = refl

-- a verb without argument ignores it
pub argument_left_out : (verb : Verb) (number argument : ℕ) → op_of verb number (if takes_argument verb then argument else 0) ≡ op_of verb number argument
argument_left_out verb number argument =
    sym (λ i. op_of (verb_given verb number argument i) (number_given verb number argument i) (argument_given verb number argument i))
    ∙ whole (op_of verb number argument)

-- induction by the verb
pub by_verb : (P : Op → Type 0) → ((verb : Verb) (number argument : ℕ) → P (op_of verb number argument)) → (op : Op) → P op
by_verb P each op = subst P (whole op) (each (verb_of op) (number_of op) (argument_of op))

-- two operations are one where their parts are
pub same_parts : (a b : Op) → verb_of a ≡ verb_of b → number_of a ≡ number_of b → argument_of a ≡ argument_of b → a ≡ b
same_parts a b verb number argument = sym (whole a) ∙ (λ i. op_of (verb i) (number i) (argument i)) ∙ whole b

-- another number or another argument leaves the other parts
pub kind_given : (verb : Verb) (number argument : ℕ) → kind_of (op_of verb number argument) ≡ kind_of_verb verb
kind_given verb number argument = ap (λ v. kind_of_verb v) (verb_given verb number argument)

pub takes_given : (verb : Verb) (number argument : ℕ) → has_argument (op_of verb number argument) ≡ takes_argument verb
takes_given verb number argument = ap (λ v. takes_argument v) (verb_given verb number argument)

pub none_carried : (op : Op) → argument_of op ≡ (if has_argument op then argument_of op else 0)
none_carried op = ap (λ o. argument_of o) (sym (whole op)) ∙ argument_given (verb_of op) (number_of op) (argument_of op)

pub number_leaves_argument : (op : Op) (number : ℕ) → argument_of (with_number op number) ≡ argument_of op
number_leaves_argument op number = argument_given (verb_of op) number (argument_of op) ∙ sym (none_carried op)

-- an operation on another object
pub number_changed : (op : Op) (number : ℕ) → number_of (with_number op number) ≡ number
number_changed op number = number_given (verb_of op) number (argument_of op)

pub number_leaves_verb : (op : Op) (number : ℕ) → verb_of (with_number op number) ≡ verb_of op
number_leaves_verb op number = verb_given (verb_of op) number (argument_of op)

pub number_leaves_kind : (op : Op) (number : ℕ) → kind_of (with_number op number) ≡ kind_of op
number_leaves_kind op number = kind_given (verb_of op) number (argument_of op)

pub number_leaves_taking : (op : Op) (number : ℕ) → has_argument (with_number op number) ≡ has_argument op
number_leaves_taking op number = takes_given (verb_of op) number (argument_of op)

pub own_number : (op : Op) → with_number op (number_of op) ≡ op
own_number op = whole op

pub number_twice : (op : Op) (first second : ℕ) → with_number (with_number op first) second ≡ with_number op second
number_twice (CounterAdd number addend) first second = refl
number_twice _ first second = refl

-- an operation with another argument
pub argument_leaves_number : (op : Op) (argument : ℕ) → number_of (with_argument op argument) ≡ number_of op
argument_leaves_number op argument = number_given (verb_of op) (number_of op) argument

pub argument_leaves_kind : (op : Op) (argument : ℕ) → kind_of (with_argument op argument) ≡ kind_of op
argument_leaves_kind op argument = kind_given (verb_of op) (number_of op) argument

pub argument_leaves_taking : (op : Op) (argument : ℕ) → has_argument (with_argument op argument) ≡ has_argument op
argument_leaves_taking op argument = takes_given (verb_of op) (number_of op) argument
