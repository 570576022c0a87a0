-- The tokens that are the words of kinds and verbs, and the word of a kind with a name.
use Rattle.std.proofs.Common.{◌≡◌, ℕ, List, [], ◌∷◌, ◌++◌, Bool, true, false, Option, Some, None, take, drop, codes, refl, sym, ap, ◌∙◌, eqb-true, true≢false}
use Rattle.std.specs.Prelude.{◌&&◌, ◌==◌, if◌then◌else◌, IsTrue, IfSome, option_map, unwrap_or}
use Rattle.std.specs.Option.{option_or}
use Rattle.std.specs.List.{find}
use Rattle.std.specs.Str.{bytes_eq}
use Rattle.job_names.specs.declared.name.Name.{Name}
use Rattle.job_names.specs.Names.{is_spelled, name_of}
use Rattle.seq_objects.specs.declared.verb.VerbWord.{VerbWord}
use Rattle.seq_objects.specs.declared.verb.VerbWord.TheVariants as word
use Rattle.seq_objects.specs.declared.verb.Verb.{Verb as ObjectVerb}
use Rattle.seq_objects.specs.declared.verb.Verb.TheVariants.{CounterAdd}
use Rattle.seq_objects.specs.declared.kind.Kind.TheVariants.{Counter}
use Rattle.seq_objects.specs.declared.kind.Kind.{Kind}
use Rattle.seq_objects.specs.Verbs.{kind_of_verb, verbs, kind_text, word_text, kind_by_text, word_by_text, same_kind}
use Rattle.job_syntax.specs.declared.lexer.word.Word.{Word}
use Rattle.job_syntax.specs.declared.lexer.word.Word.TheVariants.{Open, Close, Work, Object, Verb, Seq, Par, For, Pfor, Let, Equals, Number, Copies, Named, Other}
use Rattle.job_syntax.specs.Words.{are_digits, number_of, before_first, behind_first, copies_word, kind_named, kind_word, object_word, argument_word, own_word, table_word, quoted_word, word_of, IsKindWord}
use Rattle.seq_objects.proofs.Verbs.{kind_has_text}

-- the name that a word has
abbrev name_in : Word → Option Name
name_in (Object kind name) = name
name_in _ = None

-- no quoted word has a name
abbrev Nameless : Option Word → Type 0
Nameless found = IfSome found (λ word. name_in word ≡ None)

chosen : (test : Bool) (word : Word) (others : Option Word) → name_in word ≡ None → Nameless others → Nameless (if test then Some word else others)
chosen true word others none more = none
chosen false word others none more = more

own_nameless : (text : List ℕ) → Nameless (own_word text)
own_nameless text =
    chosen (bytes_eq text (codes "{")) Open _ refl
    (chosen (bytes_eq text (codes "}")) Close _ refl
    (chosen (bytes_eq text (codes "work")) Work _ refl
    (chosen (bytes_eq text (codes "seq")) Seq _ refl
    (chosen (bytes_eq text (codes "par")) Par _ refl
    (chosen (bytes_eq text (codes "for")) For _ refl
    (chosen (bytes_eq text (codes "pfor")) Pfor _ refl
    (chosen (bytes_eq text (codes "let")) Let _ refl
    (chosen (bytes_eq text (codes "=")) Equals None refl tt))))))))

table_nameless : (kind : Option Kind) (verb : Option VerbWord) → Nameless (option_or (option_map (λ kind. Object kind None) kind) (option_map (λ verb. Verb verb) verb))
table_nameless (Some kind) verb = refl
table_nameless None (Some verb) = refl
table_nameless None None = tt

either_nameless : (first second : Option Word) → Nameless first → Nameless second → Nameless (option_or first second)
either_nameless (Some word) second none more = none
either_nameless None second none more = more

behind_quoted : {kind : Kind} {name : Name} (found : Option Word) (other : Word) → Nameless found → unwrap_or found other ≡ Object kind (Some name) → other ≡ Object kind (Some name)
behind_quoted (Some word) other none e = absurd (cc (e, none))
behind_quoted None other none e = e

-- a test that chooses a word without a name has failed
passed : {kind : Kind} {name : Name} (test : Bool) (answer remaining : Word) → name_in answer ≡ None → (if test then answer else remaining) ≡ Object kind (Some name) → remaining ≡ Object kind (Some name)
passed true answer remaining none e = absurd (cc (e, none))
passed false answer remaining none e = e

copies_no_name : (test : Bool) (by : Option (ℕ × ℕ)) → name_in (if test then Copies by else Other) ≡ None
copies_no_name true by = refl
copies_no_name false by = refl

behind_argument : {kind : Kind} {name : Name} (text : List ℕ) → argument_word text ≡ Object kind (Some name) → object_word text ≡ Object kind (Some name)
behind_argument text e =
    passed (is_spelled text) (Named (name_of text)) _ refl
    (passed (bytes_eq (take 2 text) (codes "@*")) (copies_word (drop 2 text)) _ (copies_no_name _ _)
    (passed (bytes_eq text (codes "@")) (Copies (Some (1, 0))) _ refl
    (passed (are_digits text) (Number (number_of text)) _ refl e)))

-- the text before the colon is that of the kind, and the name is the word's
made : {kind : Kind} {name : Name} (front : List ℕ) (given : Name) (found : Option Kind) → kind_by_text front ≡ found → kind_named found given ≡ Object kind (Some name) → (kind_text kind ≡ front) × (given ≡ name)
made {kind} {name} front given (Some own) is e =
    let same : own ≡ kind = cc e in
    let named : given ≡ name = cc e in
    (kind_has_text front kind (is ∙ ap Some same), named)
made front given None is e = absurd (cc e)

-- a text with a name behind its first colon is the bytes before it, the colon, and the name
cut_at : (byte : ℕ) (text : List ℕ) (colon : Bool) → (byte == 58) ≡ colon →
    (IsTrue (is_spelled (behind_first 58 text)) → text ≡ before_first 58 text ++ 58 ∷ behind_first 58 text) →
    IsTrue (is_spelled (if colon then text else behind_first 58 text)) →
    byte ∷ text ≡ (if colon then [] else byte ∷ before_first 58 text) ++ 58 ∷ (if colon then text else behind_first 58 text)
cut_at byte text true is later spelled = ap (λ first. first ∷ text) (eqb-true byte 58 is)
cut_at byte text false is later spelled = ap (λ rest. byte ∷ rest) (later spelled)

cut : (text : List ℕ) → IsTrue (is_spelled (behind_first 58 text)) → text ≡ before_first 58 text ++ 58 ∷ behind_first 58 text
cut [] spelled = absurd (true≢false (sym spelled))
cut (byte ∷ text) spelled = cut_at byte text (byte == 58) refl (λ later. cut text later) spelled

answer_name : {kind : Kind} {name : Name} (test : Bool) (answer : Word) → (if test then answer else Other) ≡ Object kind (Some name) → (test ≡ true) × (answer ≡ Object kind (Some name))
answer_name true answer e = (refl, e)
answer_name false answer e = absurd (cc e)

-- a token that says a kind with a name is the kind's word, a colon, and the name
spells : {kind : Kind} {name : Name} (text : List ℕ) → word_of text ≡ Object kind (Some name) →
    (spelled : List ℕ) × (text ≡ kind_text kind ++ 58 ∷ spelled) × IsTrue (is_spelled spelled) × (name ≡ name_of spelled)
spells text e =
    let front = before_first 58 text in
    let behind = behind_first 58 text in
    let none = either_nameless (own_word text) (table_word text) (own_nameless text) (table_nameless (kind_by_text text) (word_by_text text)) in
    let parts = answer_name (is_spelled behind) (kind_word front (name_of behind)) (behind_argument text (behind_quoted (quoted_word text) (argument_word text) none e)) in
    let is = made front (name_of behind) (kind_by_text front) refl parts.1 in
    (behind, cut text parts.0 ∙ ap (λ kind. kind ++ 58 ∷ behind) (sym is.0), parts.0, sym is.1)

-- the words of the table, as tokens
and_false : (b : Bool) → (b && false) ≡ false
and_false true = refl
and_false false = refl

named_said : (kind : Kind) (name : List ℕ) → IsTrue (is_spelled name) → word_of (kind_text kind ++ 58 ∷ name) ≡ Object kind (Some (name_of name))
named_said Counter name spelled = simp (and_false, spelled) refl
named_said _ name spelled = simp (and_false, spelled) refl

pub kind_takes_names : (kind : Kind) → IsKindWord kind
kind_takes_names kind = record { said = λ name spelled. named_said kind name spelled; alone = λ text name e. spells text e }

pub kind_said : (kind : Kind) → word_of (kind_text kind) ≡ Object kind None
kind_said Counter = refl
kind_said _ = refl

pub verb_said : (spelled : VerbWord) → word_of (word_text spelled) ≡ Verb spelled
verb_said word.Add = refl
verb_said _ = refl

-- each kind has a verb
abbrev pub verb_for : Kind → ObjectVerb
verb_for kind = unwrap_or (find (λ verb. same_kind (kind_of_verb verb) kind) verbs) CounterAdd

pub verb_for_kind : (kind : Kind) → kind_of_verb (verb_for kind) ≡ kind
verb_for_kind Counter = refl
verb_for_kind _ = refl
