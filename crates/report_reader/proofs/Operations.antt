-- Operations as a verb, a mark and an argument, and how a text tells them.
use Rattle.std.proofs.Common.{◌≡◌, ℕ, ◌<◌, ◌^◌, Bool, true, false, List, [], ◌++◌, Some, None, refl, sym, ap, subst, ◌∙◌, append_assoc, codes, arith}
use Rattle.std.specs.Prelude.{if◌then◌else◌}
use Rattle.std.specs.Char.{is_ascii_lowercase}
use Rattle.std.specs.Fmt.{decimal}
use Rattle.std.proofs.lemmas.List.{append_cancel_left}
use Rattle.decimals.specs.Runs.{BeginsOutside}
use Rattle.seq_objects.specs.Parts.{verb_of, kind_of, argument_of, has_argument, op_of}
use Rattle.seq_objects.specs.Verbs.{kind_of_verb, word_of_verb, takes_argument, kind_text, word_text, kind_by_text, word_by_text, verb_by}
use Rattle.seq_objects.specs.declared.kind.Kind.{Kind}
use Rattle.seq_objects.specs.Words.{op_words, argument_words}
use Rattle.seq_objects.specs.declared.op.Op.{Op}
use Rattle.seq_objects.specs.declared.verb.Verb.{Verb}
use Rattle.seq_objects.specs.declared.verb.VerbWord.{VerbWord}
use Rattle.seq_objects.proofs.Parts.{verb_given, argument_given, none_carried}
use Rattle.seq_objects.proofs.Verbs.{kind_letters, kind_found, word_letters, word_found, verb_found, verb_has_parts}
use Rattle.report_reader.specs.declared.operation.Spoken.{Spoken}
use Rattle.report_reader.specs.Code.Fields.{IsLettersThen}
use Rattle.report_reader.specs.Code.Objects.{mark_of, IsMarkThen}
use Rattle.report_reader.specs.Code.Operations.{argument_text, spoken_words, IsVerbThen, FitsArgument, IsArgument, ArgumentThen, IsArgumentThen, IsOpThen}
use Rattle.report_reader.proofs.Fields.{small, passes, written_of, NoWords}
use Rattle.report_reader.proofs.Letters.{some_same, word_way}
use Rattle.report_reader.proofs.Marks.{mark_no_letter, mark_way}

-- an operation without its object
abbrev pub spoken_of : Op → Spoken
spoken_of o = record { verb = verb_of o; argument = argument_of o }

pub same_spoken : (v v' : Verb) (n n' : ℕ) → v ≡ v' → n ≡ n' → ◌≡◌ {A = Spoken} (record { verb = v; argument = n }) (record { verb = v'; argument = n' })
same_spoken v v' n n' ev en = cc

-- the words of an operation are those of its parts
whole : (k m b w a rest : List ℕ) → (k ++ (m ++ (b ++ (w ++ a)))) ++ rest ≡ k ++ (m ++ (b ++ (w ++ (a ++ rest))))
whole k m b w a rest = simp append_assoc

argument_parts : (takes : Bool) (n : ℕ) → (if takes then codes " " else []) ++ (if takes then decimal n else []) ≡ argument_text takes n
argument_parts true n = refl
argument_parts false n = refl

pub words_parts : (names : List (List ℕ)) (o : Op) → op_words names o ≡ spoken_words (spoken_of o) (mark_of names o)
words_parts names o =
    let k = kind_text (kind_of o) in
    let w = word_text (word_of_verb (verb_of o)) in
    whole k (mark_of names o) (codes " ") w (if has_argument o then codes " " else []) (argument_words o)
    ∙ ap (λ (t : List ℕ). k ++ (mark_of names o ++ (codes " " ++ (w ++ t)))) (argument_parts (has_argument o) (argument_of o))

-- an argument that fits is carried, and what is carried fits
carried : (takes : Bool) (n : ℕ) → FitsArgument takes n → (if takes then n else 0) ≡ n
carried true n is = refl
carried false n is = sym is

fits_carried : (takes : Bool) (n : ℕ) → n ≡ (if takes then n else 0) → n < 2 ^ 32 → FitsArgument takes n
fits_carried true n same fits = fits
fits_carried false n same fits = same

fits_small : (takes : Bool) (n : ℕ) → FitsArgument takes n → n < 2 ^ 32
fits_small true n is = is
fits_small false n is = omega (arith, is)

pub argument_fits : (o : Op) → argument_of o < 2 ^ 32 → IsArgument (verb_of o) (argument_of o)
argument_fits o fits = fits_carried (has_argument o) (argument_of o) (none_carried o) fits

argument_back : (verb : Verb) (number argument : ℕ) → IsArgument verb argument → argument_of (op_of verb number argument) ≡ argument
argument_back verb number argument is = argument_given verb number argument ∙ carried (takes_argument verb) argument is

pub spoken_back : (verb : Verb) (number argument : ℕ) → IsArgument verb argument → spoken_of (op_of verb number argument) ≡ record { verb = verb; argument = argument }
spoken_back verb number argument is = same_spoken (verb_of (op_of verb number argument)) verb (argument_of (op_of verb number argument)) argument (verb_given verb number argument) (argument_back verb number argument is)

pub argument_small : (verb : Verb) (number argument : ℕ) → IsArgument verb argument → argument_of (op_of verb number argument) < 2 ^ 32
argument_small verb number argument is = omega (arith, argument_back verb number argument is, fits_small (takes_argument verb) argument is)

-- what stands behind each part of an operation
abbrev arrow_from : List ℕ → List ℕ
arrow_from rest = codes " -> " ++ rest

abbrev argument_from : Spoken → List ℕ → List ℕ
argument_from spoken rest = argument_text (takes_argument spoken.verb) spoken.argument ++ arrow_from rest

abbrev word_from : Spoken → List ℕ → List ℕ
word_from spoken rest = word_text (word_of_verb spoken.verb) ++ argument_from spoken rest

abbrev verb_from : Spoken → List ℕ → List ℕ
verb_from spoken rest = codes " " ++ word_from spoken rest

-- the argument behind a verb
argument_ends : (takes : Bool) (n : ℕ) (rest : List ℕ) → BeginsOutside is_ascii_lowercase (argument_text takes n ++ arrow_from rest)
argument_ends true n rest = refl
argument_ends false n rest = refl

argument_at : (takes : Bool) (n : ℕ) (rest : List ℕ) → FitsArgument takes n → ArgumentThen takes (argument_text takes n ++ arrow_from rest) n (arrow_from rest)
argument_at true n rest is = record { behind = decimal n ++ arrow_from rest; starts = refl; read = record { written = refl; ends = refl; within = omega (arith, is) } }
argument_at false n rest is = (is, refl)

argument_way : (takes : Bool) (text : List ℕ) (m n : ℕ) (r s : List ℕ) → ArgumentThen takes text m r → ArgumentThen takes text n s → (m ≡ n) × (r ≡ s)
argument_way true text m n r s a b = passes b small m r a.read.within a.read.ends (written_of a)
argument_way false text m n r s a b = (a.0 ∙ sym b.0, a.1 ∙ sym b.1)

argument_written : (takes : Bool) (text : List ℕ) (n : ℕ) (rest : List ℕ) → ArgumentThen takes text n rest → argument_text takes n ++ rest ≡ text
argument_written true text n rest is = written_of is
argument_written false text n rest is = is.1

argument_is : (takes : Bool) (text : List ℕ) (n : ℕ) (rest : List ℕ) → ArgumentThen takes text n rest → FitsArgument takes n
argument_is true text n rest is = omega (arith, is.read.within)
argument_is false text n rest is = is.0

pub argument_bound : (verb : Verb) (text : List ℕ) (n : ℕ) (rest : List ℕ) → IsArgumentThen verb text n rest → n < 2 ^ 32
argument_bound verb text n rest is = fits_small (takes_argument verb) n (argument_is (takes_argument verb) text n rest is)

-- the words of a verb, step by step
same_verb : (verb verb' : Verb) → kind_of_verb verb ≡ kind_of_verb verb' → word_of_verb verb ≡ word_of_verb verb' → verb ≡ verb'
same_verb verb verb' kind word = some_same verb verb' (sym (verb_found verb) ∙ (λ i. verb_by (kind i) (word i)) ∙ verb_found verb')

verb_word_way : (text : List ℕ) (a b : VerbWord) (r s : List ℕ) → IsLettersThen (word_text a) text r → IsLettersThen (word_text b) text s → (a ≡ b) × (r ≡ s)
verb_word_way = word_way (λ word. word_text word) (λ text. word_by_text text) word_letters word_found

module _ {kind : Kind} {text : List ℕ} {verb : Verb} {rest : List ℕ} (is : IsVerbThen kind text verb rest) where
  pub no_blank : NoWords (codes " ") text → ⊥
  no_blank none = none is.behind is.starts

  module _ {t1 : List ℕ} (blank : codes " " ++ t1 ≡ text) where
    at_word : IsLettersThen (word_text (word_of_verb verb)) t1 rest
    at_word = subst (λ (t : List ℕ). IsLettersThen (word_text (word_of_verb verb)) t rest) (append_cancel_left (codes " ") is.behind t1 (is.starts ∙ sym blank)) is.word

    pub no_verb_word : ((word : VerbWord) (more : List ℕ) → IsLettersThen (word_text word) t1 more → ⊥) → ⊥
    no_verb_word none = none (word_of_verb verb) rest at_word

    pub no_verb_by : (word : VerbWord) {t2 : List ℕ} → IsLettersThen (word_text word) t1 t2 → verb_by kind word ≡ None → ⊥
    no_verb_by word {t2 = t2} read none =
        let same = (verb_word_way t1 (word_of_verb verb) word rest t2 at_word read).0 in
        let some : Some verb ≡ None = sym (verb_found verb) ∙ (λ i. verb_by (is.own i) (same i)) ∙ none in
        cc (some)

pub verb_read : {kind : Kind} (word : VerbWord) {verb : Verb} {text t1 rest : List ℕ} → codes " " ++ t1 ≡ text → IsLettersThen (word_text word) t1 rest → verb_by kind word ≡ Some verb → IsVerbThen kind text verb rest
verb_read {kind = kind} word {verb = verb} {t1 = t1} {rest = rest} blank read by =
    let parts = verb_has_parts kind word verb by in
    record {
      behind = t1;
      starts = blank;
      word = subst (λ (w : VerbWord). IsLettersThen (word_text w) t1 rest) (sym parts.1) read;
      own = parts.0;
    }

-- two verbs of one kind at the front of one text are one, with one rest
verb_way : (kind : Kind) (text : List ℕ) (verb verb' : Verb) (r s : List ℕ) → IsVerbThen kind text verb r → IsVerbThen kind text verb' s → (verb ≡ verb') × (r ≡ s)
verb_way kind text verb verb' r s a b =
    let words = verb_word_way b.behind (word_of_verb verb) (word_of_verb verb') r s (at_word a b.starts) b.word in
    (same_verb verb verb' (a.own ∙ sym b.own) words.0, words.1)

-- kind word, mark, verb, argument and arrow make an operation
pub op_read : {kind : Kind} {verb : Verb} {n : ℕ} {text t1 mark t2 t3 t4 rest : List ℕ} → IsLettersThen (kind_text kind) text t1 → IsMarkThen t1 mark t2 → IsVerbThen kind t2 verb t3
    → IsArgumentThen verb t3 n t4 → arrow_from rest ≡ t4 → IsOpThen text (record { verb = verb; argument = n }) mark rest
op_read {kind = kind} {verb = verb} {n = n} {text = text} {t1 = t1} {mark = mark} {t2 = t2} {t3 = t3} {t4 = t4} {rest = rest} first marked read argument arrow =
    let k = kind_text (kind_of_verb verb) in
    let w = word_text (word_of_verb verb) in
    let a = argument_text (takes_argument verb) n in
    record {
      written =
          whole k mark (codes " ") w a (arrow_from rest)
          ∙ ap (λ (t : List ℕ). k ++ (mark ++ (codes " " ++ (w ++ (a ++ t))))) arrow
          ∙ ap (λ (t : List ℕ). k ++ (mark ++ (codes " " ++ (w ++ t)))) (argument_written (takes_argument verb) t3 n t4 argument)
          ∙ ap (λ (t : List ℕ). k ++ (mark ++ (codes " " ++ t))) read.word.written
          ∙ ap (λ (t : List ℕ). k ++ (mark ++ t)) read.starts
          ∙ ap (λ (t : List ℕ). k ++ t) marked.parts
          ∙ ap (λ k. kind_text k ++ t1) read.own ∙ first.written;
      marked = marked.marked;
      argument = argument_is (takes_argument verb) t3 n t4 argument;
    }

-- where one step of an operation does not read, there is none
module _ {text : List ℕ} {spoken : Spoken} {mark rest : List ℕ} (is : IsOpThen text spoken mark rest) where
  at_kind : IsLettersThen (kind_text (kind_of_verb spoken.verb)) text (mark ++ verb_from spoken rest)
  at_kind = record {
    written = sym (whole (kind_text (kind_of_verb spoken.verb)) mark (codes " ") (word_text (word_of_verb spoken.verb)) (argument_text (takes_argument spoken.verb) spoken.argument) (arrow_from rest)) ∙ is.written;
    ends = mark_no_letter mark (verb_from spoken rest) is.marked refl;
  }

  pub no_kind : ((kind : Kind) (more : List ℕ) → IsLettersThen (kind_text kind) text more → ⊥) → ⊥
  no_kind none = none (kind_of_verb spoken.verb) (mark ++ verb_from spoken rest) at_kind

  module _ (kind : Kind) {t1 : List ℕ} (first : IsLettersThen (kind_text kind) text t1) where
    kind_same : (kind_of_verb spoken.verb ≡ kind) × (mark ++ verb_from spoken rest ≡ t1)
    kind_same = word_way (λ kind. kind_text kind) (λ text. kind_by_text text) kind_letters kind_found text (kind_of_verb spoken.verb) kind (mark ++ verb_from spoken rest) t1 at_kind first

    at_mark : IsMarkThen t1 mark (verb_from spoken rest)
    at_mark = record { parts = kind_same.1; marked = is.marked; ends = refl }

    pub no_mark : ((mark more : List ℕ) → IsMarkThen t1 mark more → ⊥) → ⊥
    no_mark none = none mark (verb_from spoken rest) at_mark

    module _ {mark' t2 : List ℕ} (marked : IsMarkThen t1 mark' t2) where
      pub mark_same : (mark ≡ mark') × (verb_from spoken rest ≡ t2)
      mark_same = mark_way t1 mark mark' (verb_from spoken rest) t2 at_mark marked

      at_verb : IsVerbThen kind t2 spoken.verb (argument_from spoken rest)
      at_verb = record {
        behind = word_from spoken rest;
        starts = mark_same.1;
        word = record { written = refl; ends = argument_ends (takes_argument spoken.verb) spoken.argument rest };
        own = kind_same.0;
      }

      pub no_verb : ((verb : Verb) (more : List ℕ) → IsVerbThen kind t2 verb more → ⊥) → ⊥
      no_verb none = none spoken.verb (argument_from spoken rest) at_verb

      module _ {verb : Verb} {t3 : List ℕ} (read : IsVerbThen kind t2 verb t3) where
        verb_same : (spoken.verb ≡ verb) × (argument_from spoken rest ≡ t3)
        verb_same = verb_way kind t2 spoken.verb verb (argument_from spoken rest) t3 at_verb read

        at_argument : IsArgumentThen verb t3 spoken.argument (arrow_from rest)
        at_argument =
            subst (λ v. IsArgumentThen v t3 spoken.argument (arrow_from rest)) verb_same.0
            (subst (λ (t : List ℕ). IsArgumentThen spoken.verb t spoken.argument (arrow_from rest)) verb_same.1 (argument_at (takes_argument spoken.verb) spoken.argument rest is.argument))

        pub no_argument : ((n : ℕ) (more : List ℕ) → IsArgumentThen verb t3 n more → ⊥) → ⊥
        no_argument none = none spoken.argument (arrow_from rest) at_argument

        pub argument_same : (n : ℕ) {t4 : List ℕ} → IsArgumentThen verb t3 n t4 → (spoken.argument ≡ n) × (arrow_from rest ≡ t4)
        argument_same n {t4 = t4} argument = argument_way (takes_argument verb) t3 spoken.argument n (arrow_from rest) t4 at_argument argument

        pub no_arrow : (n : ℕ) {t4 : List ℕ} → IsArgumentThen verb t3 n t4 → ((more : List ℕ) → arrow_from more ≡ t4 → ⊥) → ⊥
        no_arrow n argument none = none rest (argument_same n argument).1

-- two operations at the front of one text are one, with one mark and one rest
pub one_op : (text : List ℕ) (a b : Spoken) (mark mark' rest rest' : List ℕ) → IsOpThen text a mark rest → IsOpThen text b mark' rest' → (a ≡ b) × (mark ≡ mark') × (rest ≡ rest')
one_op text a b mark mark' rest rest' is is' =
    let k' = kind_of_verb b.verb in
    let first = at_kind is' in
    let marked = at_mark is' k' first in
    let verb = at_verb is' k' first marked in
    let argument = argument_same is k' first marked verb b.argument (argument_at (takes_argument b.verb) b.argument rest' is'.argument) in
    (same_spoken a.verb b.verb a.argument b.argument (verb_same is k' first marked verb).0 argument.0, (mark_same is k' first marked).0, append_cancel_left (codes " -> ") rest rest' argument.1)
