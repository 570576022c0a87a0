-- A text has one reading: the elements that a reader of XML finds in it are determined by its bytes.
use Rattle.std.proofs.Common.{ℕ, ◌≡◌, ◌≢◌, Bool, true, false, List, [], ◌∷◌, ◌++◌, get_or, refl, sym, ap, subst, ◌∙◌, append_assoc, append-nil, arith}
use Rattle.std.specs.Prelude.{codes, IsTrue, ◌||◌, ◌==◌, not}
use Rattle.std.specs.List.{list_all, AllByRecursion}
use Rattle.std.proofs.lemmas.Bool.{and_parts, eqb-true}
use Rattle.std.proofs.lemmas.List.{append_cancel_left}
use Rattle.seq_objects.proofs.Elements.{each_append}
use Rattle.report_picture.specs.Elements.{Given, Elements, NoElements, An}
use Rattle.report_picture.specs.WellFormed.{IsEntity, amp, lt, gt, quot, apos, AreWords, no_words, plain, named, is_letter, is_name, AreAttributes, no_attributes, another, AreContents, no_contents, some_words, element}

-- the byte is not `<`, and no quote
record IsClean (byte : ℕ) : Type 0 where
  less : byte ≢ 60
  quote : not (byte == 34) ≡ true

tests_apart : (a b : ℕ) (same : Bool) → (a == b) ≡ same → a ≢ b → not same ≡ true
tests_apart a b true is differ = absurd (differ (eqb-true a b is))
tests_apart a b false is differ = refl

clean : (byte : ℕ) → byte ≢ 60 → byte ≢ 34 → IsClean byte
clean byte less quote = record { less = less; quote = tests_apart byte 34 (byte == 34) refl quote }

known : (byte : ℕ) → not (byte == 60) ≡ true → not (byte == 34) ≡ true → IsClean byte
known byte less quote = record { less = λ is. (let same : not (60 == 60) ≡ true = subst (λ b. not (b == 60) ≡ true) is less in cc (same)); quote = quote }

clean_entity : (entity : List ℕ) → IsEntity entity → AllByRecursion IsClean entity
clean_entity entity amp = (known 38 refl refl, (known 97 refl refl, (known 109 refl refl, (known 112 refl refl, (known 59 refl refl, tt)))))
clean_entity entity lt = (known 38 refl refl, (known 108 refl refl, (known 116 refl refl, (known 59 refl refl, tt))))
clean_entity entity gt = (known 38 refl refl, (known 103 refl refl, (known 116 refl refl, (known 59 refl refl, tt))))
clean_entity entity quot = (known 38 refl refl, (known 113 refl refl, (known 117 refl refl, (known 111 refl refl, (known 116 refl refl, (known 59 refl refl, tt))))))
clean_entity entity apos = (known 38 refl refl, (known 97 refl refl, (known 112 refl refl, (known 111 refl refl, (known 115 refl refl, (known 59 refl refl, tt))))))

clean_words : (bytes : List ℕ) → AreWords bytes → AllByRecursion IsClean bytes
clean_words bytes no_words = tt
clean_words bytes (plain byte rest is are) = (clean byte is.less is.quote, clean_words rest are)
clean_words bytes (named entity rest is are) = each_append IsClean entity rest (clean_entity entity is) (clean_words rest are)

-- a list of bytes that pass a test, and the rest, which begins with one that does not, are told apart in one way
module _ (test : ℕ → Bool) where
  abbrev Pass : List ℕ → Type 0
  Pass bytes = AllByRecursion (λ byte. test byte ≡ true) bytes

  abbrev Fails : List ℕ → Type 0
  Fails [] = ⊥
  Fails (byte ∷ bytes) = test byte ≡ false

  not_both : (bytes rest : List ℕ) (byte : ℕ) → Fails rest → rest ≡ byte ∷ bytes → test byte ≡ true → ⊥
  not_both bytes rest byte fails is passes = let no : test byte ≡ false = subst Fails is fails in cc (no, passes)

  pub apart : (front front' rest rest' : List ℕ) → Pass front → Pass front' → Fails rest → Fails rest' → front ++ rest ≡ front' ++ rest' → (front ≡ front') × (rest ≡ rest')
  apart [] [] rest rest' pass pass' fails fails' is = (refl, is)
  apart [] (byte ∷ front') rest rest' pass pass' fails fails' is = absurd (not_both (front' ++ rest') rest byte fails is pass'.0)
  apart (byte ∷ front) [] rest rest' pass pass' fails fails' is = absurd (not_both (front ++ rest) rest' byte fails' (sym is) pass.0)
  apart (byte ∷ front) (byte' ∷ front') rest rest' pass pass' fails fails' is =
      let first : byte ≡ byte' = cc (is) in
      let tail : front ++ rest ≡ front' ++ rest' = cc (is) in
      let more = apart front front' rest rest' pass.1 pass'.1 fails fails' tail in
      (cc (first, more.0), more.1)

abbrev in_name : ℕ → Bool
in_name byte = is_letter byte || (byte == 45)

abbrev no_quote : ℕ → Bool
no_quote byte = not (byte == 34)

all_letters : (bytes : List ℕ) → list_all in_name bytes ≡ true → Pass in_name bytes
all_letters [] are = tt
all_letters (byte ∷ bytes) are = let parts = and_parts (in_name byte) (list_all in_name bytes) are in (parts.0, all_letters bytes parts.1)

name_letters : (name : List ℕ) → IsTrue (is_name name) → Pass in_name name
name_letters [] is = cc (is)
name_letters (first ∷ rest) is =
    let parts = and_parts (is_letter first) (list_all in_name rest) is in
    (ap (λ b. b || (first == 45)) parts.0, all_letters rest parts.1)

unquoted : (bytes : List ℕ) → AllByRecursion IsClean bytes → Pass no_quote bytes
unquoted [] are = tt
unquoted (byte ∷ bytes) are = (are.0.quote, unquoted bytes are.1)

-- attributes with the end of their tag are told in one way

six : (a b c d e rest more : List ℕ) → (a ++ (b ++ (c ++ (d ++ (e ++ rest))))) ++ more ≡ a ++ (b ++ (c ++ (d ++ (e ++ (rest ++ more)))))
six a b c d e rest more = simp append_assoc

attribute_parts : (n v rest more : List ℕ) → (codes " " ++ (n ++ (codes "=\"" ++ (v ++ (codes "\"" ++ rest))))) ++ more ≡ codes " " ++ (n ++ (codes "=\"" ++ (v ++ (codes "\"" ++ (rest ++ more)))))
attribute_parts n v rest more = six (codes " ") n (codes "=\"") v (codes "\"") rest more

same_given : (n n' v v' : List ℕ) (given given' : List Given) → n ≡ n' → v ≡ v' → given ≡ given' → ◌≡◌ {A = List Given} (record { name = n; value = v } ∷ given) (record { name = n'; value = v' } ∷ given')
same_given n n' v v' given given' a b c = cc

attributes_apart : (a a' t t' : List ℕ) (given given' : List Given) → AreAttributes a given → AreAttributes a' given' → a ++ (codes ">" ++ t) ≡ a' ++ (codes ">" ++ t') → (given ≡ given') × (t ≡ t')
attributes_apart a a' t t' given given' no_attributes no_attributes is = (refl, append_cancel_left (codes ">") t t' is)
attributes_apart a a' t t' given given' no_attributes (another n v rest others name new words more) is =
    let first : 62 ≡ 32 = ap (λ (text : List ℕ). get_or text 0 0) is in absurd (omega (arith, first))
attributes_apart a a' t t' given given' (another n v rest others name new words more) no_attributes is =
    let first : 32 ≡ 62 = ap (λ (text : List ℕ). get_or text 0 0) is in absurd (omega (arith, first))
attributes_apart a a' t t' given given' (another n v rest others name new words more) (another n' v' rest' others' name' new' words' more') is =
    let end = codes ">" ++ t in
    let end' = codes ">" ++ t' in
    let whole = append_cancel_left (codes " ") _ _ (sym (attribute_parts n v rest end) ∙ is ∙ attribute_parts n' v' rest' end') in
    let names = apart in_name n n' (codes "=\"" ++ (v ++ (codes "\"" ++ (rest ++ end)))) (codes "=\"" ++ (v' ++ (codes "\"" ++ (rest' ++ end')))) (name_letters n name) (name_letters n' name') refl refl whole in
    let values = apart no_quote v v' (codes "\"" ++ (rest ++ end)) (codes "\"" ++ (rest' ++ end')) (unquoted v (clean_words v words)) (unquoted v' (clean_words v' words')) refl refl
    (append_cancel_left (codes "=\"") _ _ names.1) in
    let others_same = attributes_apart rest rest' t t' others others' more more' (append_cancel_left (codes "\"") _ _ values.1) in
    (same_given n n' v v' others others' names.0 values.0 others_same.0, others_same.1)

attributes_stop : (a t : List ℕ) (given : List Given) → AreAttributes a given → Fails in_name (a ++ (codes ">" ++ t))
attributes_stop a t given no_attributes = refl
attributes_stop a t given (another n v rest others name new words more) = refl

-- what is left where contents end: nothing, or the end of an element
abbrev BeginsSlash : List ℕ → Type 0
BeginsSlash [] = ⊥
BeginsSlash (byte ∷ text) = byte ≡ 47

abbrev Ends : List ℕ → Type 0
Ends [] = Unit {0}
Ends (byte ∷ text) = (byte ≡ 60) × BeginsSlash text

-- the text has these elements, up to where contents end, and then comes the rest
data Reads : List ℕ → Elements → List ℕ → Type 0 where
  stop : (text : List ℕ) → Ends text → Reads text NoElements text
  skip : (byte : ℕ) (text rest : List ℕ) (elements : Elements) → byte ≢ 60 → Reads text elements rest → Reads (byte ∷ text) elements rest
  open_tag : (whole name attributes text between rest : List ℕ) (given : List Given) (within behind : Elements) → codes "<" ++ (name ++ (attributes ++ (codes ">" ++ text))) ≡ whole
      → IsTrue (is_name name) → AreAttributes attributes given → Reads text within (codes "</" ++ (name ++ (codes ">" ++ between))) → Reads between behind rest
      → Reads whole (An name given within behind) rest

skip_words : (bytes text rest : List ℕ) (elements : Elements) → AllByRecursion IsClean bytes → Reads text elements rest → Reads (bytes ++ text) elements rest
skip_words [] text rest elements are reads = reads
skip_words (byte ∷ bytes) text rest elements are reads = skip byte (bytes ++ text) rest elements are.0.less (skip_words bytes text rest elements are.1 reads)

nine : (a b c d e f g h rest more : List ℕ) → (a ++ (b ++ (c ++ (d ++ (e ++ (f ++ (g ++ (h ++ rest)))))))) ++ more ≡ a ++ (b ++ (c ++ (d ++ (e ++ (f ++ (g ++ (h ++ (rest ++ more))))))))
nine a b c d e f g h rest more = simp append_assoc

element_parts : (n a i m r : List ℕ) → (codes "<" ++ (n ++ (a ++ (codes ">" ++ (i ++ (codes "</" ++ (n ++ (codes ">" ++ m)))))))) ++ r
    ≡ codes "<" ++ (n ++ (a ++ (codes ">" ++ (i ++ (codes "</" ++ (n ++ (codes ">" ++ (m ++ r))))))))
element_parts n a i m r = nine (codes "<") n a (codes ">") i (codes "</") n (codes ">") m r

reads_of : (text : List ℕ) (elements : Elements) → AreContents text elements → (rest : List ℕ) → Ends rest → Reads (text ++ rest) elements rest
reads_of text elements no_contents rest ends = stop rest ends
reads_of text elements (some_words bytes more all words are) rest ends =
    subst (λ t. Reads t all rest) (sym (append_assoc bytes more rest)) (skip_words bytes (more ++ rest) rest all (clean_words bytes words) (reads_of more all are rest ends))
reads_of text elements (element n a i m given within behind name attributes in_are be_are) rest ends =
    let close = codes "</" ++ (n ++ (codes ">" ++ (m ++ rest))) in
    open_tag _ n a (i ++ close) (m ++ rest) rest given within behind (sym (element_parts n a i m rest)) name attributes
    (reads_of i within in_are close (refl, refl)) (reads_of m behind be_are rest ends)

same_element : (n n' : List ℕ) (given given' : List Given) (within within' behind behind' : Elements) → n ≡ n' → given ≡ given' → within ≡ within' → behind ≡ behind'
    → An n given within behind ≡ An n' given' within' behind'
same_element n n' given given' within within' behind behind' a b c d = cc

-- an element does not begin where contents end, nor with another byte than `<`
no_stop : (n t : List ℕ) {whole : List ℕ} → codes "<" ++ (n ++ t) ≡ whole → IsTrue (is_name n) → Ends whole → ⊥
no_stop [] t is name ends = cc (name)
no_stop (first ∷ rest) t is name ends =
    let here : Ends (codes "<" ++ ((first ∷ rest) ++ t)) = subst Ends (sym is) ends in
    let letter = (and_parts (is_letter first) (list_all in_name rest) name).0 in
    let slash : is_letter 47 ≡ true = subst (λ b. is_letter b ≡ true) here.1 letter in
    cc (slash)

no_skip : (t text : List ℕ) (byte : ℕ) → codes "<" ++ t ≡ byte ∷ text → byte ≢ 60 → ⊥
no_skip t text byte is differ = differ (sym (ap (λ (bytes : List ℕ). get_or bytes 0 0) is))

one : (text : List ℕ) (elements elements' : Elements) (rest rest' : List ℕ) → Reads text elements rest → Reads text elements' rest' → (elements ≡ elements') × (rest ≡ rest')
one text elements elements' rest rest' (stop x ends) (stop y ends') = (refl, refl)
one text elements elements' rest rest' (stop x ends) (skip byte y r e differ reads) = absurd (differ ends.0)
one text elements elements' rest rest' (stop x ends) (open_tag w n a t b r given within behind is name attributes in_reads be_reads) =
    absurd (no_stop n (a ++ (codes ">" ++ t)) is name ends)
one text elements elements' rest rest' (skip byte y r e differ reads) (stop x ends) = absurd (differ ends.0)
one text elements elements' rest rest' (skip byte y r e differ reads) (skip byte' y' r' e' differ' reads') = one y e e' r r' reads reads'
one text elements elements' rest rest' (skip byte y r e differ reads) (open_tag w n a t b r' given within behind is name attributes in_reads be_reads) =
    absurd (no_skip (n ++ (a ++ (codes ">" ++ t))) y byte is differ)
one text elements elements' rest rest' (open_tag w n a t b r given within behind is name attributes in_reads be_reads) (stop x ends) =
    absurd (no_stop n (a ++ (codes ">" ++ t)) is name ends)
one text elements elements' rest rest' (open_tag w n a t b r given within behind is name attributes in_reads be_reads) (skip byte y r' e differ reads) =
    absurd (no_skip (n ++ (a ++ (codes ">" ++ t))) y byte is differ)
one text elements elements' rest rest' (open_tag w n a t b r given within behind is name attributes in_reads be_reads) (open_tag w' n' a' t' b' r' given' within' behind' is' name' attributes' in_reads' be_reads') =
    let close : List ℕ = codes "</" ++ (n ++ (codes ">" ++ b)) in
    let close' : List ℕ = codes "</" ++ (n' ++ (codes ">" ++ b')) in
    let names = apart in_name n n' (a ++ (codes ">" ++ t)) (a' ++ (codes ">" ++ t')) (name_letters n name) (name_letters n' name') (attributes_stop a t given attributes) (attributes_stop a' t' given' attributes')
    (append_cancel_left (codes "<") _ _ (is ∙ sym is')) in
    let tags = attributes_apart a a' t t' given given' attributes attributes' names.1 in
    let inner = one t within within' close close' in_reads (subst (λ x. Reads x within' close') (sym tags.1) in_reads') in
    let ends = apart in_name n n' (codes ">" ++ b) (codes ">" ++ b') (name_letters n name) (name_letters n' name') refl refl (append_cancel_left (codes "</") _ _ inner.1) in
    let outer = one b behind behind' rest rest' be_reads (subst (λ x. Reads x behind' rest') (sym (append_cancel_left (codes ">") b b' ends.1)) be_reads') in
    (same_element n n' given given' within within' behind behind' names.0 tags.0 inner.0 outer.0, outer.1)

whole : (text : List ℕ) (elements : Elements) → AreContents text elements → Reads text elements []
whole text elements are = subst (λ t. Reads t elements []) (append-nil text) (reads_of text elements are [] tt)

pub one_reading : (text : List ℕ) (elements elements' : Elements) → AreContents text elements → AreContents text elements' → elements ≡ elements'
one_reading text elements elements' are are' = (one text elements elements' [] [] (whole text elements are) (whole text elements' are')).0
