-- Numbers behind words, which a text begins with in one way.
use Rattle.std.proofs.Common.{◌≡◌, ℕ, ◌<◌, ◌≤◌, ◌^◌, false, List, [], ◌∷◌, ◌++◌, length, take, drop, ◌+◌, true, Option, Some, None, IfSome, IfNone, refl, sym, ap, ◌∙◌, arith, Bor}
use Rattle.std.specs.Prelude.{nat_eq, ◌≢◌}
use Rattle.std.specs.Option.{MatchOption}
use Rattle.std.specs.Cmp.Lexicographic.{pointwise}
use Rattle.std.specs.Fmt.{decimal}
use Rattle.std.proofs.lemmas.Bool.Decides.{Decides-eqb}
use Rattle.std.proofs.lemmas.Fmt.{decimal_injective}
use Rattle.std.proofs.lemmas.List.{append_cancel_left}
use Rattle.std.proofs.lemmas.Slice.Eq.{strip_prefix_is}
use Rattle.decimals.specs.Texts.{BeginsNoDigit, IsDecimalThen}
use Rattle.report_reader.specs.Code.Fields.{IsFieldThen}
use Rattle.std.specs.Char.{is_ascii_digit}
use Rattle.decimals.proofs.Runs.{runs_apart}
use Rattle.report_reader.proofs.Digits.{decimal_digits}

some_words : (text words : List ℕ) (r : Option (Bor (List ℕ))) → MatchOption r ((rest : List ℕ) → text ≢ words ++ rest) (λ x. text ≡ words ++ x.now)
    → IfSome r (λ rest. words ++ rest.now ≡ text) × IfNone r ((rest : List ℕ) → words ++ rest ≡ text → ⊥)
some_words text words None cases = (tt, λ rest is. cases rest (sym is))
some_words text words (Some x) cases = (sym cases, tt)

-- what stripping a prefix tells
pub stripped : (text words : List ℕ) (r : Option (Bor (List ℕ))) → MatchOption r (pointwise nat_eq (take (length words) text) words ≡ false) (λ x. (pointwise nat_eq (take (length words) text) words ≡ true) × (x.now ≡ drop (length words) text) × (length x.now + length words ≡ length text))
    → IfSome r (λ rest. words ++ rest.now ≡ text) × IfNone r ((rest : List ℕ) → words ++ rest ≡ text → ⊥)
stripped text words r cases = some_words text words r (strip_prefix_is Decides-eqb text words r cases)

pub if_none : {T : Type 0} (r : Option T) (P Q : Type 0) → (P → Q) → IfNone r P → IfNone r Q
if_none None P Q go none = go none
if_none (Some x) P Q go none = tt

-- where no number is read behind the words, there is no field
pub no_field : (words : List ℕ) (most : ℕ) (text behind : List ℕ) → words ++ behind ≡ text → ((number : ℕ) (rest : List ℕ) → IsDecimalThen most behind number rest → ⊥)
    → (number : ℕ) (rest : List ℕ) → IsFieldThen words most text number rest → ⊥
no_field words most text behind starts none number rest is =
    let same = append_cancel_left words is.behind behind (is.starts ∙ sym starts) in
    none number rest (rw same at is.read)

-- two decimals at the front of one text are one, with one rest
pub apart : (m n : ℕ) (r s : List ℕ) → BeginsNoDigit r → BeginsNoDigit s → decimal m ++ r ≡ decimal n ++ s → (decimal m ≡ decimal n) × (r ≡ s)
apart m n r s ends ends' is = runs_apart is_ascii_digit (decimal m) (decimal n) r s (decimal_digits m) (decimal_digits n) ends ends' is

-- the same behind words
pub field_apart : (words : List ℕ) (m n : ℕ) (r s : List ℕ) → BeginsNoDigit r → BeginsNoDigit s → words ++ (decimal m ++ r) ≡ words ++ (decimal n ++ s) → (decimal m ≡ decimal n) × (r ≡ s)
field_apart words m n r s ends ends' is = apart m n r s ends ends' (append_cancel_left words (decimal m ++ r) (decimal n ++ s) is)

-- a text that is the words, a decimal and then the rest
pub written_of : {words : List ℕ} {most : ℕ} {text : List ℕ} {n : ℕ} {rest : List ℕ} → IsFieldThen words most text n rest → words ++ (decimal n ++ rest) ≡ text
written_of {words = words} is = ap (λ (t : List ℕ). words ++ t) is.read.written ∙ is.starts

-- where a field was read and the text is that of a number that fits, this number was read, and this is the rest
pub passes : {words : List ℕ} {most : ℕ} {text : List ℕ} {n : ℕ} {rest : List ℕ} → IsFieldThen words most text n rest → most < 2 ^ 64 → (m : ℕ) (behind : List ℕ) → m ≤ most → BeginsNoDigit behind
    → words ++ (decimal m ++ behind) ≡ text → (m ≡ n) × (behind ≡ rest)
passes {words = words} {most = most} {n = n} {rest = rest} is small m behind within ends whole =
    let parts = field_apart words m n behind rest ends is.read.ends (whole ∙ sym (written_of is)) in
    (decimal_injective m n (omega (arith, within)) (omega (arith, is.read.within)) parts.0, parts.1)

-- no number of at most `most` stands behind the words
abbrev pub NoField : List ℕ → ℕ → List ℕ → Type 0
NoField words most text = (number : ℕ) (rest : List ℕ) → IsFieldThen words most text number rest → ⊥

abbrev pub NoWords : List ℕ → List ℕ → Type 0
NoWords words text = (rest : List ℕ) → words ++ rest ≡ text → ⊥

-- where no field is read, the text is not that of a number that fits
pub stops : {words : List ℕ} {most : ℕ} {text : List ℕ} → NoField words most text → (m : ℕ) (behind : List ℕ) → m ≤ most → BeginsNoDigit behind
    → words ++ (decimal m ++ behind) ≡ text → ⊥
stops none m behind within ends whole =
    none m behind (record { behind = decimal m ++ behind; starts = whole; read = record { written = refl; ends = ends; within = within } })

-- the greatest numbers of 32 and of 64 bits, as bounds of what is read
pub small : 4294967295 < 2 ^ 64
small = omega arith

pub big : 18446744073709551615 < 2 ^ 64
big = omega arith

-- a text that is not empty has a length above 0
pub some_length : (text : List ℕ) → (text ≡ [] → ⊥) → 0 < length text
some_length [] some = absurd (some refl)
some_length (byte ∷ text) some = omega arith
