-- What the rows take from a job, and the rows one after another.
use Rattle.std.proofs.Common.{ℕ, zero, suc, ◌≡◌, ◌+◌, ◌<◌, ◌≤◌, List, [], ◌∷◌, ◌++◌, length, take, get_or, map, codes, Option, Some, None, Result, Ok, Err, if◌then◌else◌, refl, sym, ap, ◌∙◌, arith, append_assoc, append-nil}
use Rattle.std.specs.Prelude.{slice_get, IfSome, OnOk}
use Rattle.std.specs.Result.{is_ok}
use Rattle.std.specs.Fmt.{decimal}
use Rattle.std.specs.List.{AllByRecursion}
use Rattle.std.proofs.lemmas.List.{take_more, length-map}
use Rattle.std.proofs.lemmas.Option.{slice_get_within}
use Rattle.job_names.specs.declared.name.Name.{Name}
use Rattle.job_names.specs.Names.{spelling}
use Rattle.seq_objects.specs.declared.act.Act.{Act}
use Rattle.seq_objects.specs.declared.act.Act.TheVariants.{Work}
use Rattle.sp_order.specs.Jobs.{JobValue, IsJob}
use Rattle.sp_order.specs.Objects.{number_in}
use Rattle.sp_order.proofs.ObjectLemmas.{most_used}
use Rattle.leaf_places.specs.Places.{Place}
use Rattle.leaf_places.specs.Rows.{place_at, leaf_words, copies_words, act_words, row_text, first_rows}

copies_append : (xs ys : List ℕ) → copies_words (xs ++ ys) ≡ copies_words xs ++ copies_words ys
copies_append [] ys = refl
copies_append (copy ∷ xs) ys =
    ap (λ rest. codes " copy " ++ (decimal copy ++ rest)) (copies_append xs ys)
    ∙ ap (λ rest. codes " copy " ++ rest) (sym (append_assoc (decimal copy) (copies_words xs) (copies_words ys)))
    ∙ sym (append_assoc (codes " copy ") (decimal copy ++ copies_words xs) (copies_words ys))

-- one more copy is written
pub copies_written : (xs : List ℕ) (i : ℕ) (old now new : List ℕ) → i < length xs → now ≡ old ++ copies_words (take i xs) → new ≡ now ++ (codes " copy " ++ decimal (get_or xs i 0))
    → new ≡ old ++ copies_words (take (i + 1) xs)
copies_written xs i old now new within e f =
    let one = codes " copy " ++ decimal (get_or xs i 0) in
    let last : copies_words (get_or xs i 0 ∷ []) ≡ one = ap (λ rest. codes " copy " ++ rest) (append-nil (decimal (get_or xs i 0))) in
    let both : copies_words (take (i + 1) xs) ≡ copies_words (take i xs) ++ one =
    ap copies_words (take_more xs i 0 within) ∙ copies_append (take i xs) (get_or xs i 0 ∷ []) ∙ ap (λ rest. copies_words (take i xs) ++ rest) last in
    f ∙ ap (λ text. text ++ one) e ∙ append_assoc old (copies_words (take i xs)) one ∙ ap (λ text. old ++ text) (sym both)

-- one more row is written
pub row_written : (job : JobValue) (places : List Place) (leaf : ℕ) (now new : List ℕ) → now ≡ first_rows job places leaf → new ≡ now ++ row_text job places leaf → new ≡ first_rows job places (leaf + 1)
row_written job places leaf now new e f =
    let next : suc leaf ≡ leaf + 1 = omega arith in
    f ∙ ap (λ text. text ++ row_text job places leaf) e ∙ ap (first_rows job places) next

each_at : {X : Type 0} (P : X → Type 0) (xs : List X) (i : ℕ) (x : X) → AllByRecursion P xs → i < length xs → P (get_or xs i x)
each_at P [] i x each within = absurd (omega (arith, within))
each_at P (y ∷ xs) zero x each within = each.0
each_at P (y ∷ xs) (suc i) x each within = each_at P xs i x each.1 (omega (arith, within))

-- the number of the object that a leaf calls has a name, if it is above 0
pub number_within : (job : JobValue) (names : List Name) (leaf : ℕ) (d : Act) → IsJob job → map (λ name. spelling name) names ≡ job.names → leaf < length job.acts
    → number_in (get_or job.acts leaf d) ≤ length names
number_within job names leaf d is_job same within =
    let count : length job.names ≡ length names = ap length (sym same) ∙ length-map names (λ name. spelling name) in
    let below = (most_used job.acts 0 (length job.names) is_job.objects.numbers).1 in
    let one = each_at (λ act. number_in act ≤ length job.names) job.acts leaf d below within in
    omega (arith, one, count)

source_of_leaf : (job : JobValue) (leaf : ℕ) (source : Option ℕ) → IsJob job → slice_get job.sources leaf ≡ Some source → IfSome source (λ s. s < length job.acts)
source_of_leaf job leaf None is_job at = tt
source_of_leaf job leaf (Some source) is_job at =
    let is = is_job.sources.each leaf source at in slice_get_within job.acts source is.from is.stands

below_count : (source : Option ℕ) (n m : ℕ) → n ≡ m → IfSome source (λ s. s < n) → IfSome source (λ s. s < m)
below_count None n m same below = tt
below_count (Some source) n m same below = omega (arith, same, below)

-- a leaf's source is a leaf that has a place
pub source_within : (job : JobValue) (places : List Place) (leaf : ℕ) (source : Option ℕ) → IsJob job → length places ≡ length job.acts → slice_get job.sources leaf ≡ Some source
    → IfSome source (λ s. s < length places)
source_within job places leaf source is_job same at = below_count source (length job.acts) (length places) (sym same) (source_of_leaf job leaf source is_job at)

pub got : {X : Type 0} (xs : List X) (i : ℕ) (x d : X) → slice_get xs i ≡ Some x → get_or xs i d ≡ x
got [] i x d e = cc
got (first ∷ xs) zero x d e = cc
got (first ∷ xs) (suc i) x d e = got xs i x d e

-- five pieces that were appended one after another
five : (old a b c d e v w x y new : List ℕ) → v ≡ old ++ a → w ≡ v ++ b → x ≡ w ++ c → y ≡ x ++ d → new ≡ y ++ e → new ≡ old ++ (a ++ (b ++ (c ++ (d ++ e))))
five old a b c d e v w x y new is-v is-w is-x is-y is-new =
    let flat : ((((old ++ a) ++ b) ++ c) ++ d) ++ e ≡ old ++ (a ++ (b ++ (c ++ (d ++ e)))) = simp append_assoc refl in
    is-new ∙ ap (λ t. t ++ e) (is-y ∙ ap (λ t. t ++ d) (is-x ∙ ap (λ t. t ++ c) (is-w ∙ ap (λ t. t ++ b) is-v))) ∙ flat

-- the row of a leaf is appended piece by piece
pub row_pushed : {X E : Type 0} (r : Result X E) (job : JobValue) (places : List Place) (leaf : ℕ) (names : List (List ℕ)) (act : Act) (source : Option ℕ) (copies old v w x y new : List ℕ)
    → names ≡ job.names → act ≡ get_or job.acts leaf (Work 0) → slice_get job.sources leaf ≡ Some source → copies ≡ (place_at places leaf).copies
    → v ≡ old ++ leaf_words places leaf → w ≡ v ++ copies_words copies → x ≡ w ++ codes " " → y ≡ x ++ act_words names places act source
    → new ≡ (if is_ok r then y ++ codes "\n" else y) → OnOk r (new ≡ old ++ row_text job places leaf)
row_pushed (Err err) job places leaf names act source copies old v w x y new same-names same-act same-source same-copies is-v is-w is-x is-y is-new = tt
row_pushed (Ok ok) job places leaf names act source copies old v w x y new same-names same-act same-source same-copies is-v is-w is-x is-y is-new =
    let same-source' = got job.sources leaf source None same-source in
    five old (leaf_words places leaf) (copies_words copies) (codes " ") (act_words names places act source) (codes "\n") v w x y new is-v is-w is-x is-y is-new
    ∙ (λ i. old ++ (leaf_words places leaf ++ (copies_words (same-copies i) ++ (codes " " ++ (act_words (same-names i) places (same-act i) (sym same-source' i) ++ codes "\n")))))
