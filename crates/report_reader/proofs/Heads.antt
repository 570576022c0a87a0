-- Head lines, step by step: what stands behind each step, and what two of them have in common.
use Rattle.std.proofs.Common.{◌≡◌, ℕ, ◌<◌, ◌≤◌, ◌^◌, List, ◌++◌, refl, sym, ◌∙◌, append_assoc, codes, arith}
use Rattle.std.specs.Fmt.{decimal}
use Rattle.std.proofs.lemmas.Fmt.{decimal_injective}
use Rattle.std.proofs.lemmas.List.{append_cancel_left}
use Rattle.batch_history.specs.Text.{head_line}
use Rattle.report_reader.specs.Code.Fields.{IsFieldThen}
use Rattle.report_reader.specs.Code.Lines.{IsHeadThen}
use Rattle.report_reader.specs.declared.head.Head.{Head}
use Rattle.report_reader.proofs.Fields.{NoField, NoWords, field_apart, written_of, passes, stops}

few : 32 < 2 ^ 64
few = omega arith

-- what stands behind the numbers of a head line
abbrev end_of : List ℕ → List ℕ
end_of rest = codes "\n" ++ rest

abbrev batches_from : ℕ → List ℕ → List ℕ
batches_from batches rest = codes " batches " ++ (decimal batches ++ end_of rest)

abbrev calls_from : ℕ → ℕ → List ℕ → List ℕ
calls_from calls batches rest = codes " calls " ++ (decimal calls ++ batches_from batches rest)

abbrev leaves_from : ℕ → ℕ → ℕ → List ℕ → List ℕ
leaves_from leaves calls batches rest = codes " leaves " ++ (decimal leaves ++ calls_from calls batches rest)

four : (w1 d1 w2 d2 w3 d3 w4 d4 w5 rest : List ℕ)
    → (w1 ++ d1 ++ w2 ++ d2 ++ w3 ++ d3 ++ w4 ++ d4 ++ w5) ++ rest
    ≡ w1 ++ (d1 ++ (w2 ++ (d2 ++ (w3 ++ (d3 ++ (w4 ++ (d4 ++ (w5 ++ rest))))))))
four w1 d1 w2 d2 w3 d3 w4 d4 w5 rest = simp append_assoc

pub head_whole : (workers leaves calls batches : ℕ) (rest : List ℕ) → head_line workers leaves calls batches ++ rest ≡ codes "workers " ++ (decimal workers ++ leaves_from leaves calls batches rest)
unfolding head_line
head_whole workers leaves calls batches rest =
    four (codes "workers ") (decimal workers) (codes " leaves ") (decimal leaves) (codes " calls ") (decimal calls) (codes " batches ") (decimal batches) (codes "\n") rest

-- where one step of a head line does not read, there is no head line
module _ {most : ℕ} {text : List ℕ} {head : Head} {rest : List ℕ} (most_small : most < 2 ^ 64) (is : IsHeadThen most text head rest) where
  whole_head : codes "workers " ++ (decimal head.workers ++ leaves_from head.leaves head.calls head.batches rest) ≡ text
  whole_head = sym (head_whole head.workers head.leaves head.calls head.batches rest) ∙ is.written

  pub no_workers : NoField (codes "workers ") 32 text → ⊥
  no_workers none = stops none head.workers (leaves_from head.leaves head.calls head.batches rest) is.few refl whole_head

  module _ {n : ℕ} {t1 : List ℕ} (workers : IsFieldThen (codes "workers ") 32 text n t1) where
    at_leaves : (head.workers ≡ n) × (leaves_from head.leaves head.calls head.batches rest ≡ t1)
    at_leaves = passes workers few head.workers (leaves_from head.leaves head.calls head.batches rest) is.few refl whole_head

    pub some_workers : n ≡ 0 → ⊥
    some_workers none = omega (arith, at_leaves.0, is.some, none)

    pub no_leaves : NoField (codes " leaves ") most t1 → ⊥
    no_leaves none = stops none head.leaves (calls_from head.calls head.batches rest) is.leaves refl at_leaves.1

    module _ {l : ℕ} {t2 : List ℕ} (leaves : IsFieldThen (codes " leaves ") most t1 l t2) where
      at_calls : (head.leaves ≡ l) × (calls_from head.calls head.batches rest ≡ t2)
      at_calls = passes leaves most_small head.leaves (calls_from head.calls head.batches rest) is.leaves refl at_leaves.1

      pub no_calls : NoField (codes " calls ") most t2 → ⊥
      no_calls none = stops none head.calls (batches_from head.batches rest) is.calls refl at_calls.1

      module _ {k : ℕ} {t3 : List ℕ} (calls : IsFieldThen (codes " calls ") most t2 k t3) where
        at_batches : (head.calls ≡ k) × (batches_from head.batches rest ≡ t3)
        at_batches = passes calls most_small head.calls (batches_from head.batches rest) is.calls refl at_calls.1

        pub no_batches : NoField (codes " batches ") most t3 → ⊥
        no_batches none = stops none head.batches (end_of rest) is.batches refl at_batches.1

        pub no_head_end : {b : ℕ} {t4 : List ℕ} → IsFieldThen (codes " batches ") most t3 b t4 → NoWords (codes "\n") t4 → ⊥
        no_head_end batches none = none rest (passes batches most_small head.batches (end_of rest) is.batches refl at_batches.1).1

nested : (w1 d1 w2 d2 w3 d3 w4 d4 w5 rest text t1 t2 t3 t4 : List ℕ)
    → w1 ++ (d1 ++ t1) ≡ text → w2 ++ (d2 ++ t2) ≡ t1 → w3 ++ (d3 ++ t3) ≡ t2 → w4 ++ (d4 ++ t4) ≡ t3 → w5 ++ rest ≡ t4
    → w1 ++ (d1 ++ (w2 ++ (d2 ++ (w3 ++ (d3 ++ (w4 ++ (d4 ++ (w5 ++ rest)))))))) ≡ text
nested w1 d1 w2 d2 w3 d3 w4 d4 w5 rest text t1 t2 t3 t4 e1 e2 e3 e4 e5 = rw (e5, e4, e3, e2, e1)

-- the steps of a head line make one
pub head_read : {most : ℕ} {text : List ℕ} {w l c b : ℕ} {t1 t2 t3 t4 rest : List ℕ}
    → IsFieldThen (codes "workers ") 32 text w t1 → 1 ≤ w → IsFieldThen (codes " leaves ") most t1 l t2
    → IsFieldThen (codes " calls ") most t2 c t3 → IsFieldThen (codes " batches ") most t3 b t4 → codes "\n" ++ rest ≡ t4
    → IsHeadThen most text (record { workers = w; leaves = l; calls = c; batches = b }) rest
head_read {text = text} {w = w} {l = l} {c = c} {b = b} {t1 = t1} {t2 = t2} {t3 = t3} {t4 = t4} {rest = rest} workers some leaves calls batches ends = record {
  written = head_whole w l c b rest ∙ nested (codes "workers ") (decimal w) (codes " leaves ") (decimal l) (codes " calls ") (decimal c) (codes " batches ") (decimal b) (codes "\n") rest text t1 t2 t3 t4
      (written_of workers) (written_of leaves) (written_of calls) (written_of batches) ends;
  some = some;
  few = workers.read.within;
  leaves = leaves.read.within;
  calls = calls.read.within;
  batches = batches.read.within;
}

-- two head lines at the front of one text state one number of workers, counts of one decimal, and have one rest
pub heads_apart : (w w' l l' c c' b b' : ℕ) (rest rest' : List ℕ) → w ≤ 32 → w' ≤ 32 → head_line w l c b ++ rest ≡ head_line w' l' c' b' ++ rest'
    → (w ≡ w') × (rest ≡ rest') × (decimal l ≡ decimal l') × (decimal c ≡ decimal c') × (decimal b ≡ decimal b')
heads_apart w w' l l' c c' b b' rest rest' fits fits' is =
    let workers = field_apart (codes "workers ") w w' (leaves_from l c b rest) (leaves_from l' c' b' rest') refl refl (sym (head_whole w l c b rest) ∙ is ∙ head_whole w' l' c' b' rest') in
    let leaves = field_apart (codes " leaves ") l l' (calls_from c b rest) (calls_from c' b' rest') refl refl workers.1 in
    let calls = field_apart (codes " calls ") c c' (batches_from b rest) (batches_from b' rest') refl refl leaves.1 in
    let batches = field_apart (codes " batches ") b b' (end_of rest) (end_of rest') refl refl calls.1 in
    (decimal_injective w w' (omega (arith, fits)) (omega (arith, fits')) workers.0, append_cancel_left (codes "\n") rest rest' batches.1, leaves.0, calls.0, batches.0)
