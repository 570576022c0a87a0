-- The set of the leaves that call.
use Rattle.std.proofs.Common.{◌≡◌, ℕ, ◌+◌, ◌<◌, ◌||◌, ◌==◌, Bool, true, false, List, ◌∷◌, length, take, drop, get_or, cond, refl, sym, ap, ◌∙◌, drop-cons, add-one}
use Rattle.std.specs.Ordering.{nat_cmp}
use Rattle.std.specs.BTreeMap.{is_at}
use Rattle.std.proofs.lemmas.List.Folds.{list_any_more, list_any-append}
use Rattle.batch_history.specs.Book.{flat}
use Rattle.batch_history.specs.declared.batch.Entry.{Entry}
use Rattle.report_shares.specs.Shares.{calls}
use Rattle.report_shares.specs.Code.{is_among}
use Rattle.seq_objects.proofs.Keys.{same_test}

chosen : (test old among : Bool) → cond test true (old || among) ≡ (old || (among || test))
chosen true true among = refl
chosen true false true = refl
chosen true false false = refl
chosen false true among = refl
chosen false false true = refl
chosen false false false = refl

-- one entry more
pub one_more : (leaf : ℕ) (entries : List Entry) (i : ℕ) (d : Entry) (before now new : Bool) → i < length entries
    → now ≡ (before || is_among leaf (take i entries)) → new ≡ cond (is_at (nat_cmp (get_or entries i d).leaf) leaf) true now
    → new ≡ (before || is_among leaf (take (i + 1) entries))
one_more leaf entries i d before now new h is updated =
    updated
    ∙ (ap (λ b. cond b true now) (same_test (get_or entries i d).leaf leaf)
    ∙ (ap (λ n. cond ((get_or entries i d).leaf == leaf) true n) is
    ∙ (chosen ((get_or entries i d).leaf == leaf) before (is_among leaf (take i entries))
    ∙ ap (λ b. before || b) (sym (list_any_more (λ entry. entry.leaf == leaf) entries i d h)))))

joined : (old here rest : Bool) → ((old || here) || rest) ≡ (old || (here || rest))
joined true here rest = refl
joined false here rest = refl

-- one batch more
pub batch_more : (leaf : ℕ) (book : List (List Entry)) (i : ℕ) (d : List Entry) (old new : Bool) → i < length book
    → new ≡ (old || is_among leaf (get_or book i d)) → (new || calls (drop (i + 1) book) leaf) ≡ (old || calls (drop i book) leaf)
batch_more leaf book i d old new h is =
    let rest = drop (i + 1) book in
    let e : drop i book ≡ get_or book i d ∷ rest = rw (add-one, drop-cons book i d h) refl in
    ap (λ b. b || calls rest leaf) is
    ∙ (joined old (is_among leaf (get_or book i d)) (calls rest leaf)
    ∙ (ap (λ b. old || b) (sym (list_any-append (λ (entry : Entry). entry.leaf == leaf) (get_or book i d) (flat rest)))
    ∙ ap (λ b. old || calls b leaf) (sym e)))
