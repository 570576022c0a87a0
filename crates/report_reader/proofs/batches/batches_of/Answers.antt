use Rattle.std.proofs.Common.{◌≡◌, ◌≢◌, ℕ, ◌<◌, ◌+◌, ◌++◌, ◌∷◌, List, [], length, ap, false, true, Bool, ◌∙◌, sym, refl, arith}
use Rattle.std.specs.Prelude.{◌==◌}
use Rattle.std.proofs.lemmas.Bool.Decides.{nat_tests}
use Rattle.std.proofs.lemmas.List.{length_push}
use Rattle.report_reader.proofs.Groups.{none_left, left_more, read_more, some_more, shorter}
use Rattle.report_reader.proofs.batches.batches_of.Goals as goal

-- what the test whether a list is empty tells
some_items : {A : Type 0} (xs : List A) (n : ℕ) → n ≡ length xs → (n == 0) ≡ false → xs ≢ []
some_items xs n is some none = let zero_length : length xs ≡ 0 = ap length none in grind (arith, nat_tests)

no_items : {A : Type 0} (xs : List A) (n : ℕ) → n ≡ length xs → (n == 0) ≡ true → xs ≡ []
no_items [] n is none = refl
no_items (x ∷ xs) n is none = let zero : n ≡ 0 = grind (arith, nat_tests) in absurd (omega (arith, is, zero))

not_empty : {A : Type 0} (xs : List A) (empty : Bool) → empty ≡ (length xs == 0) → empty ≡ false → xs ≢ []
not_empty xs empty is none = some_items xs (length xs) refl (sym is ∙ none)

pub returns-then-is_empty-clause-none : goal.returns-then-is_empty-clause-none
returns-then-is_empty-clause-none c book are =
    let n : c.len.result ≡ length c.loop-rest.book.items = omega (arith, c.len.ensures, c.loop-rest.book.ok.0) in
    let left = c.loop-rest.invariant.left book are in
    none_left (length c.loop-rest.book.items) c.loop-rest.rest.now c.in_ok-entries.more.now c.in_ok-entries.entries.items left.0
    (not_empty c.loop-rest.rest.now c.is_empty.result c.is_empty.ensures c.loop-rest-test.true) (rw n at c.in_ok-entries.ensures)
    (no_items c.in_ok-entries.entries.items c.in_ok-entries.entries.len c.in_ok-entries.entries.ok.0 (sym c.is_empty-in-loop-rest.ensures ∙ c.if-is_empty.true)) left.1

pub loop-rest-smaller : goal.loop-rest-smaller
loop-rest-smaller c =
    let less : length c.in_ok-entries.more.now < length c.loop-rest.rest.now =
    shorter c.loop-rest.rest.now c.in_ok-entries.more.now c.len.result c.in_ok-entries.entries.items c.in_ok-entries.ensures
    (some_items c.in_ok-entries.entries.items c.in_ok-entries.entries.len c.in_ok-entries.entries.ok.0 (sym c.is_empty-in-loop-rest.ensures ∙ c.if-is_empty.false)) in
    less

pub loop-rest-preserved : goal.loop-rest-preserved
loop-rest-preserved c =
    let n : c.len.result ≡ length c.loop-rest.book.items = omega (arith, c.len.ensures, c.loop-rest.book.ok.0) in
    let begins = rw n at c.in_ok-entries.ensures in
    let batch = c.in_ok-entries.entries.items in
    rw (c.in_ok-push.ensures.items, c.of.ensures) (record {
      read = read_more c.loop-rest.book.items batch c.args.calls.now c.loop-rest.rest.now c.in_ok-entries.more.now c.loop-rest.invariant.read begins;
      some = some_more c.loop-rest.book.items batch c.loop-rest.invariant.some
          (some_items batch c.in_ok-entries.entries.len c.in_ok-entries.entries.ok.0 (sym c.is_empty-in-loop-rest.ensures ∙ c.if-is_empty.false));
      left = λ book are. (
          let left = c.loop-rest.invariant.left book are in
          let more = left_more (length c.loop-rest.book.items) c.loop-rest.rest.now c.in_ok-entries.more.now batch left.0 (not_empty c.loop-rest.rest.now c.is_empty.result c.is_empty.ensures c.loop-rest-test.true) begins left.1 in
          let one : length (c.loop-rest.book.items ++ batch ∷ []) ≡ length c.loop-rest.book.items + 1 = length_push c.loop-rest.book.items batch in
          (more.0, rw one more.1));
    })
