use Rattle.std.proofs.Common.{◌≡◌, Option, Some, None, IfSome, IfNone, true, refl, arith}
use Rattle.report_reader.proofs.Calls.{known_stays}
use Rattle.report_reader.proofs.Reports.{known_text, head_is, no_report_rows, no_report_batches, no_report_counts, report_read}
use Rattle.report_reader.proofs.reader.read_by.Goals as goal

none_of : {T : Type 0} (r : Option T) (P : Type 0) → r ≡ None → IfNone r P → P
none_of None P is none = none
none_of (Some x) P is none = cc (is)

some_of : {T : Type 0} (r : Option T) (x : T) (P : T → Type 0) → r ≡ Some x → IfSome r P → P x
some_of None x P is some = cc (is)
some_of (Some y) x P is some = let same : y ≡ x = cc in rw (← same) some

pub returns-in_default-clause-none : goal.returns-in_default-clause-none
returns-in_default-clause-none c _ named is = c.in_default.ensures.none _ _ (head_is is refl)

pub returns-in_default-2-clause-none : goal.returns-in_default-2-clause-none
returns-in_default-2-clause-none c _ named is =
    let known = known_text c.args.table.now c.read_calls.new.table c.args.text.now named (known_stays c.args.table.now c.read_calls.new.table c.requires c.in_ok-calls.ensures.extends) is in
    no_report_rows known c.in_ok-calls.ensures.kept (omega arith) refl c.in-Some.ensures.some c.in_ok-calls.ensures.calls (none_of c.in_ok-rows.field-0 _ c.in_default-2.is c.in_ok-rows.ensures.none)

pub returns-in_default-3-clause-none : goal.returns-in_default-3-clause-none
returns-in_default-3-clause-none c _ named is =
    let known = known_text c.args.table.now c.read_calls.new.table c.args.text.now named (known_stays c.args.table.now c.read_calls.new.table c.requires c.in_ok-calls.ensures.extends) is in
    let none = none_of c.in_ok-batches.field-0 _ c.in_default-3.is c.in_ok-batches.ensures.none in
    no_report_batches known c.in_ok-calls.ensures.kept (omega arith) refl c.in-Some.ensures.some c.in_ok-calls.ensures.calls (rw c.as_slice.ensures.value at none)

pub returns-then-not-counts-clause-none : goal.returns-then-not-counts-clause-none
returns-then-not-counts-clause-none c _ named is =
    let known = known_text c.args.table.now c.read_calls.new.table c.args.text.now named (known_stays c.args.table.now c.read_calls.new.table c.requires c.in_ok-calls.ensures.extends) is in
    let batches = some_of c.in_ok-batches.field-0 c.in-Some-3.batches _ c.in-Some-3.is c.in_ok-batches.ensures.some in
    no_report_counts known c.in_ok-calls.ensures.kept (omega arith) refl c.in-Some.ensures.some c.in_ok-calls.ensures.calls (some_of c.in_ok-rows.field-0 c.in-Some-2.rows _ c.in-Some-2.is c.in_ok-rows.ensures.some)
    (rw c.as_slice.ensures.value at batches)
    (λ counts.
    let yes : c.counts.result ≡ true = c.counts.ensures.1 (omega (arith, counts.0, c.len.ensures, c.in-Some-2.rows.ok.0), omega (arith, counts.1, c.len-2.ensures, c.in_ok-calls.calls.ok.0), omega (arith, counts.2, c.len-3.ensures, c.in-Some-3.batches.ok.0)) in
    cc (yes, c.if-not-counts.true))

pub invariant_of-result : goal.invariant_of-result
invariant_of-result c =
    let counts = c.counts.ensures.0 c.if-not-counts.false in
    let batches = some_of c.in_ok-batches.field-0 c.in-Some-3.batches _ c.in-Some-3.is c.in_ok-batches.ensures.some in
    let has = report_read c.in_ok-calls.ensures.kept c.in-Some.ensures.some c.in_ok-calls.ensures.calls (some_of c.in_ok-rows.field-0 c.in-Some-2.rows _ c.in-Some-2.is c.in_ok-rows.ensures.some) (rw c.as_slice.ensures.value at batches)
    (omega (arith, counts.0, c.len.ensures, c.in-Some-2.rows.ok.0), omega (arith, counts.1, c.len-2.ensures, c.in_ok-calls.calls.ok.0), omega (arith, counts.2, c.len-3.ensures, c.in-Some-3.batches.ok.0)) in
    rw c.of.ensures has.fits

pub returns-clause-some : goal.returns-clause-some
returns-clause-some c =
    let counts = c.counts.ensures.0 c.if-not-counts.false in
    let batches = some_of c.in_ok-batches.field-0 c.in-Some-3.batches _ c.in-Some-3.is c.in_ok-batches.ensures.some in
    let has = report_read c.in_ok-calls.ensures.kept c.in-Some.ensures.some c.in_ok-calls.ensures.calls (some_of c.in_ok-rows.field-0 c.in-Some-2.rows _ c.in-Some-2.is c.in_ok-rows.ensures.some) (rw c.as_slice.ensures.value at batches)
    (omega (arith, counts.0, c.len.ensures, c.in-Some-2.rows.ok.0), omega (arith, counts.1, c.len-2.ensures, c.in_ok-calls.calls.ok.0), omega (arith, counts.2, c.len-3.ensures, c.in-Some-3.batches.ok.0)) in
    rw c.of.ensures has
