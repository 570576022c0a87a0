use Rattle.std.proofs.Common.{◌≡◌, ◌<◌, length, ap, true}
use Rattle.std.specs.Prelude.{◌==◌}
use Rattle.report_reader.proofs.Rows.{no_rows, shorter}
use Rattle.report_reader.proofs.row.read_rows.Goals as goal

pub returns-in_default-clause-none : goal.returns-in_default-clause-none
returns-in_default-clause-none c =
    no_rows c.loop-rest.rows.items c.args.text.now c.loop-rest.rest.now c.loop-rest.invariant.read c.loop-rest.invariant.fits
    (λ empty. let none : length c.loop-rest.rest.now ≡ 0 = ap length empty in
    let is : c.is_empty.result ≡ (length c.loop-rest.rest.now == 0) = c.is_empty.ensures in
    let yes : c.is_empty.result ≡ true = rw none at is in cc)
    c.in_default.ensures.none

pub loop-rest-smaller : goal.loop-rest-smaller
loop-rest-smaller c =
    let less : length c.in-Some.more.now < length c.loop-rest.rest.now = shorter c.loop-rest.rest.now c.in-Some.row c.in-Some.more.now c.in-Some.ensures.some in
    less
