use Rattle.std.proofs.Common.{◌≡◌, length, map, ◌∙◌, sym, arith}
use Rattle.job_names.specs.Names.{spelling}
use Rattle.std.proofs.lemmas.Result.{IfOk-weaker}
use Rattle.report_picture.specs.Boxes.{span_of, scale_of}
use Rattle.report_picture.specs.Picture.{picture}
use Rattle.report_picture.specs.Code.Texts.{drawing_text, columns_text}
use Rattle.report_picture.proofs.Choice.{few_rows, few_calls, few_batches, boxed, joined}
use Rattle.report_picture.proofs.drawing.picture.Goals as goal

pub box_drawing-requires : goal.box_drawing-requires
box_drawing-requires c =
    let report = c.args.raw.now in
    let has = sym c.has_boxes.ensures ∙ c.if-has_boxes.true in
    let same = rw c.batches.ensures.batches at c.count_calls-calls.ensures in
    record {
      rows = few_rows report has;
      calls = same;
      few = omega (arith, same, few_calls report has);
      batches = omega (arith, few_batches report.history c.batches.ensures.fits.batches, few_calls report has);
      numbers = c.requires.numbers;
      spelled = c.requires.spelled;
    }

pub returns-then-has_boxes : goal.returns-then-has_boxes
returns-then-has_boxes c =
    let report = c.args.raw.now in
    let has = sym c.has_boxes.ensures ∙ c.if-has_boxes.true in
    let names = map spelling c.args.names.now in
    let span = span_of (length report.rows) in
    IfOk-weaker c.box_drawing.result (λ text. text.items ≡ drawing_text names span (scale_of span) report) (λ text. text.items ≡ picture names report)
    (λ text is. is ∙ sym (boxed names report has)) c.box_drawing.ensures

pub returns-else-has_boxes : goal.returns-else-has_boxes
returns-else-has_boxes c =
    let report = c.args.raw.now in
    let has = sym c.has_boxes.ensures ∙ c.if-has_boxes.false in
    let names = map spelling c.args.names.now in
    IfOk-weaker c.column_drawing.result (λ text. text.items ≡ columns_text report) (λ text. text.items ≡ picture names report)
    (λ text is. is ∙ sym (joined names report has)) c.column_drawing.ensures

pub column_drawing-requires : goal.column_drawing-requires
column_drawing-requires c =
    let report = c.args.raw.now in
    record {
      rows = c.requires.few.rows;
      calls = rw c.batches.ensures.batches at c.count_calls-calls.ensures;
      batches = omega (arith, few_batches report.history c.batches.ensures.fits.batches, c.requires.few.calls);
    }
