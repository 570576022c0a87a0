-- The table of a job, and the raw reports of a job.
use Rattle.std.proofs.Common.{◌≡◌, ℕ, zero, suc, ◌-◌, ◌<◌, ◌≤◌, inl, inr, true, List, [], ◌∷◌, length, get_or, Some, refl, sym, ap, subst, ◌∙◌, arith}
use Rattle.std.specs.Prelude.{IfOk, OnOk, Result, Ok, Err, Contains}
use Rattle.seq_objects.specs.Parts.{kind_of}
use Rattle.seq_objects.specs.Objects.{number_of}
use Rattle.seq_objects.specs.Words.{name_words}
use Rattle.seq_objects.specs.declared.act.Act.TheVariants.{Call}
use Rattle.seq_objects.specs.declared.op.Op.{Op}
use Rattle.seq_objects.proofs.Elements.{each_so}
use Rattle.job_names.specs.Names.{AreSpelled, is_spelled}
use Rattle.sp_order.specs.Jobs.{JobValue, IsJob}
use Rattle.sp_order.specs.Objects.{name_of_number}
use Rattle.batch_history.specs.Book.{flat}
use Rattle.batch_history.specs.Text.{report_text}
use Rattle.batch_history.specs.declared.batch.Entry.{Entry}
use Rattle.batch_history.specs.declared.report.Report.{Report}
use Rattle.report_reader.specs.Raw.{HasOwnObject}
use Rattle.report_reader.specs.Texts.{Named, HasText, HasNamedText, IsReading, IsNamedReading}
use Rattle.report_reader.specs.Code.Objects.{names_in, found, mark_of, IsKnown, IsFound, Extends, IsTableOf}
use Rattle.report_reader.specs.Code.Reading.{IsTableText, IsKnownText}
use Rattle.report_reader.proofs.Calls.{words_at}
use Rattle.report_reader.specs.declared.table.Table.{Table}
use Rattle.report_reader.specs.declared.error.ReadReportErr.{ReadReportErr}
use Rattle.report_reader.specs.declared.error.ReadReportErr.TheVariants.{NoReport, Memory}

spelled_at : (names : List (List ℕ)) (i : ℕ) → AreSpelled names → i < length names → is_spelled (get_or names i []) ≡ true
spelled_at [] i spelled low = absurd (omega (arith, low))
spelled_at (name ∷ names) zero spelled low = spelled.0
spelled_at (name ∷ names) (suc i) spelled low = spelled_at names i spelled.1 (omega (arith, low))

-- the objects that a job's table has are those of the job
module _ (job : JobValue) (table : Table) (is : IsTableOf job table) where
  own_object : (o : Op) → IsFound table o → HasOwnObject job o
  own_object o has = record {
    number = subst (λ (names : List (List ℕ)). number_of o ≤ length names) is.names has.0;
    called = λ some. (
        let name = name_of_number (names_in table) (number_of o) in
        let mark : mark_of (names_in table) o ≡ 58 ∷ name = words_at (names_in table) (number_of o) some in
        let by = is.called (kind_of o) name (number_of o) (spelled_at (names_in table) (number_of o - 1) is.kept.spelled (omega (arith, some, has.0)))
        (subst (λ (m : List ℕ). found table (kind_of o) m ≡ Some (number_of o)) mark has.1) in
        record { by = by.0; among = by.1; number = by.2; kind = by.3 });
  }

  known_call : (o by : Op) → Contains job.acts (Call by) → number_of by ≡ number_of o → kind_of by ≡ kind_of o → 0 < number_of o → IsKnown table (kind_of o) (mark_of job.names o)
  known_call o by among number kind some =
      let has : found table (kind_of by) (mark_of job.names by) ≡ Some (number_of by) = is.all by among (omega (arith, some, number)) in
      let at : found table (kind_of o) (mark_of job.names o) ≡ Some (number_of by) =
      ap (λ k. found table k (mark_of job.names o)) (sym kind) ∙ ap (λ (n : ℕ). found table (kind_of by) (name_words job.names n)) (sym number) ∙ has in
      inr (rw at refl)

  known_at : (o : Op) (n : ℕ) → number_of o ≡ n → HasOwnObject job o → IsKnown table (kind_of o) (mark_of job.names o)
  known_at o zero at own = subst (λ (n : ℕ). IsKnown table (kind_of o) (name_words job.names n)) (sym at) (inr refl)
  known_at o (suc n) at own =
      let some : 0 < number_of o = omega (arith, at) in
      let call = own.called some in
      known_call o call.by call.among call.number call.kind some

  spelled : AreSpelled job.names
  spelled = subst AreSpelled is.names is.kept.spelled

  -- a raw report of the job is one whose objects its table knows
  pub known_report : (text : List ℕ) (report : Report) → HasText job text report → IsKnownText table text (record { names = job.names; report = report })
  known_report text report has = record {
    has = record {
      fits = has.raw.fits;
      numbers = each_so (λ (entry : Entry). HasOwnObject job entry.op) (λ (entry : Entry). number_of entry.op ≤ length job.names) (λ entry own. own.number) (flat report.history) has.raw.objects;
      spelled = spelled;
      written = has.written;
    };
    known = each_so (λ (entry : Entry). HasOwnObject job entry.op) (λ (entry : Entry). IsKnown table (kind_of entry.op) (mark_of job.names entry.op)) (λ entry own. known_at entry.op (number_of entry.op) refl own) (flat report.history) has.raw.objects;
  }

  -- a report that was read by the table is a raw one of the job
  pub table_report : (text : List ℕ) (report : Report) → IsTableText table text report → HasText job text report
  table_report text report has = record {
    raw = record {
      fits = has.fits;
      objects = each_so (λ (entry : Entry). IsFound table entry.op) (λ (entry : Entry). HasOwnObject job entry.op) (λ entry found. own_object entry.op found) (flat report.history) has.found;
    };
    written = subst (λ (names : List (List ℕ)). report_text names report ≡ text) is.names has.written;
  }

  pub reading : (new : Table) (text : List ℕ) (r : Result Report ReadReportErr) → OnOk r (Extends table new) → IfOk r (IsTableText new text) → (r ≡ Err NoReport → (named : Named) → IsKnownText table text named → ⊥) → IsReading job text r
  reading new text (Ok report) extends has none = table_report text report (subst (λ (t : Table). IsTableText t text report) (extends.same is.closed) has)
  reading new text (Err NoReport) extends has none = λ report own. none refl (record { names = job.names; report = report }) (known_report text report own)
  reading new text (Err Memory) extends has none = tt

-- a raw report of a job has its text with the names of the job
pub named_text : (job : JobValue) (text : List ℕ) (report : Report) → IsJob job → HasText job text report → HasNamedText text (record { names = job.names; report = report })
named_text job text report is_job has = record {
  fits = has.raw.fits;
  numbers = each_so (λ (entry : Entry). HasOwnObject job entry.op) (λ (entry : Entry). number_of entry.op ≤ length job.names) (λ entry own. own.number) (flat report.history) has.raw.objects;
  spelled = is_job.objects.spelled;
  written = has.written;
}

-- what was read by a table that grows is a report and names
pub alone_report : (table : Table) (text : List ℕ) (report : Report) → IsTableText table text report → HasNamedText text (record { names = names_in table; report = report })
alone_report table text report has = record {
  fits = has.fits;
  numbers = each_so (λ (entry : Entry). IsFound table entry.op) (λ (entry : Entry). number_of entry.op ≤ length (names_in table)) (λ entry found. found.0) (flat report.history) has.found;
  spelled = has.kept.spelled;
  written = has.written;
}

-- and it knows the objects of each report
pub alone_known : (table : Table) (text : List ℕ) (named : Named) → table.grows ≡ true → HasNamedText text named → IsKnownText table text named
alone_known table text named growing has = record {
  has = has;
  known = each_so (λ (entry : Entry). number_of entry.op ≤ length named.names) (λ (entry : Entry). IsKnown table (kind_of entry.op) (mark_of named.names entry.op)) (λ entry low. inl growing) (flat named.report.history) has.numbers;
}

pub alone_err : (text : List ℕ) (err : ReadReportErr) → (err ≡ NoReport → (named : Named) → HasNamedText text named → ⊥) → IsNamedReading text (Err err)
alone_err text NoReport none = none refl
alone_err text Memory none = tt
