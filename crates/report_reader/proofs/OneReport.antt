-- No two raw reports of a job have one text.
use Rattle.std.proofs.Common.{◌≡◌, ◌≢◌, ℕ, zero, suc, ◌<◌, ◌^◌, inl, inr, true, List, [], ◌∷◌, ◌++◌, map, refl, sym, ap, ◌∙◌, codes, arith}
use Rattle.std.specs.Prelude.{IfOk, Result, Ok, Err}
use Rattle.std.specs.List.{AllByRecursion}
use Rattle.std.proofs.lemmas.Bool.{cases_order}
use Rattle.seq_objects.specs.Parts.{kind_of, op_of, verb_of}
use Rattle.seq_objects.specs.Verbs.{kind_of_verb}
use Rattle.seq_objects.proofs.Parts.{whole as whole_op}
use Rattle.seq_objects.specs.Objects.{argument_of, number_of}
use Rattle.seq_objects.specs.Words.{op_words, name_words}
use Rattle.seq_objects.specs.declared.act.Act.TheVariants.{Call}
use Rattle.seq_objects.specs.declared.op.Op.{Op}
use Rattle.seq_objects.specs.declared.reply.Reply.{Reply}
use Rattle.sp_order.specs.Jobs.{JobValue, IsJob}
use Rattle.sp_order.specs.Objects.{name_of_number}
use Rattle.batch_history.specs.Book.{flat}
use Rattle.batch_history.specs.declared.batch.Entry.{Entry}
use Rattle.batch_history.specs.declared.row.Row.{Row}
use Rattle.batch_history.specs.declared.report.Report.{Report}
use Rattle.report_reader.specs.Raw.{FitsEntry, HasOwnObject}
use Rattle.report_reader.specs.Texts.{HasText, IsReading, Worded, worded}
use Rattle.report_reader.specs.Code.Objects.{is_mark, mark_of}
use Rattle.report_reader.specs.Code.Operations.{IsOpThen}
use Rattle.report_reader.specs.declared.error.ReadReportErr.{ReadReportErr}
use Rattle.report_reader.specs.declared.error.ReadReportErr.TheVariants.{NoReport, Memory}
use Rattle.report_reader.specs.declared.operation.Spoken.{Spoken}
use Rattle.report_reader.proofs.Operations.{spoken_of, words_parts, argument_fits, one_op}
use Rattle.report_reader.proofs.Calls.{words_at, number_marked}
use Rattle.report_reader.proofs.Jobs.{named_text}
use Rattle.report_reader.proofs.Alike.{alike}
use Rattle.seq_objects.proofs.Elements.{each_left, each_right}
use Rattle.report_reader.proofs.Noting.{place_of_act}

module _ (job : JobValue) (is_job : IsJob job) where
  -- objects of one kind and one mark have one number
  same_number : (o o' : Op) → HasOwnObject job o → HasOwnObject job o' → kind_of o ≡ kind_of o' → (m n : ℕ) → number_of o ≡ m → number_of o' ≡ n → name_words job.names m ≡ name_words job.names n → m ≡ n
  same_number o o' own own' kind zero zero at at' mark = refl
  same_number o o' own own' kind zero (suc n) at at' mark = cc (mark)
  same_number o o' own own' kind (suc m) zero at at' mark = cc (mark)
  same_number o o' own own' kind (suc m) (suc n) at at' mark = elim (cases_order (suc m) (suc n)) [
    | inl same ↦ same
    | inr apart ↦ absurd (differ (λ same. elim apart [ inl below ↦ omega (arith, same, below) | inr above ↦ omega (arith, same, above) ]))
  ]
    where
      differ : (suc m ≢ suc n) → ⊥
      differ apart =
          let some : 0 < number_of o = omega (arith, at) in
          let some' : 0 < number_of o' = omega (arith, at') in
          let call = own.called some in
          let call' = own'.called some' in
          let place = place_of_act job.acts (Call call.by) call.among in
          let place' = place_of_act job.acts (Call call'.by) call'.among in
          let names : name_of_number job.names (suc m) ≡ name_of_number job.names (suc n) =
          (let words : 58 ∷ name_of_number job.names (suc m) ≡ 58 ∷ name_of_number job.names (suc n) = sym (words_at job.names (suc m) (omega arith)) ∙ mark ∙ words_at job.names (suc n) (omega arith) in cc (words)) in
          is_job.objects.apart place.0 place'.0 call.by call'.by place.1 place'.1 (omega (arith, call.number, some)) (omega (arith, call'.number, some')) (call.kind ∙ kind ∙ sym call'.kind)
          (λ same. apart (sym at ∙ sym call.number ∙ same ∙ call'.number ∙ at'))
          (ap (name_of_number job.names) (call.number ∙ at) ∙ names ∙ ap (name_of_number job.names) (sym at' ∙ sym call'.number))

  own_mark : (o : Op) → HasOwnObject job o → is_mark (mark_of job.names o) ≡ true
  own_mark o own = number_marked job.names (number_of o) is_job.objects.spelled own.number

  -- operations of the same words are one
  one_op_of : (o o' : Op) → argument_of o < 2 ^ 32 → argument_of o' < 2 ^ 32 → HasOwnObject job o → HasOwnObject job o' → op_words job.names o ≡ op_words job.names o' → o ≡ o'
  one_op_of o o' fits fits' own own' words =
      let text : List ℕ = op_words job.names o' ++ (codes " -> " ++ []) in
      let at : IsOpThen text (spoken_of o) (mark_of job.names o) [] = record {
        written = ap (λ (t : List ℕ). t ++ (codes " -> " ++ [])) (sym (words_parts job.names o) ∙ words);
        marked = own_mark o own;
        argument = argument_fits o fits;
      } in
      let at' : IsOpThen text (spoken_of o') (mark_of job.names o') [] = record {
        written = ap (λ (t : List ℕ). t ++ (codes " -> " ++ [])) (sym (words_parts job.names o'));
        marked = own_mark o' own';
        argument = argument_fits o' fits';
      } in
      let same = one_op text (spoken_of o) (spoken_of o') (mark_of job.names o) (mark_of job.names o') [] [] at at' in
      let kind : kind_of o ≡ kind_of o' = ap (λ (s : Spoken). kind_of_verb s.verb) same.0 in
      let number : number_of o ≡ number_of o' = same_number o o' own own' kind (number_of o) (number_of o') refl refl same.1 in
      sym (whole_op o) ∙ ap (λ (s : Spoken). op_of s.verb (number_of o) s.argument) same.0 ∙ ap (λ (n : ℕ). op_of (verb_of o') n (argument_of o')) number ∙ whole_op o'

  same_entry : (l l' w w' : ℕ) (o o' : Op) (r r' : Reply) → l ≡ l' → w ≡ w' → o ≡ o' → r ≡ r'
      → ◌≡◌ {A = Entry} (record { leaf = l; worker = w; op = o; reply = r }) (record { leaf = l'; worker = w'; op = o'; reply = r' })
  same_entry l l' w w' o o' r r' el ew eo er = cc

  one_batch : (es es' : List Entry) → AllByRecursion FitsEntry es → AllByRecursion FitsEntry es' → AllByRecursion (λ (entry : Entry). HasOwnObject job entry.op) es → AllByRecursion (λ (entry : Entry). HasOwnObject job entry.op) es'
      → map (worded job.names) es ≡ map (worded job.names) es' → es ≡ es'
  one_batch [] [] fits fits' own own' words = refl
  one_batch [] (e' ∷ es') fits fits' own own' words = cc
  one_batch (e ∷ es) [] fits fits' own own' words = cc
  one_batch (e ∷ es) (e' ∷ es') fits fits' own own' words =
      let first : worded job.names e ≡ worded job.names e' = cc in
      let tail : map (worded job.names) es ≡ map (worded job.names) es' = cc in
      let op = one_op_of e.op e'.op fits.0.argument fits'.0.argument own.0 own'.0 (ap (λ (x : Worded). x.words) first) in
      let same : e ≡ e' = same_entry e.leaf e'.leaf e.worker e'.worker e.op e'.op e.reply e'.reply (ap (λ (x : Worded). x.leaf) first) (ap (λ (x : Worded). x.worker) first) op (ap (λ (x : Worded). x.reply) first) in
      let more = one_batch es es' fits.1 fits'.1 own.1 own'.1 tail in
      cc (same, more)

  one_book : (book book' : List (List Entry)) → AllByRecursion FitsEntry (flat book) → AllByRecursion FitsEntry (flat book') → AllByRecursion (λ (entry : Entry). HasOwnObject job entry.op) (flat book) → AllByRecursion (λ (entry : Entry). HasOwnObject job entry.op) (flat book')
      → map (λ batch. map (worded job.names) batch) book ≡ map (λ batch. map (worded job.names) batch) book' → book ≡ book'
  one_book [] [] fits fits' own own' words = refl
  one_book [] (es' ∷ book') fits fits' own own' words = cc
  one_book (es ∷ book) [] fits fits' own own' words = cc
  one_book (es ∷ book) (es' ∷ book') fits fits' own own' words =
      let first : map (worded job.names) es ≡ map (worded job.names) es' = cc in
      let tail : map (λ batch. map (worded job.names) batch) book ≡ map (λ batch. map (worded job.names) batch) book' = cc in
      let P : Entry → Type 0 = λ entry. HasOwnObject job entry.op in
      let batch = one_batch es es' (each_left FitsEntry es (flat book) fits) (each_left FitsEntry es' (flat book') fits') (each_left P es (flat book) own) (each_left P es' (flat book') own') first in
      let more = one_book book book' (each_right FitsEntry es (flat book) fits) (each_right FitsEntry es' (flat book') fits') (each_right P es (flat book) own) (each_right P es' (flat book') own') tail in
      cc (batch, more)

  same_report : (w w' : ℕ) (h h' : List (List Entry)) (r r' : List Row) → w ≡ w' → h ≡ h' → r ≡ r' → ◌≡◌ {A = Report} (record { workers = w; history = h; rows = r }) (record { workers = w'; history = h'; rows = r' })
  same_report w w' h h' r r' ew eh er = cc

  pub one_report : (text : List ℕ) (a b : Report) → HasText job text a → HasText job text b → a ≡ b
  one_report text a b is is' =
      let same = alike text (record { names = job.names; report = a }) (record { names = job.names; report = b }) (named_text job text a is_job is) (named_text job text b is_job is') in
      same_report a.workers b.workers a.history b.history a.rows b.rows same.workers (one_book a.history b.history is.raw.fits.entries is'.raw.fits.entries is.raw.objects is'.raw.objects same.books) same.rows

  -- what was read of the text of a raw report is this report
  pub reads : (text : List ℕ) (r : Result Report ReadReportErr) (report : Report) → HasText job text report → IsReading job text r → IfOk r (λ raw. raw ≡ report)
  reads text (Ok raw) report has read = one_report text raw report read has
  reads text (Err NoReport) report has read = tt
  reads text (Err Memory) report has read = tt
