-- The lines of calls, step by step: what stands behind each step, and that a text begins with one.
use Rattle.std.proofs.Common.{◌≡◌, ℕ, true, List, ◌++◌, refl, sym, ap, ◌∙◌, append_assoc, codes, arith}
use Rattle.std.specs.Fmt.{decimal}
use Rattle.std.proofs.lemmas.Fmt.{decimal_injective}
use Rattle.std.proofs.lemmas.List.{append_cancel_left}
use Rattle.seq_objects.specs.Objects.{number_of}
use Rattle.seq_objects.specs.Words.{reply_words}
use Rattle.seq_objects.specs.declared.op.Op.{Op}
use Rattle.seq_objects.specs.declared.reply.Reply.{Reply}
use Rattle.batch_history.specs.Text.{entry_line}
use Rattle.report_reader.specs.Code.Fields.{IsFieldThen}
use Rattle.report_reader.specs.Code.Objects.{is_mark, mark_of}
use Rattle.report_reader.specs.Code.Operations.{spoken_words, IsOpThen}
use Rattle.report_reader.specs.Code.Replies.{IsReplyThen}
use Rattle.report_reader.specs.Code.Lines.{line_text, FitsLine, IsLineThen, call_of, call_line, FitsCall}
use Rattle.report_reader.specs.declared.operation.Spoken.{Spoken}
use Rattle.report_reader.specs.declared.call.Line.{Line}
use Rattle.report_reader.specs.declared.call.Numbered.{Numbered}
use Rattle.report_reader.proofs.Fields.{small, big, NoField, NoWords, field_apart, written_of, passes, stops}
use Rattle.seq_objects.proofs.Parts.{whole as whole_op}
use Rattle.report_reader.proofs.Operations.{spoken_of, words_parts, spoken_back, argument_fits, argument_small, one_op}
use Rattle.report_reader.proofs.Replies.{one_reply}

-- what stands behind each part of a call's line
abbrev pub reply_from : Line → List ℕ → List ℕ
reply_from line rest = reply_words line.reply ++ (codes "\n" ++ rest)

abbrev pub op_from : Line → List ℕ → List ℕ → List ℕ
op_from line mark rest = spoken_words line.spoken mark ++ (codes " -> " ++ reply_from line rest)

abbrev pub blank_from : Line → List ℕ → List ℕ → List ℕ
blank_from line mark rest = codes " " ++ op_from line mark rest

abbrev pub leaf_from : Line → List ℕ → List ℕ → List ℕ
leaf_from line mark rest = codes " leaf " ++ (decimal line.leaf ++ blank_from line mark rest)

abbrev pub worker_from : Line → List ℕ → List ℕ → List ℕ
worker_from line mark rest = codes " worker " ++ (decimal line.worker ++ leaf_from line mark rest)

abbrev pub place_from : Line → List ℕ → List ℕ → List ℕ
place_from line mark rest = codes " place " ++ (decimal line.place ++ worker_from line mark rest)

seven : (w1 d1 w2 d2 w3 d3 w4 d4 w5 d5 w6 d6 w7 rest : List ℕ)
    → (w1 ++ d1 ++ w2 ++ d2 ++ w3 ++ d3 ++ w4 ++ d4 ++ w5 ++ d5 ++ w6 ++ d6 ++ w7) ++ rest
    ≡ w1 ++ (d1 ++ (w2 ++ (d2 ++ (w3 ++ (d3 ++ (w4 ++ (d4 ++ (w5 ++ (d5 ++ (w6 ++ (d6 ++ (w7 ++ rest))))))))))))
seven w1 d1 w2 d2 w3 d3 w4 d4 w5 d5 w6 d6 w7 rest = simp append_assoc

pub line_whole : (line : Line) (mark rest : List ℕ) → line_text line mark ++ rest ≡ codes "batch " ++ (decimal line.batch ++ place_from line mark rest)
line_whole line mark rest =
    seven (codes "batch ") (decimal line.batch) (codes " place ") (decimal line.place) (codes " worker ") (decimal line.worker) (codes " leaf ") (decimal line.leaf)
    (codes " ") (spoken_words line.spoken mark) (codes " -> ") (reply_words line.reply) (codes "\n") rest

-- where one step of a call's line does not read, there is no such line
module _ {text : List ℕ} {line : Line} {mark rest : List ℕ} (is : IsLineThen text line mark rest) where
  whole_line : codes "batch " ++ (decimal line.batch ++ place_from line mark rest) ≡ text
  whole_line = sym (line_whole line mark rest) ∙ is.written

  pub no_batch : NoField (codes "batch ") 18446744073709551615 text → ⊥
  no_batch none = stops none line.batch (place_from line mark rest) (omega (arith, is.fits.batch)) refl whole_line

  module _ {b : ℕ} {t1 : List ℕ} (batch : IsFieldThen (codes "batch ") 18446744073709551615 text b t1) where
    at_place : place_from line mark rest ≡ t1
    at_place = (passes batch big line.batch (place_from line mark rest) (omega (arith, is.fits.batch)) refl whole_line).1

    pub no_place : NoField (codes " place ") 18446744073709551615 t1 → ⊥
    no_place none = stops none line.place (worker_from line mark rest) (omega (arith, is.fits.place)) refl at_place

    module _ {p : ℕ} {t2 : List ℕ} (place : IsFieldThen (codes " place ") 18446744073709551615 t1 p t2) where
      at_worker : worker_from line mark rest ≡ t2
      at_worker = (passes place big line.place (worker_from line mark rest) (omega (arith, is.fits.place)) refl at_place).1

      pub no_worker : NoField (codes " worker ") 4294967295 t2 → ⊥
      no_worker none = stops none line.worker (leaf_from line mark rest) (omega (arith, is.fits.worker)) refl at_worker

      module _ {w : ℕ} {t3 : List ℕ} (worker : IsFieldThen (codes " worker ") 4294967295 t2 w t3) where
        at_leaf : leaf_from line mark rest ≡ t3
        at_leaf = (passes worker small line.worker (leaf_from line mark rest) (omega (arith, is.fits.worker)) refl at_worker).1

        pub no_leaf : NoField (codes " leaf ") 4294967295 t3 → ⊥
        no_leaf none = stops none line.leaf (blank_from line mark rest) (omega (arith, is.fits.leaf)) refl at_leaf

        module _ {l : ℕ} {t4 : List ℕ} (leaf : IsFieldThen (codes " leaf ") 4294967295 t3 l t4) where
          at_blank : blank_from line mark rest ≡ t4
          at_blank = (passes leaf small line.leaf (blank_from line mark rest) (omega (arith, is.fits.leaf)) refl at_leaf).1

          pub no_blank : NoWords (codes " ") t4 → ⊥
          no_blank none = none (op_from line mark rest) at_blank

          module _ {t5 : List ℕ} (blank : codes " " ++ t5 ≡ t4) where
            at_op : IsOpThen t5 line.spoken mark (reply_from line rest)
            at_op = record { written = append_cancel_left (codes " ") (op_from line mark rest) t5 (at_blank ∙ sym blank); marked = is.marked; argument = is.fits.argument }

            pub no_op : ((spoken : Spoken) (mark' more : List ℕ) → IsOpThen t5 spoken mark' more → ⊥) → ⊥
            no_op none = none line.spoken mark (reply_from line rest) at_op

            pub no_reply : {spoken : Spoken} {mark' t6 : List ℕ} → IsOpThen t5 spoken mark' t6 → ((reply : Reply) (more : List ℕ) → IsReplyThen t6 reply more → ⊥) → ⊥
            no_reply {spoken = spoken} {mark' = mark'} {t6 = t6} read none =
                none line.reply rest (record { written = (one_op t5 line.spoken spoken mark mark' (reply_from line rest) t6 at_op read).2; fits = is.fits.reply })

nested_call : (w1 d1 w2 d2 w3 d3 w4 d4 w5 d5 w6 d6 w7 rest text t1 t2 t3 t4 t5 t6 : List ℕ)
    → w1 ++ (d1 ++ t1) ≡ text → w2 ++ (d2 ++ t2) ≡ t1 → w3 ++ (d3 ++ t3) ≡ t2 → w4 ++ (d4 ++ t4) ≡ t3 → w5 ++ t5 ≡ t4 → d5 ++ (w6 ++ t6) ≡ t5 → d6 ++ (w7 ++ rest) ≡ t6
    → w1 ++ (d1 ++ (w2 ++ (d2 ++ (w3 ++ (d3 ++ (w4 ++ (d4 ++ (w5 ++ (d5 ++ (w6 ++ (d6 ++ (w7 ++ rest)))))))))))) ≡ text
nested_call w1 d1 w2 d2 w3 d3 w4 d4 w5 d5 w6 d6 w7 rest text t1 t2 t3 t4 t5 t6 e1 e2 e3 e4 e5 e6 e7 = rw (e7, e6, e5, e4, e3, e2, e1)

-- the steps of a call's line make one
pub line_read : {text : List ℕ} {b p w l : ℕ} {spoken : Spoken} {reply : Reply} {mark t1 t2 t3 t4 t5 t6 rest : List ℕ}
    → IsFieldThen (codes "batch ") 18446744073709551615 text b t1 → IsFieldThen (codes " place ") 18446744073709551615 t1 p t2
    → IsFieldThen (codes " worker ") 4294967295 t2 w t3 → IsFieldThen (codes " leaf ") 4294967295 t3 l t4
    → codes " " ++ t5 ≡ t4 → IsOpThen t5 spoken mark t6 → IsReplyThen t6 reply rest
    → IsLineThen text (record { batch = b; place = p; worker = w; leaf = l; spoken = spoken; reply = reply }) mark rest
line_read {text = text} {b = b} {p = p} {w = w} {l = l} {spoken = spoken} {reply = reply} {mark = mark} {t1 = t1} {t2 = t2} {t3 = t3} {t4 = t4} {t5 = t5} {t6 = t6} {rest = rest} batch place worker leaf blank o r = record {
  written = line_whole (record { batch = b; place = p; worker = w; leaf = l; spoken = spoken; reply = reply }) mark rest
      ∙ nested_call (codes "batch ") (decimal b) (codes " place ") (decimal p) (codes " worker ") (decimal w) (codes " leaf ") (decimal l) (codes " ") (spoken_words spoken mark) (codes " -> ") (reply_words reply) (codes "\n") rest
      text t1 t2 t3 t4 t5 t6 (written_of batch) (written_of place) (written_of worker) (written_of leaf) blank o.written r.written;
  marked = o.marked;
  fits = record {
    batch = omega (arith, batch.read.within);
    place = omega (arith, place.read.within);
    worker = omega (arith, worker.read.within);
    leaf = omega (arith, leaf.read.within);
    argument = o.argument;
    reply = r.fits;
  };
}

same_line : (b b' p p' w w' l l' : ℕ) (s s' : Spoken) (r r' : Reply) → b ≡ b' → p ≡ p' → w ≡ w' → l ≡ l' → s ≡ s' → r ≡ r'
    → ◌≡◌ {A = Line} (record { batch = b; place = p; worker = w; leaf = l; spoken = s; reply = r }) (record { batch = b'; place = p'; worker = w'; leaf = l'; spoken = s'; reply = r' })
same_line b b' p p' w w' l l' s s' r r' eb ep ew el es er = cc

-- two lines of calls at the front of one text are one, with one mark and one rest
pub one_line : (text : List ℕ) (a b : Line) (mark mark' rest rest' : List ℕ) → IsLineThen text a mark rest → IsLineThen text b mark' rest' → (a ≡ b) × (mark ≡ mark') × (rest ≡ rest')
one_line text a b mark mark' rest rest' is is' =
    let batch = field_apart (codes "batch ") a.batch b.batch (place_from a mark rest) (place_from b mark' rest') refl refl (whole_line is ∙ sym (whole_line is')) in
    let place = field_apart (codes " place ") a.place b.place (worker_from a mark rest) (worker_from b mark' rest') refl refl batch.1 in
    let worker = field_apart (codes " worker ") a.worker b.worker (leaf_from a mark rest) (leaf_from b mark' rest') refl refl place.1 in
    let leaf = field_apart (codes " leaf ") a.leaf b.leaf (blank_from a mark rest) (blank_from b mark' rest') refl refl worker.1 in
    let ops = append_cancel_left (codes " ") (op_from a mark rest) (op_from b mark' rest') leaf.1 in
    let op = one_op (op_from b mark' rest') a.spoken b.spoken mark mark' (reply_from a rest) (reply_from b rest')
    (record { written = ops; marked = is.marked; argument = is.fits.argument }) (record { written = refl; marked = is'.marked; argument = is'.fits.argument }) in
    let reply = one_reply (reply_from b rest') a.reply b.reply rest rest' (record { written = op.2; fits = is.fits.reply }) (record { written = refl; fits = is'.fits.reply }) in (
      same_line a.batch b.batch a.place b.place a.worker b.worker a.leaf b.leaf a.spoken b.spoken a.reply b.reply
          (decimal_injective a.batch b.batch is.fits.batch is'.fits.batch batch.0) (decimal_injective a.place b.place is.fits.place is'.fits.place place.0)
          (decimal_injective a.worker b.worker (omega (arith, is.fits.worker)) (omega (arith, is'.fits.worker)) worker.0)
          (decimal_injective a.leaf b.leaf (omega (arith, is.fits.leaf)) (omega (arith, is'.fits.leaf)) leaf.0) op.0 reply.0,
      op.1,
      reply.1,
    )

-- the line of a call, without its object
abbrev pub line_of : Numbered → Line
line_of call = record { batch = call.batch; place = call.place; worker = call.entry.worker; leaf = call.entry.leaf; spoken = spoken_of call.entry.op; reply = call.entry.reply }

-- a call's line has its mark
pub call_marked : (names : List (List ℕ)) (call : Numbered) → call_line names call ≡ line_text (line_of call) (mark_of names call.entry.op)
unfolding entry_line
call_marked names call =
    ap (λ (words : List ℕ). codes "batch " ++ decimal call.batch ++ codes " place " ++ decimal call.place ++ codes " worker " ++ decimal call.entry.worker ++ codes " leaf " ++ decimal call.entry.leaf
    ++ codes " " ++ words ++ codes " -> " ++ reply_words call.entry.reply ++ codes "\n") (words_parts names call.entry.op)

pub line_fits : (call : Numbered) → FitsCall call → FitsLine (line_of call)
line_fits call fits = record {
  batch = fits.batch;
  place = fits.place;
  worker = fits.entry.worker;
  leaf = fits.entry.leaf;
  argument = argument_fits call.entry.op fits.entry.argument;
  reply = fits.entry.reply;
}

pub call_fits : (line : Line) (number : ℕ) → FitsLine line → FitsCall (call_of line number)
call_fits line number fits = record {
  batch = fits.batch;
  place = fits.place;
  entry = record { leaf = fits.leaf; worker = fits.worker; argument = argument_small line.spoken.verb number line.spoken.argument fits.argument; reply = fits.reply };
}

pub line_back : (line : Line) (number : ℕ) → FitsLine line → line_of (call_of line number) ≡ line
line_back line number fits =
    ap (λ (s : Spoken). record { batch = line.batch; place = line.place; worker = line.worker; leaf = line.leaf; spoken = s; reply = line.reply }) (spoken_back line.spoken.verb number line.spoken.argument fits.argument)

pub call_back : (call : Numbered) → call_of (line_of call) (number_of call.entry.op) ≡ call
call_back call =
    ap (λ (o : Op). record { batch = call.batch; place = call.place; entry = record { leaf = call.entry.leaf; worker = call.entry.worker; op = o; reply = call.entry.reply } }) (whole_op call.entry.op)

-- the line of a call whose mark is one stands at the front of a text
pub line_at : (names : List (List ℕ)) (call : Numbered) (text rest : List ℕ) → FitsCall call → is_mark (mark_of names call.entry.op) ≡ true → call_line names call ++ rest ≡ text
    → IsLineThen text (line_of call) (mark_of names call.entry.op) rest
line_at names call text rest fits marked is = record {
  written = ap (λ (t : List ℕ). t ++ rest) (sym (call_marked names call)) ∙ is;
  marked = marked;
  fits = line_fits call fits;
}
