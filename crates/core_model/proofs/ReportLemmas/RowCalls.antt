-- What the book of a run that has ended says of the rows of its leaves.
use Rattle.std.proofs.Common.{ℕ, ◌≡◌, ◌<◌, inl, inr, true, Some, List, Contains, arith, refl, sym, subst, ◌∙◌, ap}
use Rattle.std.specs.Prelude.{slice_get}
use Rattle.std.specs.List.{AllByRecursion}
use Rattle.std.proofs.lemmas.List.Elements.{recursion_from_All, All-contains_itself}
use Rattle.seq_objects.specs.Objects.{value_of}
use Rattle.core_model.proofs.Words.{Call, Op, Entry, Ran, CoreJob, State, is_done}
use Rattle.batch_history.specs.Book.{flat}
use Rattle.batch_history.specs.declared.row.Row.{Row}
use Rattle.core_model.specs.Operations.{op_in, op_of, place_of, reply_at, value_under, IsCall, Place}
use Rattle.core_model.proofs.BookLemmas.Operations.{is_call, call_value}
use Rattle.core_model.specs.Invariant.Membership.{IsBooked}
use Rattle.seq_objects.proofs.Elements.{each_at}
use Rattle.batch_history.proofs.BookLemmas.Books.{found_in_book}
use Rattle.core_model.proofs.ReportLemmas.EndedRuns.{IsEnded}
use Rattle.core_model.proofs.BookLemmas.EntryPlaces.{leaves_of, contains_leaf, in_flat, entry_placed, entry_there}
use Rattle.core_model.proofs.ReportLemmas.OneReport.{same_ran}
use Rattle.core_model.proofs.ReportLemmas.RowOrder.{IsRowAt}
use Rattle.std.proofs.lemmas.Option.{same_Some}

-- a list contains each of its entries
pub contained : (es : List Entry) → AllByRecursion (Contains es) es
contained es = recursion_from_All (Contains es) es (All-contains_itself es)

module _ (job : CoreJob) (total : ℕ) (s : State) (h : IsEnded job total s) where
  -- the worker for which a leaf that has run is booked
  booked_for : (n w a e v : ℕ) → s.node n ≡ Ran w a e → IsBooked s n v → w ≡ v
  booked_for n w a e v ran (inl is) = (same_ran w v a is.0 e is.1 (sym ran ∙ is.2)).0
  booked_for n w a e v ran (inr (inl kept)) = let no = sym (h.idle v) ∙ kept.1 in cc
  booked_for n w a e v ran (inr (inr (inl ended))) = let no = sym (h.idle v) ∙ ended.2 in cc
  booked_for n w a e v ran (inr (inr (inr started))) = let no = sym (h.idle v) ∙ started.1 in cc

  -- a leaf with an operation calls
  pub calls : (leaf : ℕ) (op : Op) → op_in (job.act leaf) ≡ Some op → IsCall job leaf
  calls leaf op is none = let no = sym is ∙ none in cc

  -- a leaf that calls is in the book
  pub call_in : (leaf : ℕ) → leaf < total → IsCall job leaf → Contains (leaves_of (flat s.book)) leaf
  call_in leaf low call =
      let ran = h.ran leaf low in
      let place = h.parts.members.each (job.plan.node_of leaf) leaf (h.kind leaf low) call ran.0 (inl (ran.1, ran.2, ran.3)) in
      let found = found_in_book (Contains (flat s.book)) s.book leaf place.0 (contained (flat s.book)) place.1 in
      subst (Contains (leaves_of (flat s.book))) found.1 (contains_leaf (flat s.book) place.0.entry found.0)

  -- the leaf of an entry calls
  entry_call : (e : Entry) → Contains (flat s.book) e → IsCall job e.leaf
  entry_call e there = is_call job s.book e.leaf e.op (each_at (λ (x : Entry). op_of job s.book x.leaf ≡ Some x.op) (flat s.book) e h.parts.book.operations there)

  -- the worker of the row of an entry's leaf is the entry's
  pub worker_is : (e : Entry) (row : Row) → Contains (flat s.book) e → IsRowAt job total s e.leaf row → row.worker ≡ e.worker
  worker_is e row there at =
      let placed = entry_there s.book e h.parts.book.leaves there in
      let booked = h.parts.members.only (job.plan.node_of e.leaf) e.leaf (h.kind e.leaf at.low) (entry_call e there) placed.1.at placed.1.is in
      booked_for (job.plan.node_of e.leaf) row.worker row.start row.end placed.1.at.entry.worker at.ran booked ∙ ap (λ (x : Entry). x.worker) placed.1.entry

  -- an entry whose leaf ended before the start of another one's stands in an earlier batch
  pub entry_earlier : (b c : ℕ) (batch batch' : List Entry) (e f : Entry) (row row' : Row) → slice_get s.book b ≡ Some batch → slice_get s.book c ≡ Some batch'
      → Contains batch e → Contains batch' f → IsRowAt job total s e.leaf row → IsRowAt job total s f.leaf row' → row.end < row'.start → b < c
  entry_earlier b c batch batch' e f row row' is is' in_b in_c at at' less =
      let there = in_flat s.book b batch e is in_b in
      let placed = entry_placed s.book b batch e h.parts.book.leaves is in_b in
      let placed' = entry_placed s.book c batch' f h.parts.book.leaves is' in_c in
      let early = h.parts.book.in_order (job.plan.node_of e.leaf) (job.plan.node_of f.leaf) e.leaf f.leaf row.worker row'.worker row.start row'.start row.end
      (h.kind e.leaf at.low) (h.kind f.leaf at'.low) (entry_call e there) (inl at.ran) (inl (row'.end, at'.ran)) less placed'.at placed'.is in
      let same : Some early.0 ≡ Some placed.at = sym early.1 ∙ placed.is in
      let place : early.0 ≡ placed.at = cc in
      let batch_is = ap (λ (p : Place). p.batch) place in
      omega (arith, early.2, batch_is, placed.in_batch, placed'.in_batch)

  -- the value of the row of a leaf is the one that the leaf has under the book
  pub row_valued : (leaf : ℕ) (row : Row) → IsRowAt job total s leaf row → value_under job s.book leaf ≡ Some row.value
  row_valued leaf row at =
      let done : is_done (s.node (job.plan.node_of leaf)) ≡ true = rw at.ran refl in
      let value = h.parts.values.values (job.plan.node_of leaf) leaf (h.kind leaf at.low) (inl done) in
      value.2 ∙ sym value.1 ∙ at.value

  -- that of a leaf that calls is the value of its reply
  pub call_valued : (e : Entry) (own : Op) (row : Row) → job.act e.leaf ≡ Call own → Contains (flat s.book) e → IsRowAt job total s e.leaf row → row.value ≡ value_of e.reply
  call_valued e own row is there at =
      let placed = entry_there s.book e h.parts.book.leaves there in
      let reply : reply_at (place_of s.book e.leaf) ≡ Some (value_of e.reply) =
      ap reply_at placed.1.is ∙ ap (λ (x : Entry). Some (value_of x.reply)) placed.1.entry in
      let value : Some row.value ≡ Some (value_of e.reply) = sym (row_valued e.leaf row at) ∙ call_value job s.book e.leaf own is ∙ reply in
      same_Some row.value (value_of e.reply) value
