-- The receipt of a worker is that of its own call's entry.
use Rattle.std.proofs.Common.{ℕ, ◌≡◌, ◌⊎◌, Option, Some, sym, ap, ◌∙◌, subst, inl, inr}
use Rattle.core_model.proofs.Words.{Op, Entry, Served, Got, Receipt, CoreJob, State}
use Rattle.core_model.specs.Entries.{StandsAt}
use Rattle.core_model.specs.Events.{HasStarted}
use Rattle.core_model.specs.Invariant.{Parts}
use Rattle.core_model.specs.Invariant.Statuses.{HasReceipt}
use Rattle.core_model.specs.Operations.{IsReceipt, op_of, Place, place_of, receipt_for}
use Rattle.core_model.specs.Waits.{task_place}
use Rattle.batch_history.proofs.BookLemmas.Books.{found_in_book}
use Rattle.core_model.proofs.BookLemmas.Operations.{is_call}
use Rattle.core_model.proofs.BookLemmas.Standing.{found_stands}

entry_is : (e : Entry) (leaf worker : ℕ) (op : Op) (r : Receipt) → e.leaf ≡ leaf → e.worker ≡ worker → e.op ≡ op → r.reply ≡ e.reply
    → e ≡ record { leaf = leaf; worker = worker; op = op; reply = r.reply }
entry_is e leaf worker op r a b c d = λ i. record { leaf = a i; worker = b i; op = c i; reply = sym d i }

one_op : (a b : Op) (o : Option Op) → o ≡ Some a → o ≡ Some b → a ≡ b
one_op a b o e f = cc

module _ (job : CoreJob) (s : State) (w n leaf : ℕ) (op : Op) (r : Receipt) (parts : Parts job s) (started : HasStarted job s w n leaf) (does : op_of job s.book leaf ≡ Some op) where
  its_receipt : (s.status w ≡ Served r) ⊎ (s.call w ≡ Got r) → HasReceipt job s.book (s.task w) r
  its_receipt (inl served) = parts.statuses.served_receipt w r served
  its_receipt (inr got) = parts.statuses.got_receipt w r got

  its_place : (s.status w ≡ Served r) ⊎ (s.call w ≡ Got r) → (p : Place) × (place_of s.book leaf ≡ Some p) × (p.entry.worker ≡ w)
  its_place (inl served) = parts.members.each n leaf started.0 (is_call job s.book leaf op does) w (inr (inr (inr (started.1, started.2, inr (inl (r, served))))))
  its_place (inr got) = parts.members.each n leaf started.0 (is_call job s.book leaf op does) w (inr (inr (inr (started.1, started.2, inl (r, got)))))

  pub own_entry : (s.status w ≡ Served r) ⊎ (s.call w ≡ Got r)
      → (p : Place) × (task_place job s.book (s.task w) ≡ Some p) × (place_of s.book leaf ≡ Some p) × (r ≡ receipt_for p)
      × (p.entry ≡ record { leaf = leaf; worker = w; op = op; reply = r.reply }) × StandsAt s.book r.batch r.place p.entry
  own_entry is =
      let place = its_place is in
      let p : Place = place.0 in
      let of_leaf : IsReceipt (place_of s.book leaf) r = rw (started.2, started.0) at (its_receipt is) in
      let receipt : r ≡ receipt_for p = rw place.1 at of_leaf in
      let found = found_in_book (λ (e : Entry). op_of job s.book e.leaf ≡ Some e.op) s.book leaf p parts.book.operations place.1 in
      let same : p.entry.op ≡ op = one_op p.entry.op op (op_of job s.book leaf) (ap (op_of job s.book) (sym found.1) ∙ found.0) does in (
        p,
        rw (started.2, started.0) place.1,
        place.1,
        receipt,
        entry_is p.entry leaf w op r found.1 place.2 same (ap (λ (x : Receipt). x.reply) receipt),
        subst (λ (x : Receipt). StandsAt s.book x.batch x.place p.entry) (sym receipt) (found_stands s.book leaf p place.1),
      )
