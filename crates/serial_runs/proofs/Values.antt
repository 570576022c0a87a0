-- The values that leaves take under the book of a report are those of its calls.
use Rattle.std.proofs.Common.{◌≡◌, ℕ, List, Option, Some, None, refl, sym, ap, ◌∙◌, subst}
use Rattle.std.specs.Prelude.{slice_get, Contains}
use Rattle.std.specs.Option.{option_map}
use Rattle.std.proofs.lemmas.Option.{get_or_from_slice_get}
use Rattle.seq_objects.specs.Objects.{value_of}
use Rattle.seq_objects.specs.declared.act.Act.{Act}
use Rattle.seq_objects.specs.declared.act.Act.TheVariants.{Work, Call}
use Rattle.seq_objects.specs.declared.op.Op.{Op}
use Rattle.seq_objects.specs.declared.reply.Reply.{Reply}
use Rattle.sp_order.specs.Jobs.{JobValue}
use Rattle.sp_order.specs.Sources.{low_bits, with_value}
use Rattle.batch_history.specs.declared.batch.Entry.{Entry}
use Rattle.batch_history.specs.declared.place.Place.{Place}
use Rattle.batch_history.specs.Book.{flat}
use Rattle.batch_history.specs.Operations.{act_of, source_of, op_in, reply_at, number_from, value_from, value_under, op_with, op_from}
use Rattle.batch_history.specs.Places.{place_of}
use Rattle.batch_history.proofs.ActLemmas.{act_at}
use Rattle.batch_history.proofs.BookLemmas.Books.{found_in_book}
use Rattle.serial_runs.proofs.Elements.{each_contained}
use Rattle.serial_runs.specs.SerialRuns.{IsReplyTo, WorksOn, HasValue, IsAsked}

-- the reply that a leaf uses is that of a call
pub found_reply : (book : List (List Entry)) (source : ℕ) (place : Place) → place_of book source ≡ Some place → IsReplyTo (flat book) source place.entry.reply
found_reply book source place at =
    let found = found_in_book (Contains (flat book)) book source place (each_contained (Contains (flat book)) (flat book) (λ e c. c)) at in
    record { call = place.entry; made = found.0; of_leaf = found.1; replied = refl }

-- the act of a leaf is the one that it has in the list
act_is : (acts : List Act) (leaf : ℕ) (act : Act) → slice_get acts leaf ≡ Some act → act_of acts leaf ≡ act
act_is acts leaf act is = get_or_from_slice_get acts leaf act (Work 0) is

-- what is there has an image
image : (f : ℕ → ℕ) (x : Option ℕ) (y : ℕ) → option_map f x ≡ Some y → (z : ℕ) × ((x ≡ Some z) × (y ≡ f z))
image f None y is = absurd cc
image f (Some z) y is = (z, (refl, cc))

-- the value of a reply in the book is that of a call
replied_at : (book : List (List Entry)) (leaf : ℕ) (place : Option Place) (value : ℕ) → place_of book leaf ≡ place → reply_at place ≡ Some value
    → (reply : Reply) × IsReplyTo (flat book) leaf reply × (value ≡ value_of reply)
replied_at book leaf None value at is = absurd cc
replied_at book leaf (Some place) value at is = (place.entry.reply, found_reply book leaf place at, cc)

-- what a leaf of work computes on
works_on : (job : JobValue) (book : List (List Entry)) (leaf own number : ℕ) (source : Option ℕ) → source_of job leaf ≡ source
    → number_from book own source ≡ Some number → WorksOn job (flat book) leaf own number
works_on job book leaf own number None none is = record {
  plain = λ _. cc;
  sourced = λ source some. cc;
}
works_on job book leaf own number (Some source) some is =
    let low = image low_bits (reply_at (place_of book source)) number is in
    let replied = replied_at book source (place_of book source) low.0 refl low.1.0 in
    record {
      plain = λ none. cc;
      sourced = λ other also.
          let same : source ≡ other = cc in
          subst (λ (s : ℕ). (reply : Reply) × IsReplyTo (flat book) s reply × (number ≡ low_bits (value_of reply))) same
          (replied.0, replied.1, low.1.1 ∙ ap low_bits replied.2);
    }

-- a leaf of work whose value under the book is this one
pub worked_value : (work : ℕ → ℕ) (job : JobValue) (book : List (List Entry)) (leaf own value : ℕ)
    → value_from work book (Work own) (source_of job leaf) leaf ≡ Some value
    → (number : ℕ) × WorksOn job (flat book) leaf own number × (value ≡ work number)
worked_value work job book leaf own value is =
    let computed = image work (number_from book own (source_of job leaf)) value is in
    (computed.0, works_on job book leaf own computed.0 (source_of job leaf) refl computed.1.0, computed.1.1)

-- a leaf has the value that it has under the book
has_value : (work : ℕ → ℕ) (job : JobValue) (book : List (List Entry)) (leaf value : ℕ) → value_under work job book leaf ≡ Some value
    → HasValue work job (flat book) leaf value
has_value work job book leaf value is = record {
  works = λ own act.
      worked_value work job book leaf own value
      (ap (λ a. value_from work book a (source_of job leaf) leaf) (sym (act_is job.acts leaf (Work own) act)) ∙ is);
  called = λ call.
      replied_at book leaf (place_of book leaf) value refl
      (ap (λ a. value_from work book a (source_of job leaf) leaf) (sym (act_is job.acts leaf (Call call.0) call.1)) ∙ is);
}

used : (given : Option Op) (value : Option ℕ) (op : Op) → op_with given value ≡ Some op
    → (call : Op) × ((given ≡ Some call) × ((v : ℕ) × (value ≡ Some v) × (op ≡ with_value call v)))
used None value op is = absurd cc
used (Some call) None op is = absurd cc
used (Some call) (Some v) op is = (call, (refl, (v, refl, cc)))

pub asked_from : (work : ℕ → ℕ) (job : JobValue) (book : List (List Entry)) (e : Entry) (source : Option ℕ) → source_of job e.leaf ≡ source
    → op_from (value_under work job book) (op_in (act_of job.acts e.leaf)) source ≡ Some e.op → IsAsked work job (flat book) e
asked_from work job book e None none is = record {
  op = e.op;
  act = act_at job.acts e.leaf e.op is;
  plain = λ _. refl;
  sourced = λ source some. cc;
}
asked_from work job book e (Some source) some is =
    let u = used (op_in (act_of job.acts e.leaf)) (value_under work job book source) e.op is in
    let value = u.1.1.0 in
    record {
      op = u.0;
      act = act_at job.acts e.leaf u.0 u.1.0;
      plain = λ none. cc;
      sourced = λ other also.
          let same : source ≡ other = cc in
          subst (λ (s : ℕ). (v : ℕ) × HasValue work job (flat book) s v × (e.op ≡ with_value u.0 v)) same
          (value, has_value work job book source value u.1.1.1, u.1.1.2);
    }
