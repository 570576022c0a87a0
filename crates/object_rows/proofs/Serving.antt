-- One structure serves all calls of a batch.
use Rattle.std.proofs.Common.{ℕ, ◌≡◌, ◌==◌, ◌<◌, ◌||◌, Bool, true, false, if◌then◌else◌, Some, List, [], ◌∷◌, length, refl, ap, sym, subst, ◌∙◌, arith}
use Rattle.std.specs.List.{AllByRecursion}
use Rattle.std.proofs.lemmas.Bool.Decides.{nat_tests}
use Rattle.key_sets.specs.Keys.{has}
use Rattle.seq_objects.specs.declared.call.Call.{Call}
use Rattle.seq_objects.specs.declared.reply.Reply.{Reply}
use Rattle.seq_objects.specs.Objects.{Objects, number_of}
use Rattle.seq_objects.specs.Stores.{Store, store_after_all, store_replies}
use Rattle.seq_objects.specs.Batches.{calls_at}
use Rattle.seq_objects.proofs.Numbers.{are_at, own_replies, own_content, others_stay}
use Rattle.object_rows.specs.declared.row.Row.{Row}
use Rattle.object_rows.specs.Contents.{structure_at, content_or_opening, store_of}
use Rattle.object_rows.specs.Contexts.{HasServed}
use Rattle.object_rows.specs.Code.Closing.{ClosesOne}
use Rattle.object_rows.proofs.Closing.{length_told}
use Rattle.object_rows.proofs.Numbering.{none_at, only_number}
use Rattle.object_rows.proofs.Putting.{replies_of_one}

module _ {T R : Type 0} (content : T → Objects) (was next : Row T R) (calls : List Call) (number : ℕ) (told : List Reply)
    (some : 0 < length calls) (all : calls_at number calls ≡ calls) (none : next.called.items ≡ [])
    (closes : ClosesOne content was.closed next.closed number (store_of content was.closed) calls told) where
  abbrev before : Store
  before = store_of content was.closed

  after : (q : ℕ) (b : Bool) → (q == number) ≡ b → store_of content next.closed q ≡ store_after_all before calls q
  after q true is =
      let one : q ≡ number = grind (arith, nat_tests) in
      ap (content_or_opening content) (closes.others q ∙ ap (λ b. if b then Some closes.structure else structure_at was.closed q) is)
      ∙ closes.after ∙ sym (own_content number before calls) ∙ ap (store_after_all before calls) (sym one)
  after q false is =
      let other : has q (number ∷ []) ≡ false = ap (λ b. b || false) is in
      ap (content_or_opening content) (closes.others q ∙ ap (λ b. if b then Some closes.structure else structure_at was.closed q) is)
      ∙ sym (others_stay q before calls (none_at q calls (ap (has q) (only_number number calls some all) ∙ other)))

  pub served_alone : HasServed content next before calls told
  served_alone = record {
    closed = none;
    after = λ q. after q (q == number) refl;
    told = closes.told ∙ sym (own_replies number before calls)
        ∙ replies_of_one number calls (store_replies before calls) (subst (AllByRecursion (λ call. number_of call.op ≡ number)) all (are_at number calls)) (length_told before calls);
  }
