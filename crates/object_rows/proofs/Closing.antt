-- The closing of structures, from the last to the first.
use Rattle.std.proofs.Common.{ℕ, ◌≡◌, ◌==◌, ◌||◌, Bool, true, false, cond, if◌then◌else◌, Some, List, [], ◌∷◌, ◌++◌, length, map, refl, ap, sym, subst, ◌∙◌, arith}
use Rattle.std.proofs.lemmas.List.{map-append, length-map}
use Rattle.std.proofs.lemmas.Bool.Decides.{nat_tests}
use Rattle.key_sets.specs.Keys.{has}
use Rattle.seq_objects.specs.declared.call.Call.{Call}
use Rattle.seq_objects.specs.declared.reply.Reply.{Reply}
use Rattle.seq_objects.specs.declared.reply.Reply.TheVariants.{Empty}
use Rattle.seq_objects.specs.Objects.{Objects, after, number_of}
use Rattle.seq_objects.specs.Stores.{Store, store_after, store_after_all, store_replies, replies_at}
use Rattle.seq_objects.specs.Serial.{replies_to_all}
use Rattle.seq_objects.specs.Batches.{calls_at}
use Rattle.seq_objects.specs.Pieces.{AllMeet, BatchContext}
use Rattle.seq_objects.proofs.Numbers.{own_replies, own_content, others_stay, same_replies}
use Rattle.object_rows.specs.declared.members.Members.{Members}
use Rattle.object_rows.specs.declared.row.Called.{Called}
use Rattle.object_rows.specs.declared.row.Row.{Row}
use Rattle.object_rows.specs.Numbers.{numbers_of}
use Rattle.object_rows.specs.Rows.{members, added, in_rows, MembersMeet}
use Rattle.object_rows.specs.Contents.{structure_at, content_or_opening, store_of}
use Rattle.object_rows.specs.Contexts.{IsOpenFor, RowContext, IsRowContextOf, HasServed}
use Rattle.object_rows.specs.Code.Lasts.{lasts, fronts}
use Rattle.object_rows.specs.Code.Replies.{with_own}
use Rattle.object_rows.specs.Code.Closing.{ClosesOne}
use Rattle.object_rows.proofs.ListLemmas.{LastMeets, last_meets, has_more, no_members}
use Rattle.object_rows.proofs.Numbering.{none_at, some_numbers, all_of_one}
use Rattle.object_rows.proofs.Adding.{all_added_more}
use Rattle.object_rows.proofs.Dealing.{RowsMeet, rows_meet, lasts_meet, fronts_meet}
use Rattle.object_rows.proofs.Putting.{length_own, own_put, others_kept, replies_of_one}

none_told : (q : ℕ) (calls : List Call) (replies : List Reply) → calls_at q calls ≡ [] → replies_at q calls replies ≡ []
none_told q [] replies none = refl
none_told q (call ∷ calls) [] none = refl
none_told q (call ∷ calls) (reply ∷ replies) none = step (number_of call.op == q) none (none_told q calls replies) where
  step : (b : Bool) → cond b (call ∷ calls_at q calls) (calls_at q calls) ≡ [] → (calls_at q calls ≡ [] → replies_at q calls replies ≡ []) → cond b (reply ∷ replies_at q calls replies) (replies_at q calls replies) ≡ []
  step true none rest = absurd cc
  step false none rest = rest none

pub length_all : (objects : Objects) (calls : List Call) → length (replies_to_all objects calls) ≡ length calls
length_all objects [] = refl
length_all objects (call ∷ calls) = omega (arith, length_all (after objects call.op) calls)

pub length_told : (store : Store) (calls : List Call) → length (store_replies store calls) ≡ length calls
length_told store [] = refl
length_told store (call ∷ calls) = omega (arith, length_told (store_after store call.op) calls)

-- the structures that are still open belong to the batch; all others have served their calls
pub record AreClosing {T R In Out : Type 0} (content : T → Objects) (is_context_of : R → BatchContext T In → Type 0) (meets : In → Out → Type 0)
    (o : RowContext In) (now : Row T R) (outs : List (List Out)) (replies : List Reply) : Type 0 where
  pub lists : List (List In)
  pub opened : AllMeet (IsOpenFor content is_context_of o.before o.calls) now.called.items lists
  pub met : RowsMeet meets (in_rows lists) outs
  pub after : (q : ℕ) → has q (map (λ called. called.number) now.called.items) ≡ false → store_of content now.closed q ≡ store_after_all o.before o.calls q
  pub told : (q : ℕ) → has q (map (λ called. called.number) now.called.items) ≡ false → replies_at q o.calls replies ≡ replies_to_all (o.before q) (calls_at q o.calls)
  pub count : length replies ≡ length o.calls

module _ {T R In Out : Type 0} (content : T → Objects) (is_context_of : R → BatchContext T In → Type 0) (meets : In → Out → Type 0) (o : RowContext In) where
  pub all_open : (now : Row T R) (outs : List (Members Out)) (replies : List Reply) → IsRowContextOf content is_context_of now o → AllMeet (MembersMeet meets) o.ins outs
      → length replies ≡ length o.calls → AreClosing content is_context_of meets o now (members outs) replies
  all_open now outs replies r met count = record {
    lists = r.lists;
    opened = r.opened;
    met = subst (λ l. RowsMeet meets l (members outs)) r.rows (rows_meet meets o.ins outs met);
    after = λ q none. let none_here = ap (has q) (sym r.numbers) ∙ none in r.others q none_here ∙ sym (others_stay q o.before o.calls (none_at q o.calls none_here));
    told = λ q none.
        let no_calls = none_at q o.calls (ap (has q) (sym r.numbers) ∙ none) in
        none_told q o.calls replies no_calls ∙ ap (replies_to_all (o.before q)) (sym no_calls);
    count = count;
  }

  module _ (now : Row T R) (outs : List (List Out)) (replies : List Reply) (a : AreClosing content is_context_of meets o now outs replies)
      (rest : List (Called R)) (called : Called R) (popped : now.called.items ≡ rest ++ called ∷ []) where
    parts : LastMeets (IsOpenFor content is_context_of o.before o.calls) rest called a.lists
    parts = last_meets (IsOpenFor content is_context_of o.before o.calls) rest called a.lists
        (subst (λ l. AllMeet (IsOpenFor content is_context_of o.before o.calls) l a.lists) popped a.opened)

    met : RowsMeet meets (added (in_rows parts.front) parts.last) outs
    met = subst (λ l. RowsMeet meets l outs) (ap in_rows parts.is ∙ all_added_more [] parts.front parts.last) a.met

    -- the last open structure belongs to a batch of its calls, and the last outs of the rows meet its pieces
    pub last_open : (ins : List In) × IsOpenFor content is_context_of o.before o.calls called ins × AllMeet meets ins (lasts called.count outs)
    last_open = (parts.last, parts.lasts, subst (λ n. AllMeet meets parts.last (lasts n outs)) (sym parts.lasts.count) (lasts_meet meets (in_rows parts.front) parts.last outs met))

    none_more : (q : ℕ) → (q == called.number) ≡ false → has q (map (λ called. called.number) rest) ≡ false → has q (map (λ called. called.number) now.called.items) ≡ false
    none_more q differ none =
        ap (λ l. has q (map (λ (c : Called R). c.number) l)) popped ∙ ap (has q) (map-append (λ (c : Called R). c.number) rest (called ∷ []))
        ∙ has_more q called.number (map (λ (c : Called R). c.number) rest) ∙ ap (λ b. b || q == called.number) none ∙ differ

    pub closed_more : (next : Row T R) (left : List (List Out)) (told later : List Reply) → next.called.items ≡ rest → left ≡ fronts called.count outs
        → ClosesOne content now.closed next.closed called.number o.before o.calls told → later ≡ with_own called.number o.calls replies told
        → AreClosing content is_context_of meets o next left later
    closed_more next left told later same fronts_are closes put = record {
      lists = parts.front;
      opened = subst (λ l. AllMeet (IsOpenFor content is_context_of o.before o.calls) l parts.front) (sym same) parts.fronts;
      met = subst (RowsMeet meets (in_rows parts.front)) (ap (λ n. fronts n outs) (sym parts.lasts.count) ∙ sym fronts_are)
          (fronts_meet meets (in_rows parts.front) parts.last outs met);
      after = λ q none. after q (q == called.number) refl (ap (λ l. has q (map (λ (c : Called R). c.number) l)) (sym same) ∙ none);
      told = λ q none. ap (replies_at q o.calls) put ∙ told_at q (q == called.number) refl (ap (λ l. has q (map (λ (c : Called R). c.number) l)) (sym same) ∙ none);
      count = ap length put ∙ length_own called.number o.calls replies told a.count;
    } where
      after : (q : ℕ) (b : Bool) → (q == called.number) ≡ b → has q (map (λ called. called.number) rest) ≡ false → store_of content next.closed q ≡ store_after_all o.before o.calls q
      after q true is none =
          let one : q ≡ called.number = grind (arith, nat_tests) in
          ap (content_or_opening content) (closes.others q ∙ ap (λ b. if b then Some closes.structure else structure_at now.closed q) is)
          ∙ closes.after ∙ sym (own_content called.number o.before o.calls) ∙ ap (store_after_all o.before o.calls) (sym one)
      after q false is none =
          ap (content_or_opening content) (closes.others q ∙ ap (λ b. if b then Some closes.structure else structure_at now.closed q) is) ∙ a.after q (none_more q is none)

      told_at : (q : ℕ) (b : Bool) → (q == called.number) ≡ b → has q (map (λ called. called.number) rest) ≡ false
          → replies_at q o.calls (with_own called.number o.calls replies told) ≡ replies_to_all (o.before q) (calls_at q o.calls)
      told_at q true is none =
          let one : called.number ≡ q = grind (arith, nat_tests) in
          subst (λ n. replies_at n o.calls (with_own called.number o.calls replies told) ≡ replies_to_all (o.before n) (calls_at n o.calls)) one
          (own_put called.number o.calls replies told a.count (ap length closes.told ∙ length_all (o.before called.number) (calls_at called.number o.calls)) ∙ closes.told)
      told_at q false is none = others_kept called.number q o.calls replies told is ∙ a.told q (none_more q is none)

  -- no structure is open any more
  pub all_closed : (now : Row T R) (outs : List (List Out)) (replies : List Reply) → AreClosing content is_context_of meets o now outs replies → now.called.items ≡ []
      → HasServed content now o.before o.calls replies
  all_closed now outs replies a none = record {
    closed = none;
    after = λ q. a.after q (ap (λ l. has q (map (λ (c : Called R). c.number) l)) none);
    told = same_replies o.calls replies (store_replies o.before o.calls) a.count (length_told o.before o.calls)
        (λ q. a.told q (ap (λ l. has q (map (λ (c : Called R). c.number) l)) none) ∙ sym (own_replies q o.before o.calls));
  }

  -- only one structure is open
  module _ (now : Row T R) (outs : List (Members Out)) (r : IsRowContextOf content is_context_of now o) (all_met : AllMeet (MembersMeet meets) o.ins outs)
      (called : Called R) (only : now.called.items ≡ called ∷ []) where
    abbrev none_yet : List Reply
    none_yet = map (λ (call : Call). Empty) o.calls

    open_yet : AreClosing content is_context_of meets o now (members outs) none_yet
    open_yet = all_open now outs none_yet r all_met (length-map o.calls (λ (call : Call). Empty))

    -- it belongs to the batch, and the last outs of the rows meet its pieces
    pub only_open : (ins : List In) × IsOpenFor content is_context_of o.before o.calls called ins × AllMeet meets ins (lasts called.count (members outs))
    only_open = last_open now (members outs) none_yet open_yet [] called only

    -- where it is closed, all calls are served
    pub only_served : (next : Row T R) (told : List Reply) → next.called.items ≡ []
        → ClosesOne content now.closed next.closed called.number o.before o.calls told → HasServed content next o.before o.calls told
    only_served next told none closes =
        let one : numbers_of o.calls ≡ called.number ∷ [] = sym r.numbers ∙ ap (map (λ (c : Called R). c.number)) only in
        let put = with_own called.number o.calls none_yet told in
        let left = fronts called.count (members outs) in
        let served = all_closed next left put (closed_more now (members outs) none_yet open_yet [] called only next left told put none refl closes refl) none in
        record {
          closed = none;
          after = served.after;
          told = closes.told ∙ sym (own_replies called.number o.before o.calls)
              ∙ replies_of_one called.number o.calls (store_replies o.before o.calls) (all_of_one called.number o.calls one) (length_told o.before o.calls);
        }

  -- a batch that calls none
  pub none_served : (now : Row T R) (outs : List (Members Out)) → IsRowContextOf content is_context_of now o → AllMeet (MembersMeet meets) o.ins outs → now.called.items ≡ []
      → HasServed content now o.before o.calls []
  none_served now outs r met none =
      let no_numbers : [] ≡ numbers_of o.calls = ap (map (λ (c : Called R). c.number)) (sym none) ∙ r.numbers in
      let no_calls : [] ≡ o.calls = sym (no_members o.calls (λ some. let many = some_numbers o.calls some in let zero = ap length no_numbers in omega (arith, many, zero))) in
      all_closed now (members outs) [] (all_open now outs [] r met (ap length no_calls)) none
