-- What the tree's legal entries imply if no key is removed.
use Rattle.std.proofs.Common.{◌≡◌, ℕ, ◌+◌, ◌<◌, ◌≤◌, ◌||◌, Bool, true, false, not, List, [], ◌∷◌, length, refl, sym, ap, subst, ◌∙◌, arith}
use Rattle.std.specs.Prelude.{nat_lt}
use Rattle.std.specs.List.{AllByRecursion}
use Rattle.std.proofs.lemmas.Bool.Decides.{nat_tests}
use Rattle.key_sets.proofs.KeyLemmas.Ascending.{all_above}
use Rattle.key_sets.proofs.KeyLemmas.Beside.{has_none}
use Rattle.key_sets.proofs.KeyLemmas.Members.{same_set}
use Rattle.seq_objects.specs.declared.op.Op.{Op}
use Rattle.seq_objects.specs.declared.op.Op.TheVariants.{TreeInsert, TreeRemove, TreeFind}
use Rattle.seq_objects.specs.declared.act.Act.TheVariants.{Call}
use Rattle.seq_objects.specs.Objects.{Objects, opening, after, reply_to, has, with_key, yes_or_no}
use Rattle.seq_objects.specs.Orders.{StrictlyAscends, one_if}
use Rattle.seq_objects.specs.Stores.{opening_store}
use Rattle.sp_order.specs.Objects.{AreUnnamed}
use Rattle.sp_order.specs.Totals.{tree_inserts, tree_removes, tree_finds, finds_in, with_key_of, keys_inserted, total}
use Rattle.batch_history.specs.Book.{IsLegalFrom}
use Rattle.batch_history.specs.Serving.{acts_in}
use Rattle.batch_history.specs.Filling.{StandsBefore, FindsIn}
use Rattle.batch_history.specs.Tally.{over_replies, yes_of, new_keys, keys_found}
use Rattle.batch_history.specs.declared.batch.Entry.{Entry}
use Rattle.batch_history.proofs.TallyLemmas.Emptied.{none_later}
use Rattle.batch_history.proofs.TallyLemmas.Unnamed.{served_alone, IsLegalAlone, legal_alone}
use Rattle.batch_history.proofs.TallyLemmas.Keys.{or_none, inserts_key, ascends_step, has_step, inserted_ascend, has_inserted}

yes_one : (b : Bool) → yes_of (yes_or_no b) ≡ one_if b
yes_one true = refl
yes_one false = refl

-- adding a new key makes a set longer by one
grows : (key : ℕ) (set : List ℕ) → StrictlyAscends set → one_if (not (has key set)) + length set ≡ length (with_key key set)
grows key [] up = refl
grows key (k ∷ set) up =
    let rest = grows key set up.1 in
    let gone : key ≡ k → has key set ≡ false = λ is. has_none key set (subst (λ n. AllByRecursion (λ j. n < j) set) (sym is) up.0) in
    let gone' : key < k → has key set ≡ false = λ less. has_none key set (all_above key k set less up.0) in
    grind (arith, nat_tests)

-- the tree's set, when nothing is removed
set_step : (o : Objects) (op : Op) → tree_removes op ≡ 0 → (after o op).set ≡ with_key_of (Call op) o.set
set_step o (TreeRemove number key) kept = absurd (omega (arith, kept))
set_step o _ kept = refl

keys_step : (o : Objects) (op : Op) → StrictlyAscends o.set → new_keys op (reply_to o op) + length o.set ≡ length (with_key_of (Call op) o.set)
keys_step o (TreeInsert number key) up = omega (arith, grows key o.set up, yes_one (not (has key o.set)))
keys_step o _ up = omega arith

-- the keys of a set and of inserts, taken one entry at a time
or_sum : (b : Bool) (m n : ℕ) → ((b || nat_lt 0 m) || nat_lt 0 n) ≡ (b || nat_lt 0 (m + n))
or_sum true m n = refl
or_sum false m n = grind (arith, nat_tests)

record SetAfter (o : Objects) (entries : List Entry) : Type 0 where
  up : StrictlyAscends (served_alone o entries).set
  keys : over_replies new_keys entries + length o.set ≡ length (served_alone o entries).set
  has_key : (q : ℕ) → has q (served_alone o entries).set ≡ (has q o.set || nat_lt 0 (total (inserts_key q) (acts_in entries)))

set_after : (o : Objects) (entries : List Entry) → StrictlyAscends o.set → IsLegalAlone o entries → total tree_removes (acts_in entries) ≡ 0 → SetAfter o entries
set_after o [] up legal kept = record { up = up; keys = omega arith; has_key = λ q. or_none (has q o.set) }
set_after o (e ∷ entries) up legal kept =
    let is = set_step o e.op (omega (arith, kept)) in
    let next = subst StrictlyAscends (sym is) (ascends_step e.op o.set up) in
    let rest = set_after (after o e.op) entries next legal.1 (omega (arith, kept)) in
    let same : new_keys e.op e.reply ≡ new_keys e.op (reply_to o e.op) = ap (new_keys e.op) legal.0 in
    record {
      up = rest.up;
      keys = omega (arith, rest.keys, same, keys_step o e.op up, ap length is);
      has_key = λ q. let more = nat_lt 0 (total (inserts_key q) (acts_in entries)) in
          rest.has_key q ∙ ap (λ s. has q s || more) is ∙ ap (λ b. b || more) (has_step q e.op o.set)
          ∙ or_sum (has q o.set) (inserts_key q e.op) (total (inserts_key q) (acts_in entries));
    }

-- the final set consists of the inserted keys
set_is : (entries : List Entry) → IsLegalAlone opening entries → total tree_removes (acts_in entries) ≡ 0
    → (served_alone opening entries).set ≡ keys_inserted (acts_in entries)
set_is entries legal kept =
    let left = set_after opening entries tt legal kept in
    same_set (served_alone opening entries).set (keys_inserted (acts_in entries)) left.up (inserted_ascend (acts_in entries))
    (λ q. left.has_key q ∙ sym (has_inserted q (acts_in entries)))

and_none : (m n : ℕ) → m + 0 ≡ n → m ≡ n
and_none m n h = omega (arith, h)

-- the inserts that reply yes number the inserted keys
pub keys_are : (entries : List Entry) → AreUnnamed (acts_in entries) → IsLegalFrom opening_store entries → total tree_removes (acts_in entries) ≡ 0
    → over_replies new_keys entries ≡ length (keys_inserted (acts_in entries))
keys_are entries unnamed legal kept =
    let alone = legal_alone opening_store entries unnamed legal in
    and_none (over_replies new_keys entries) (length (served_alone opening entries).set) (set_after opening entries tt alone kept).keys
    ∙ ap length (set_is entries alone kept)

-- if nothing is inserted later, the set stays
stays_step : (o : Objects) (op : Op) → tree_inserts op ≡ 0 → tree_removes op ≡ 0 → (after o op).set ≡ o.set
stays_step o (TreeInsert number key) none kept = absurd (omega (arith, none))
stays_step o (TreeRemove number key) none kept = absurd (omega (arith, kept))
stays_step o _ none kept = refl

stays : (o : Objects) (entries : List Entry) → total tree_inserts (acts_in entries) ≡ 0 → total tree_removes (acts_in entries) ≡ 0
    → (served_alone o entries).set ≡ o.set
stays o [] none kept = refl
stays o (e ∷ entries) none kept =
    stays (after o e.op) entries (omega (arith, none)) (omega (arith, kept)) ∙ stays_step o e.op (omega (arith, none)) (omega (arith, kept))

-- a find replies whether the final set has its key
finds_left : (o : Objects) (entries : List Entry) → IsLegalAlone o entries → StandsBefore tree_inserts tree_finds entries → total tree_removes (acts_in entries) ≡ 0
    → AllByRecursion (FindsIn (served_alone o entries).set) entries
finds_left o [] legal apart kept = tt
finds_left o (e ∷ entries) legal apart kept =
    let later : total tree_removes (acts_in entries) ≡ 0 = omega (arith, kept) in (
      says (λ some. stays (after o e.op) entries (none_later tree_inserts tree_finds e.op entries apart.0 some) later),
      finds_left (after o e.op) entries legal.1 apart.1 later,
    ) where
      says : (1 ≤ tree_finds e.op → (served_alone (after o e.op) entries).set ≡ (after o e.op).set) → FindsIn (served_alone (after o e.op) entries).set e
      says same number key is =
          let replies : reply_to o e.op ≡ yes_or_no (has key o.set) = subst (λ op. reply_to o op ≡ yes_or_no (has key o.set)) (sym is) refl in
          let find : 1 ≤ tree_finds e.op = subst (λ op. 1 ≤ tree_finds op) (sym is) (omega arith) in
          let kept : (after o e.op).set ≡ o.set = subst (λ op. (after o op).set ≡ o.set) (sym is) refl in
          legal.0 ∙ replies ∙ ap (λ set. yes_or_no (has key set)) (sym (same find ∙ kept))

-- a find after all inserts replies whether its key was inserted
pub finds_say : (entries : List Entry) → AreUnnamed (acts_in entries) → IsLegalFrom opening_store entries → total tree_removes (acts_in entries) ≡ 0
    → StandsBefore tree_inserts tree_finds entries → AllByRecursion (FindsIn (keys_inserted (acts_in entries))) entries
finds_say entries unnamed legal kept apart =
    let alone = legal_alone opening_store entries unnamed legal in
    subst (λ set. AllByRecursion (FindsIn set) entries) (set_is entries alone kept) (finds_left opening entries alone apart kept)

-- so the yes replies number the finds of inserted keys
found_step : (set : List ℕ) (op : Op) (e : Entry) → e.op ≡ op → FindsIn set e → keys_found op e.reply ≡ finds_in set op
found_step set (TreeFind number key) e is says = ap yes_of (says number key is) ∙ yes_one (has key set)
found_step set _ e is says = refl

pub found_are : (set : List ℕ) (entries : List Entry) → AllByRecursion (FindsIn set) entries → over_replies keys_found entries ≡ total (finds_in set) (acts_in entries)
found_are set [] say = refl
found_are set (e ∷ entries) say = omega (arith, found_step set e.op e refl say.0, found_are set entries say.1)
