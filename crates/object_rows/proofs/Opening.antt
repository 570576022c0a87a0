-- The opening of structures, one after another.
use Rattle.std.proofs.Common.{ℕ, ◌≡◌, ◌==◌, ◌<◌, ◌≤◌, ◌||◌, Bool, true, false, if◌then◌else◌, None, List, [], ◌∷◌, ◌++◌, length, map, refl, ap, sym, subst, ◌∙◌, arith}
use Rattle.std.specs.List.{AllByRecursion}
use Rattle.std.proofs.lemmas.List.{map-append}
use Rattle.key_sets.specs.Keys.{has}
use Rattle.seq_objects.specs.declared.call.Call.{Call}
use Rattle.seq_objects.specs.Objects.{Objects}
use Rattle.seq_objects.specs.Batches.{calls_at}
use Rattle.seq_objects.specs.Pieces.{AllMeet, BatchContext}
use Rattle.seq_objects.proofs.Elements.{each_append}
use Rattle.seq_objects.proofs.Meets.{meets_more}
use Rattle.object_rows.specs.declared.members.Members.{Members}
use Rattle.object_rows.specs.declared.row.Called.{Called}
use Rattle.object_rows.specs.declared.row.Row.{Row}
use Rattle.object_rows.specs.Numbers.{numbers_of}
use Rattle.object_rows.specs.Rows.{members, added, in_rows}
use Rattle.object_rows.specs.Contents.{structure_at, content_or_opening, store_of}
use Rattle.object_rows.specs.Contexts.{IsOpenFor, IsRowContextOf}
use Rattle.object_rows.specs.Cuts.{longest, IsCutOf, AreCut}
use Rattle.object_rows.specs.Code.Opening.{OpensOne}
use Rattle.object_rows.proofs.ListLemmas.{meets_length, has_more, no_members}
use Rattle.object_rows.proofs.Numbering.{some_numbers, only_number}
use Rattle.object_rows.proofs.Adding.{all_added_more, length_in_rows}

-- the structures of these numbers are open, and their pieces in rows
pub record AreOpened {T R In : Type 0} (content : T → Objects) (is_context_of : R → BatchContext T In → Type 0) (cut : T → List Call → List In → Type 0)
    (most : ℕ) (was : Row T R) (calls : List Call) (now : Row T R) (numbers : List ℕ) (ins : List (Members In)) : Type 0 where
  pub lists : List (List In)
  pub opened : AllMeet (IsOpenFor content is_context_of (store_of content was.closed) calls) now.called.items lists
  pub are : map (λ called. called.number) now.called.items ≡ numbers
  pub each : AllMeet (IsCutOf content cut (store_of content was.closed) calls) numbers lists
  pub few : AllByRecursion (λ list. (1 ≤ length list) × (length list ≤ most)) lists
  pub rows : members ins ≡ in_rows lists
  pub others : (q : ℕ) → structure_at now.closed q ≡ (if has q numbers then None else structure_at was.closed q)

module _ {T R In : Type 0} (content : T → Objects) (is_context_of : R → BatchContext T In → Type 0) (cut : T → List Call → List In → Type 0)
    (most : ℕ) (was : Row T R) (calls : List Call) where
  pub none_opened : was.called.items ≡ [] → AreOpened content is_context_of cut most was calls was [] []
  none_opened none = record {
    lists = [];
    opened = subst (λ l. AllMeet (IsOpenFor content is_context_of (store_of content was.closed) calls) l []) (sym none) tt;
    are = ap (map (λ (called : Called R). called.number)) none;
    each = tt;
    few = tt;
    rows = refl;
    others = λ q. refl;
  }

  module _ (now : Row T R) (numbers : List ℕ) (ins : List (Members In)) (a : AreOpened content is_context_of cut most was calls now numbers ins) where
    pub same_store : (number : ℕ) → has number numbers ≡ false → store_of content now.closed number ≡ store_of content was.closed number
    same_store number new = ap (content_or_opening content) (a.others number ∙ ap (λ b. if b then None else structure_at was.closed number) new)

    pub opened_more : (next : Row T R) (number : ℕ) (list : List In) (rows : List (Members In)) → OpensOne content is_context_of now next number calls list → has number numbers ≡ false
        → IsCutOf content cut (store_of content now.closed) calls number list → (1 ≤ length list) × (length list ≤ most) → members rows ≡ added (members ins) list
        → AreOpened content is_context_of cut most was calls next (numbers ++ number ∷ []) rows
    opened_more next number list rows opens new is_cut few more = record {
      lists = a.lists ++ list ∷ [];
      opened = subst (λ l. AllMeet (IsOpenFor content is_context_of (store_of content was.closed) calls) l (a.lists ++ list ∷ [])) (sym opens.opened)
          (meets_more (IsOpenFor content is_context_of (store_of content was.closed) calls) now.called.items a.lists opens.called list a.opened moved);
      are = ap (map (λ (called : Called R). called.number)) opens.opened ∙ map-append (λ (called : Called R). called.number) now.called.items (opens.called ∷ [])
          ∙ ap (λ l. l ++ opens.called.number ∷ []) a.are ∙ ap (λ n. numbers ++ n ∷ []) opens.numbered;
      each = meets_more (IsCutOf content cut (store_of content was.closed) calls) numbers a.lists number list a.each
          (record { before = is_cut.before; contains = is_cut.contains ∙ same_store number new; pieces = is_cut.pieces });
      few = each_append (λ list. (1 ≤ length list) × (length list ≤ most)) a.lists (list ∷ []) a.few (few, tt);
      rows = more ∙ ap (λ l. added l list) a.rows ∙ sym (all_added_more [] a.lists list);
      others = others;
    } where
      moved : IsOpenFor content is_context_of (store_of content was.closed) calls opens.called list
      moved = record {
        before = opens.context.before;
        contains = opens.context.contains ∙ ap (store_of content now.closed) opens.numbered ∙ same_store number new ∙ ap (store_of content was.closed) (sym opens.numbered);
        count = opens.context.count;
        context = opens.context.context;
      }

      others : (q : ℕ) → structure_at next.closed q ≡ (if has q (numbers ++ number ∷ []) then None else structure_at was.closed q)
      others q = opens.others q ∙ step (q == number) (has q numbers) (a.others q) ∙ ap (λ b. if b then None else structure_at was.closed q) (sym (has_more q number numbers)) where
        step : (b h : Bool) → structure_at now.closed q ≡ (if h then None else structure_at was.closed q)
            → (if b then None else structure_at now.closed q) ≡ (if (h || b) then None else structure_at was.closed q)
        step true true is = refl
        step true false is = refl
        step false true is = is
        step false false is = is

  module _ (now : Row T R) (ins : List (Members In)) (a : AreOpened content is_context_of cut most was calls now (numbers_of calls) ins) where
    pub context : IsRowContextOf content is_context_of now (record { before = store_of content was.closed; calls = calls; ins = ins })
    context = record {
      lists = a.lists;
      opened = a.opened;
      numbers = a.are;
      rows = a.rows;
      others = λ number none. same_store now (numbers_of calls) ins a number none;
    }

    pub are_cut : AreCut content cut (store_of content was.closed) calls ins
    are_cut = record { lists = a.lists; each = a.each; count = length_in_rows ins a.lists a.rows }

    longest_most : (lists : List (List In)) → AllByRecursion (λ list. (1 ≤ length list) × (length list ≤ most)) lists → longest lists ≤ most
    longest_most [] few = omega arith
    longest_most (list ∷ lists) few = let rest = longest_most lists few.1 in let first = few.0.1 in omega (arith, rest, first)

    longest_some : (lists : List (List In)) → AllByRecursion (λ list. (1 ≤ length list) × (length list ≤ most)) lists → 0 < length lists → 1 ≤ longest lists
    longest_some [] few some = absurd (omega (arith, some))
    longest_some (list ∷ lists) few some = let first = few.0.0 in omega (arith, first)

    pub at_most : length ins ≤ most
    at_most = let n = length_in_rows ins a.lists a.rows in let m = longest_most a.lists a.few in omega (arith, n, m)

    pub at_least : 0 < length calls → 1 ≤ length ins
    at_least some =
        let n = length_in_rows ins a.lists a.rows in
        let many = meets_length _ (numbers_of calls) a.lists a.each in
        let numbers = some_numbers calls some in
        let m = longest_some a.lists a.few (omega (arith, many, numbers)) in
        omega (arith, n, m)

  -- the structure of one number is open, and has all calls
  pub only_opened : (next : Row T R) (number : ℕ) (list : List In) (rows : List (Members In)) → was.called.items ≡ [] → 0 < length calls → calls_at number calls ≡ calls
      → OpensOne content is_context_of was next number calls list → IsCutOf content cut (store_of content was.closed) calls number list → (1 ≤ length list) × (length list ≤ most) → members rows ≡ added [] list
      → AreOpened content is_context_of cut most was calls next (numbers_of calls) rows
  only_opened next number list rows none some all opens is_cut few more =
      subst (λ numbers. AreOpened content is_context_of cut most was calls next numbers rows) (sym (only_number number calls some all))
      (opened_more was [] [] (none_opened none) next number list rows opens refl is_cut few more)

-- no calls open none
pub none_called : {T R In : Type 0} (content : T → Objects) (is_context_of : R → BatchContext T In → Type 0) (cut : T → List Call → List In → Type 0) (was : Row T R) (calls : List Call) (ins : List (Members In))
    → was.called.items ≡ [] → ins ≡ [] → length calls ≡ 0 → IsRowContextOf content is_context_of was (record { before = store_of content was.closed; calls = calls; ins = ins })
none_called content is_context_of cut was calls ins closed none no_calls =
    let empty = no_members calls (λ some. omega (arith, some, no_calls)) in
    rw (none, empty) (context content is_context_of cut 0 was [] was [] (none_opened content is_context_of cut 0 was [] closed))
