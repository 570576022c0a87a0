-- The facts at the opening of a batch.
use Rattle.std.proofs.Common.{ℕ, ◌≡◌, ◌==◌, ◌<◌, ◌+◌, List, [], length, map, None, refl, ap, sym, subst, ◌∙◌, arith, append-nil}
use Rattle.launch_batch.proofs.Words.{AllByRecursion, Call, number_of, AreDistinct, Kind, Counter, AreInBatchOrder, AreOneBatch, kind_of, same_kind, calls_of, calls_at, of_counter, Entry, MayServe, ArePermutations, IsNarrow, Members, Objects, Reply, opening, alone, served_book, BatchContext, store_of_kind, MatchesHistory, PieceIn}
use Rattle.seq_objects.specs.Batches.{AreOf}
use Rattle.seq_objects.proofs.Filters.{are_of}
use Rattle.object_rows.specs.declared.row.Row.{Row}
use Rattle.object_rows.specs.Contents.{structure_at, content_or_opening, store_of, MayServeOwn}
use Rattle.object_rows.specs.Contexts.{IsRowContextOf}
use Rattle.object_rows.specs.Cuts.{AreCut}
use Rattle.batched_counter.specs.Calls.{MayServe as MayAdd}
use Rattle.object_rows.proofs.ListLemmas.{no_members}
use Rattle.object_rows.proofs.Opening.{none_called}
use Rattle.launch_batch.specs.declared.structures.Structures.{Structures}
use Rattle.launch_batch.specs.Contents.{ShopInvariant}
use Rattle.launch_batch.specs.Code.Committing.{ServesOwn}
use Rattle.launch_batch.specs.Code.Rows.{OpensOwn}
use Rattle.launch_batch.proofs.ListLemmas.Same.{each_same, distinct_same, length_same}
use Rattle.launch_batch.proofs.MergeLemmas.Dealing.{few_pass}
use Rattle.launch_batch.proofs.BatchLemmas.Serial.{total_small}
use Rattle.key_sets.proofs.Filters.{all_filter}

-- the calls of a kind and a number are of the kind
pub own_at : (kind : Kind) (number : ℕ) (calls : List Call) → AreOf kind (calls_at number (calls_of kind calls))
own_at kind number calls = all_filter (λ (call : Call). kind_of call.op ≡ kind) (λ (call : Call). number_of call.op == number) (calls_of kind calls) (are_of kind calls)

pub some_same : (calls ordered : List Call) → ArePermutations calls ordered → 0 < length calls → 0 < length ordered
some_same calls ordered same some = let n = length_same calls ordered same in omega (arith, n, some)

-- the calls in order are one batch
pub one_batch : (calls ordered : List Call) → 0 < length calls → AreDistinct (map (λ (c : Call). c.worker) calls) → AllByRecursion (λ (c : Call). c.worker < 32) calls
    → ArePermutations calls ordered → AreInBatchOrder ordered → AreOneBatch ordered
one_batch calls ordered some workers below same order = record {
  some = some_same calls ordered same some;
  order = order;
  workers = distinct_same (λ (c : Call). c.worker) calls ordered same workers;
  below = each_same (λ (c : Call). c.worker < 32) calls ordered same below;
}

-- no counter overflows
pub may_add : (structures : Structures) (book : List (List Entry)) (calls ordered : List Call) → ShopInvariant structures book → MayServe book calls → ArePermutations calls ordered
    → AllByRecursion IsNarrow ordered → MayServeOwn of_counter MayAdd (store_of of_counter structures.counter.closed) (calls_of Counter ordered)
may_add structures book calls ordered i may same narrow number counter is = record {
  adds = own_at Counter number ordered;
  fits =
      let own = calls_of Counter ordered in
      let small = total_small (calls_at number own)
      (all_filter IsNarrow (λ (call : Call). number_of call.op == number) own (all_filter IsNarrow (λ (call : Call). same_kind Counter (kind_of call.op)) ordered narrow)) in
      let few = few_pass (λ (call : Call). number_of call.op == number) own in
      let fewer = few_pass (λ (call : Call). same_kind Counter (kind_of call.op)) ordered in
      let many = length_same calls ordered same in
      let most = may.most in
      let now : counter ≡ (served_book book number).counter = ap (λ (o : Objects). o.counter) (is ∙ i.counter.contents number) in
      let room = i.room number in
      omega (arith, small, few, fewer, many, most, now, room);
}

opening_alone : (kind : Kind) → opening ≡ alone kind opening
opening_alone Counter = refl
opening_alone _ = refl

-- without structures and batches
pub none_kept : {T R : Type 0} (content : T → Objects) (kind : Kind) (row : Row T R) (history : List (List Entry)) → row.called.items ≡ [] → ((number : ℕ) → structure_at row.closed number ≡ None)
    → history ≡ [] → MatchesHistory content kind row history
none_kept content kind row history closed none is = record {
  closed = closed;
  contents = λ number. ap (content_or_opening content) (none number) ∙ opening_alone kind ∙ ap (λ h. alone kind (served_book h number)) (sym is);
}

-- the contents of a row that matches the history
store_is : {T R : Type 0} (content : T → Objects) (kind : Kind) (row : Row T R) (history : List (List Entry)) → MatchesHistory content kind row history
    → store_of content row.closed ≡ store_of_kind kind (served_book history)
store_is content kind row history m = λ i number. m.contents number i

pub cut_for : {T R In : Type 0} (content : T → Objects) (kind : Kind) (cut : T → List Call → List In → Type 0) (row : Row T R) (history : List (List Entry)) (calls : List Call) (ins : List (Members In))
    → MatchesHistory content kind row history → AreCut content cut (store_of content row.closed) calls ins → AreCut content cut (store_of_kind kind (served_book history)) calls ins
cut_for content kind cut row history calls ins m is = subst (λ store. AreCut content cut store calls ins) (store_is content kind row history m) is

pub context_for : {T R In : Type 0} (content : T → Objects) (kind : Kind) (is_context_of : R → BatchContext T In → Type 0) (row now : Row T R) (history : List (List Entry)) (calls : List Call)
    (ins own : List (Members In)) → MatchesHistory content kind row history → own ≡ ins
    → IsRowContextOf content is_context_of now (record { before = store_of content row.closed; calls = calls; ins = ins })
    → IsRowContextOf content is_context_of now (record { before = store_of_kind kind (served_book history); calls = calls; ins = own })
context_for content kind is_context_of row now history calls ins own m are is =
    subst (λ l. IsRowContextOf content is_context_of now (record { before = store_of_kind kind (served_book history); calls = calls; ins = l })) (sym are)
    (subst (λ store. IsRowContextOf content is_context_of now (record { before = store; calls = calls; ins = ins })) (store_is content kind row history m) is)

-- what the structures of a kind have served where they matched the history
pub served_for : {T R : Type 0} (content : T → Objects) (kind : Kind) (row now : Row T R) (history : List (List Entry)) (calls : List Call) (earlier replies : List Reply) → MatchesHistory content kind row history
    → ServesOwn content now (store_of content row.closed) calls earlier replies → ServesOwn content now (store_of_kind kind (served_book history)) calls earlier replies
served_for content kind row now history calls earlier replies m is = subst (λ store. ServesOwn content now store calls earlier replies) (store_is content kind row history m) is

-- where a kind has no calls, none of its structures is opened
pub none_opened : {T R In : Type 0} (content : T → Objects) (is_context_of : R → BatchContext T In → Type 0) (cut : T → List Call → List In → Type 0) (most : ℕ) (make : ℕ → Members In → PieceIn) (first : ℕ)
    (row : Row T R) (calls : List Call) (pieces : List PieceIn) → row.called.items ≡ [] → length calls ≡ 0 → OpensOwn content is_context_of cut most make first row row calls pieces pieces
none_opened content is_context_of cut most make first row calls pieces closed none = record {
  ins = [];
  behind = sym (append-nil pieces);
  few = omega arith;
  some = λ some. absurd (omega (arith, some, none));
  are_cut = let empty = no_members calls (λ some. omega (arith, some, none)) in rw empty (record { lists = []; each = tt; count = refl });
  context = none_called content is_context_of cut row calls [] closed refl none;
}
