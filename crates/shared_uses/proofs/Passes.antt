-- Items that threads pass on through one FIFO queue.
use Rattle.std.proofs.Common.{◌≡◌, ℕ, zero, suc, ◌+◌, ◌<◌, List, [], ◌∷◌, ◌++◌, map, drop, length, get_or, Vec, Global, Bool, true, false, Some, ◌==◌, if◌then◌else◌, sym, refl, ap, ◌∙◌, subst, arith, append_assoc, append-nil}
use Rattle.std.specs.Prelude.{flat_map, sum_by, slice_get}
use Rattle.std.specs.List.{AllByRecursion}
use Rattle.std.proofs.lemmas.List.{length-map, length-append}
use Rattle.std.proofs.lemmas.List.Concat.{length-flat_map}
use Rattle.std.proofs.lemmas.List.Sums.{sum_by-append, sum_by-cons}
use Rattle.std.proofs.lemmas.List.Sorted.{sum_by-IsPermutation}
use Rattle.shared_calls.specs.declared.view.Entry.{Entry}
use Rattle.shared_calls.specs.declared.shared.Caller.{Caller}
use Rattle.shared_calls.specs.declared.shared.Shared.{Shared}
use Rattle.shared_calls.specs.declared.combined.Combined.{Ghosts}
use Rattle.shared_calls.specs.Logs.{calls_by}
use Rattle.shared_calls.specs.Serial.{replies_to_all, after_all}
use Rattle.shared_calls.specs.Views.{IsCallerOf, number_of, number_of_callers, made, is_lost}
use Rattle.shared_calls.specs.Closing.{AreCallersOf, AreAllCalls}
use Rattle.shared_collections.specs.Fifos.{fifo, fifo_reply, items_after}
use Rattle.shared_collections.specs.declared.fifo.FifoOp.{FifoOp}
use Rattle.shared_collections.specs.declared.fifo.FifoOp.TheVariants.{Put, Get}
use Rattle.shared_collections.specs.declared.fifo.FifoReply.{FifoReply}
use Rattle.shared_uses.specs.declared.passing.Part.{Part}
use Rattle.shared_uses.specs.declared.passing.Work.{Work}
use Rattle.shared_uses.specs.Piping.{Passed, put_by, taken_by, ArePassedOn, item_put, item_taken, puts_of, takes_of, HasAllRoom}

abbrev Call : Type 0
Call = Entry FifoOp FifoReply

-- what one call takes and leaves is what was there before and what it puts
taken_at : (q : List ℕ) (op : FifoOp) (r : FifoReply) → r ≡ fifo_reply q op → item_taken r ++ items_after q op ≡ q ++ item_put op
taken_at q (Put item) r is = ap (λ x. item_taken x ++ items_after q (Put item)) is
taken_at [] Get r is = ap (λ x. item_taken x ++ items_after [] Get) is
taken_at (x ∷ q) Get r is = ap (λ y. item_taken y ++ items_after (x ∷ q) Get) is ∙ sym (append-nil (x ∷ q))

-- what calls take and leave is what was there before and what they put, in its order
flows : (q : List ℕ) (log : List Call) → map (λ (e : Call). e.reply) log ≡ replies_to_all fifo q (map (λ (e : Call). e.op) log)
    → takes_of log ++ after_all fifo q (map (λ (e : Call). e.op) log) ≡ q ++ puts_of log
flows q [] is = sym (append-nil q)
flows q (e ∷ log) is =
    let here : e.reply ≡ fifo_reply q e.op = ap (λ (l : List FifoReply). get_or l 0 e.reply) is in
    let rest = flows (items_after q e.op) log (ap (λ (l : List FifoReply). drop 1 l) is) in
    let left : List ℕ = after_all fifo (items_after q e.op) (map (λ (x : Call). x.op) log) in
    append_assoc (item_taken e.reply) (takes_of log) left ∙ (ap (λ l. item_taken e.reply ++ l) rest ∙ (sym (append_assoc (item_taken e.reply) (items_after q e.op) (puts_of log))
    ∙ (ap (λ l. l ++ puts_of log) (taken_at q e.op e.reply here) ∙ append_assoc q (item_put e.op) (puts_of log))))

none_left : (xs ys zs : List ℕ) → xs ++ ys ≡ zs → length zs ≡ length xs → xs ≡ zs
none_left xs [] zs is long = sym (append-nil xs) ∙ is
none_left xs (y ∷ ys) zs is long =
    let all = ap (λ (l : List ℕ). length l) is in
    let parts = length-append xs (y ∷ ys) in
    absurd (omega (arith, all, parts, long))

-- items with the numbers of the callers
abbrev by : ℕ → List (ℕ × ℕ) → List ℕ
by n [] = []
by n (x ∷ xs) = if x.0 == n then x.1 ∷ by n xs else by n xs

abbrev beside : ℕ → List ℕ → List (ℕ × ℕ)
beside m items = map (λ item. (m, item)) items

both_same : (b : Bool) (r : List ℕ) → r ≡ if b then r else r
both_same true r = refl
both_same false r = refl

both_more : (b : Bool) (i : ℕ) (l r : List ℕ) → (if b then i ∷ (if b then l ++ r else r) else (if b then l ++ r else r)) ≡ (if b then (i ∷ l) ++ r else r)
both_more true i l r = refl
both_more false i l r = refl

by_beside : (n m : ℕ) (l : List ℕ) (rest : List (ℕ × ℕ)) → by n (beside m l ++ rest) ≡ (if m == n then l ++ by n rest else by n rest)
by_beside n m [] rest = both_same (m == n) (by n rest)
by_beside n m (i ∷ l) rest = ap (λ x. if m == n then i ∷ x else x) (by_beside n m l rest) ∙ both_more (m == n) i l (by n rest)

module _ (item_of : Call → List ℕ) where
  abbrev named : List Call → List (ℕ × ℕ)
  named [] = []
  named (e ∷ log) = beside e.caller (item_of e) ++ named log

  own_or_not : (b : Bool) (e : Call) (es : List Call) → (if b then item_of e ++ flat_map item_of es else flat_map item_of es) ≡ flat_map item_of (if b then e ∷ es else es)
  own_or_not true e es = refl
  own_or_not false e es = refl

  by_named : (n : ℕ) (log : List Call) → by n (named log) ≡ flat_map item_of (calls_by n log)
  by_named n [] = refl
  by_named n (e ∷ log) =
      by_beside n e.caller (item_of e) (named log) ∙ (ap (λ x. if e.caller == n then item_of e ++ x else x) (by_named n log) ∙ own_or_not (e.caller == n) e (calls_by n log))

  beside_items : (m : ℕ) (l : List ℕ) (rest : List (ℕ × ℕ)) → map (λ (x : ℕ × ℕ). x.1) (beside m l ++ rest) ≡ l ++ map (λ (x : ℕ × ℕ). x.1) rest
  beside_items m [] rest = refl
  beside_items m (i ∷ l) rest = ap (λ x. i ∷ x) (beside_items m l rest)

  named_items : (log : List Call) → map (λ (x : ℕ × ℕ). x.1) (named log) ≡ flat_map item_of log
  named_items [] = refl
  named_items (e ∷ log) = beside_items e.caller (item_of e) (named log) ∙ ap (λ l. item_of e ++ l) (named_items log)

  beside_below : (count m : ℕ) (l : List ℕ) (rest : List (ℕ × ℕ)) → m < count → AllByRecursion (λ (x : ℕ × ℕ). x.0 < count) rest → AllByRecursion (λ (x : ℕ × ℕ). x.0 < count) (beside m l ++ rest)
  beside_below count m [] rest less all = all
  beside_below count m (i ∷ l) rest less all = (less, beside_below count m l rest less all)

  named_below : (count : ℕ) (log : List Call) → AllByRecursion (λ (e : Call). e.caller < count) log → AllByRecursion (λ (x : ℕ × ℕ). x.0 < count) (named log)
  named_below count [] all = tt
  named_below count (e ∷ log) all = beside_below count e.caller (item_of e) (named log) all.0 (named_below count log all.1)

-- the line of all items, by who put each and who took it
abbrev line_of : List (ℕ × ℕ) → List (ℕ × ℕ) → List Passed
line_of [] ts = []
line_of (p ∷ ps) [] = []
line_of (p ∷ ps) (t ∷ ts) = record { putter = p.0; taker = t.0; item = p.1 } ∷ line_of ps ts

line_puts : (n : ℕ) (ps ts : List (ℕ × ℕ)) → length ps ≡ length ts → put_by n (line_of ps ts) ≡ by n ps
line_puts n [] ts long = refl
line_puts n (p ∷ ps) [] long = absurd (omega (arith, long))
line_puts n (p ∷ ps) (t ∷ ts) long = ap (λ l. if p.0 == n then p.1 ∷ l else l) (line_puts n ps ts (omega (arith, long)))

line_takes : (n : ℕ) (ps ts : List (ℕ × ℕ)) → map (λ (x : ℕ × ℕ). x.1) ps ≡ map (λ (x : ℕ × ℕ). x.1) ts → taken_by n (line_of ps ts) ≡ by n ts
line_takes n [] [] same = refl
line_takes n [] (t ∷ ts) same = absurd (cc)
line_takes n (p ∷ ps) [] same = absurd (cc)
line_takes n (p ∷ ps) (t ∷ ts) same =
    ap (λ l. if t.0 == n then p.1 ∷ l else l) (line_takes n ps ts (ap (λ (l : List ℕ). drop 1 l) same))
    ∙ ap (λ (i : ℕ). if t.0 == n then i ∷ by n ts else by n ts) (ap (λ (l : List ℕ). get_or l 0 0) same)

line_known : (count : ℕ) (ps ts : List (ℕ × ℕ)) → AllByRecursion (λ (x : ℕ × ℕ). x.0 < count) ps → AllByRecursion (λ (x : ℕ × ℕ). x.0 < count) ts
    → AllByRecursion (λ (p : Passed). (p.putter < count) × (p.taker < count)) (line_of ps ts)
line_known count [] ts puts takes = tt
line_known count (p ∷ ps) [] puts takes = tt
line_known count (p ∷ ps) (t ∷ ts) puts takes = ((puts.0, takes.0), line_known count ps ts puts.1 takes.1)

module _ {T : Type 0} {g : Ghosts T FifoOp FifoReply} (s : Shared T FifoOp FifoReply) (f : Part → Caller T FifoOp FifoReply g) where
  -- a part that has done its work, unless the queue is lost
  abbrev pub Done : ℕ → Work → Part → Type 0
  Done n w p = IsCallerOf s (f p) × (number_of (f p) ≡ n) × (is_lost (f p) ≡ false → (puts_of (made (f p)) ≡ w.puts.items) × (takes_of (made (f p)) ≡ p.taken.items) × (length p.taken.items ≡ w.takes))

  -- parts of consecutive numbers from k on, each of which has done its work
  pub AllDone : ℕ → List Work → List Part → Type 0
  AllDone k [] [] = Unit {0}
  AllDone k [] (p ∷ parts) = ⊥
  AllDone k (w ∷ work) [] = ⊥
  AllDone k (w ∷ work) (p ∷ parts) = IsCallerOf s (f p) × (number_of (f p) ≡ k) × (puts_of (made (f p)) ≡ w.puts.items) × (takes_of (made (f p)) ≡ p.taken.items) × (length p.taken.items ≡ w.takes) × AllDone (k + 1) work parts

  pub all_done : (k : ℕ) (olds parts : List Part) → length parts ≡ length olds → AllByRecursion (λ (p : Part). is_lost (f p) ≡ false) parts
      → ((i : ℕ) (p q : Part) → i < length olds → p ≡ get_or olds i p → q ≡ get_or parts i q → Done (k + i) p.work q) → AllDone k (map (λ (p : Part). p.work) olds) parts
  unfolding AllDone
  all_done k [] [] long sound each = tt
  all_done k [] (q ∷ parts) long sound each = absurd (omega (arith, long))
  all_done k (p ∷ olds) [] long sound each = absurd (omega (arith, long))
  all_done k (p ∷ olds) (q ∷ parts) long sound each =
      let here = each 0 p q (omega arith) refl refl in
      let did = here.2 sound.0 in (
        here.0,
        here.1 ∙ omega arith,
        did.0,
        did.1,
        did.2,
        all_done (k + 1) olds parts (omega (arith, long)) sound.1 (λ i x y less old new. subst (λ (n : ℕ). Done n x.work y) (omega arith) (each (suc i) x y (omega (arith, less)) old new)),
      )

  each_caller : (k : ℕ) (work : List Work) (parts : List Part) → AllDone k work parts → (j : ℕ) (c : Caller T FifoOp FifoReply g) → j < length parts → c ≡ get_or (map f parts) j c → IsCallerOf s c × (number_of c ≡ k + j)
  unfolding AllDone
  each_caller k work [] all j c less is = absurd (omega (arith, less))
  each_caller k [] (p ∷ parts) all j c less is = absurd all
  each_caller k (w ∷ work) (p ∷ parts) all zero c less is = (subst (λ y. IsCallerOf s y) (sym is) all.0, ap number_of is ∙ (all.1 ∙ omega arith))
  each_caller k (w ∷ work) (p ∷ parts) all (suc j) c less is = let there = each_caller (k + 1) work parts all.5 j c (omega (arith, less)) is in (there.0, there.1 ∙ omega arith)

  -- the callers may close the queue
  pub are_callers : (work : List Work) (parts : List Part) → AllDone 0 work parts → length parts ≡ number_of_callers s → AreCallersOf s (map f parts)
  are_callers work parts all long = record {
    count = length-map parts f ∙ long;
    each = λ k c less is. let there = each_caller 0 work parts all k c (omega (arith, less, long)) is in (there.0, there.1 ∙ omega arith);
  }

  as_many : (k : ℕ) (work : List Work) (parts : List Part) → AllDone k work parts → length parts ≡ length work
  unfolding AllDone
  as_many k [] [] all = refl
  as_many k [] (p ∷ parts) all = absurd all
  as_many k (w ∷ work) [] all = absurd all
  as_many k (w ∷ work) (p ∷ parts) all = ap suc (as_many (k + 1) work parts all.5)

  abbrev put_in : Call → List ℕ
  put_in e = item_put e.op

  abbrev taken_in : Call → List ℕ
  taken_in e = item_taken e.reply

  -- they put and take as many items as their work says
  puts_long : (k : ℕ) (work : List Work) (parts : List Part) → AllDone k work parts → sum_by (λ (e : Call). length (put_in e)) (flat_map made (map f parts)) ≡ sum_by (λ (w : Work). length w.puts.items) work
  unfolding AllDone
  puts_long k [] [] all = refl
  puts_long k [] (p ∷ parts) all = absurd all
  puts_long k (w ∷ work) [] all = absurd all
  puts_long k (w ∷ work) (p ∷ parts) all =
      let rest : ℕ = sum_by (λ (e : Call). length (put_in e)) (flat_map made (map f parts)) in
      sum_by-append (λ (e : Call). length (put_in e)) (made (f p)) (flat_map made (map f parts)) ∙ (ap (λ (n : ℕ). n + rest) (sym (length-flat_map put_in (made (f p))) ∙ ap (λ (l : List ℕ). length l) all.2)
      ∙ (ap (λ (n : ℕ). length w.puts.items + n) (puts_long (k + 1) work parts all.5) ∙ sym (sum_by-cons (λ (x : Work). length x.puts.items) w work)))

  takes_long : (k : ℕ) (work : List Work) (parts : List Part) → AllDone k work parts → sum_by (λ (e : Call). length (taken_in e)) (flat_map made (map f parts)) ≡ sum_by (λ (w : Work). w.takes) work
  unfolding AllDone
  takes_long k [] [] all = refl
  takes_long k [] (p ∷ parts) all = absurd all
  takes_long k (w ∷ work) [] all = absurd all
  takes_long k (w ∷ work) (p ∷ parts) all =
      let rest : ℕ = sum_by (λ (e : Call). length (taken_in e)) (flat_map made (map f parts)) in
      sum_by-append (λ (e : Call). length (taken_in e)) (made (f p)) (flat_map made (map f parts)) ∙ (ap (λ (n : ℕ). n + rest) (sym (length-flat_map taken_in (made (f p))) ∙ (ap (λ (l : List ℕ). length l) all.3 ∙ all.4))
      ∙ (ap (λ (n : ℕ). w.takes + n) (takes_long (k + 1) work parts all.5) ∙ sym (sum_by-cons (λ (x : Work). x.takes) w work)))

  -- the caller that put these items, and the one that took them
  putter : (k : ℕ) (work : List Work) (parts : List Part) → AllDone k work parts → (n : ℕ) (items : List ℕ) → slice_get (map (λ (w : Work). w.puts.items) work) n ≡ Some items
      → (c : Caller T FifoOp FifoReply g) × (n < length (map f parts)) × (c ≡ get_or (map f parts) n c) × (puts_of (made c) ≡ items)
  unfolding AllDone
  putter k [] parts all n items is = absurd (cc)
  putter k (w ∷ work) [] all n items is = absurd all
  putter k (w ∷ work) (p ∷ parts) all zero items is = let same : w.puts.items ≡ items = cc in (f p, omega arith, refl, all.2 ∙ same)
  putter k (w ∷ work) (p ∷ parts) all (suc n) items is =
      let there = putter (k + 1) work parts all.5 n items is in
      let less = there.1 in (there.0, omega (arith, less), there.2, there.3)

  taker : (k : ℕ) (work : List Work) (parts : List Part) → AllDone k work parts → (n : ℕ) (items : List ℕ) → slice_get (map (λ (t : Vec ℕ Global). t.items) (map (λ (p : Part). p.taken) parts)) n ≡ Some items
      → (c : Caller T FifoOp FifoReply g) × (n < length (map f parts)) × (c ≡ get_or (map f parts) n c) × (takes_of (made c) ≡ items)
  unfolding AllDone
  taker k work [] all n items is = absurd (cc)
  taker k [] (p ∷ parts) all n items is = absurd all
  taker k (w ∷ work) (p ∷ parts) all zero items is = let same : p.taken.items ≡ items = cc in (f p, omega arith, refl, all.3 ∙ same)
  taker k (w ∷ work) (p ∷ parts) all (suc n) items is =
      let there = taker (k + 1) work parts all.5 n items is in
      let less = there.1 in (there.0, omega (arith, less), there.2, there.3)

  -- each took as many items as its work says
  pub counts_are : (k : ℕ) (work : List Work) (parts : List Part) → AllDone k work parts → map (λ (t : Vec ℕ Global). length t.items) (map (λ (p : Part). p.taken) parts) ≡ map (λ (w : Work). w.takes) work
  unfolding AllDone
  counts_are k [] [] all = refl
  counts_are k [] (p ∷ parts) all = absurd all
  counts_are k (w ∷ work) [] all = absurd all
  counts_are k (w ∷ work) (p ∷ parts) all = let rest = counts_are (k + 1) work parts all.5 in let here = all.4 in cc

  -- as many items are taken as are put, so each is taken
  all_taken : (work : List Work) (parts : List Part) (log : List Call) → AllDone 0 work parts → AreAllCalls fifo (map f parts) log
      → sum_by (λ (w : Work). length w.puts.items) work ≡ sum_by (λ (w : Work). w.takes) work → takes_of log ≡ puts_of log
  all_taken work parts log all calls even =
      let calls_made : List Call = flat_map made (map f parts) in
      let puts : length (puts_of log) ≡ sum_by (λ (w : Work). length w.puts.items) work = length-flat_map put_in log ∙ (sum_by-IsPermutation (λ (e : Call). length (put_in e)) calls_made log calls.mixed ∙ puts_long 0 work parts all) in
      let takes : length (takes_of log) ≡ sum_by (λ (w : Work). w.takes) work = length-flat_map taken_in log ∙ (sum_by-IsPermutation (λ (e : Call). length (taken_in e)) calls_made log calls.mixed ∙ takes_long 0 work parts all) in
      none_left (takes_of log) (after_all fifo [] (map (λ (e : Call). e.op) log)) (puts_of log) (flows [] log calls.serial) (puts ∙ (even ∙ sym takes))

  pub are_passed_on : (work : List Work) (parts : List Part) (log : List Call) → AllDone 0 work parts → AreAllCalls fifo (map f parts) log
      → sum_by (λ (w : Work). length w.puts.items) work ≡ sum_by (λ (w : Work). w.takes) work
      → ArePassedOn (map (λ (w : Work). w.puts.items) work) (map (λ (t : Vec ℕ Global). t.items) (map (λ (p : Part). p.taken) parts))
  are_passed_on work parts log all calls even =
      let ps : List (ℕ × ℕ) = named put_in log in
      let ts : List (ℕ × ℕ) = named taken_in log in
      let same : map (λ (x : ℕ × ℕ). x.1) ps ≡ map (λ (x : ℕ × ℕ). x.1) ts = named_items put_in log ∙ (sym (all_taken work parts log all calls even) ∙ sym (named_items taken_in log)) in
      let long : length ps ≡ length ts = sym (length-map ps (λ (x : ℕ × ℕ). x.1)) ∙ (ap (λ (l : List ℕ). length l) same ∙ length-map ts (λ (x : ℕ × ℕ). x.1)) in
      let count : ℕ = length (map f parts) in
      let known : AllByRecursion (λ (p : Passed). (p.putter < count) × (p.taker < count)) (line_of ps ts) = line_known count ps ts (named_below put_in count log calls.known) (named_below taken_in count log calls.known) in
      let puts_count : count ≡ length (map (λ (w : Work). w.puts.items) work) = length-map parts f ∙ (as_many 0 work parts all ∙ sym (length-map work (λ (w : Work). w.puts.items))) in
      let takes_count : count ≡ length (map (λ (t : Vec ℕ Global). t.items) (map (λ (p : Part). p.taken) parts)) = length-map parts f ∙ (sym (length-map parts (λ (p : Part). p.taken)) ∙ sym (length-map (map (λ (p : Part). p.taken) parts) (λ (t : Vec ℕ Global). t.items))) in
      record {
        line = line_of ps ts;
        known = subst (λ (n : ℕ). AllByRecursion (λ (p : Passed). (p.putter < length (map (λ (w : Work). w.puts.items) work)) × (p.taker < n)) (line_of ps ts)) takes_count
            (subst (λ (n : ℕ). AllByRecursion (λ (p : Passed). (p.putter < n) × (p.taker < count)) (line_of ps ts)) puts_count known);
        puts_stand = λ n items is.
            let there = putter 0 work parts all n items is in
            line_puts n ps ts long ∙ (by_named put_in n log ∙ (ap puts_of (calls.own n there.0 there.1 there.2) ∙ there.3));
        taken_stand = λ n items is.
            let there = taker 0 work parts all n items is in
            line_takes n ps ts same ∙ (by_named taken_in n log ∙ (ap takes_of (calls.own n there.0 there.1 there.2) ∙ there.3));
      }

-- a part has the caller at its place, and room
pub caller_at : {C : Type 0} (f : Part → C) (parts : List Part) (i : ℕ) (p : Part) → p ≡ get_or parts i p → f p ≡ get_or (map f parts) i (f p)
caller_at f [] i p is = refl
caller_at f (q ∷ parts) zero p is = ap f is
caller_at f (q ∷ parts) (suc i) p is = caller_at f parts i p is

pub room_at : (parts : List Part) → AllByRecursion HasAllRoom parts → (i : ℕ) (p : Part) → i < length parts → p ≡ get_or parts i p → HasAllRoom p
room_at [] room i p less is = absurd (omega (arith, less))
room_at (q ∷ parts) room zero p less is = subst HasAllRoom (sym is) room.0
room_at (q ∷ parts) room (suc i) p less is = room_at parts room.1 i p (omega (arith, less)) is

-- what stands at a place of a list
pub stands : {X : Type 0} (xs : List X) (i : ℕ) (d : X) → i < length xs → get_or xs i d ≡ get_or xs i (get_or xs i d)
stands [] i d less = absurd (omega (arith, less))
stands (x ∷ xs) zero d less = refl
stands (x ∷ xs) (suc i) d less = stands xs i d (omega (arith, less))
