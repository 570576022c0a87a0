-- The trace of a board through a change of a word, a step that changes none, a split of a seat, and a look.
use Rattle.std.specs.List.{AllByRecursion}
use Rattle.std.proofs.Common.{◌≡◌, ◌≢◌, ℕ, ◌+◌, ◌<◌, ◌≤◌, ◌%◌, List, [], ◌∷◌, ◌++◌, length, get_or, set, append_assoc, length-append, length-set, get_or-set_same, get_or-set_other, refl, sym, ap, ◌∙◌, subst, ⊎_elim, arith}
use Rattle.std.proofs.lemmas.Bool.Decides.{nat_tests}
use Rattle.std.proofs.lemmas.List.{append-nil}
use Rattle.std.proofs.lemmas.List.Sums.{sum_by_push}
use mathlib.Core.Logic.{dite}
use mathlib.Core.Option.{some}
use native.Mathlib.Decide.{ℕ_discrete}
use lib.ListN.{get_elem?}
use Rattle.atomic_table.proofs.Lists.{at_set}
use Rattle.piece_board.specs.declared.view.Miss.{Miss}
use Rattle.piece_board.specs.declared.view.View.{View}
use Rattle.piece_board.specs.Trace.{Event, event_if, events_by, word_after, IsTrueIn, AreInOrder, HasTrace}
use Rattle.piece_board.specs.Rule.{one_at}
use Rattle.piece_board.proofs.RuleLemmas.Lists.{inside, old_or_last}
use Rattle.piece_board.proofs.RuleLemmas.Counts.{one_here, none_else}

events_more : (seat : ℕ) (trace : List Event) (event : Event) → events_by seat (trace ++ event ∷ []) ≡ events_by seat trace ++ event_if seat event
events_more seat [] event = append-nil (event_if seat event)
events_more seat (e ∷ trace) event =
    ap (λ (l : List ℕ). event_if seat e ++ l) (events_more seat trace event)
    ∙ sym (append_assoc (event_if seat e) (events_by seat trace) (event_if seat event))

own_event : (seat k : ℕ) → event_if seat (seat, k) ≡ k ∷ []
own_event seat k = grind (arith, nat_tests)

other_event : (seat other k : ℕ) → other ≢ seat → event_if other (seat, k) ≡ []
other_event seat other k ne = grind (arith, nat_tests)

-- the events of the seat that makes an event, and those of another
events_mine : (seat k : ℕ) (trace : List Event) (old : List ℕ) → events_by seat trace ≡ old → events_by seat (trace ++ (seat, k) ∷ []) ≡ old ++ k ∷ []
events_mine seat k trace old is = events_more seat trace (seat, k) ∙ (λ i. is i ++ own_event seat k i)

events_else : (seat other k : ℕ) (trace : List Event) → other ≢ seat → events_by other (trace ++ (seat, k) ∷ []) ≡ events_by other trace
events_else seat other k trace ne =
    events_more other trace (seat, k) ∙ (ap (λ (l : List ℕ). events_by other trace ++ l) (other_event seat other k ne) ∙ append-nil (events_by other trace))

word_here : (seat k : ℕ) (trace : List Event) → word_after (trace ++ (seat, k) ∷ []) k ≡ (word_after trace k + 1) % 4
word_here seat k trace =
    let more = sum_by_push (λ (event : Event). one_at k event.1) trace (seat, k) in
    let one = one_here k k refl in omega (arith, more, one)

word_else : (seat k j : ℕ) (trace : List Event) → j ≢ k → word_after (trace ++ (seat, k) ∷ []) j ≡ word_after trace j
word_else seat k j trace ne =
    let more = sum_by_push (λ (event : Event). one_at j event.1) trace (seat, k) in
    let none = none_else j k (λ e. ne (sym e)) in omega (arith, more, none)

pub all_of : (P Q : Miss → Type 0) → ((m : Miss) → P m → Q m) → (l : List Miss) → AllByRecursion P l → AllByRecursion Q l
all_of P Q f [] h = tt
all_of P Q f (m ∷ l) h = (f m h.0, all_of P Q f l h.1)

-- a miss that was true at a moment of a trace was so too when the trace has gone on
true_longer : (seat : ℕ) (trace : List Event) (event : Event) (m : Miss) → IsTrueIn seat trace m → IsTrueIn seat (trace ++ event ∷ []) m
true_longer seat trace event m h = (h.0, h.1 ++ event ∷ [], ap (λ (l : List Event). l ++ event ∷ []) h.2 ∙ append_assoc h.0 h.1 (event ∷ []), h.3)

-- and its moment is not past the trace's end
pub within_trace : (seat : ℕ) (trace : List Event) (m : Miss) → IsTrueIn seat trace m → m.moment ≤ length trace
within_trace seat trace m h =
    let long : length trace ≡ length h.0 + length h.1 = ap (λ (l : List Event). length l) h.2 ∙ length-append h.0 h.1 in
    let at = h.3.moment in omega (arith, long, at)

-- what a trace tells of the misses of a view
abbrev pub AreTrue : ℕ → List Event → List Miss → Type 0
AreTrue seat trace misses = AllByRecursion (IsTrueIn seat trace) misses × AreInOrder misses

module _ {I : Type 0} where
  module _ (words : List ℕ) (views : List (View I)) (t : HasTrace words views) (seat : ℕ) (v : View I) (me : get_elem? views seat ≡ some v) where
    -- a step of the seat that changes no word
    pub trace_stays : (w : View I) → w.events ≡ v.events → AreTrue seat t.trace w.misses → HasTrace words (set views seat w)
    trace_stays w same true_now = record {
      trace = t.trace;
      reached = t.reached;
      events = λ i u at. ⊎_elim
          (λ q. ap (λ (j : ℕ). events_by j t.trace) q.0 ∙ t.events seat v me ∙ sym same ∙ ap (λ (z : View I). z.events) q.1)
          (λ q. t.events i u q.1) (at_set views seat i w u at);
      seated = λ i past. let long = length-set views seat w in t.seated i (omega (arith, past, long));
      misses = λ i u at. ⊎_elim
          (λ q. subst (λ (p : ℕ × View I). AreTrue p.0 t.trace p.1.misses) (λ e. (sym q.0 e, q.1 e)) true_now)
          (λ q. t.misses i u q.1) (at_set views seat i w u at);
    }

    -- the same where the seat has noted no miss
    pub trace_looks : (w : View I) → w.events ≡ v.events → w.misses ≡ v.misses → HasTrace words (set views seat w)
    trace_looks w same misses = trace_stays w same (subst (λ (l : List Miss). AreTrue seat t.trace l) (sym misses) (t.misses seat v me))

    -- the miss of a look at the word of place `k`, at the end of the trace
    abbrev pub miss_of : ℕ → Miss
    miss_of k = record { word = k; found = get_or words k 0; moment = length t.trace; events = length v.events }

    -- no miss of the seat is after the end of the trace
    pub all_before : AllByRecursion (λ (m : Miss). m.moment ≤ length t.trace) v.misses
    all_before = all_of (IsTrueIn seat t.trace) (λ (m : Miss). m.moment ≤ length t.trace) (λ m h. within_trace seat t.trace m h) v.misses (t.misses seat v me).0

    -- the seat notes the miss of its look
    pub trace_misses : (k : ℕ) (w : View I) → k < length words → w.events ≡ v.events → w.misses ≡ miss_of k ∷ v.misses → HasTrace words (set views seat w)
    trace_misses k w lt same noted = trace_stays w same
        (subst (λ (l : List Miss). AreTrue seat t.trace l) (sym noted) (
          ((t.trace, [], sym (append-nil t.trace), record { moment = refl; events = ap (λ (l : List ℕ). length l) (t.events seat v me); word = sym (t.reached k lt) }), (t.misses seat v me).0),
          (all_before, (t.misses seat v me).1),
        ))

    -- the seat changes the word of place `k`
    pub trace_grows : (k n : ℕ) (w : View I) → k < length words → w.events ≡ v.events ++ k ∷ [] → w.misses ≡ v.misses → n ≡ (get_or words k 0 + 1) % 4
        → HasTrace (set words k n) (set views seat w)
    trace_grows k n w lt more misses next =
        let longer : (i : ℕ) (l : List Miss) → AreTrue i t.trace l → AreTrue i (t.trace ++ (seat, k) ∷ []) l =
        λ i l h. (all_of (IsTrueIn i t.trace) (IsTrueIn i (t.trace ++ (seat, k) ∷ [])) (true_longer i t.trace (seat, k)) l h.0, h.1) in record {
          trace = t.trace ++ (seat, k) ∷ [];
          reached = λ j low.
              let low' : j < length words = omega (arith, low, length-set words k n) in
              dite (ℕ_discrete j k)
              (λ (is : j ≡ k).
              ap (λ (i : ℕ). get_or (set words k n) i 0) is ∙ get_or-set_same words k n 0 lt ∙ next
              ∙ ap (λ (y : ℕ). (y + 1) % 4) (t.reached k lt) ∙ sym (word_here seat k t.trace)
              ∙ ap (λ (i : ℕ). word_after (t.trace ++ (seat, k) ∷ []) i) (sym is))
              (λ (ne : j ≢ k). get_or-set_other words k j n 0 ne ∙ t.reached j low' ∙ sym (word_else seat k j t.trace ne));
          events = λ i u at. ⊎_elim
              (λ q.
              ap (λ (j : ℕ). events_by j (t.trace ++ (seat, k) ∷ [])) q.0 ∙ events_mine seat k t.trace v.events (t.events seat v me)
              ∙ sym more ∙ ap (λ (z : View I). z.events) q.1)
              (λ q. events_else seat i k t.trace q.0 ∙ t.events i u q.1) (at_set views seat i w u at);
          seated = λ i past.
              let long = length-set views seat w in
              let here = inside views seat v me in
              events_else seat i k t.trace (λ e. omega (arith, past, long, here, e)) ∙ t.seated i (omega (arith, past, long));
          misses = λ i u at. ⊎_elim
              (λ q. subst (λ (p : ℕ × View I). AreTrue p.0 (t.trace ++ (seat, k) ∷ []) p.1.misses) (λ e. (sym q.0 e, q.1 e))
              (longer seat w.misses (subst (λ (l : List Miss). AreTrue seat t.trace l) (sym misses) (t.misses seat v me))))
              (λ q. longer i u.misses (t.misses i u q.1)) (at_set views seat i w u at);
        }

    -- a seat without events or misses splits off another
    pub trace_splits : (left right : View I) → v.events ≡ [] → left.events ≡ [] → left.misses ≡ [] → right.events ≡ [] → right.misses ≡ []
        → HasTrace words (set views seat left ++ right ∷ [])
    trace_splits left right unused left_events left_misses right_events right_misses =
        let long = length-set views seat left in
        let nothing : (i : ℕ) (u : View I) → u.misses ≡ [] → AreTrue i t.trace u.misses =
        λ i u is. subst (λ (l : List Miss). AreTrue i t.trace l) (sym is) (tt, tt) in record {
          trace = t.trace;
          reached = t.reached;
          events = λ i u at. ⊎_elim
              (λ in_set. ⊎_elim
              (λ q. ap (λ (j : ℕ). events_by j t.trace) q.0 ∙ t.events seat v me ∙ unused ∙ sym left_events ∙ ap (λ (z : View I). z.events) q.1)
              (λ q. t.events i u q.1) (at_set views seat i left u in_set))
              (λ q. t.seated i (omega (arith, q.1, long)) ∙ sym right_events ∙ ap (λ (z : View I). z.events) q.0)
              (old_or_last (set views seat left) right u i at);
          seated = λ i past. let more = length-append (set views seat left) (right ∷ []) in t.seated i (omega (arith, past, long, more));
          misses = λ i u at. ⊎_elim
              (λ in_set. ⊎_elim (λ q. subst (λ (z : View I). AreTrue i t.trace z.misses) q.1 (nothing i left left_misses)) (λ q. t.misses i u q.1)
              (at_set views seat i left u in_set))
              (λ q. subst (λ (z : View I). AreTrue i t.trace z.misses) q.0 (nothing i right right_misses))
              (old_or_last (set views seat left) right u i at);
        }
