-- The answers of a launch.
use Rattle.std.proofs.Common.{◌≡◌, ℕ, zero, suc, ◌+◌, ◌<◌, ◌≤◌, true, false, Option, None, Some, List, [], ◌∷◌, ◌++◌, length, take, get_or, sym, refl, ap, ◌∙◌, subst, arith, append_assoc, append-nil}
use Rattle.std.specs.Prelude.{slice_get}
use Rattle.std.proofs.lemmas.List.{take_more, map-append}
use Rattle.core_model.specs.Words.{Entry}
use Rattle.core_model.specs.Operations.{place_of, IsReceipt}
use Rattle.table_rule.specs.declared.slot.OpRecord.{OpRecord}
use Rattle.table_rule.specs.Shows.{record_in, among}
use Rattle.worker_crew.specs.Words.{Receipt}
use Rattle.table_rule.specs.declared.view.HoldView.{HoldView}
use Rattle.table_rule.specs.Passes.{after_answer, in_hold, answering, without_first}
use Rattle.worker_turns.specs.Holds.{workers_in}
use Rattle.table_rule.specs.declared.view.PassView.{PassView}
use Rattle.core_model.specs.declared.event.Event.TheVariants.{Answer}
use Rattle.worker_turns.specs.Launches.{answer_events}
use Rattle.worker_turns.specs.Code.Serving.{Holds, after_answers, answered_all, without_all, IsAnswerable}
use Rattle.worker_turns.proofs.HoldLemmas.Serving as serving

none_in : (number : ℕ) (batch : List Entry) (h : Option HoldView) → Holds (IsAnswerable number batch) h → h ≡ in_hold (after_answers []) h
none_in number batch None due = absurd due
none_in number batch (Some h) due = λ i. Some (record h { answered = due.none i })

pub none_answered : (p : PassView) (number : ℕ) (batch : List Entry) → Holds (IsAnswerable number batch) p.hold → p ≡ answered_all number [] p
none_answered p number batch due = λ i. record p { hold = none_in number batch p.hold due i; events = sym (append-nil p.events) i }

taken_workers : (k : ℕ) (batch : List Entry) → take k (workers_in batch) ≡ workers_in (take k batch)
taken_workers zero batch = refl
taken_workers (suc k) [] = refl
taken_workers (suc k) (e ∷ batch) = ap (λ l. e.worker ∷ l) (taken_workers k batch)

-- what an answer needs of the hold
abbrev pub MayAnswer : ℕ → Receipt → Option HoldView → Type 0
MayAnswer u receipt hold = (h : HoldView) × (call : OpRecord) × (hold ≡ Some h) × (h.published ≡ true) × (record_in h.taken u ≡ Some call)
    × (among h.answered u ≡ false) × IsReceipt (place_of h.book call.leaf) receipt

due_in : (number k : ℕ) (batch : List Entry) (e : Entry) (h : Option HoldView) → slice_get batch k ≡ Some e → Holds (IsAnswerable number batch) h
    → MayAnswer e.worker (record { batch = number; place = k; reply = e.reply }) (in_hold (after_answers (take k (workers_in batch))) h)
due_in number k batch e None at due = absurd due
due_in number k batch e (Some h) at due =
    let now = after_answers (take k (workers_in batch)) h in
    let published = due.published in
    let may = serving.answer_due now due.before batch number k e
    (record { published = published.published; book = published.book; may = published.may; service = published.service }) due.numbered refl at in
    (now, may.0, refl, may.1, may.2, may.3, may.4)

pub answer_due : (p q : PassView) (number k : ℕ) (batch : List Entry) (e : Entry) (receipt : Receipt) → slice_get batch k ≡ Some e
    → receipt ≡ record { batch = number; place = k; reply = e.reply } → Holds (IsAnswerable number batch) p.hold
    → q ≡ answered_all number (take k batch) p → MayAnswer e.worker receipt q.hold
answer_due p q number k batch e receipt at is due now =
    subst (λ (r : PassView). MayAnswer e.worker receipt r.hold) (sym now)
    (subst (λ (ws : List ℕ). MayAnswer e.worker receipt (in_hold (after_answers ws) p.hold)) (taken_workers k batch)
    (subst (λ (r : Receipt). MayAnswer e.worker r (in_hold (after_answers (take k (workers_in batch))) p.hold)) (sym is) (due_in number k batch e p.hold at due)))

-- one more taken out of a list
without_more : (ws : List ℕ) (u : ℕ) (xs : List ℕ) → without_first u (without_all ws xs) ≡ without_all (ws ++ u ∷ []) xs
without_more [] u xs = refl
without_more (w ∷ ws) u xs = without_more ws u (without_first w xs)

twice : (ws : List ℕ) (u : ℕ) (h : Option HoldView) → in_hold (after_answer u) (in_hold (after_answers ws) h) ≡ in_hold (after_answers (ws ++ u ∷ [])) h
twice ws u None = refl
twice ws u (Some h) = λ i. Some (record (after_answers (ws ++ u ∷ []) h) { owed = without_more ws u h.owed i })

length_taken : (batch : List Entry) (k : ℕ) → k ≤ length batch → length (take k batch) ≡ k
length_taken batch zero inside = refl
length_taken [] (suc k) inside = absurd (omega (arith, inside))
length_taken (e ∷ batch) (suc k) inside = let more = length_taken batch k (omega (arith, inside)) in omega (arith, more)

answer_more : (number first : ℕ) (entries : List Entry) (e : Entry) (receipt : Receipt) → receipt ≡ record { batch = number; place = first + length entries; reply = e.reply }
    → answer_events number first (entries ++ e ∷ []) ≡ answer_events number first entries ++ Answer e.worker receipt ∷ []
answer_more number first [] e receipt is =
    let here : first ≡ first + 0 = omega arith in
    ap (λ (r : Receipt). Answer e.worker r ∷ []) ((λ i. record { batch = number; place = here i; reply = e.reply }) ∙ sym is)
answer_more number first (x ∷ entries) e receipt is =
    let here : first + suc (length entries) ≡ first + 1 + length entries = omega arith in
    ap (λ l. Answer x.worker (record { batch = number; place = first; reply = x.reply }) ∷ l)
    (answer_more number (first + 1) entries e receipt (is ∙ (λ i. record { batch = number; place = here i; reply = e.reply })))

pub answered_more : (p q r : PassView) (number k : ℕ) (batch : List Entry) (e : Entry) (receipt : Receipt) → k < length batch → get_or batch k e ≡ e
    → receipt ≡ record { batch = number; place = k; reply = e.reply }
    → q ≡ answered_all number (take k batch) p → r ≡ answering e.worker receipt q → r ≡ answered_all number (take (k + 1) batch) p
answered_more p q r number k batch e receipt inside at is was now =
    let front : List Entry = take k batch in
    let more : front ++ e ∷ [] ≡ take (k + 1) batch = sym (take_more batch k e inside ∙ ap (λ x. front ++ x ∷ []) at) in
    let long = length_taken batch k (omega (arith, inside)) in
    let place : k ≡ 0 + length front = omega (arith, long) in
    let given : receipt ≡ record { batch = number; place = 0 + length front; reply = e.reply } = is ∙ (λ i. record { batch = number; place = place i; reply = e.reply }) in
    let events = append_assoc p.events (answer_events number 0 front) (Answer e.worker receipt ∷ []) ∙ ap (λ l. p.events ++ l) (sym (answer_more number 0 front e receipt given)) in
    let workers = twice (workers_in front) e.worker p.hold ∙ ap (λ (ws : List ℕ). in_hold (after_answers ws) p.hold) (sym (map-append (λ (x : Entry). x.worker) front (e ∷ []))) in
    now ∙ ap (answering e.worker receipt) was ∙ (λ i. record p { hold = workers i; events = events i }) ∙ ap (λ (l : List Entry). answered_all number l p) more

-- inside the list the default is not used
any_default : (batch : List Entry) (k : ℕ) (d e : Entry) → k < length batch → get_or batch k d ≡ get_or batch k e
any_default [] k d e inside = absurd (omega (arith, inside))
any_default (x ∷ xs) zero d e inside = refl
any_default (x ∷ xs) (suc k) d e inside = any_default xs k d e (omega (arith, inside))

pub entry_at_itself : (batch : List Entry) (k : ℕ) (d : Entry) → k < length batch → get_or batch k (get_or batch k d) ≡ get_or batch k d
entry_at_itself batch k d inside = any_default batch k (get_or batch k d) d inside
