-- The looks of a launch.
use Rattle.std.proofs.Common.{◌≡◌, ◌≢◌, ℕ, suc, ◌+◌, ◌==◌, if◌then◌else◌, Bool, true, false, Option, None, Some, IfNone, List, [], ◌∷◌, ◌++◌, length, arith, sym, refl, ap, ◌∙◌, subst, append_assoc, append-nil, length-append}
use Rattle.std.proofs.lemmas.List.{map-append}
use Rattle.seq_objects.specs.declared.call.Call.{Call}
use Rattle.core_model.specs.declared.event.Event.TheVariants.{Take}
use Rattle.table_rule.specs.declared.status.TheConstants.{PENDING}
use Rattle.table_rule.specs.declared.view.HoldView.{HoldView}
use Rattle.table_rule.specs.Passes.{after_take, after_pass, in_hold, taking, skipping}
use Rattle.table_rule.specs.declared.view.PassView.{PassView}
use Rattle.core_model.proofs.BookLemmas.OwnEntries.{if_other}
use Rattle.worker_turns.specs.Launches.{pending_in, AreFound, look_events}
use Rattle.worker_turns.specs.Code.Serving.{Holds, IsNewHold, after_looks, looked, HasLooked}

none_looked : (h : Option HoldView) → Holds IsNewHold h → h ≡ in_hold (after_looks 0 [] []) h
none_looked None new = absurd new
none_looked (Some h) new = ap Some (new ∙ ap (after_looks 0 [] []) (sym new))

pub none_yet : (p : PassView) → Holds IsNewHold p.hold → HasLooked 0 [] p p
none_yet p new = (
  [],
  record { each = refl; pending = refl },
  (λ i. record p { hold = none_looked p.hold new i; events = sym (append-nil p.events) i }),
)

next_in : (u : ℕ) (found : List ℕ) (calls : List Call) (h : Option HoldView) → Holds IsNewHold h
    → (k : HoldView) × (in_hold (after_looks u found calls) h ≡ Some k) × (u ≡ k.looks)
next_in u found calls None new = absurd new
next_in u found calls (Some h) new = (after_looks u found calls h, refl, refl)

-- the next worker to look at
pub next_look : (p q : PassView) (u : ℕ) (calls : List Call) → Holds IsNewHold p.hold → HasLooked u calls p q → (h : HoldView) × (q.hold ≡ Some h) × (u ≡ h.looks)
next_look p q u calls new (found, are, is) =
    let k = next_in u found calls p.hold new in
    (k.0, ap (λ (r : PassView). r.hold) is ∙ k.1, k.2)

-- one more status
with_last : (b : Bool) (n m : ℕ) (xs ys : List ℕ) → ys ≡ xs ++ m ∷ [] → (if b then n ∷ ys else ys) ≡ (if b then n ∷ xs else xs) ++ m ∷ []
with_last true n m xs ys is = ap (λ l. n ∷ l) is
with_last false n m xs ys is = is

pending_more : (first : ℕ) (found : List ℕ) → pending_in first (found ++ PENDING ∷ []) ≡ pending_in first found ++ (first + length found) ∷ []
pending_more first [] = let same : first ≡ first + 0 = omega arith in ap (λ n. n ∷ []) same
pending_more first (status ∷ found) =
    let later : first + 1 + length found ≡ first + suc (length found) = omega arith in
    with_last (status == PENDING) first (first + suc (length found)) (pending_in (first + 1) found) (pending_in (first + 1) (found ++ PENDING ∷ []))
    (pending_more (first + 1) found ∙ ap (λ n. pending_in (first + 1) found ++ n ∷ []) later)

pending_same : (first : ℕ) (found : List ℕ) (status : ℕ) → status ≢ PENDING → pending_in first (found ++ status ∷ []) ≡ pending_in first found
pending_same first [] status other = if_other status PENDING (first ∷ []) [] other
pending_same first (s ∷ found) status other = ap (λ l. if s == PENDING then first ∷ l else l) (pending_same (first + 1) found status other)

one_longer : (u : ℕ) (found : List ℕ) (status : ℕ) → length found ≡ u → length (found ++ status ∷ []) ≡ u + 1
one_longer u found status is = let long = length-append found (status ∷ []) in omega (arith, long, is)

found_take : (u : ℕ) (found : List ℕ) (calls : List Call) (call : Call) → call.worker ≡ u → AreFound u found calls → AreFound (u + 1) (found ++ PENDING ∷ []) (calls ++ call ∷ [])
found_take u found calls call is are = record {
  each = one_longer u found PENDING are.each;
  pending = (let here : call.worker ≡ 0 + length found = (let each = are.each in omega (arith, each, is)) in
      map-append (λ (c : Call). c.worker) calls (call ∷ []) ∙ (λ i. are.pending i ++ here i ∷ []) ∙ sym (pending_more 0 found));
}

found_pass : (u : ℕ) (found : List ℕ) (calls : List Call) (status : ℕ) → status ≢ PENDING → AreFound u found calls → AreFound (u + 1) (found ++ status ∷ []) calls
found_pass u found calls status other are = record { each = one_longer u found status are.each; pending = are.pending ∙ sym (pending_same 0 found status other) }

look_more : (u : ℕ) → look_events u ++ Take u ∷ [] ≡ look_events (u + 1)
look_more u = let more : suc u ≡ u + 1 = omega arith in ap look_events more

more_events : (p : PassView) (u w : ℕ) → w ≡ u → (p.events ++ look_events u) ++ Take w ∷ [] ≡ p.events ++ look_events (u + 1)
more_events p u w is = ap (λ n. (p.events ++ look_events u) ++ Take n ∷ []) is ∙ append_assoc p.events (look_events u) (Take u ∷ []) ∙ ap (λ l. p.events ++ l) (look_more u)

take_in : (u : ℕ) (found : List ℕ) (calls : List Call) (call : Call) (h : Option HoldView) → in_hold (after_take call) (in_hold (after_looks u found calls) h) ≡ in_hold (after_looks (u + 1) (found ++ PENDING ∷ []) (calls ++ call ∷ [])) h
take_in u found calls call None = refl
take_in u found calls call (Some h) = λ i. Some (record (after_looks (u + 1) (found ++ PENDING ∷ []) (calls ++ call ∷ []) h) { owed = sym (map-append (λ (c : Call). c.worker) calls (call ∷ [])) i })

pub looked_take : (p q r : PassView) (u : ℕ) (calls more : List Call) (call : Call) → HasLooked u calls p q → call.worker ≡ u → r ≡ taking call q → more ≡ calls ++ call ∷ [] → HasLooked (u + 1) more p r
looked_take p q r u calls more call (found, are, was) worker now pushed = (
  found ++ PENDING ∷ [],
  subst (λ (l : List Call). AreFound (u + 1) (found ++ PENDING ∷ []) l) (sym pushed) (found_take u found calls call worker are),
  now ∙ ap (taking call) was
      ∙ (λ i. record p { hold = take_in u found calls call p.hold i; events = more_events p u call.worker worker i })
      ∙ ap (λ (l : List Call). looked (u + 1) (found ++ PENDING ∷ []) l p) (sym pushed),
)

pass_in : (u : ℕ) (found : List ℕ) (calls : List Call) (status : ℕ) (h : Option HoldView) → in_hold (after_pass status) (in_hold (after_looks u found calls) h) ≡ in_hold (after_looks (u + 1) (found ++ status ∷ []) calls) h
pass_in u found calls status None = refl
pass_in u found calls status (Some h) = refl

looked_pass : (p q r : PassView) (u : ℕ) (calls : List Call) (status : ℕ) → HasLooked u calls p q → status ≢ PENDING → r ≡ skipping u status q → HasLooked (u + 1) calls p r
looked_pass p q r u calls status (found, are, was) other now = (
  found ++ status ∷ [],
  found_pass u found calls status other are,
  now ∙ ap (skipping u status) was ∙ (λ i. record p { hold = pass_in u found calls status p.hold i; events = more_events p u u refl i }),
)

-- a look that took no call
pub looked_else : (p q r : PassView) (u : ℕ) (calls more : List Call) (result : Option Call) → HasLooked u calls p q → ((call : Call) → result ≡ Some call → ⊥)
    → IfNone result ((status : ℕ) × (status ≢ PENDING) × (r ≡ skipping u status q)) → more ≡ calls → HasLooked (u + 1) more p r
looked_else p q r u calls more (Some call) was other now same = absurd (other call refl)
looked_else p q r u calls more None was other (status, denied, now) same =
    subst (λ (l : List Call). HasLooked (u + 1) l p r) (sym same) (looked_pass p q r u calls status was denied now)
