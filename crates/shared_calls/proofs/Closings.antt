-- The end of a shared structure.
use Rattle.std.proofs.Common.{append-nil, ◌≡◌, ◌≢◌, ◌⊎◌, ℕ, zero, suc, ◌+◌, ◌-◌, ◌<◌, ◌≤◌, List, [], ◌∷◌, ◌++◌, map, length, get_or, set, Vec, Global, Bool, true, false, sym, refl, ap, ◌∙◌, subst, inl, inr, ⊎_elim, arith, get_or-set_other}
use Rattle.std.specs.Prelude.{flat_map, IsPermutation}
use Rattle.std.specs.List.{AllByRecursion}
use Rattle.std.proofs.lemmas.List.Sorted.{IsPermutation-refl, IsPermutation-trans, IsPermutation-cons, IsPermutation-middle, IsPermutation-append_right}
use Rattle.std.proofs.lemmas.List.{length-map, map-append, length_push}
use mathlib.Core.Logic.{dite}
use native.Mathlib.Decide.{ℕ_discrete}
use mathlib.Core.Option.{some, some-injective, some-ne-none}
use lib.ListN.{get_elem?}
use Rattle.atomic_table.specs.Table.{Final, Seen, Joins}
use Rattle.shared_calls.specs.declared.view.Entry.{Entry}
use Rattle.shared_calls.specs.declared.view.Request.TheVariants.{Nothing, Retired}
use Rattle.shared_calls.specs.declared.view.Slot.{Slot}
use Rattle.shared_calls.specs.declared.view.Slot.TheVariants.{Whole}
use Rattle.shared_calls.specs.declared.view.View.{View}
use Rattle.shared_calls.specs.declared.combined.Combined.{Ghosts}
use Rattle.shared_calls.specs.declared.shared.Shared.{Shared}
use Rattle.shared_calls.specs.declared.shared.Caller.{Caller}
use Rattle.shared_calls.specs.Serial.{SerialObject}
use Rattle.shared_calls.specs.Logs.{calls_by, StartsWith, state_after}
use Rattle.shared_calls.specs.Stages.{Stage, away, idle, posted, taken, owed, answered, retired, request_of, served}
use Rattle.shared_calls.specs.Rule.{IsLost, Keeps, made_by}
use Rattle.shared_calls.specs.Plays.{retiring, gathering, spent_view, KnowsItsCalls}
use Rattle.shared_calls.specs.Views.{number_of, made, seen, is_lost, IsCallerOf}
use Rattle.shared_calls.specs.Closing.{AreCallersOf, AreAllCalls, AreFrom, Gathers, HasSlotsBelow, SomeIsLost, NoneIsLost}
use Rattle.shared_calls.proofs.Lists.{each_so, each_push, there_push, last_there, calls_here, calls_else}
use Rattle.shared_calls.proofs.Losses.{true_or, or_true, one_is_true, not_true}
use Rattle.shared_calls.proofs.Moves.{true_false}
use Rattle.shared_calls.proofs.Seats.{gathers}

cleared : (filled : List Bool) (at : ℕ) → get_or (set filled at false) at false ≡ false
cleared [] at = refl
cleared (x ∷ xs) zero = refl
cleared (x ∷ xs) (suc at) = cleared xs at

-- the slots of a closed table once the last one is taken
pub last_taken : (filled new : List Bool) (at total : ℕ) → new ≡ set filled at false → total ≡ at + 1 → ((k : ℕ) → k < total → get_or filled k false ≡ true) → HasSlotsBelow new total at
last_taken filled new at total is long full = (
  (λ k low. ap (λ (l : List Bool). get_or l k false) is ∙ (get_or-set_other filled at k false false (λ e. omega (arith, low, e)) ∙ full k (omega (arith, low, long)))),
  λ k high low.
      let same : k ≡ at = omega (arith, high, low, long) in
      ap (λ (l : List Bool). get_or l k false) is ∙ (ap (λ (j : ℕ). get_or (set filled at false) j false) same ∙ cleared filled at),
)

-- the element at a place, of a list of what others show
at_map_or : {A B : Type 0} (f : A → B) (l : List A) (k : ℕ) (d : B) (a : A) → k < length l → a ≡ get_or l k a → get_or (map f l) k d ≡ f a
at_map_or f [] k d a less is = absurd (omega (arith, less))
at_map_or f (x ∷ xs) zero d a less is = ap f (sym is)
at_map_or f (x ∷ xs) (suc k) d a less is = at_map_or f xs k d a (omega (arith, less)) is

each_map : {A B : Type 0} (P : B → Type 0) (f : A → B) (l : List A) (k : ℕ) (a : A) → k < length l → a ≡ get_or l k a → AllByRecursion P (map f l) → P (f a)
each_map P f [] k a less is h = absurd (omega (arith, less))
each_map P f (x ∷ xs) zero a less is h = subst (λ y. P (f y)) (sym is) h.0
each_map P f (x ∷ xs) (suc k) a less is h = each_map P f xs k a (omega (arith, less)) is h.1

pub word_at : (l : List ℕ) (k n : ℕ) → get_elem? l k ≡ some n → get_or l k 0 ≡ n
word_at [] k n is = absurd (some-ne-none n (sym is))
word_at (x ∷ xs) zero n is = some-injective x n is
word_at (x ∷ xs) (suc k) n is = word_at xs k n is

-- the calls of n callers from k on, one caller after another
pub parts : {O R : Type 0} → ℕ → ℕ → List (Entry O R) → List (Entry O R)
parts k zero log = []
parts k (suc n) log = calls_by k log ++ parts (k + 1) n log

module _ {O R : Type 0} where
  parts_none : (k n : ℕ) → let none : List (Entry O R) = [] in parts k n none ≡ none
  unfolding parts
  parts_none k zero = refl
  parts_none k (suc n) = parts_none (k + 1) n

  parts_far : (k n : ℕ) (e : Entry O R) (log : List (Entry O R)) → e.caller < k → parts k n (e ∷ log) ≡ parts k n log
  unfolding parts
  parts_far k zero e log less = refl
  parts_far k (suc n) e log less =
      ap (λ l. l ++ parts (k + 1) n (e ∷ log)) (calls_else k e log (λ is. omega (arith, is, less)))
      ∙ ap (λ l. calls_by k log ++ l) (parts_far (k + 1) n e log (omega (arith, less)))

  parts_next : (k n : ℕ) (e : Entry O R) (log : List (Entry O R)) → k ≤ e.caller → e.caller < k + n → IsPermutation (parts k n (e ∷ log)) (e ∷ parts k n log)
  unfolding parts
  parts_next k zero e log lo hi = absurd (omega (arith, lo, hi))
  parts_next k (suc n) e log lo hi = dite (ℕ_discrete e.caller k)
      (λ is. subst (λ l. IsPermutation l (e ∷ (calls_by k log ++ parts (k + 1) n log)))
      (sym (ap (λ l. l ++ parts (k + 1) n (e ∷ log)) (calls_here k e log is) ∙ ap (λ l. e ∷ (calls_by k log ++ l)) (parts_far (k + 1) n e log (omega (arith, is)))))
      (IsPermutation-refl (e ∷ (calls_by k log ++ parts (k + 1) n log))))
      (λ ne.
      let later : IsPermutation (parts (k + 1) n (e ∷ log)) (e ∷ parts (k + 1) n log) = parts_next (k + 1) n e log (omega (arith, ne, lo)) (omega (arith, hi)) in
      subst (λ l. IsPermutation (l ++ parts (k + 1) n (e ∷ log)) (e ∷ (calls_by k log ++ parts (k + 1) n log))) (sym (calls_else k e log ne))
      (IsPermutation-trans (calls_by k log ++ parts (k + 1) n (e ∷ log)) (calls_by k log ++ e ∷ parts (k + 1) n log) (e ∷ (calls_by k log ++ parts (k + 1) n log))
      (IsPermutation-append_right (calls_by k log) (parts (k + 1) n (e ∷ log)) (e ∷ parts (k + 1) n log) later)
      (IsPermutation-middle (calls_by k log) e (parts (k + 1) n log))))

  -- calls of these callers alone are their calls, mixed
  pub parts_all : (k n : ℕ) (log : List (Entry O R)) → AllByRecursion (λ (e : Entry O R). (k ≤ e.caller) × (e.caller < k + n)) log → IsPermutation (parts k n log) log
  parts_all k n [] h = subst (λ l. IsPermutation l []) (sym (parts_none k n)) (IsPermutation-refl [])
  parts_all k n (e ∷ log) h =
      IsPermutation-trans (parts k n (e ∷ log)) (e ∷ parts k n log) (e ∷ log) (parts_next k n e log h.0.0 h.0.1) (IsPermutation-cons e (parts k n log) log (parts_all k n log h.1))

  pub parts_of : {C : Type 0} (log : List (Entry O R)) (own : C → List (Entry O R)) (k : ℕ) (cs : List C)
      → ((j : ℕ) (c : C) → j < length cs → c ≡ get_or cs j c → calls_by (k + j) log ≡ own c) → flat_map own cs ≡ parts k (length cs) log
  unfolding parts
  parts_of log own k [] each = refl
  parts_of log own k (c ∷ cs) each =
      ap (λ l. l ++ flat_map own cs) (sym (each 0 c (omega arith) refl) ∙ ap (λ (j : ℕ). calls_by j log) (omega arith))
      ∙ ap (λ l. calls_by k log ++ l) (parts_of log own (k + 1) cs (λ j d less is. ap (λ (i : ℕ). calls_by i log) (omega arith) ∙ each (suc j) d (omega (arith, less)) is))

request_of_retired : {O R : Type 0} (s : Stage O R) → request_of s ≡ Retired → s ≡ retired
request_of_retired away is = cc
request_of_retired idle is = cc
request_of_retired (posted op) is = cc
request_of_retired (taken op) is = cc
request_of_retired (owed op r) is = cc
request_of_retired (answered op r) is = cc
request_of_retired retired is = refl

module _ {T O R : Type 0} {g : Ghosts T O R} where
  -- a caller between two calls may retire
  pub settled : (c : Caller T O R g) → let v : View O R = c.seat.me.0 in (v.holds ≡ false) × ((v.request ≡ Nothing) ⊎ ((v.lost ≡ true) × KnowsItsCalls v))
  settled c = by_case c.lost refl where
    by_case : (b : Bool) → c.lost ≡ b → let v : View O R = c.seat.me.0 in (v.holds ≡ false) × ((v.request ≡ Nothing) ⊎ ((v.lost ≡ true) × KnowsItsCalls v))
    by_case false e = let is = c.idle e in (ap (λ m. m.0.holds) is, inl (ap (λ m. m.0.request) is))
    by_case true e = let t = c.told e in (t.1, inr (t.0, t.2))

  -- a caller whose seat has found the structure lost was told so
  was_told : (c : Caller T O R g) → c.seat.me.0.lost ≡ true → is_lost c ≡ true
  was_told c found = by_case c.lost refl where
    by_case : (b : Bool) → c.lost ≡ b → c.lost ≡ true
    by_case true e = e
    by_case false e = absurd (true_false (sym found ∙ ap (λ m. m.0.lost) (c.idle e)))

  -- all callers, from the first on
  pub from_each : (s : Shared T O R) (k : ℕ) (callers : List (Caller T O R g)) → k + length callers ≡ s.callers
      → ((j : ℕ) (c : Caller T O R g) → j < length callers → c ≡ get_or callers j c → IsCallerOf s c × (number_of c ≡ k + j)) → AreFrom s k callers
  from_each s k [] long each = tt
  from_each s k (c ∷ callers) long each =
      let here = each 0 c (omega arith) refl in (
        here.0,
        here.1 ∙ omega arith,
        from_each s (k + 1) callers (omega (arith, long)) (λ j d less is. let there = each (suc j) d (omega (arith, less)) is in (there.0, there.1 ∙ omega arith)),
      )

  pub from_all : (s : Shared T O R) (callers : List (Caller T O R g)) → AreCallersOf s callers → AreFrom s 0 callers
  from_all s callers are = let count = are.count in
      from_each s 0 callers (omega (arith, count)) (λ j c less is. let there = are.each j c (omega (arith, less, count)) is in (there.0, there.1 ∙ omega arith))

  -- the first caller has retired
  pub gathers_first : (c : Caller T O R g) (v : View O R) → v ≡ retiring c.seat.me.0 → number_of c ≡ 0 → c.seat.me.0.holds ≡ false → Gathers (c ∷ []) v
  gathers_first c v is first idle_v =
      let own = c.own in
      let from = own.0 in
      let to = own.1 in record {
        from = ap (λ (w : View O R). w.from) is ∙ (from ∙ first);
        to = ap (λ (w : View O R). w.to) is ∙ omega (arith, to, first);
        retired = ap (λ (w : View O R). w.request) is;
        idle = ap (λ (w : View O R). w.holds) is ∙ idle_v;
        own = ap (λ (w : View O R). w.made) is;
        fronts = ap (λ (w : View O R). w.heard) is;
        told = λ lost. (c, (0, omega arith, refl), was_told c (ap (λ (w : View O R). w.lost) (sym is) ∙ lost));
        tells = ((λ lost. ap (λ (w : View O R). w.lost) is ∙ (c.told lost).0), tt);
      }

  -- and the next one
  pub gathers_next : (done : List (Caller T O R g)) (c : Caller T O R g) (v w : View O R) → Gathers done v → w ≡ gathering v (retiring c.seat.me.0) → number_of c ≡ length done → Gathers (done ++ c ∷ []) w
  gathers_next done c v w so_far is next =
      let own = c.own in
      let to = own.1 in
      let long = length_push done c in record {
        from = ap (λ (u : View O R). u.from) is ∙ so_far.from;
        to = ap (λ (u : View O R). u.to) is ∙ omega (arith, to, next, long);
        retired = ap (λ (u : View O R). u.request) is ∙ so_far.retired;
        idle = ap (λ (u : View O R). u.holds) is ∙ so_far.idle;
        own = ap (λ (u : View O R). u.made) is ∙ (ap (λ l. l ++ made c ∷ []) so_far.own ∙ sym (map-append made done (c ∷ [])));
        fronts = ap (λ (u : View O R). u.heard) is ∙ (ap (λ l. l ++ seen c ∷ []) so_far.fronts ∙ sym (map-append seen done (c ∷ [])));
        told = λ lost. ⊎_elim (λ before. let d = so_far.told before in (d.0, there_push done d.0 c d.1, d.2)) (λ now. (c, last_there done c, was_told c now))
            (one_is_true v.lost c.seat.me.0.lost (ap (λ (u : View O R). u.lost) (sym is) ∙ lost));
        tells = each_push (λ (d : Caller T O R g). is_lost d ≡ true → w.lost ≡ true) done c
            (each_so (λ (d : Caller T O R g). is_lost d ≡ true → v.lost ≡ true) (λ (d : Caller T O R g). is_lost d ≡ true → w.lost ≡ true) (λ (d : Caller T O R g) tells lost. ap (λ (u : View O R). u.lost) is ∙ true_or v.lost c.seat.me.0.lost (tells lost)) done so_far.tells)
            (λ lost. ap (λ (u : View O R). u.lost) is ∙ or_true v.lost c.seat.me.0.lost (c.told lost).0);
      }

  -- the seat of the callers so far may take in the next one's
  pub joins_next : (object : SerialObject O R) (content : T → object.State) (fails : T → List O → Type 0) (p id other : ℕ) (done : List (Caller T O R g)) (c : Caller T O R g) (v w : View O R)
      → Gathers done v → w ≡ retiring c.seat.me.0 → c.seat.me.0.holds ≡ false → number_of c ≡ length done → 1 ≤ length done
      → Joins (Keeps object content fails p) id v other w (gathering v w) spent_view
  joins_next object content fails p id other done c v w so_far is idle_c next more =
      let own = c.own in
      let c_from = own.0 in
      let c_to = own.1 in
      let from = so_far.from in
      let to = so_far.to in
      let w_from = ap (λ (u : View O R). u.from) is in
      let w_to = ap (λ (u : View O R). u.to) is in
      let made_all = ap (λ (l : List (List (Entry O R))). length l) so_far.own in
      let long = length-map done made in
      gathers object content fails p id other v w so_far.retired (ap (λ (u : View O R). u.request) is) so_far.idle (ap (λ (u : View O R). u.holds) is ∙ idle_c)
      (omega (arith, from, to, more)) (omega (arith, w_from, c_from, next, to)) (omega (arith, w_from, w_to, c_from, c_to)) (omega (arith, made_all, long, from, to))

  -- what the last state says of all calls
  module _ (object : SerialObject O R) (content : T → object.State) (fails : T → List O → Type 0) (p id : ℕ) (callers : List (Caller T O R g)) (v : View O R) (ws : List ℕ) (xs : List (Slot T O R))
      (long : length callers ≡ p) (all : Gathers callers v) (final : Final (Seen (Keeps object content fails p) id v) ws xs) where
    abbrev pub keeps : Keeps object content fails p final.0
    keeps = final.1.0

    own_calls_of : (k : ℕ) (c : Caller T O R g) → k < length callers → c ≡ get_or callers k c → calls_by k keeps.log ≡ made c
    own_calls_of k c less is =
        let from = all.from in
        let to = all.to in
        let stands = (keeps.stands id v k final.1.1 (omega (arith, from)) (omega (arith, to, less))).1 in
        let is_retired : keeps.stage k ≡ retired = request_of_retired (keeps.stage k) (sym stands.asks ∙ all.retired) in
        let place : k - v.from ≡ k = omega (arith, from) in
        stands.made ∙ (ap (λ x. made_by v k ++ served k x) is_retired ∙ (append-nil (made_by v k) ∙ (ap (λ (j : ℕ). get_or v.made j []) place
        ∙ (ap (λ l. get_or l k []) all.own ∙ at_map_or made callers k [] c less is))))

    pub all_calls : AreAllCalls object callers keeps.log
    all_calls = record {
      serial = keeps.serial;
      known = subst (λ (n : ℕ). AllByRecursion (λ (e : Entry O R). e.caller < n) keeps.log) (sym long) keeps.known;
      own = own_calls_of;
      mixed = subst (λ l. IsPermutation l keeps.log) (sym (parts_of keeps.log made 0 callers (λ j c less is. ap (λ (i : ℕ). calls_by i keeps.log) (omega arith) ∙ own_calls_of j c less is)))
          (parts_all 0 (length callers) keeps.log (each_so _ _ (λ (e : Entry O R) less. (omega arith, omega (arith, less, long))) keeps.log keeps.known));
      front = λ k c less is. each_map (StartsWith keeps.log) seen callers k c less is (subst (AllByRecursion (StartsWith keeps.log)) all.fronts (keeps.sees id v final.1.1).heard);
    }

    same_flag : get_or final.0.words p 0 ≡ get_or ws p 0
    same_flag = ap (λ (l : List ℕ). get_or l p 0) final.2

    -- where it is not free, the structure is lost
    marked_lost : get_or ws p 0 ≢ 0 → 1 ≤ p → get_or final.0.words p 0 ≡ p + 1
    marked_lost held some_p =
        let few = keeps.few in
        let to = all.to in
        let from = all.from in
        let same = same_flag in
        let flag : ℕ = get_or final.0.words p 0 in
        let none : (k : ℕ) → k < p → flag ≢ k + 1 = λ k less. (keeps.stands id v k final.1.1 (omega (arith, from)) (omega (arith, to, less, long))).1.free all.idle in
        dite (ℕ_discrete flag (p + 1)) (λ is. is) (λ ne. absurd (none (flag - 1) (omega (arith, few, ne, same, held)) (omega (arith, same, held))))

    pub structure_lost : get_or ws p 0 ≢ 0 → 1 ≤ p → IsLost object content fails keeps.log
    structure_lost held some_p = keeps.cause (marked_lost held some_p)

    -- and then one of the callers was told so, and otherwise none
    pub some_lost : get_or ws p 0 ≢ 0 → 1 ≤ p → SomeIsLost callers
    some_lost held some_p =
        let t = keeps.told (marked_lost held some_p) in
        let own = keeps.stands t.0 t.1 t.1.from t.2 (omega arith) t.3 in
        let less = own.0 in
        let from = all.from in
        let to = all.to in
        let last = keeps.stands id v t.1.from final.1.1 (omega (arith, from)) (omega (arith, to, less, long)) in
        let same_seat : t.0 ≡ id = sym own.1.sits ∙ last.1.sits in
        let same : t.1 ≡ v = some-injective t.1 v (sym t.2 ∙ (ap (λ (i : ℕ). get_elem? final.0.views i) same_seat ∙ final.1.1)) in
        all.told (ap (λ (u : View O R). u.lost) (sym same) ∙ t.4)

    pub none_lost : get_or ws p 0 ≡ 0 → NoneIsLost callers
    none_lost free =
        let same = same_flag in
        each_so (λ (c : Caller T O R g). is_lost c ≡ true → v.lost ≡ true) (λ (c : Caller T O R g). is_lost c ≡ false) (λ (c : Caller T O R g) tells. not_true c.lost (λ lost. let found = ((keeps.sees id v final.1.1).lost (tells lost)).0 in absurd (omega (arith, found, same, free)))) callers all.tells

    -- where the flag is free, the last slot has the structure
    pub structure_there : get_or ws p 0 ≡ 0 → (t : T) × (rs : Vec R Global) × (get_elem? xs p ≡ some (Whole t rs)) × (content t ≡ state_after object keeps.log)
    structure_there free =
        let h = keeps.home (ap (λ (l : List ℕ). get_or l p 0) final.2 ∙ free) in
        (h.0, h.1, final.4 p (Whole h.0 h.1) h.2, h.3)
