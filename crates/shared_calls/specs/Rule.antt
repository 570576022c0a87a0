-- The rule of the table. Of p callers, word w and slot w are those of caller w. Word p is the flag: 0 where it is free,
-- one more than its holder, or p + 1 where the structure is lost. Slot p has the structure.
use Rattle.std.specs.Prelude.{◌≡◌, ◌≢◌, ℕ, ◌+◌, ◌-◌, ◌<◌, ◌≤◌, List, [], ◌∷◌, ◌++◌, length, map, replicate, slice_index, slice_index_or, true, false, Contains}
use Rattle.std.specs.List.{AllByRecursion}
use mathlib.Core.Option.{some}
use lib.ListN.{get_elem?}
use Rattle.atomic_table.specs.Table.{State}
use Rattle.shared_calls.specs.declared.view.Entry.{Entry}
use Rattle.shared_calls.specs.declared.view.Asked.{Asked}
use Rattle.shared_calls.specs.declared.view.Request.TheVariants.{Absent}
use Rattle.shared_calls.specs.declared.view.Slot.{Slot}
use Rattle.shared_calls.specs.declared.view.Slot.TheVariants.{Whole}
use Rattle.shared_calls.specs.declared.view.View.{View}
use Rattle.shared_calls.specs.Serial.{SerialObject}
use Rattle.shared_calls.specs.Logs.{entry, ask, calls_by, StartsWith, state_after, IsSerial}
use Rattle.shared_calls.specs.Stages.{Stage, taken, owed, word_of, request_of, served, IsFree, HomeIs}

abbrev pub AllPairs : {X : Type 0} → (X → X → Type 0) → List X → Type 0
AllPairs R [] = Unit {0}
AllPairs R (x ∷ xs) = AllByRecursion (R x) xs × AllPairs R xs

module _ {O R : Type 0} where
  -- a seat that has done nothing, for these callers
  abbrev pub newcomers : ℕ → ℕ → ℕ → View O R
  newcomers from to count = record {
    from = from;
    to = to;
    request = Absent;
    made = replicate count [];
    seen = [];
    heard = [];
    lost = false;
    holds = false;
    log = [];
    looks = 0;
    taken = [];
    owed = [];
  }

  abbrev pub first_view : ℕ → View O R
  first_view p = newcomers 0 p p

  -- the calls that caller w made
  abbrev pub made_by : View O R → ℕ → List (Entry O R)
  made_by v w = slice_index_or v.made (w - v.from) []

  abbrev pub OfOthers : Entry O R → Entry O R → Type 0
  OfOthers a b = a.caller ≢ b.caller

  -- what the holder of the flag knows
  pub record Holds (p flag : ℕ) (log : List (Entry O R)) (stage : ℕ → Stage O R) (v : View O R) (w : ℕ) : Type 0 where
    pub flag_is : flag ≡ w + 1
    pub log_is : log ≡ v.log
    pub takes : AllByRecursion (λ (a : Asked O). (a.caller < p) × (a.caller < v.looks) × (stage a.caller ≡ taken a.op)) v.taken
    pub takes_once : AllPairs (λ (a b : Asked O). a.caller ≢ b.caller) v.taken
    pub takes_all : (u : ℕ) (op : O) → u < p → stage u ≡ taken op → Contains v.taken (ask u op)
    pub owes : AllByRecursion (λ (e : Entry O R). (e.caller < p) × (stage e.caller ≡ owed e.op e.reply)) v.owed
    pub owes_once : AllPairs OfOthers v.owed
    pub owes_all : (u : ℕ) (op : O) (reply : R) → u < p → stage u ≡ owed op reply → Contains v.owed (entry u op reply)

  -- what a seat knows of caller w, for which it stands
  pub record Stands (p flag : ℕ) (log : List (Entry O R)) (stage : ℕ → Stage O R) (seat id : ℕ) (v : View O R) (w : ℕ) : Type 0 where
    pub sits : seat ≡ id
    pub asks : v.request ≡ request_of (stage w)
    pub made : calls_by w log ≡ made_by v w ++ served w (stage w)
    pub own : v.to ≡ v.from + 1 → calls_by w v.seen ≡ made_by v w
    pub free : v.holds ≡ false → flag ≢ w + 1
    pub holds : v.holds ≡ true → Holds p flag log stage v w

  -- what each seat knows
  pub record Sees (p flag : ℕ) (log : List (Entry O R)) (v : View O R) : Type 0 where
    pub seen : StartsWith log v.seen
    pub heard : AllByRecursion (StartsWith log) v.heard
    pub lost : v.lost ≡ true → (flag ≡ p + 1) × (log ≡ v.log)

  -- the seat of some caller has found that the structure is lost
  abbrev pub IsKnownToSome : List (View O R) → Type 0
  IsKnownToSome views = (id : ℕ) × (v : View O R) × (get_elem? views id ≡ some v) × (v.from < v.to) × (v.lost ≡ true)

module _ {T O R : Type 0} (object : SerialObject O R) (content : T → object.State) (fails : T → List O → Type 0) where
  -- The structure is lost: with the content after these calls, it failed to serve the calls that were asked next.
  pub record IsLost (log : List (Entry O R)) : Type 0 where
    pub structure : T
    pub asked : List (Asked O)
    pub content_is : content structure ≡ state_after object log
    pub failed : fails structure (map (λ a. a.op) asked)

  pub record Keeps (p : ℕ) (s : State (Slot T O R) (View O R)) : Type 0 where
    pub log : List (Entry O R)
    pub stage : ℕ → Stage O R
    pub seat : ℕ → ℕ
    pub wide : length s.words ≡ p + 1
    pub slots : length s.homes ≡ p + 1
    pub seated : (w : ℕ) → seat w < length s.views
    pub stages : (w : ℕ) → w < p → (slice_index s.words w ≡ word_of (stage w)) × HomeIs (stage w) (get_elem? s.homes w)
    pub serial : IsSerial object log
    pub known : AllByRecursion (λ (e : Entry O R). e.caller < p) log
    pub few : slice_index s.words p ≤ p + 1
    -- where the flag is free, the structure is at home with the content after all calls, and no call is taken
    pub home : slice_index s.words p ≡ 0
        → (t : T) × (rs : _) × (get_elem? s.homes p ≡ some (some (Whole t rs))) × (content t ≡ state_after object log)
    pub none_taken : slice_index s.words p ≡ 0 → (w : ℕ) → w < p → IsFree (stage w)
    -- where the structure is lost, each call that was served is answered, and some caller knows that it is lost
    pub none_owed : slice_index s.words p ≡ p + 1 → (w : ℕ) (op : O) (reply : R) → w < p → stage w ≢ owed op reply
    pub cause : slice_index s.words p ≡ p + 1 → IsLost log
    pub told : slice_index s.words p ≡ p + 1 → IsKnownToSome s.views
    pub sees : (id : ℕ) (v : View O R) → get_elem? s.views id ≡ some v → Sees p (slice_index s.words p) log v
    pub stands : (id : ℕ) (v : View O R) (w : ℕ) → get_elem? s.views id ≡ some v → v.from ≤ w → w < v.to
        → (w < p) × Stands p (slice_index s.words p) log stage (seat w) id v w
