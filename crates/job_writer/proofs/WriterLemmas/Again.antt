-- The objects that the acts of a job call, as leaves that name them, get the numbers and the names of the job.
use Rattle.std.proofs.Common.{◌≡◌, ℕ, zero, suc, ◌+◌, ◌-◌, ◌<◌, ◌⊎◌, inl, inr, List, [], ◌∷◌, ◌++◌, length, map, true, false, Some, None, refl, sym, ap, ◌∙◌, subst, arith, length-append}
use Rattle.std.specs.Prelude.{slice_get, slice_index_or}
use Rattle.std.specs.List.{list_any, position_or_len}
use Rattle.seq_objects.specs.declared.act.Act.{Act}
use Rattle.seq_objects.specs.declared.act.Act.TheVariants.{Work, Call}
use Rattle.seq_objects.specs.declared.op.Op.{Op}
use Rattle.seq_objects.specs.declared.op.Op.TheVariants.{CounterAdd}
use Rattle.seq_objects.specs.declared.kind.Kind.{Kind}
use Rattle.seq_objects.specs.Parts.{kind_of, number_of}
use Rattle.sp_order.specs.Objects.{number_in, numbered, with_number, AreByFirstUse, name_of_number, AreNamed}
use Rattle.job_names.specs.Names.{name_of, spelling}
use Rattle.job_lang.specs.Objects.{NamedObject, same_object, with_object, named_behind, numbers_of, names_of, object_numbered, object_called}
use Rattle.job_lang.specs.Code.Numbered.{numbers_behind}
use Rattle.job_lang.proofs.ExpandLemmas.Places.{object_from, object_self, with_old, with_new, place_is, place_none, none_passes, one_passes, same_numbers}
use Rattle.std.proofs.lemmas.Bool.{false_from_ne_true}
use Rattle.job_names.proofs.Spellings.{spelling_back, one_spelling}
use Rattle.std.proofs.lemmas.Option.{slice_get_within}

-- an act gets its number back

call_back : (op : Op) → with_number (with_number op 0) (number_of op) ≡ op
call_back (CounterAdd number addend) = refl
call_back _ = refl

pub numbered_back : (act : Act) → numbered (numbered act 0) (number_in act) ≡ act
numbered_back (Work steps) = refl
numbered_back (Call op) = ap (λ op. Call op) (call_back op)

last_or : {X : Type 0} (xs : List X) (x y : X) (p : ℕ) → slice_get (xs ++ x ∷ []) p ≡ Some y → (slice_get xs p ≡ Some y) ⊎ ((p ≡ length xs) × (y ≡ x))
last_or [] x y zero e = inr (refl, cc)
last_or [] x y (suc p) e = cc
last_or (first ∷ xs) x y zero e = inl e
last_or (first ∷ xs) x y (suc p) e = elim (last_or xs x y p e) [ inl l ↦ inl l | inr r ↦ inr (ap suc r.0, r.1) ]

below_get : {X : Type 0} (xs : List X) (p : ℕ) → p < length xs → (x : X) × (slice_get xs p ≡ Some x)
below_get [] p h = absurd (omega (arith, h))
below_get (x ∷ xs) zero h = (x, refl)
below_get (x ∷ xs) (suc p) h = below_get xs p (omega (arith, h))

module _ (all : List Act) (given : List (List ℕ)) (named : AreNamed all given) where
  -- an act of the job
  abbrev IsAct : Act → Type 0
  IsAct act = (u : ℕ) × (slice_get all u ≡ Some act)

  -- the object of this kind at this place, by its name
  abbrev object_at : Kind → ℕ → NamedObject
  object_at kind place = record { kind = kind; name = name_of (slice_index_or given place []) }

  -- an object that is known at a place is that of a call with its number
  record IsKnown (place : ℕ) (object : NamedObject) : Type 0 where
    op : Op
    call : IsAct (Call op)
    number_is : number_of op ≡ place + 1
    object_is : object ≡ object_at (kind_of op) place

  abbrev AreKnown : List NamedObject → Type 0
  AreKnown known = (place : ℕ) (object : NamedObject) → slice_get known place ≡ Some object → IsKnown place object

  name_here : (op : Op) (place : ℕ) → number_of op ≡ place + 1 → name_of_number given (number_of op) ≡ slice_index_or given place []
  name_here op place e = let is : number_of op - 1 ≡ place = omega (arith, e) in ap (λ n. slice_index_or given n []) is

  -- an object of a call is not known at another place
  other_place : (op : Op) (place q : ℕ) (other : NamedObject) → IsAct (Call op) → number_of op ≡ place + 1 → (q ≡ place → ⊥) → IsKnown q other → same_object (object_at (kind_of op) place) other ≡ false
  other_place op place q other is e differ known =
      false_from_ne_true (same_object (object_at (kind_of op) place) other)
      (λ t.
      let same = object_from (object_at (kind_of op) place) other t ∙ known.object_is in
      let kind : kind_of op ≡ kind_of known.op = ap (λ (o : NamedObject). o.kind) same in
      let name : slice_index_or given place [] ≡ slice_index_or given q [] = one_spelling (slice_index_or given place []) (slice_index_or given q []) (ap (λ (o : NamedObject). o.name) same) in
      let n = known.number_is in
      named.apart is.0 known.call.0 op known.op is.1 known.call.1 (omega (arith, e)) (omega (arith, n)) kind
      (λ equal. differ (omega (arith, e, n, equal)))
      (name_here op place e ∙ name ∙ sym (name_here known.op q n)))

  -- an object of a call that is known at its place
  own_place : (op : Op) (place : ℕ) (other : NamedObject) → IsAct (Call op) → number_of op ≡ place + 1 → IsKnown place other → object_at (kind_of op) place ≡ other
  own_place op place other is e known =
      let n = known.number_is in
      let kind = named.kinds is.0 known.call.0 op known.op is.1 known.call.1 (omega (arith, e)) (omega (arith, e, n)) in
      ap (λ k. object_at k place) kind ∙ sym known.object_is

  old_place : (known : List NamedObject) (op : Op) (place : ℕ) → AreKnown known → IsAct (Call op) → number_of op ≡ place + 1 → place < length known
      → (position_or_len (same_object (object_at (kind_of op) place)) known ≡ place) × (list_any (same_object (object_at (kind_of op) place)) known ≡ true)
  old_place known op place are is e less =
      let at = below_get known place less in
      let x = object_at (kind_of op) place in
      let t : same_object x at.0 ≡ true = subst (λ o. same_object x o ≡ true) (own_place op place at.0 is e (are place at.0 at.1)) (object_self x) in (
        place_is (same_object x) known place at.0 at.1 t (λ q other before f. other_place op place q other is e (λ q_is. omega (arith, before, q_is)) (are q other f)),
        one_passes (same_object x) known place at.0 at.1 t,
      )

  new_place : (known : List NamedObject) (op : Op) (place : ℕ) → AreKnown known → IsAct (Call op) → number_of op ≡ place + 1 → place ≡ length known → list_any (same_object (object_at (kind_of op) place)) known ≡ false
  new_place known op place are is e long =
      none_passes (same_object (object_at (kind_of op) place)) known
      (λ q other f. let below = slice_get_within known q other f in other_place op place q other is e (λ q_is. omega (arith, below, q_is, long)) (are q other f))

  known_more : (known : List NamedObject) (op : Op) (place : ℕ) → AreKnown known → IsAct (Call op) → number_of op ≡ place + 1 → place ≡ length known → AreKnown (known ++ object_at (kind_of op) place ∷ [])
  known_more known op place are is e long p object f =
      elim (last_or known (object_at (kind_of op) place) object p f) [
        | inl old ↦ are p object old
        | inr new ↦
            let here = new.0 in
            let same : p ≡ place = omega (arith, here, long) in
            record { op = op; call = is; number_is = omega (arith, e, same); object_is = new.1 ∙ ap (object_at (kind_of op)) (sym same) }
      ]

  -- what the rest of the acts calls, behind what is known
  record Back (known : List NamedObject) (rest : List Act) : Type 0 where
    numbers : numbers_behind known (map (λ act. object_called given act) rest) ≡ map (λ act. number_in act) rest
    behind : AreKnown (named_behind known (map (λ act. object_called given act) rest))
    long : length (named_behind known (map (λ act. object_called given act) rest)) ≡ length given

  none_first : (known : List NamedObject) (act : Act) (rest : List Act) → object_called given act ≡ None → number_in act ≡ 0 → Back known rest → Back known (act ∷ rest)
  none_first known act rest none first back =
      let os = map (λ act. object_called given act) rest in
      record {
        numbers = ap (λ o. numbers_behind known (o ∷ os)) none ∙ (λ i. sym first i ∷ back.numbers i);
        behind = subst (λ o. AreKnown (named_behind known (o ∷ os))) (sym none) back.behind;
        long = ap (λ o. length (named_behind known (o ∷ os))) none ∙ back.long;
      }

  some_first : (known next : List NamedObject) (act : Act) (rest : List Act) (x : NamedObject) (number : ℕ) → object_called given act ≡ Some x → number_in act ≡ number → position_or_len (same_object x) known + 1 ≡ number → with_object known x ≡ next → Back next rest → Back known (act ∷ rest)
  some_first known next act rest x number some is place then back =
      let os = map (λ act. object_called given act) rest in
      record {
        numbers = ap (λ o. numbers_behind known (o ∷ os)) some ∙ (λ i. (place ∙ sym is) i ∷ (ap (λ k. numbers_behind k os) then ∙ back.numbers) i);
        behind = subst (λ o. AreKnown (named_behind known (o ∷ os))) (sym some) (subst (λ k. AreKnown (named_behind k os)) (sym then) back.behind);
        long = ap (λ o. length (named_behind known (o ∷ os))) some ∙ ap (λ k. length (named_behind k os)) then ∙ back.long;
      }

  called_at : (op : Op) (place : ℕ) → number_of op ≡ place + 1 → object_called given (Call op) ≡ Some (object_at (kind_of op) place)
  called_at op place e = let next : number_of op ≡ suc place = omega (arith, e) in ap (λ n. object_numbered given (kind_of op) n) next

  either_number : (n : ℕ) → (n ≡ 0) ⊎ ((place : ℕ) × (n ≡ place + 1))
  either_number zero = inl refl
  either_number (suc place) = inr (place, omega arith)

  back : (rest : List Act) (known : List NamedObject) (used : ℕ) → used ≡ length known → AreKnown known → ((u : ℕ) (act : Act) → slice_get rest u ≡ Some act → IsAct act) → AreByFirstUse used (map (λ act. number_in act) rest) (length given) → Back known rest
  back [] known used e are each first = record { numbers = refl; behind = are; long = sym e ∙ first }
  back (Work steps ∷ rest) known used e are each (inl first) = none_first known (Work steps) rest refl refl (back rest known used e are (λ u act f. each (suc u) act f) first.1)
  back (Work steps ∷ rest) known used e are each (inr first) = let never = first.0 in absurd (omega (arith, never))
  back (Call op ∷ rest) known used e are each (inl first) =
      let few = first.0 in
      let more = back rest known used e are (λ u act f. each (suc u) act f) first.1 in
      elim (either_number (number_of op)) [
        | inl none ↦ none_first known (Call op) rest (ap (λ n. object_numbered given (kind_of op) n) none) none more
        | inr some ↦
            let n = some.1 in
            let old = old_place known op some.0 are (each 0 (Call op) refl) n (omega (arith, few, n, e)) in
            some_first known known (Call op) rest (object_at (kind_of op) some.0) (number_of op) (called_at op some.0 n) refl (ap (λ p. p + 1) old.0 ∙ sym n) (with_old known (object_at (kind_of op) some.0) old.1) more
      ]
  back (Call op ∷ rest) known used e are each (inr first) =
      let n = first.0 in
      let x = object_at (kind_of op) used in
      let is = each 0 (Call op) refl in
      let new = new_place known op used are is n e in
      let long : used + 1 ≡ length (known ++ x ∷ []) = sym (length-append known (x ∷ []) ∙ omega (arith, e)) in
      some_first known (known ++ x ∷ []) (Call op) rest x (number_of op) (called_at op used n) refl (ap (λ p. p + 1) (place_none (same_object x) known new ∙ sym e) ∙ sym n) (with_new known x new)
      (back rest (known ++ x ∷ []) (used + 1) long (known_more known op used are is n e) (λ u act f. each (suc u) act f) first.1)

  whole : Back [] all
  whole = back all [] 0 refl (λ place object f. cc) (λ u act f. (u, f)) named.numbers

-- the names of what is known are those of the job
same_list : (known : List NamedObject) (given : List (List ℕ)) → length known ≡ length given → ((place : ℕ) (object : NamedObject) → slice_get known place ≡ Some object → object.name ≡ name_of (slice_index_or given place []))
    → map (λ (object : NamedObject). spelling object.name) known ≡ given
same_list [] [] e h = refl
same_list [] (text ∷ given) e h = absurd (omega (arith, e))
same_list (x ∷ known) [] e h = absurd (omega (arith, e))
same_list (x ∷ known) (text ∷ given) e h =
    let first : spelling x.name ≡ text = ap spelling (h 0 x refl) ∙ spelling_back text in
    let more = same_list known given (omega (arith, e)) (λ place object f. h (suc place) object f) in
    λ i. first i ∷ more i

pub back_again : (acts : List Act) (given : List (List ℕ)) → AreNamed acts given
    → (numbers_of (map (λ act. object_called given act) acts) ≡ map (λ act. number_in act) acts) × (names_of (map (λ act. object_called given act) acts) ≡ given)
back_again acts given named =
    let w = whole acts given named in (
      sym (same_numbers (map (λ act. object_called given act) acts) []) ∙ w.numbers,
      same_list (named_behind [] (map (λ act. object_called given act) acts)) given w.long (λ place object f. ap (λ (o : NamedObject). o.name) (w.behind place object f).object_is),
    )
