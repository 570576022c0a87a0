-- How the code keeps the objects that leaves name.
use Rattle.std.proofs.Common.{◌≡◌, ℕ, ◌+◌, ◌-◌, ◌<◌, ◌≤◌, inl, inr, List, [], ◌∷◌, ◌++◌, length, map, replicate, Option, Some, None, refl, sym, ap, ◌∙◌, subst, arith, append_assoc, append-nil, length-append}
use Rattle.std.proofs.lemmas.List.{length-replicate, replicate_more}
use Rattle.job_lang.specs.declared.expand.objects.Object.{Object}
use Rattle.job_lang.specs.declared.expand.objects.Objects.{Objects}
use Rattle.job_lang.specs.Objects.{NamedObject, with_object, named_behind, number_among, numbers_of, names_of}
use Rattle.job_lang.specs.Code.Numbered.{object_in, named_in, names_in, numbers_in, numbers_behind, AreListed, NamesBehind}
use Rattle.job_lang.proofs.ExpandLemmas.Places.{same_numbers}
use Rattle.job_names.specs.Names.{spelling}
use Rattle.seq_objects.specs.declared.act.Act.{Act}
use Rattle.seq_objects.specs.declared.act.Act.TheVariants.{Work, Call}
use Rattle.seq_objects.specs.declared.op.Op.{Op}
use Rattle.seq_objects.specs.Parts.{number_of}
use Rattle.seq_objects.proofs.Parts.{whole}
use Rattle.sp_order.proofs.ObjectLemmas.{most_used, number_given}
use Rattle.sp_order.specs.Objects.{number_in, AreUnnamed, with_number, numbered, with_numbers, AreByFirstUse, AreNumbered}
use Rattle.std.proofs.lemmas.Bool.{cases_lt}

-- zeros behind some numbers

pub zeros_start : (numbers : List ℕ) (at : ℕ) → at ≡ length numbers → numbers ≡ numbers ++ replicate (at - length numbers) 0
zeros_start numbers at e =
    let none : at - length numbers ≡ 0 = omega (arith, e) in sym (ap (λ n. numbers ++ replicate n 0) none ∙ append-nil numbers)

pub zeros_more : (numbers : List ℕ) (count : ℕ) → length numbers ≤ count → (numbers ++ replicate (count - length numbers) 0) ++ 0 ∷ [] ≡ numbers ++ replicate (count + 1 - length numbers) 0
zeros_more numbers count few =
    let next : count - length numbers + 1 ≡ count + 1 - length numbers = omega (arith, few) in
    append_assoc numbers (replicate (count - length numbers) 0) (0 ∷ []) ∙ ap (λ zeros. numbers ++ zeros) (replicate_more (count - length numbers) 0 ∙ ap (λ n. replicate n 0) next)

pub at_end : (long at count : ℕ) → (long ≤ count → at ≤ count) → (count < long → at ≡ long) → count ≤ at → at - long ≡ count - long
at_end long at count within stays over = elim (cases_lt count long) [
  | inl less ↦ (let same = stays less in omega (arith, less, same))
  | inr more ↦ (let few = within more in omega (arith, few, over))
]

pub zeros_done : (numbers : List ℕ) (at count : ℕ) → at - length numbers ≡ count - length numbers → numbers ++ replicate (at - length numbers) 0 ≡ numbers ++ replicate (count - length numbers) 0
zeros_done numbers at count e = ap (λ n. numbers ++ replicate n 0) e

-- one more leaf

named_more : (leaves : List (Option NamedObject)) (objects : List NamedObject) (x : NamedObject) → named_behind objects (leaves ++ Some x ∷ []) ≡ with_object (named_behind objects leaves) x
named_more [] objects x = refl
named_more (None ∷ leaves) objects x = named_more leaves objects x
named_more (Some y ∷ leaves) objects x = named_more leaves (with_object objects y) x

named_same : (leaves : List (Option NamedObject)) (objects : List NamedObject) → named_behind objects (leaves ++ None ∷ []) ≡ named_behind objects leaves
named_same [] objects = refl
named_same (None ∷ leaves) objects = named_same leaves objects
named_same (Some y ∷ leaves) objects = named_same leaves (with_object objects y)

numbers_more : (leaves : List (Option NamedObject)) (objects : List NamedObject) (x : Option NamedObject) → numbers_behind objects (leaves ++ x ∷ []) ≡ numbers_behind objects leaves ++ number_among (named_behind objects leaves) x ∷ []
numbers_more [] objects None = refl
numbers_more [] objects (Some x) = refl
numbers_more (None ∷ leaves) objects x = ap (λ ns. 0 ∷ ns) (numbers_more leaves objects x)
numbers_more (Some y ∷ leaves) objects x = ap (λ ns. number_among objects (Some y) ∷ ns) (numbers_more leaves (with_object objects y) x)

long_more : (leaves : List (Option NamedObject)) (x : Option NamedObject) → length (leaves ++ x ∷ []) ≡ length leaves + 1
long_more leaves x = length-append leaves (x ∷ []) ∙ omega arith

-- a leaf that names no object
pub listed_none : (place : ℕ) (objects : Objects) → NamesBehind place objects objects (None ∷ [])
listed_none place objects leaves long listed = record {
  named = listed.named ∙ sym (named_same leaves []);
  few = (let few = listed.few in omega (arith, few, long_more leaves None));
  numbers = ap (numbers_in objects) (long_more leaves None) ∙ sym (zeros_more objects.numbers.items (length leaves) listed.few)
      ∙ ap (λ ns. ns ++ 0 ∷ []) listed.numbers ∙ sym (numbers_more leaves [] None);
}

-- a leaf that names one
pub listed_some : (place : ℕ) (old new : Objects) (x : NamedObject) → new.numbers.items ≡ numbers_in old place ++ number_among (named_in old) (Some x) ∷ [] → named_in new ≡ with_object (named_in old) x → NamesBehind place old new (Some x ∷ [])
listed_some place old new x numbers named leaves long listed =
    let few = listed.few in
    let filled : length (numbers_in old place) ≡ place =
    length-append old.numbers.items (replicate (place - length old.numbers.items) 0) ∙ ap (λ n. length old.numbers.items + n) (length-replicate (place - length old.numbers.items) 0) ∙ omega (arith, few, long) in
    let count : length new.numbers.items ≡ length leaves + 1 = ap length numbers ∙ length-append (numbers_in old place) (number_among (named_in old) (Some x) ∷ []) ∙ omega (arith, filled, long) in
    let whole : numbers_in new (length (leaves ++ Some x ∷ [])) ≡ new.numbers.items =
    (let none : length (leaves ++ Some x ∷ []) - length new.numbers.items ≡ 0 = omega (arith, count, long_more leaves (Some x)) in
    ap (λ n. new.numbers.items ++ replicate n 0) none ∙ append-nil new.numbers.items) in
    record {
      named = named ∙ ap (λ os. with_object os x) listed.named ∙ sym (named_more leaves [] x);
      few = omega (arith, count, long_more leaves (Some x));
      numbers = whole ∙ numbers
          ∙ ap (λ n. numbers_in old n ++ number_among (named_in old) (Some x) ∷ []) (sym long)
          ∙ ap (λ ns. ns ++ number_among (named_in old) (Some x) ∷ []) listed.numbers
          ∙ ap (λ os. numbers_behind [] leaves ++ number_among os (Some x) ∷ []) listed.named
          ∙ sym (numbers_more leaves [] (Some x));
    }

-- the numbers and the names of a whole job

pub numbers_kept : (objects : Objects) (leaves : List (Option NamedObject)) (count : ℕ) → AreListed objects leaves → length leaves ≡ count → numbers_in objects count ≡ numbers_of leaves
numbers_kept objects leaves count listed long = ap (numbers_in objects) (sym long) ∙ listed.numbers ∙ same_numbers leaves []

pub names_kept : (objects : Objects) (leaves : List (Option NamedObject)) → AreListed objects leaves → names_in objects ≡ names_of leaves
names_kept objects leaves listed = ap (λ os. map (λ (object : NamedObject). spelling object.name) os) listed.named

pub no_names : (keys : List Object) → length keys ≡ 0 → map (λ (object : NamedObject). spelling object.name) (map object_in keys) ≡ []
no_names [] none = refl
no_names (key ∷ keys) none = absurd (omega (arith, none))

-- Where no object is named, all numbers are 0, and the acts stay.

call_stays : (op : Op) → number_of op ≡ 0 → with_number op 0 ≡ op
call_stays op none = ap (with_number op) (sym none) ∙ whole op

act_stays : (act : Act) → number_in act ≡ 0 → numbered act 0 ≡ act
act_stays (Work steps) none = refl
act_stays (Call op) none = ap (λ op. Call op) (call_stays op none)

zero_number : (act : Act) (number : ℕ) → number_in act ≡ 0 → number_in (numbered act number) ≤ 0 → numbered act number ≡ act
zero_number (Work steps) number unnamed few = refl
zero_number (Call op) number unnamed few =
    let zero : number ≡ 0 = omega (arith, few, number_given op number) in
    ap (λ n. Call (with_number op n)) zero ∙ act_stays (Call op) unnamed

stays_from : (acts : List Act) (numbers : List ℕ) → AreUnnamed acts → AreByFirstUse 0 (map (λ act. number_in act) (with_numbers acts numbers)) 0 → with_numbers acts numbers ≡ acts
stays_from [] numbers unnamed h = refl
stays_from (act ∷ acts) [] unnamed h = refl
stays_from (act ∷ acts) (number ∷ numbers) unnamed (inl h) = (λ i. zero_number act number unnamed.0 h.0 i ∷ stays_from acts numbers unnamed.1 h.1 i)
stays_from (act ∷ acts) (number ∷ numbers) unnamed (inr h) = let most = (most_used (with_numbers acts numbers) 1 0 h.1).0 in absurd (omega (arith, most))

pub acts_stay : (acts : List Act) (numbers : List ℕ) (names : List (List ℕ)) → AreUnnamed acts → AreNumbered acts numbers names → names ≡ [] → with_numbers acts numbers ≡ acts
acts_stay acts numbers names unnamed are none =
    stays_from acts numbers unnamed (subst (λ ns. AreByFirstUse 0 (map (λ act. number_in act) (with_numbers acts numbers)) (length ns)) none are.named.numbers)
