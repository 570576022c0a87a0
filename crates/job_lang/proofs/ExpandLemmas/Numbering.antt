-- The numbers and names that items give their objects meet the condition of a job.
use Rattle.std.proofs.Common.{◌≡◌, ℕ, zero, suc, ◌+◌, ◌-◌, ◌<◌, inl, inr, List, [], ◌∷◌, ◌++◌, length, map, Bool, true, false, Option, Some, None, refl, sym, ap, ◌∙◌, subst, arith, length-append}
use Rattle.std.specs.Prelude.{slice_get, slice_index_or}
use Rattle.std.specs.List.{list_any, position_or_len, AllByRecursion}
use Rattle.std.proofs.lemmas.List.{length-map}
use Rattle.seq_objects.specs.declared.act.Act.{Act}
use Rattle.seq_objects.specs.declared.act.Act.TheVariants.{Work, Call}
use Rattle.seq_objects.specs.declared.op.Op.{Op}
use Rattle.seq_objects.specs.declared.kind.Kind.{Kind}
use Rattle.seq_objects.specs.Verbs.{kind_of_verb}
use Rattle.seq_objects.specs.Parts.{verb_of, kind_of, number_of, argument_of, op_of}
use Rattle.seq_objects.proofs.Parts as parts
use Rattle.sp_order.specs.Objects.{number_in, AreUnnamed, with_number, numbered, with_numbers, AreByFirstUse, name_of_number, AreOfOneKind, AreApart, AreNumbered}
use Rattle.job_names.specs.declared.name.Name.{Name}
use Rattle.job_names.specs.Names.{name_of, spelling}
use Rattle.job_names.specs.Names as names
use Rattle.job_syntax.specs.Blocks.{word_number}
use Rattle.job_syntax.specs.Grammar.{Items, nothing, leaf_then, block_then, BlockKind, seq_block, par_block, for_loop, pfor_loop, Leaf, work, call, bound}
use Rattle.job_lang.specs.Meaning.{argument_in, act_of, acts_in, each_copy, in_block, object_named, object_of, objects_in}
use Rattle.job_lang.specs.Objects.{NamedObject, same_object, with_object, named_behind, named_by, number_among, numbers_of, names_of, object_numbered, object_called}
use Rattle.job_lang.specs.Code.Numbered.{numbers_behind, IsSpelledName, IsSpelled, AreSpelled}
use Rattle.sp_order.proofs.ObjectLemmas.{number_given}
use Rattle.job_lang.proofs.ExpandLemmas.Places.{Has, at_place, one_place, with_old, with_new, place_below, place_none, named_is_there, same_numbers, each_named}

-- the kind of an operation on the object with another number

pub kind_with : (op : Op) (number : ℕ) → kind_of (with_number op number) ≡ kind_of op
kind_with op number = parts.kind_given (verb_of op) number (argument_of op)

-- An act of a leaf that names this object, if it names one: a call of its kind, on the object with the number 0.
abbrev pub Names : Act → Option NamedObject → Type 0
Names (Work steps) object = object ≡ None
Names (Call op) None = number_of op ≡ 0
Names (Call op) (Some object) = (number_of op ≡ 0) × (kind_of op ≡ object.kind)

abbrev pub AreNaming : List Act → List (Option NamedObject) → Type 0
AreNaming [] [] = Unit {0}
AreNaming [] (object ∷ objects) = ⊥
AreNaming (act ∷ acts) [] = ⊥
AreNaming (act ∷ acts) (object ∷ objects) = Names act object × AreNaming acts objects

naming_append : (acts more : List Act) (objects others : List (Option NamedObject)) → AreNaming acts objects → AreNaming more others → AreNaming (acts ++ more) (objects ++ others)
naming_append [] more [] others h k = k
naming_append [] more (object ∷ objects) others h k = elim h [ ]
naming_append (act ∷ acts) more [] others h k = elim h [ ]
naming_append (act ∷ acts) more (object ∷ objects) others h k = (h.0, naming_append acts more objects others h.1 k)

naming_copies : (n : ℕ) (f : ℕ → List Act) (objects : List (Option NamedObject)) → ((k : ℕ) → AreNaming (f k) objects) → AreNaming (each_copy n f) (each_copy n (λ k. objects))
naming_copies zero f objects h = tt
naming_copies (suc n) f objects h = naming_append (each_copy n f) (f n) (each_copy n (λ k. objects)) objects (naming_copies n f objects h) (h n)

naming_block : (kind : BlockKind) (c : ℕ) (f : ℕ → List Act) (objects : List (Option NamedObject)) → ((k : ℕ) → AreNaming (f k) objects) → AreNaming (in_block kind c f) (in_block kind 0 (λ k. objects))
naming_block seq_block c f objects h = h c
naming_block par_block c f objects h = h c
naming_block (for_loop n) c f objects h = naming_copies (word_number n) f objects h
naming_block (pfor_loop n) c f objects h = naming_copies (word_number n) f objects h

call_names : (op : Op) (kind : Kind) (name : Option Name) → number_of op ≡ 0 → kind_of op ≡ kind → Names (Call op) (object_named kind name)
call_names op kind None first is = first
call_names op kind (Some name) first is = (first, is)

leaf_names : (l : Leaf) (c : ℕ) → Names (act_of c l) (object_of l)
leaf_names (work argument) c = refl
leaf_names (call verb object argument) c =
    let carried = argument_in c argument in
    call_names (op_of verb 0 carried) (kind_of_verb verb) object (parts.number_given verb 0 carried) (parts.kind_given verb 0 carried)
leaf_names (bound name given) c = leaf_names given c

pub items_name : (items : Items) (c : ℕ) → AreNaming (acts_in c items) (objects_in items)
items_name nothing c = tt
items_name (leaf_then l more) c = (leaf_names l c, items_name more c)
items_name (block_then kind body more) c =
    naming_append (in_block kind c (λ k. acts_in k body)) (acts_in c more) (in_block kind 0 (λ k. objects_in body)) (objects_in more)
    (naming_block kind c (λ k. acts_in k body) (objects_in body) (λ k. items_name body k)) (items_name more c)

-- the acts call objects with the number 0

unnamed_act : (act : Act) (object : Option NamedObject) → Names act object → number_in act ≡ 0
unnamed_act (Work steps) object h = refl
unnamed_act (Call op) None h = h
unnamed_act (Call op) (Some object) h = h.0

pub are_unnamed : (acts : List Act) (objects : List (Option NamedObject)) → AreNaming acts objects → AreUnnamed acts
are_unnamed [] objects h = tt
are_unnamed (act ∷ acts) [] h = elim h [ ]
are_unnamed (act ∷ acts) (object ∷ objects) h = (unnamed_act act object h.0, are_unnamed acts objects h.1)

-- the numbers are 1, 2, and so on, in the order of their first use
first_use : (leaves : List (Option NamedObject)) (objects : List NamedObject) (used : ℕ) → used ≡ length objects → AreByFirstUse used (numbers_behind objects leaves) (length (named_behind objects leaves))
first_use [] objects used e = e
first_use (None ∷ leaves) objects used e = inl (omega arith, first_use leaves objects used e)
first_use (Some x ∷ leaves) objects used e = by (list_any (same_object x) objects) refl (first_use leaves (with_object objects x))
  where
    by : (b : Bool) → list_any (same_object x) objects ≡ b
        → ((used : ℕ) → used ≡ length (with_object objects x) → AreByFirstUse used (numbers_behind (with_object objects x) leaves) (length (named_behind (with_object objects x) leaves))) → AreByFirstUse used (numbers_behind objects (Some x ∷ leaves)) (length (named_behind objects (Some x ∷ leaves)))
    by true is more =
        let below = place_below (same_object x) objects is in
        inl (omega (arith, below, e), more used (e ∙ ap length (sym (with_old objects x is))))
    by false is more =
        let place = place_none (same_object x) objects is in
        let long = ap length (with_new objects x is) ∙ length-append objects (x ∷ []) in
        inr (omega (arith, place, e), more (used + 1) (omega (arith, long, e)))

-- the acts with their numbers, where each leaf has the object that it names

module _ (number : Option NamedObject → ℕ) where
  -- what a call with its number says of its leaf
  pub record IsNumbered (objects : List (Option NamedObject)) (u : ℕ) (op : Op) : Type 0 where
    pub object : Option NamedObject
    pub named : slice_get objects u ≡ Some object
    pub number_is : number_of op ≡ number object
    pub kind_is : (x : NamedObject) → object ≡ Some x → kind_of op ≡ x.kind

  kind_named : (op : Op) (object : Option NamedObject) → Names (Call op) object → (x : NamedObject) → object ≡ Some x → kind_of op ≡ x.kind
  kind_named op None h x e = cc
  kind_named op (Some y) h x e = let same : y ≡ x = cc in h.1 ∙ ap (λ (o : NamedObject). o.kind) same

  here : (act : Act) (object : Option NamedObject) (objects : List (Option NamedObject)) (op : Op) → Names act object → numbered act (number object) ≡ Call op → IsNumbered (object ∷ objects) 0 op
  here (Work steps) object objects op h e = cc
  here (Call first) object objects op h e =
      let same : with_number first (number object) ≡ op = cc in
      record {
        object = object;
        named = refl;
        number_is = ap number_of (sym same) ∙ number_given first (number object);
        kind_is = λ x is. ap kind_of (sym same) ∙ kind_with first (number object) ∙ kind_named first object h x is;
      }

  pub at_leaf : (acts : List Act) (objects : List (Option NamedObject)) (u : ℕ) (op : Op) → AreNaming acts objects → slice_get (with_numbers acts (map number objects)) u ≡ Some (Call op) → IsNumbered objects u op
  at_leaf [] objects u op h e = cc
  at_leaf (act ∷ acts) [] u op h e = elim h [ ]
  at_leaf (act ∷ acts) (object ∷ objects) zero op h e = here act object objects op h.0 cc
  at_leaf (act ∷ acts) (object ∷ objects) (suc u) op h e =
      let r = at_leaf acts objects u op h.1 e in
      record { object = r.object; named = r.named; number_is = r.number_is; kind_is = r.kind_is }

  number_again : number None ≡ 0 → (act : Act) (object : Option NamedObject) → Names act object → number_in (numbered act (number object)) ≡ number object
  number_again none (Work steps) object h = sym (ap number h ∙ none)
  number_again none (Call op) object h = number_given op (number object)

  pub numbers_again : number None ≡ 0 → (acts : List Act) (objects : List (Option NamedObject)) → AreNaming acts objects → map (λ act. number_in act) (with_numbers acts (map number objects)) ≡ map number objects
  numbers_again none [] [] h = refl
  numbers_again none [] (object ∷ objects) h = elim h [ ]
  numbers_again none (act ∷ acts) [] h = elim h [ ]
  numbers_again none (act ∷ acts) (object ∷ objects) h = (λ i. number_again none act object h.0 i ∷ numbers_again none acts objects h.1 i)

  pub work_has_none : number None ≡ 0 → (acts : List Act) (objects : List (Option NamedObject)) (u steps : ℕ) → AreNaming acts objects → slice_get acts u ≡ Some (Work steps) → slice_get (map number objects) u ≡ Some 0
  work_has_none none [] objects u steps h e = cc
  work_has_none none (act ∷ acts) [] u steps h e = elim h [ ]
  work_has_none none (act ∷ acts) (object ∷ objects) zero steps h e =
      let same : act ≡ Work steps = cc in
      let is : object ≡ None = subst (λ a. Names a object) same h.0 in ap (λ o. Some (number o)) is ∙ ap (λ n. Some n) none
  work_has_none none (act ∷ acts) (object ∷ objects) (suc u) steps h e = work_has_none none acts objects u steps h.1 e

pub naming_length : (acts : List Act) (objects : List (Option NamedObject)) → AreNaming acts objects → length objects ≡ length acts
naming_length [] [] h = refl
naming_length [] (object ∷ objects) h = elim h [ ]
naming_length (act ∷ acts) [] h = elim h [ ]
naming_length (act ∷ acts) (object ∷ objects) h = ap suc (naming_length acts objects h.1)

spelled_at : (leaves : List (Option NamedObject)) (u : ℕ) (x : NamedObject) → AreSpelled leaves → slice_get leaves u ≡ Some (Some x) → IsSpelledName x.name
spelled_at [] u x h e = cc
spelled_at (leaf ∷ leaves) zero x h e = let same : leaf ≡ Some x = cc in subst IsSpelled same h.0
spelled_at (leaf ∷ leaves) (suc u) x h e = spelled_at leaves u x h.1 e

names_spelled : (objects : List NamedObject) → AllByRecursion (λ object. IsSpelledName object.name) objects → names.AreSpelled (map (λ object. spelling object.name) objects)
names_spelled [] h = tt
names_spelled (x ∷ objects) h = (h.0.spelled, names_spelled objects h.1)

module _ (acts : List Act) (leaves : List (Option NamedObject)) (naming : AreNaming acts leaves) (spelled : AreSpelled leaves) where
  abbrev all : List NamedObject
  all = named_by leaves

  abbrev number : Option NamedObject → ℕ
  number = number_among all

  -- a call of an object with a number above 0
  record Calls (u : ℕ) (op : Op) : Type 0 where
    object : NamedObject
    named : slice_get leaves u ≡ Some (Some object)
    there : Has all object
    number_is : number_of op ≡ position_or_len (same_object object) all + 1
    kind_is : kind_of op ≡ object.kind

  by_object : (u : ℕ) (op : Op) (object : Option NamedObject) → slice_get leaves u ≡ Some object → number_of op ≡ number object → ((x : NamedObject) → object ≡ Some x → kind_of op ≡ x.kind) → 0 < number_of op → Calls u op
  by_object u op None e n k some = absurd (omega (arith, n, some))
  by_object u op (Some x) e n k some = record { object = x; named = e; there = named_is_there leaves [] u x e; number_is = n; kind_is = k x refl }

  calls : (u : ℕ) (op : Op) → slice_get (with_numbers acts (map number leaves)) u ≡ Some (Call op) → 0 < number_of op → Calls u op
  calls u op e some = let r = at_leaf number acts leaves u op naming e in by_object u op r.object r.named r.number_is r.kind_is some

  name_is : (u : ℕ) (op : Op) (c : Calls u op) → name_of_number (names_of leaves) (number_of op) ≡ spelling c.object.name
  name_is u op c =
      let n = c.number_is in
      let place : position_or_len (same_object c.object) all + 1 - 1 ≡ position_or_len (same_object c.object) all = omega arith in
      ap (name_of_number (names_of leaves)) n ∙ ap (λ n. slice_index_or (names_of leaves) n []) place ∙ at_place (λ object. spelling object.name) all c.object [] c.there

  one_object : (x y : NamedObject) → x.kind ≡ y.kind → IsSpelledName x.name → IsSpelledName y.name → spelling x.name ≡ spelling y.name → x ≡ y
  one_object x y kind h k same =
      let name : x.name ≡ y.name = h.made ∙ ap name_of same ∙ sym k.made in λ i. record { kind = kind i; name = name i }

  kinds : AreOfOneKind (with_numbers acts (map number leaves))
  kinds u v first second e f some same =
      let some' : 0 < number_of second = omega (arith, some, same) in
      let c = calls u first e some in
      let d = calls v second f some' in
      let n = c.number_is in
      let m = d.number_is in
      let object = one_place all c.object d.object c.there d.there (omega (arith, n, m, same)) in
      c.kind_is ∙ ap (λ (o : NamedObject). o.kind) object ∙ sym d.kind_is

  apart : AreApart (with_numbers acts (map number leaves)) (names_of leaves)
  apart u v first second e f some some' kind differ same =
      let c = calls u first e some in
      let d = calls v second f some' in
      let object = one_object c.object d.object (sym c.kind_is ∙ kind ∙ d.kind_is) (spelled_at leaves u c.object spelled c.named) (spelled_at leaves v d.object spelled d.named)
      (sym (name_is u first c) ∙ same ∙ name_is v second d) in
      differ (c.number_is ∙ ap (λ o. position_or_len (same_object o) all + 1) object ∙ sym d.number_is)

  pub are_numbered : AreNumbered acts (numbers_of leaves) (names_of leaves)
  are_numbered = record {
    as_many = length-map leaves number ∙ naming_length acts leaves naming;
    work = λ leaf steps e. work_has_none number refl acts leaves leaf steps naming e;
    named = record {
      spelled = names_spelled all (each_named (λ object. IsSpelledName object.name) leaves [] (λ u x e. spelled_at leaves u x spelled e) tt);
      numbers = subst (λ ns. AreByFirstUse 0 ns (length (names_of leaves))) (sym (numbers_again number refl acts leaves naming ∙ sym (same_numbers leaves [])))
          (subst (AreByFirstUse 0 (numbers_behind [] leaves)) (sym (length-map all (λ object. spelling object.name))) (first_use leaves [] 0 refl));
      kinds = kinds;
      apart = apart;
    };
  }

  -- what the numbered acts call is what the leaves name

  called_by : (act : Act) (object : Option NamedObject) → Names act object → ((x : NamedObject) → object ≡ Some x → Has all x × IsSpelledName x.name) → object_called (names_of leaves) (numbered act (number object)) ≡ object
  called_by (Work steps) object h each = sym h
  called_by (Call op) None h each = ap (λ n. object_numbered (names_of leaves) (kind_of (with_number op 0)) n) (number_given op 0)
  called_by (Call op) (Some x) h each =
      let place = position_or_len (same_object x) all in
      let is = each x refl in
      let next : place + 1 ≡ suc place = omega arith in
      let name : name_of (slice_index_or (names_of leaves) place []) ≡ x.name = ap name_of (at_place (λ object. spelling object.name) all x [] is.0) ∙ sym is.1.made in
      let kind : kind_of (with_number op (place + 1)) ≡ x.kind = kind_with op (place + 1) ∙ h.1 in
      ap (λ n. object_numbered (names_of leaves) (kind_of (with_number op (place + 1))) n) (number_given op (place + 1) ∙ next)
      ∙ (λ i. Some (record { kind = kind i; name = name i }))

  called_from : (some : List Act) (objects : List (Option NamedObject)) → AreNaming some objects → ((u : ℕ) (x : NamedObject) → slice_get objects u ≡ Some (Some x) → Has all x × IsSpelledName x.name)
      → map (λ act. object_called (names_of leaves) act) (with_numbers some (map number objects)) ≡ objects
  called_from [] [] h each = refl
  called_from [] (object ∷ objects) h each = elim h [ ]
  called_from (act ∷ some) [] h each = elim h [ ]
  called_from (act ∷ some) (object ∷ objects) h each =
      let first = called_by act object h.0 (λ x e. each 0 x (ap (λ o. Some o) e)) in
      let rest = called_from some objects h.1 (λ u x e. each (suc u) x e) in
      λ i. first i ∷ rest i

  pub are_called : map (λ act. object_called (names_of leaves) act) (with_numbers acts (numbers_of leaves)) ≡ leaves
  are_called = called_from acts leaves naming (λ u x e. (named_is_there leaves [] u x e, spelled_at leaves u x spelled e))
