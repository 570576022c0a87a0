-- How the table of a job comes about, act by act.
use Rattle.std.proofs.Common.{◌≡◌, ◌≢◌, ℕ, zero, suc, ◌+◌, ◌<◌, ◌≤◌, inl, inr, true, false, List, [], ◌∷◌, ◌++◌, length, map, take, get_or, Option, Some, None, refl, sym, ap, subst, ◌∙◌, arith}
use Rattle.std.specs.Prelude.{IsSome, Contains, slice_get}
use Rattle.std.specs.List.{AllByRecursion}
use Rattle.std.proofs.lemmas.Option.{slice_get-get_or}
use Rattle.std.proofs.lemmas.Bool.{cases_order}
use Rattle.seq_objects.specs.Parts.{kind_of}
use Rattle.seq_objects.specs.Objects.{number_of}
use Rattle.seq_objects.specs.declared.act.Act.{Act}
use Rattle.seq_objects.specs.declared.act.Act.TheVariants.{Work, Call}
use Rattle.seq_objects.specs.declared.op.Op.{Op}
use Rattle.job_names.specs.Names.{AreSpelled, is_spelled, name_of, spelling}
use Rattle.job_names.specs.declared.name.Name.{Name}
use Rattle.sp_order.specs.Jobs.{JobValue, IsJob}
use Rattle.sp_order.specs.Objects.{number_in as number_of_act, AreByFirstUse, name_of_number}
use Rattle.report_reader.specs.Code.Objects.{names_in, number_in, found, mark_of, IsKept, Inserts, IsTableOf}
use Rattle.seq_objects.specs.declared.kind.Kind.{Kind}
use Rattle.report_reader.specs.declared.table.Table.{Table}
use Rattle.report_reader.proofs.Calls.{words_at}
use Rattle.job_names.proofs.Spellings.{one_spelling}

-- no number is used but those used before and those to the count
used_within : (used : ℕ) (numbers : List ℕ) (count : ℕ) → AreByFirstUse used numbers count → used ≤ count
used_within used [] count first = omega (arith, first)
used_within used (number ∷ numbers) count (inl old) = used_within used numbers count old.1
used_within used (number ∷ numbers) count (inr new) = omega (arith, used_within (used + 1) numbers count new.1)

pub numbers_within : (used : ℕ) (acts : List Act) (count : ℕ) → AreByFirstUse used (map (λ act. number_of_act act) acts) count → AllByRecursion (λ (act : Act). number_of_act act ≤ count) acts
numbers_within used [] count first = tt
numbers_within used (act ∷ acts) count (inl old) = (omega (arith, old.0, used_within used (map (λ act. number_of_act act) acts) count old.1), numbers_within used acts count old.1)
numbers_within used (act ∷ acts) count (inr new) =
    (omega (arith, new.0, used_within (used + 1) (map (λ act. number_of_act act) acts) count new.1), numbers_within (used + 1) acts count new.1)

-- an act of the job that calls the object with this kind, name and number
pub record IsOwn (job : JobValue) (kind : Kind) (name : Name) (number : ℕ) : Type 0 where
  pub by : Op
  pub among : Contains job.acts (Call by)
  pub numbered : number_of by ≡ number
  pub own : kind_of by ≡ kind
  pub some : 0 < number
  pub named : name ≡ name_of (name_of_number job.names number)

-- the table has the object of an act, if it is named
abbrev pub IsNoted : JobValue → Table → Act → Type 0
IsNoted job table (Work steps) = Unit {0}
IsNoted job table (Call by) = 0 < number_of by → IsSome (number_in table (kind_of by) (name_of (name_of_number job.names (number_of by))))

-- the table has the objects of these acts, and no others than those of the job
pub record Noted (job : JobValue) (table : Table) (acts : List Act) : Type 0 where
  pub names : names_in table ≡ job.names
  pub closed : table.grows ≡ false
  pub own : (kind : Kind) (name : Name) (number : ℕ) → number_in table kind name ≡ Some number → IsOwn job kind name number
  pub all : AllByRecursion (IsNoted job table) acts

pub noted_none : (job : JobValue) (table : Table) → names_in table ≡ job.names → table.grows ≡ false → ((kind : Kind) (name : Name) → number_in table kind name ≡ None) → Noted job table []
noted_none job table names closed empty = record { names = names; closed = closed; own = λ kind name number is. (let none = empty kind name in cc (is, none)); all = tt }

some_there : (r s : Option ℕ) → s ≡ r → IsSome r → IsSome s
some_there r s same some = subst (λ (o : Option ℕ). IsSome o) (sym same) some

module _ (job : JobValue) (old new : Table) (op : Op) (among : Contains job.acts (Call op)) (some : 0 < number_of op) (ins : Inserts old new (kind_of op) (name_of (name_of_number job.names (number_of op))) (number_of op)) where
  own_more : ((kind : Kind) (name : Name) (number : ℕ) → number_in old kind name ≡ Some number → IsOwn job kind name number) → (kind : Kind) (name : Name) (number : ℕ) → number_in new kind name ≡ Some number → IsOwn job kind name number
  own_more own kind name number is = elim (ins.others kind name) [
    | inl same ↦
        let at : number_in new (kind_of op) (name_of (name_of_number job.names (number_of op))) ≡ Some number = subst (λ (k : Kind). number_in new k (name_of (name_of_number job.names (number_of op))) ≡ Some number) same.0 (subst (λ (n : Name). number_in new kind n ≡ Some number) same.1 is) in
        let numbered : number_of op ≡ number = cc (at, ins.own) in
        record {
          by = op;
          among = among;
          numbered = numbered;
          own = sym same.0;
          some = omega (arith, some, numbered);
          named = same.1 ∙ ap (λ (n : ℕ). name_of (name_of_number job.names n)) numbered;
        }
    | inr stays ↦ own kind name number (sym stays ∙ is)
  ]

  stays_some : (kind : Kind) (name : Name) → IsSome (number_in old kind name) → IsSome (number_in new kind name)
  stays_some kind name has = elim (ins.others kind name) [
    | inl same ↦ subst (λ (k : Kind). IsSome (number_in new k name)) (sym same.0) (subst (λ (n : Name). IsSome (number_in new (kind_of op) n)) (sym same.1) (some_there (Some (number_of op)) _ ins.own refl))
    | inr stays ↦ some_there (number_in old kind name) (number_in new kind name) stays has
  ]

  act_stays : (act : Act) → IsNoted job old act → IsNoted job new act
  act_stays (Work steps) has = tt
  act_stays (Call by) has = λ some. stays_some (kind_of by) (name_of (name_of_number job.names (number_of by))) (has some)

  all_more : (acts : List Act) → AllByRecursion (IsNoted job old) acts → AllByRecursion (IsNoted job new) (acts ++ Call op ∷ [])
  all_more [] has = ((λ some. some_there (Some (number_of op)) _ ins.own refl), tt)
  all_more (act ∷ acts) has = (act_stays act has.0, all_more acts has.1)

  pub noted_named : (acts : List Act) → Noted job old acts → Noted job new (acts ++ Call op ∷ [])
  noted_named acts noted = record {
    names = ap (λ (ns : List Name). map spelling ns) (ap (λ v. v.items) ins.names) ∙ noted.names;
    closed = ins.grows ∙ noted.closed;
    own = own_more noted.own;
    all = all_more acts noted.all;
  }

contained : (P : Act → Type 0) (acts : List Act) (act : Act) → AllByRecursion P acts → Contains acts act → P act
contained P [] act all (k, low, is) = absurd (omega (arith, low))
contained P (x ∷ acts) act all (zero, low, is) = subst P is all.0
contained P (x ∷ acts) act all (suc k, low, is) = contained P acts act all.1 (k, omega (arith, low), is)

pub place_of_act : (acts : List Act) (act : Act) → Contains acts act → (u : ℕ) × (slice_get acts u ≡ Some act)
place_of_act acts act (k, low, is) = (k, slice_get-get_or acts k act low ∙ ap Some is)

-- a table that has noted all acts of a job is that of the job
module _ (job : JobValue) (table : Table) (is_job : IsJob job) (noted : Noted job table job.acts) where
  within : (by : Op) → Contains job.acts (Call by) → number_of by ≤ length job.names
  within by among = contained (λ (act : Act). number_of_act act ≤ length job.names) job.acts (Call by) (numbers_within 0 job.acts (length job.names) is_job.objects.numbers) among

  kept : IsKept table
  kept = record {
    spelled = subst AreSpelled (sym noted.names) is_job.objects.spelled;
    numbers = λ kind name number spelled is. (
        let own = noted.own kind (name_of name) number is in
        let low = within own.by own.among in (
          own.some,
          subst (λ (names : List (List ℕ)). number ≤ length names) (sym noted.names) (omega (arith, low, own.numbered)),
          ap (λ (names : List (List ℕ)). name_of_number names number) noted.names ∙ sym (one_spelling name (name_of_number job.names number) own.named),
        ));
  }

  own_number : (by : Op) (number : ℕ) → Contains job.acts (Call by) → 0 < number_of by → IsOwn job (kind_of by) (name_of (name_of_number job.names (number_of by))) number → number_of by ≡ number
  own_number by number among some own = elim (cases_order (number_of by) number) [
    | inl same ↦ same
    | inr apart ↦ absurd (differ (λ same. elim apart [ inl below ↦ omega (arith, same, below) | inr above ↦ omega (arith, same, above) ]))
  ]
    where
      differ : (number_of by ≢ number) → ⊥
      differ apart =
          let u = place_of_act job.acts (Call by) among in
          let v = place_of_act job.acts (Call own.by) own.among in
          let names : name_of_number job.names (number_of by) ≡ name_of_number job.names number = one_spelling (name_of_number job.names (number_of by)) (name_of_number job.names number) own.named in
          is_job.objects.apart u.0 v.0 by own.by u.1 v.1 some (omega (arith, own.some, own.numbered)) (sym own.own) (λ same. apart (same ∙ own.numbered))
          (names ∙ ap (name_of_number job.names) (sym own.numbered))

  found_own : (by : Op) → Contains job.acts (Call by) → 0 < number_of by → (r : Option ℕ) → number_in table (kind_of by) (name_of (name_of_number job.names (number_of by))) ≡ r → IsSome r → r ≡ Some (number_of by)
  found_own by among some None is has = cc (has)
  found_own by among some (Some number) is has = ap Some (sym (own_number by number among some (noted.own (kind_of by) (name_of (name_of_number job.names (number_of by))) number is)))

  all_found : (by : Op) → Contains job.acts (Call by) → 0 < number_of by → found table (kind_of by) (mark_of job.names by) ≡ Some (number_of by)
  all_found by among some =
      ap (found table (kind_of by)) (words_at job.names (number_of by) some)
      ∙ found_own by among some (number_in table (kind_of by) (name_of (name_of_number job.names (number_of by)))) refl (contained (IsNoted job table) job.acts (Call by) noted.all among some)

  pub table_of : IsTableOf job table
  table_of = record {
    job_is = is_job;
    kept = kept;
    closed = noted.closed;
    names = noted.names;
    called = λ kind name number spelled is. (let own = noted.own kind (name_of name) number is in (own.by, own.among, own.numbered, own.own));
    all = all_found;
  }

-- one act more, whose object the table has
noted_push : (job : JobValue) (table : Table) (acts : List Act) (act : Act) → Noted job table acts → IsNoted job table act → Noted job table (acts ++ act ∷ [])
noted_push job table acts act noted has = record { names = noted.names; closed = noted.closed; own = noted.own; all = push acts noted.all }
  where
    push : (acts : List Act) → AllByRecursion (IsNoted job table) acts → AllByRecursion (IsNoted job table) (acts ++ act ∷ [])
    push [] all = (has, tt)
    push (x ∷ acts) all = (all.0, push acts all.1)

take_more : (acts : List Act) (i : ℕ) (d : Act) → i < length acts → take (i + 1) acts ≡ take i acts ++ get_or acts i d ∷ []
take_more [] i d low = absurd (omega (arith, low))
take_more (x ∷ acts) zero d low = refl
take_more (x ∷ acts) (suc i) d low =
    let next : suc i + 1 ≡ suc (i + 1) = omega arith in
    ap (λ (n : ℕ). take n (x ∷ acts)) next ∙ ap (λ (xs : List Act). x ∷ xs) (take_more acts i d (omega (arith, low)))

get_same : (acts : List Act) (i : ℕ) (d e : Act) → i < length acts → get_or acts i d ≡ get_or acts i e
get_same [] i d e low = absurd (omega (arith, low))
get_same (x ∷ acts) zero d e low = refl
get_same (x ∷ acts) (suc i) d e low = get_same acts i d e (omega (arith, low))

pub among_at : (acts : List Act) (i : ℕ) (act : Act) → i < length acts → get_or acts i (Work 0) ≡ act → Contains acts act
among_at acts i act low is = (i, low, get_same acts i act (Work 0) low ∙ is)

pub act_within : (job : JobValue) (i : ℕ) (op : Op) → IsJob job → i < length job.acts → get_or job.acts i (Work 0) ≡ Call op → number_of op ≤ length job.names
act_within job i op is_job low is =
    contained (λ (act : Act). number_of_act act ≤ length job.names) job.acts (Call op) (numbers_within 0 job.acts (length job.names) is_job.objects.numbers) (among_at job.acts i (Call op) low is)

pub step_work : (job : JobValue) (table : Table) (i : ℕ) → i < length job.acts → ((op : Op) → get_or job.acts i (Work 0) ≡ Call op → ⊥) → Noted job table (take i job.acts) → Noted job table (take (i + 1) job.acts)
step_work job table i low not noted =
    subst (Noted job table) (sym (take_more job.acts i (Work 0) low)) (noted_push job table (take i job.acts) (get_or job.acts i (Work 0)) noted (work (get_or job.acts i (Work 0)) refl))
  where
    work : (act : Act) → get_or job.acts i (Work 0) ≡ act → IsNoted job table act
    work (Work steps) is = tt
    work (Call op) is = absurd (not op is)

pub step_call : (job : JobValue) (old new : Table) (i : ℕ) (op : Op) → i < length job.acts → get_or job.acts i (Work 0) ≡ Call op → (number_of op ≡ 0 → new ≡ old)
    → (0 < number_of op → Inserts old new (kind_of op) (name_of (name_of_number (names_in old) (number_of op))) (number_of op)) → Noted job old (take i job.acts) → Noted job new (take (i + 1) job.acts)
step_call job old new i op low is unnamed named noted =
    subst (Noted job new) (sym (take_more job.acts i (Work 0) low ∙ ap (λ (act : Act). take i job.acts ++ act ∷ []) is)) (elim (cases_order 0 (number_of op)) [
      | inl none ↦ subst (λ (t : Table). Noted job t (take i job.acts ++ Call op ∷ [])) (sym (unnamed (sym none))) (noted_push job old (take i job.acts) (Call op) noted (λ some. absurd (omega (arith, some, none))))
      | inr apart ↦ elim apart [
        | inl some ↦ noted_named job old new op (among_at job.acts i (Call op) low is) some
            (subst (λ (names : List (List ℕ)). Inserts old new (kind_of op) (name_of (name_of_number names (number_of op))) (number_of op)) noted.names (named some)) (take i job.acts) noted
        | inr below ↦ absurd (omega (arith, below))
      ]
    ])

pub spelled_item : (xs : List Name) (i : ℕ) (d : Name) → AreSpelled (map spelling xs) → i < length xs → is_spelled (spelling (get_or xs i d)) ≡ true
spelled_item [] i d spelled low = absurd (omega (arith, low))
spelled_item (x ∷ xs) zero d spelled low = spelled.0
spelled_item (x ∷ xs) (suc i) d spelled low = spelled_item xs i d spelled.1 (omega (arith, low))

pub take_all : (acts : List Act) (i : ℕ) → length acts ≤ i → take i acts ≡ acts
take_all [] zero all = refl
take_all [] (suc i) all = refl
take_all (x ∷ acts) zero all = absurd (omega (arith, all))
take_all (x ∷ acts) (suc i) all = ap (λ (xs : List Act). x ∷ xs) (take_all acts i (omega (arith, all)))
