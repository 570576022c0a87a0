-- What is true of each draft stays so, and makes the job of a draft one.
use Rattle.std.proofs.Common.{ℕ, zero, suc, ◌≡◌, ◌<◌, ◌≤◌, ◌⊎◌, inl, inr, Bool, true, false, ◌&&◌, List, [], ◌∷◌, ◌++◌, length, map, Option, Some, None, arith, refl, sym, ap, ◌∙◌, subst, length-append}
use Rattle.std.proofs.lemmas.List.{length-map, map_push}
use Rattle.std.specs.Prelude.{slice_get, is_some, ◌==◌, if◌then◌else◌}
use Rattle.std.proofs.lemmas.Option.{slice_get_within}
use Rattle.limits.specs.declared.TheConstants.{MOST_LEAVES, MOST_OPEN_BLOCKS}
use Rattle.seq_objects.specs.declared.op.Op.{Op}
use Rattle.seq_objects.specs.declared.act.Act.{Act}
use Rattle.seq_objects.specs.declared.act.Act.TheVariants.{Work, Call}
use Rattle.seq_objects.specs.Objects.{argument_of, number_of}
use Rattle.seq_objects.specs.Parts.{has_argument, verb_of, with_argument}
use Rattle.seq_objects.proofs.Elements.{each_push}
use Rattle.seq_objects.proofs.Parts.{argument_given, argument_leaves_kind, argument_leaves_number, argument_leaves_taking}
use Rattle.sp_order.specs.Precedence.{leaf_count, IsBefore}
use Rattle.sp_order.specs.Objects.{AreNumbered, AreUnnamed}
use Rattle.sp_order.specs.Sources.{AreSources, Calls, IsSource}
use Rattle.job_lang.specs.declared.join.Order.{Order}
use Rattle.job_lang.specs.Objects.{NamedObject, names_of, numbers_of}
use Rattle.job_lang.proofs.ExpandLemmas.Numbering.{AreNaming, Names, are_numbered, are_unnamed, naming_length}
use Rattle.leaf_handles.specs.Handles.{HandleValue}
use Rattle.joined_shapes.specs.Blocks.{Block, Blocks, closed_in, is_shown, shape_of}
use Rattle.joined_shapes.specs.Blocks as blocks
use Rattle.joined_shapes.proofs.Nesting.{nested_outside, nested_leaf, nested_opened, nested_closed, nested_leaves, opened_shape, closed_shape}
use Rattle.joined_shapes.proofs.Precedence.{leaf_keeps, shown_before}
use Rattle.joined_shapes.proofs.Stepping.{closed_leaves}
use Rattle.named_objects.specs.declared.objects.Object.{Object}
use Rattle.named_objects.specs.Objects.{IsSpelled, named_in}
use Rattle.job_builder.specs.Drafts.{Draft, closed, is_call, may_use, may_work_with, nothing, opened, with_leaf}
use Rattle.job_builder.specs.Code.Kept.{draft_of, IsDraft, MayAdd, MayHave}

-- what stands in a list with one more element
at_push : {X : Type 0} (xs : List X) (y : X) (i : ℕ) (x : X) → slice_get (xs ++ y ∷ []) i ≡ Some x → (slice_get xs i ≡ Some x) ⊎ ((i ≡ length xs) × (y ≡ x))
at_push [] y zero x is = inr (refl, (cc))
at_push [] y (suc i) x is = cc
at_push (z ∷ xs) y zero x is = inl is
at_push (z ∷ xs) y (suc i) x is = elim (at_push xs y i x is) [ inl h ↦ inl h | inr h ↦ inr (ap suc h.0, h.1) ]

at_front : {X : Type 0} (xs ys : List X) (i : ℕ) (x : X) → slice_get xs i ≡ Some x → slice_get (xs ++ ys) i ≡ Some x
at_front [] ys i x is = cc
at_front (z ∷ xs) ys zero x is = is
at_front (z ∷ xs) ys (suc i) x is = at_front xs ys i x is

at_last : {X : Type 0} (xs : List X) (y : X) → slice_get (xs ++ y ∷ []) (length xs) ≡ Some y
at_last [] y = refl
at_last (z ∷ xs) y = at_last xs y

naming_push : (acts : List Act) (objects : List (Option NamedObject)) (act : Act) (object : Option NamedObject) → AreNaming acts objects → Names act object → AreNaming (acts ++ act ∷ []) (objects ++ object ∷ [])
naming_push [] [] act object are names = (names, tt)
naming_push [] (other ∷ objects) act object are names = elim are [ ]
naming_push (first ∷ acts) [] act object are names = elim are [ ]
naming_push (first ∷ acts) (other ∷ objects) act object are names = (are.0, naming_push acts objects act object are.1 names)

pub nothing_is : (job : ℕ) → IsDraft (nothing job)
nothing_is job = record {
  nested = nested_outside;
  counted = refl;
  few_leaves = omega arith;
  few_blocks = omega arith;
  naming = tt;
  spelled = tt;
  sources = record { as_many = refl; each = λ leaf source at. cc };
}

module _ (draft : Draft) (is : IsDraft draft) where
  source_stays : (act : Act) (leaf source : ℕ) → IsSource (shape_of draft.blocks) draft.acts leaf source → IsSource (shape_of (blocks.with_leaf draft.blocks)) (draft.acts ++ act ∷ []) leaf source
  source_stays act leaf source of = record {
    act = of.act;
    is = at_front draft.acts (act ∷ []) leaf of.act of.is;
    from = of.from;
    stands = at_front draft.acts (act ∷ []) source of.from of.stands;
    takes = of.takes;
    before = leaf_keeps draft.blocks source leaf of.before;
  }

  new_source : (act : Act) (given : Option ℕ) (source : ℕ) → given ≡ Some source → MayHave draft act given
      → IsSource (shape_of (blocks.with_leaf draft.blocks)) (draft.acts ++ act ∷ []) (length draft.acts) source
  new_source act None source e may = cc
  new_source act (Some other) source e may =
      let same : other ≡ source = cc in
      let less : other < draft.blocks.leaves = let within = slice_get_within draft.acts other may.0 may.1 in let counted = is.counted in omega (arith, within, counted) in
      let first : IsSource (shape_of (blocks.with_leaf draft.blocks)) (draft.acts ++ act ∷ []) (length draft.acts) other = record {
        act = act;
        is = at_last draft.acts act;
        from = may.0;
        stands = at_front draft.acts (act ∷ []) other may.0 may.1;
        takes = may.2;
        before = subst (λ n. IsBefore (shape_of (blocks.with_leaf draft.blocks)) other n) is.counted (shown_before draft.blocks other is.nested less may.3);
      } in
      subst (λ n. IsSource (shape_of (blocks.with_leaf draft.blocks)) (draft.acts ++ act ∷ []) (length draft.acts) n) same first

  sources_more : (act : Act) (source : Option ℕ) → MayHave draft act source → AreSources (shape_of (blocks.with_leaf draft.blocks)) (draft.acts ++ act ∷ []) (draft.sources ++ source ∷ [])
  sources_more act source may = record {
    as_many = let a = length-append draft.acts (act ∷ []) in let b = length-append draft.sources (source ∷ []) in let c = is.sources.as_many in omega (arith, a, b, c);
    each = λ leaf from at. elim (at_push draft.sources source leaf (Some from) at) [
      | inl old ↦ source_stays act leaf from (is.sources.each leaf from old)
      | inr last ↦
          subst (λ n. IsSource (shape_of (blocks.with_leaf draft.blocks)) (draft.acts ++ act ∷ []) n from) (sym (last.0 ∙ is.sources.as_many)) (new_source act source from last.1 may)
    ];
  }

  pub leaf_is : (act : Act) (source : Option ℕ) (object : Option NamedObject) → length draft.acts < MOST_LEAVES → MayAdd draft act source object → IsDraft (with_leaf draft act source object)
  leaf_is act source object room may = record {
    nested = nested_leaf draft.blocks is.nested;
    counted = let more = length-append draft.acts (act ∷ []) in let counted = is.counted in omega (arith, more, counted);
    few_leaves = let more = length-append draft.acts (act ∷ []) in omega (arith, more, room);
    few_blocks = is.few_blocks;
    naming = naming_push draft.acts draft.objects act object is.naming may.names;
    spelled = each_push IsSpelled draft.objects object is.spelled may.spelled;
    sources = sources_more act source may.sourced;
  }

  pub opened_is : (order : Order) → length draft.blocks.around < MOST_OPEN_BLOCKS → IsDraft (opened draft order)
  opened_is order room = record {
    nested = nested_opened draft.blocks order is.nested;
    counted = is.counted;
    few_leaves = is.few_leaves;
    few_blocks = omega (arith, room);
    naming = is.naming;
    spelled = is.spelled;
    sources = subst (λ shape. AreSources shape draft.acts draft.sources) (sym (opened_shape draft.blocks order)) is.sources;
  }

  closed_few : (inner : Block) (around : List Block) (count : ℕ) → length around ≤ MOST_OPEN_BLOCKS → length (closed_in inner around count).around ≤ MOST_OPEN_BLOCKS
  closed_few inner [] count few = few
  closed_few inner (block ∷ around) count few = omega (arith, few)

  pub closed_is : IsDraft (closed draft)
  closed_is = record {
    nested = nested_closed draft.blocks is.nested;
    counted = closed_leaves draft.blocks.inner draft.blocks.around draft.blocks.leaves ∙ is.counted;
    few_leaves = is.few_leaves;
    few_blocks = closed_few draft.blocks.inner draft.blocks.around draft.blocks.leaves is.few_blocks;
    naming = is.naming;
    spelled = is.spelled;
    sources = subst (λ shape. AreSources shape draft.acts draft.sources) (sym (closed_shape draft.blocks)) is.sources;
  }

  -- the job of the draft

  pub draft_leaves : leaf_count (shape_of draft.blocks) ≡ length draft.acts
  draft_leaves = nested_leaves draft.blocks is.nested ∙ is.counted

  pub draft_unnamed : AreUnnamed draft.acts
  draft_unnamed = are_unnamed draft.acts draft.objects is.naming

  pub draft_numbered : AreNumbered draft.acts (numbers_of draft.objects) (names_of draft.objects)
  draft_numbered = are_numbered draft.acts draft.objects is.naming is.spelled

-- a leaf whose value may be taken

both_true : (a b : Bool) → (a && b) ≡ true → (a ≡ true) × (b ≡ true)
both_true true b is = (refl, is)
both_true false b is = cc

some_at : (acts : List Act) (found : Option Act) (u : ℕ) → slice_get acts u ≡ found → is_some found ≡ true → (from : Act) × (slice_get acts u ≡ Some from)
some_at acts None u at is = cc
some_at acts (Some from) u at is = (from, at)

calls : (found : Option Act) (from : Act) → found ≡ Some from → is_call found ≡ true → Calls from
calls None from at is = cc
calls (Some (Work steps)) from at is = cc
calls (Some (Call op)) from at is = let same : Call op ≡ from = cc in subst Calls same tt

used_leaf : (draft : Draft) (job leaf : ℕ) → (job == draft.job && (is_some (slice_get draft.acts leaf) && is_shown draft.blocks leaf)) ≡ true
    → (from : Act) × (slice_get draft.acts leaf ≡ Some from) × (is_shown draft.blocks leaf ≡ true)
used_leaf draft job leaf may =
    let all = both_true (job == draft.job) (is_some (slice_get draft.acts leaf) && is_shown draft.blocks leaf) may in
    let both = both_true (is_some (slice_get draft.acts leaf)) (is_shown draft.blocks leaf) all.1 in
    let found = some_at draft.acts (slice_get draft.acts leaf) leaf refl both.0 in
    (found.0, found.1, both.1)

-- the fields of a builder, after a step

pub same_leaf : (job : ℕ) (old new : Blocks) (acts acts' : List Act) (sources sources' : List (Option ℕ)) (objects objects' : List (Option Object)) (act : Act) (source : Option ℕ) (object : Option Object)
    → new ≡ blocks.with_leaf old → acts' ≡ acts ++ act ∷ [] → sources' ≡ sources ++ source ∷ [] → objects' ≡ objects ++ object ∷ []
    → draft_of job new acts' sources' objects' ≡ with_leaf (draft_of job old acts sources objects) act source (named_in object)
same_leaf job old new acts acts' sources sources' objects objects' act source object a b c d =
    let names : map named_in objects' ≡ map named_in objects ++ named_in object ∷ [] = ap (map named_in) d ∙ map_push named_in objects object in
    λ i. record { job = job; blocks = a i; acts = b i; sources = c i; objects = names i }

pub added : (job : ℕ) (old new : Blocks) (acts acts' : List Act) (sources sources' : List (Option ℕ)) (objects objects' : List (Option Object)) (act : Act) (source : Option ℕ) (object : Option Object)
    → new ≡ blocks.with_leaf old → acts' ≡ acts ++ act ∷ [] → sources' ≡ sources ++ source ∷ [] → objects' ≡ objects ++ object ∷ []
    → IsDraft (draft_of job old acts sources objects) → length acts < MOST_LEAVES → MayAdd (draft_of job old acts sources objects) act source (named_in object)
    → IsDraft (draft_of job new acts' sources' objects')
added job old new acts acts' sources sources' objects objects' act source object a b c d is room may =
    subst IsDraft (sym (same_leaf job old new acts acts' sources sources' objects objects' act source object a b c d))
    (leaf_is (draft_of job old acts sources objects) is act source (named_in object) room may)

pub few_objects : (job : ℕ) (blocks : Blocks) (acts : List Act) (sources : List (Option ℕ)) (objects objects' : List (Option Object)) → objects' ≡ objects
    → IsDraft (draft_of job blocks acts sources objects) → length objects' ≤ MOST_LEAVES
few_objects job blocks acts sources objects objects' same is =
    let as_many = naming_length acts (map named_in objects) is.naming in
    let mapped = length-map objects named_in in
    let few = is.few_leaves in
    let long = ap length same in
    omega (arith, as_many, mapped, few, long)

names_argued : (op : Op) (object : Option NamedObject) → Names (Call op) object → Names (Call (with_argument op 0)) object
names_argued op None names = argument_leaves_number op 0 ∙ names
names_argued op (Some object) names = (argument_leaves_number op 0 ∙ names.0, argument_leaves_kind op 0 ∙ names.1)

argument_zero : (op : Op) → has_argument op ≡ true → argument_of (with_argument op 0) ≡ 0
argument_zero op takes = argument_given (verb_of op) (number_of op) 0 ∙ ap (λ b. if b then 0 else 0) takes

-- a call may be added where it may take the value, and a leaf of work where it may
pub may_use_so : (draft : Draft) (op : Op) (used : HandleValue) (object : Option NamedObject) → has_argument op ≡ true → Names (Call op) object → IsSpelled object → may_use draft used ≡ true
    → MayAdd draft (Call (with_argument op 0)) (Some used.leaf) object
may_use_so draft op used object argument names spelled may =
    let is = used_leaf draft used.job used.leaf may in
    record {
      names = names_argued op object names;
      spelled = spelled;
      sourced = (is.0, is.1, (argument_leaves_taking op 0 ∙ argument, argument_zero op argument), is.2);
    }

pub may_work_so : (draft : Draft) (used : HandleValue) → may_work_with draft used ≡ true → MayAdd draft (Work 0) (Some used.leaf) None
may_work_so draft used may =
    let both = both_true (is_call (slice_get draft.acts used.leaf)) (may_use draft used) may in
    let is = used_leaf draft used.job used.leaf both.1 in
    record {
      names = refl;
      spelled = tt;
      sourced = (is.0, is.1, (refl, calls (slice_get draft.acts used.leaf) is.0 is.1 both.0), is.2);
    }
