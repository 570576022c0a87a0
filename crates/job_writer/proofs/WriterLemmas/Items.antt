-- The items of the canonical text: they give the job back, and keep each limit.
use Rattle.std.proofs.Common.{map, subst, true, Bool, None, zero, suc, ◌≡◌, ℕ, ◌+◌, ◌≤◌, max, List, [], ◌∷◌, ◌++◌, false, Option, Some, refl, sym, ap, ◌∙◌, arith, append-nil}
use Rattle.std.proofs.lemmas.List.{map-append}
use Rattle.std.specs.Prelude.{if◌then◌else◌, option_to_list, slice_index_or, IsTrue}
use Rattle.std.specs.List.{AllByRecursion}
use Rattle.seq_objects.specs.declared.act.Act.{Act}
use Rattle.seq_objects.specs.declared.act.Act.TheVariants.{Work, Call}
use Rattle.seq_objects.specs.declared.op.Op.{Op}
use Rattle.seq_objects.specs.declared.kind.Kind.{Kind}
use Rattle.seq_objects.specs.Parts.{verb_of, number_of, argument_of, kind_of, has_argument, op_of}
use Rattle.sp_order.specs.Precedence.{seq, par}
use Rattle.sp_order.specs.Depth.{tree_depth}
use Rattle.job_syntax.specs.declared.lexer.word.Word.{Word}
use Rattle.job_syntax.specs.declared.lexer.word.Word.TheVariants.{Close, Number, Named}
use Rattle.job_syntax.specs.Grammar.{Items, nothing, leaf_then, block_then, seq_block, par_block, Leaf, work, call, bound, leaf_words, items_words, FitsVerb, IsCall, IsLeaf, AreItems}
use Rattle.job_syntax.specs.Faults.{has_good_numbers}
use Rattle.job_syntax.specs.Blocks.{nesting}
use Rattle.job_lang.specs.Counts.{count}
use Rattle.job_lang.specs.Joins.{join_of}
use Rattle.job_lang.specs.Objects.{NamedObject, numbers_of, names_of, object_numbered, object_called}
use Rattle.job_lang.specs.Meaning.{number_in, argument_in, act_of, acts_in, sources_in, shapes_in, object_named, object_of, objects_in, job_of}
use Rattle.job_lang.specs.Limits.{argument_range_flags, leaf_range_flags, range_flags}
use Rattle.sp_order.specs.Objects.{numbered, with_numbers, AreNamed}
use Rattle.sp_order.specs.Objects.{number_in as act_number_in}
use Rattle.job_names.specs.declared.name.Name.{Name}
use Rattle.job_names.specs.Names.{name_of}
use Rattle.job_writer.specs.Canonical.{WrittenLeaf}
use Rattle.job_writer.proofs.WriterLemmas.Grown.{Grown, lone, series, parallel, shape_of, leaves_of, size, Each}
use Rattle.job_writer.proofs.WriterLemmas.Names.{leaf_name}
use Rattle.job_writer.proofs.WriterLemmas.Again.{numbered_back, back_again}
use Rattle.seq_objects.proofs.Elements.{each_append}
use Rattle.seq_objects.proofs.Parts.{none_carried}

-- the name of an object with this number, if it has one
abbrev pub name_at : List (List ℕ) → ℕ → Option Name
name_at names zero = None
name_at names (suc place) = Some (name_of (slice_index_or names place []))

-- the argument of a call, there where its verb takes one
abbrev pub taken : Bool → Word → Option Word
taken takes argument = if takes then Some argument else None

-- the call of an operation on an object with this name, if it has one, with this argument, if it takes one
abbrev pub call_leaf : Op → Option Name → Word → Leaf
call_leaf op object argument = call (verb_of op) object (taken (has_argument op) argument)

-- the argument of a call: its number, or the name of its source
abbrev pub said : ℕ → Option ℕ → Word
said number None = Number (Some number)
said number (Some source) = Named (leaf_name source)

-- the leaf that writes an act, with these names of objects
abbrev pub leaf_of_act : List (List ℕ) → Act → Option ℕ → Leaf
leaf_of_act names (Work steps) source = work (Number (Some steps))
leaf_of_act names (Call op) source = call_leaf op (name_at names (number_of op)) (said (argument_of op) source)

abbrev pub given_name : Bool → ℕ → Leaf → Leaf
given_name true number given = bound (leaf_name number) given
given_name false number given = given

-- the act calls with an argument that stands as 0
abbrev pub Stands : Act → Type 0
Stands act = (op : Op) × ((act ≡ Call op) × ((has_argument op ≡ true) × (argument_of op ≡ 0)))

-- A leaf is written well: where it has a source, it calls with an argument that stands as 0; where it has a name, it
-- calls.
pub record IsWell (written : WrittenLeaf) : Type 0 where
  pub stands : (source : ℕ) → written.source ≡ Some source → Stands written.act
  pub calls : written.named ≡ true → (op : Op) × (written.act ≡ Call op)

abbrev pub AreWell : List WrittenLeaf → Type 0
AreWell written = AllByRecursion IsWell written

abbrev pub acts_of : List WrittenLeaf → List Act
acts_of written = map (λ (one : WrittenLeaf). one.act) written

-- the acts with the number 0
abbrev pub first_act : WrittenLeaf → Act
first_act one = numbered one.act 0

abbrev pub sources_of : List WrittenLeaf → List (Option ℕ)
sources_of written = map (λ (one : WrittenLeaf). one.source) written

abbrev pub AreGood : List Word → Type 0
AreGood words = AllByRecursion (λ word. IsTrue (has_good_numbers word)) words

module _ (names : List (List ℕ)) where
  abbrev pub leaf_of_written : WrittenLeaf → Leaf
  leaf_of_written written = given_name written.named written.number (leaf_of_act names written.act written.source)

  -- the items of a shape with its leaves, before more items
  abbrev pub items_of : Grown → Items → Items
  items_of (lone written) more = leaf_then (leaf_of_written written) more
  items_of (series left right) more = block_then seq_block (items_of left (items_of right nothing)) more
  items_of (parallel left right) more = block_then par_block (items_of left (items_of right nothing)) more

  -- the items inside a block
  abbrev pub inside : Grown → Grown → Items
  inside left right = items_of left (items_of right nothing)

  -- the shapes and the acts are those of the job

  shapes_again : (grown : Grown) (more : Items) → shapes_in 0 (items_of grown more) ≡ shape_of grown ∷ shapes_in 0 more
  shapes_again (lone written) more = refl
  shapes_again (series left right) more =
      ap (λ shapes. option_to_list (join_of seq shapes) ++ shapes_in 0 more) (shapes_again left (items_of right nothing) ∙ ap (λ shapes. shape_of left ∷ shapes) (shapes_again right nothing))
  shapes_again (parallel left right) more =
      ap (λ shapes. option_to_list (join_of par shapes) ++ shapes_in 0 more) (shapes_again left (items_of right nothing) ∙ ap (λ shapes. shape_of left ∷ shapes) (shapes_again right nothing))

  taken_again : (takes : Bool) (number : ℕ) (argument : Word) → number_in 0 argument ≡ number → argument_in 0 (taken takes argument) ≡ (if takes then number else 0)
  taken_again true number argument e = e
  taken_again false number argument e = refl

  -- the number of an act with a source stands as 0
  number_said : (op : Op) (act : Act) (source : Option ℕ) → act ≡ Call op → ((u : ℕ) → source ≡ Some u → Stands act) → number_in 0 (said (argument_of op) source) ≡ argument_of op
  number_said op act None is stands = refl
  number_said op act (Some u) is stands =
      let s = stands u refl in
      let same : s.0 ≡ op = cc (is, s.1.0) in
      sym (ap argument_of (sym same) ∙ s.1.1.1)

  call_again : (act : Act) (source : Option ℕ) → ((u : ℕ) → source ≡ Some u → Stands act) → act_of 0 (leaf_of_act names act source) ≡ numbered act 0
  call_again (Work steps) source stands = refl
  call_again (Call op) source stands =
      ap (λ n. Call (op_of (verb_of op) 0 n)) (taken_again (has_argument op) (argument_of op) (said (argument_of op) source) (number_said op (Call op) source refl stands) ∙ sym (none_carried op))

  given_act : (named : Bool) (number : ℕ) (given : Leaf) → act_of 0 (given_name named number given) ≡ act_of 0 given
  given_act true number given = refl
  given_act false number given = refl

  leaf_again : (written : WrittenLeaf) → IsWell written → act_of 0 (leaf_of_written written) ≡ numbered written.act 0
  leaf_again written well = given_act written.named written.number (leaf_of_act names written.act written.source) ∙ call_again written.act written.source well.stands

  both_sides : {X : Type 0} (f : WrittenLeaf → X) (left right : List WrittenLeaf) (more : List X) → (map f left ++ (map f right ++ [])) ++ more ≡ map f (left ++ right) ++ more
  both_sides f left right more = ap (λ x. x ++ more) (ap (λ x. map f left ++ x) (append-nil (map f right)) ∙ sym (map-append f left right))

  acts_again : (grown : Grown) (more : Items) → Each IsWell grown → acts_in 0 (items_of grown more) ≡ map first_act (leaves_of grown) ++ acts_in 0 more
  acts_again (lone written) more well = ap (λ x. x ∷ acts_in 0 more) (leaf_again written well)
  acts_again (series left right) more well =
      ap (λ x. x ++ acts_in 0 more) (acts_again left (items_of right nothing) well.0 ∙ ap (λ x. map first_act (leaves_of left) ++ x) (acts_again right nothing well.1)) ∙ both_sides first_act (leaves_of left) (leaves_of right) (acts_in 0 more)
  acts_again (parallel left right) more well =
      ap (λ x. x ++ acts_in 0 more) (acts_again left (items_of right nothing) well.0 ∙ ap (λ x. map first_act (leaves_of left) ++ x) (acts_again right nothing well.1)) ∙ both_sides first_act (leaves_of left) (leaves_of right) (acts_in 0 more)

  -- the objects that the items name are those that the acts call

  named_said : (kind : Kind) (number : ℕ) → object_named kind (name_at names number) ≡ object_numbered names kind number
  named_said kind zero = refl
  named_said kind (suc place) = refl

  act_object : (act : Act) (source : Option ℕ) → object_of (leaf_of_act names act source) ≡ object_called names act
  act_object (Work steps) source = refl
  act_object (Call op) source = named_said (kind_of op) (number_of op)

  given_object : (named : Bool) (number : ℕ) (given : Leaf) → object_of (given_name named number given) ≡ object_of given
  given_object true number given = refl
  given_object false number given = refl

  abbrev pub called : WrittenLeaf → Option NamedObject
  called one = object_called names one.act

  objects_again : (grown : Grown) (more : Items) → objects_in (items_of grown more) ≡ map called (leaves_of grown) ++ objects_in more
  objects_again (lone one) more = ap (λ x. x ∷ objects_in more) (given_object one.named one.number (leaf_of_act names one.act one.source) ∙ act_object one.act one.source)
  objects_again (series left right) more =
      ap (λ x. x ++ objects_in more) (objects_again left (items_of right nothing) ∙ ap (λ x. map called (leaves_of left) ++ x) (objects_again right nothing)) ∙ both_sides called (leaves_of left) (leaves_of right) (objects_in more)
  objects_again (parallel left right) more =
      ap (λ x. x ++ objects_in more) (objects_again left (items_of right nothing) ∙ ap (λ x. map called (leaves_of left) ++ x) (objects_again right nothing)) ∙ both_sides called (leaves_of left) (leaves_of right) (objects_in more)

  first_acts : (written : List WrittenLeaf) → with_numbers (map first_act written) (map (λ act. act_number_in act) (acts_of written)) ≡ acts_of written
  first_acts [] = refl
  first_acts (one ∷ written) = (λ i. numbered_back one.act i ∷ first_acts written i)

  called_acts : (written : List WrittenLeaf) → map called written ≡ map (λ act. object_called names act) (acts_of written)
  called_acts [] = refl
  called_acts (one ∷ written) = ap (λ os. called one ∷ os) (called_acts written)

  -- the items give the job back
  pub job_again : (grown : Grown) → Each IsWell grown → sources_in true [] 0 (items_of grown nothing) ≡ sources_of (leaves_of grown) → AreNamed (acts_of (leaves_of grown)) names
      → record { shape = Some (shape_of grown); acts = acts_of (leaves_of grown); sources = sources_of (leaves_of grown); names = names } ≡ job_of (items_of grown nothing)
  job_again grown well sourced named =
      let items = items_of grown nothing in
      let written = leaves_of grown in
      let shapes : join_of seq (shapes_in 0 items) ≡ Some (shape_of grown) = ap (join_of seq) (shapes_again grown nothing) in
      let objects : objects_in items ≡ map (λ act. object_called names act) (acts_of written) = objects_again grown nothing ∙ append-nil (map called written) ∙ called_acts written in
      let again = back_again (acts_of written) names named in
      let numbers : numbers_of (objects_in items) ≡ map (λ act. act_number_in act) (acts_of written) = ap numbers_of objects ∙ again.0 in
      let given : names_of (objects_in items) ≡ names = ap names_of objects ∙ again.1 in
      let acts : with_numbers (acts_in 0 items) (numbers_of (objects_in items)) ≡ acts_of written =
      ap (λ x. with_numbers x (numbers_of (objects_in items))) (acts_again grown nothing well ∙ append-nil (map first_act written)) ∙ ap (with_numbers (map first_act written)) numbers ∙ first_acts written in
      λ i. record { shape = sym shapes i; acts = sym acts i; sources = sym sourced i; names = sym given i }

  -- they keep the limits

  pub count_is : (grown : Grown) (more : Items) → count (items_of grown more) ≡ size grown + count more
  count_is (lone written) more = refl
  count_is (series left right) more = omega (arith, count_is left (items_of right nothing), count_is right nothing)
  count_is (parallel left right) more = omega (arith, count_is left (items_of right nothing), count_is right nothing)

  pub nests_within : (grown : Grown) (more : Items) → nesting (items_of grown more) ≤ max (tree_depth (shape_of grown)) (nesting more)
  nests_within (lone written) more = omega arith
  nests_within (series left right) more = omega (arith, nests_within left (items_of right nothing), nests_within right nothing)
  nests_within (parallel left right) more = omega (arith, nests_within left (items_of right nothing), nests_within right nothing)

  -- no argument depends on the copy
  said_flags : (copies : ℕ) (takes : Bool) (number : ℕ) (source : Option ℕ) → argument_range_flags copies (taken takes (said number source)) ≡ []
  said_flags copies true number None = refl
  said_flags copies true number (Some source) = refl
  said_flags copies false number source = refl

  none_out_of_range : (copies : ℕ) (act : Act) (source : Option ℕ) → leaf_range_flags copies (leaf_of_act names act source) ≡ []
  none_out_of_range copies (Work steps) source = refl
  none_out_of_range copies (Call op) source = said_flags copies (has_argument op) (argument_of op) source

  given_flags : (copies : ℕ) (named : Bool) (number : ℕ) (given : Leaf) → leaf_range_flags copies (given_name named number given) ≡ leaf_range_flags copies given
  given_flags copies true number given = refl
  given_flags copies false number given = refl

  leaf_flags : (copies : ℕ) (written : WrittenLeaf) → leaf_range_flags copies (leaf_of_written written) ≡ []
  leaf_flags copies written = given_flags copies written.named written.number (leaf_of_act names written.act written.source) ∙ none_out_of_range copies written.act written.source

  pub no_flags : (copies : ℕ) (grown : Grown) (more : Items) → range_flags copies (items_of grown more) ≡ range_flags copies more
  no_flags copies (lone written) more = ap (λ x. x ++ range_flags copies more) (leaf_flags copies written)
  no_flags copies (series left right) more = ap (λ x. x ++ range_flags copies more) (no_flags copies left (items_of right nothing) ∙ no_flags copies right nothing)
  no_flags copies (parallel left right) more = ap (λ x. x ++ range_flags copies more) (no_flags copies left (items_of right nothing) ∙ no_flags copies right nothing)

  -- the items fit the grammar

  said_fits : (takes : Bool) (number : ℕ) (source : Option ℕ) → FitsVerb false takes (taken takes (said number source))
  said_fits true number None = refl
  said_fits true number (Some source) = refl
  said_fits false number source = tt

  act_fits : (act : Act) (source : Option ℕ) → IsLeaf false (leaf_of_act names act source)
  act_fits (Work steps) source = refl
  act_fits (Call op) source = said_fits (has_argument op) (argument_of op) source

  given_fits : (named : Bool) (number : ℕ) (act : Act) (source : Option ℕ) → (named ≡ true → (op : Op) × (act ≡ Call op)) → IsLeaf false (given_name named number (leaf_of_act names act source))
  given_fits false number act source calls = act_fits act source
  given_fits true number act source calls =
      let is = calls refl in subst (λ a. IsCall false (leaf_of_act names a source)) (sym is.1) (said_fits (has_argument is.0) (argument_of is.0) source)

  leaf_fits : (written : WrittenLeaf) → IsWell written → IsLeaf false (leaf_of_written written)
  leaf_fits written well = given_fits written.named written.number written.act written.source well.calls

  pub fit : (grown : Grown) (more : Items) → Each IsWell grown → AreItems false more → AreItems false (items_of grown more)
  fit (lone written) more well fits = (leaf_fits written well, fits)
  fit (series left right) more well fits = (tt, fit left (items_of right nothing) well.0 (fit right nothing well.1 tt), fits)
  fit (parallel left right) more well fits = (tt, fit left (items_of right nothing) well.0 (fit right nothing well.1 tt), fits)

  -- each number of the words has no leading zero and fits 32 bits

  said_good : (takes : Bool) (number : ℕ) (source : Option ℕ) (more : List Word) → AreGood more → AreGood (option_to_list (taken takes (said number source)) ++ more)
  said_good true number None more good = (refl, good)
  said_good true number (Some source) more good = (refl, good)
  said_good false number source more good = good

  act_good : (act : Act) (source : Option ℕ) (more : List Word) → AreGood more → AreGood (leaf_words (leaf_of_act names act source) ++ more)
  act_good (Work steps) source more good = (refl, (refl, good))
  act_good (Call op) source more good = (refl, (refl, said_good (has_argument op) (argument_of op) source more good))

  leaf_good : (named : Bool) (number : ℕ) (act : Act) (source : Option ℕ) (more : Items) → AreGood (items_words more) → AreGood (items_words (leaf_then (given_name named number (leaf_of_act names act source)) more))
  leaf_good true number act source more good = (refl, (refl, (refl, act_good act source (items_words more) good)))
  leaf_good false number act source more good = act_good act source (items_words more) good

  block_good : (body more : Items) → AreGood (items_words body) → AreGood (items_words more) → AreGood (items_words body ++ Close ∷ items_words more)
  block_good body more good behind = each_append (λ word. IsTrue (has_good_numbers word)) (items_words body) (Close ∷ items_words more) good (refl, behind)

  pub are_good : (grown : Grown) (more : Items) → AreGood (items_words more) → AreGood (items_words (items_of grown more))
  are_good (lone one) more good = leaf_good one.named one.number one.act one.source more good
  are_good (series left right) more good = (refl, (refl, block_good (inside left right) more (are_good left (items_of right nothing) (are_good right nothing tt)) good))
  are_good (parallel left right) more good = (refl, (refl, block_good (inside left right) more (are_good left (items_of right nothing) (are_good right nothing tt)) good))
