use Rattle.std.proofs.Common.{◌≡◌, [], ◌++◌, map, length, sym, ap, subst, true, ◌∙◌, arith}
use Rattle.std.specs.Option.{option_map}
use Rattle.std.proofs.lemmas.Result.{IfOk-weaker}
use Rattle.sp_order.specs.Precedence.{tree_of, seq}
use Rattle.sp_order.specs.Sources.{AreSources}
use Rattle.sp_order.specs.Objects.{AreUnnamed, AreNumbered, with_numbers}
use Rattle.job_syntax.specs.Views.{items_of}
use Rattle.job_lang.specs.Counts.{count}
use Rattle.job_lang.specs.Joins.{join_of}
use Rattle.job_lang.specs.Objects.{numbers_of, names_of}
use Rattle.job_lang.specs.Meaning.{shapes_in, acts_in, sources_in, object_of, objects_in}
use Rattle.job_lang.specs.Code.Pruning.{without_empty}
use Rattle.job_lang.specs.Code.Numbered.{AreListed, numbers_in, names_in}
use Rattle.job_lang.specs.Code.Scoped.{Adds}
use Rattle.job_lang.proofs.ExpandLemmas.Adding.{from_nothing}
use Rattle.job_lang.proofs.ExpandLemmas.Kept.{numbers_kept, names_kept}
use Rattle.job_lang.proofs.ExpandLemmas.Leaves.{acts_count, each_leaf_count}
use Rattle.job_lang.proofs.ExpandLemmas.Numbering.{items_name, are_unnamed, are_numbered}
use Rattle.job_lang.proofs.ExpandLemmas.Sourcing.{items_have_sources}
use Rattle.job_lang.proofs.ExpandLemmas.Vanishing.{same_shapes, same_acts, same_sources, same_count, same_each}
use Rattle.job_lang.proofs.expand.expand.Goals as goal

pub shapes_in-requires-clause-few : goal.shapes_in-requires-clause-few
shapes_in-requires-clause-few c =
    let items = items_of c.args.items.items in
    let pruned : items_of c.deref.result.now ≡ without_empty items = ap items_of c.deref.ensures.value ∙ c.take_out_empty.ensures in
    let n = ap count pruned ∙ same_count items in
    let z = ap length c.new-leaves.ensures.acts in
    let few = c.requires.few in
    omega (arith, n, z, few)

pub with_sources-requires-clause-sources : goal.with_sources-requires-clause-sources
with_sources-requires-clause-sources c =
    let items = items_of c.args.items.items in
    let pruned : items_of c.deref.result.now ≡ without_empty items = ap items_of c.deref.ensures.value ∙ c.take_out_empty.ensures in
    let adds : Adds 0 (without_empty items) c.new-leaves.result c.shapes_in.new.leaves = subst (λ all. Adds 0 all c.new-leaves.result c.shapes_in.new.leaves) pruned c.in_ok-shapes_in.ensures.leaves in
    let made = from_nothing (without_empty items) c.new-leaves.result c.shapes_in.new.leaves c.new-leaves.ensures.acts c.new-leaves.ensures.sources c.new-leaves.ensures.scope c.new-leaves.ensures.objects adds in
    let made_shapes : map tree_of c.shapes_in.new.shapes.items ≡ shapes_in 0 (items_of c.deref.result.now) =
    c.in_ok-shapes_in.ensures.shapes ∙ ap (λ none. map tree_of none ++ shapes_in 0 (items_of c.deref.result.now)) c.new-shapes.ensures.items in
    let shape : option_map tree_of c.in_ok-shape.shape ≡ join_of seq (shapes_in 0 items) = c.in_ok-shape.ensures ∙ ap (join_of seq) (made_shapes ∙ ap (shapes_in 0) pruned ∙ same_shapes items 0) in
    let acts : c.shapes_in.new.leaves.acts.items ≡ acts_in 0 items = made.0 ∙ same_acts items 0 in
    let sources : c.shapes_in.new.leaves.sources.items ≡ sources_in true [] 0 items = made.1 ∙ same_sources items true [] 0 in
    subst (λ s. AreSources s c.shapes_in.new.leaves.acts.items c.shapes_in.new.leaves.sources.items) (sym shape)
    (subst (λ a. AreSources (join_of seq (shapes_in 0 items)) a c.shapes_in.new.leaves.sources.items) (sym acts)
    (subst (λ r. AreSources (join_of seq (shapes_in 0 items)) (acts_in 0 items) r) (sym sources) (items_have_sources items c.requires.derived)))

pub with_sources-requires-clause-unnamed : goal.with_sources-requires-clause-unnamed
with_sources-requires-clause-unnamed c =
    let items = items_of c.args.items.items in
    let pruned : items_of c.deref.result.now ≡ without_empty items = ap items_of c.deref.ensures.value ∙ c.take_out_empty.ensures in
    let adds : Adds 0 (without_empty items) c.new-leaves.result c.shapes_in.new.leaves = subst (λ all. Adds 0 all c.new-leaves.result c.shapes_in.new.leaves) pruned c.in_ok-shapes_in.ensures.leaves in
    let made = from_nothing (without_empty items) c.new-leaves.result c.shapes_in.new.leaves c.new-leaves.ensures.acts c.new-leaves.ensures.sources c.new-leaves.ensures.scope c.new-leaves.ensures.objects adds in
    let acts : c.shapes_in.new.leaves.acts.items ≡ acts_in 0 items = made.0 ∙ same_acts items 0 in
    subst AreUnnamed (sym acts) (are_unnamed (acts_in 0 items) (objects_in items) (items_name items 0))

pub called_in-requires : goal.called_in-requires
called_in-requires c =
    let items = items_of c.args.items.items in
    let pruned : items_of c.deref.result.now ≡ without_empty items = ap items_of c.deref.ensures.value ∙ c.take_out_empty.ensures in
    let adds : Adds 0 (without_empty items) c.new-leaves.result c.shapes_in.new.leaves = subst (λ all. Adds 0 all c.new-leaves.result c.shapes_in.new.leaves) pruned c.in_ok-shapes_in.ensures.leaves in
    let made = from_nothing (without_empty items) c.new-leaves.result c.shapes_in.new.leaves c.new-leaves.ensures.acts c.new-leaves.ensures.sources c.new-leaves.ensures.scope c.new-leaves.ensures.objects adds in
    let acts : c.shapes_in.new.leaves.acts.items ≡ acts_in 0 items = made.0 ∙ same_acts items 0 in
    let objects = c.shapes_in.new.leaves.objects in
    let made_acts : c.with_sources.result.acts ≡ acts_in 0 items = c.with_sources.ensures.acts ∙ acts in
    let listed : AreListed objects (objects_in items) = subst (AreListed objects) (same_each object_of items) made.2 in
    let long : length (objects_in items) ≡ length c.with_sources.result.acts = each_leaf_count object_of items ∙ sym (ap length made_acts ∙ acts_count items 0) in
    let numbers : numbers_in objects (length c.with_sources.result.acts) ≡ numbers_of (objects_in items) = numbers_kept objects (objects_in items) (length c.with_sources.result.acts) listed long in
    let names : names_in objects ≡ names_of (objects_in items) = names_kept objects (objects_in items) listed in
    let few = listed.few in
    record {
      few = omega (arith, few, long);
      numbered = subst (λ a. AreNumbered a (numbers_in objects (length c.with_sources.result.acts)) (names_in objects)) (sym made_acts)
          (subst (λ n. AreNumbered (acts_in 0 items) n (names_in objects)) (sym numbers)
          (subst (AreNumbered (acts_in 0 items) (numbers_of (objects_in items))) (sym names) (are_numbered (acts_in 0 items) (objects_in items) (items_name items 0) c.requires.spelled)));
      unnamed = subst AreUnnamed (sym made_acts) (are_unnamed (acts_in 0 items) (objects_in items) (items_name items 0));
      nameless = c.with_sources.ensures.names;
    }

pub returns : goal.returns
returns c =
    let items = items_of c.args.items.items in
    let pruned : items_of c.deref.result.now ≡ without_empty items = ap items_of c.deref.ensures.value ∙ c.take_out_empty.ensures in
    let adds : Adds 0 (without_empty items) c.new-leaves.result c.shapes_in.new.leaves = subst (λ all. Adds 0 all c.new-leaves.result c.shapes_in.new.leaves) pruned c.in_ok-shapes_in.ensures.leaves in
    let made = from_nothing (without_empty items) c.new-leaves.result c.shapes_in.new.leaves c.new-leaves.ensures.acts c.new-leaves.ensures.sources c.new-leaves.ensures.scope c.new-leaves.ensures.objects adds in
    let made_shapes : map tree_of c.shapes_in.new.shapes.items ≡ shapes_in 0 (items_of c.deref.result.now) =
    c.in_ok-shapes_in.ensures.shapes ∙ ap (λ none. map tree_of none ++ shapes_in 0 (items_of c.deref.result.now)) c.new-shapes.ensures.items in
    let shape : option_map tree_of c.in_ok-shape.shape ≡ join_of seq (shapes_in 0 items) = c.in_ok-shape.ensures ∙ ap (join_of seq) (made_shapes ∙ ap (shapes_in 0) pruned ∙ same_shapes items 0) in
    let acts : c.shapes_in.new.leaves.acts.items ≡ acts_in 0 items = made.0 ∙ same_acts items 0 in
    let sources : c.shapes_in.new.leaves.sources.items ≡ sources_in true [] 0 items = made.1 ∙ same_sources items true [] 0 in
    let objects = c.shapes_in.new.leaves.objects in
    let made_acts : c.with_sources.result.acts ≡ acts_in 0 items = c.with_sources.ensures.acts ∙ acts in
    let listed : AreListed objects (objects_in items) = subst (AreListed objects) (same_each object_of items) made.2 in
    let long : length (objects_in items) ≡ length c.with_sources.result.acts = each_leaf_count object_of items ∙ sym (ap length made_acts ∙ acts_count items 0) in
    let numbers : numbers_in objects (length c.with_sources.result.acts) ≡ numbers_of (objects_in items) = numbers_kept objects (objects_in items) (length c.with_sources.result.acts) listed long in
    let names : names_in objects ≡ names_of (objects_in items) = names_kept objects (objects_in items) listed in
    let made_shape = c.with_sources.ensures.shape ∙ shape in
    let made_sources = c.with_sources.ensures.sources ∙ sources in
    IfOk-weaker c.called_in.result _ _
    (λ job is. is ∙ (λ i. record { shape = made_shape i; acts = with_numbers (made_acts i) (numbers i); sources = made_sources i; names = names i }))
    c.called_in.ensures
