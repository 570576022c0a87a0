use Rattle.std.proofs.Common.{length, map, ◌∙◌, sym, ap, subst}
use Rattle.job_names.specs.Names.{spelling}
use Rattle.sp_order.specs.Objects.{AreNumbered, AreUnnamed}
use Rattle.sp_order.specs.Precedence.{leaf_count}
use Rattle.job_lang.specs.Objects.{names_of, numbers_of}
use Rattle.named_objects.specs.Objects.{named_in}
use Rattle.job_builder.specs.Code.Kept.{draft_of}
use Rattle.job_builder.proofs.Drafting.{draft_leaves, draft_numbered, draft_unnamed, few_objects}
use Rattle.job_builder.proofs.builder.Builder.finish.Goals as goal

pub number_objects-requires : goal.number_objects-requires
number_objects-requires c =
    let f = c.self.inside in few_objects f.job f.blocks f.acts.items f.sources.items f.objects.items c.as_slice-3.result.now c.as_slice-3.ensures.value c.self.invariant

pub with_sources-job-requires-clause-leaves : goal.with_sources-job-requires-clause-leaves
with_sources-job-requires-clause-leaves c =
    let f = c.self.inside in
    ap leaf_count c.in_ok-shape.ensures ∙ draft_leaves (draft_of f.job f.blocks f.acts.items f.sources.items f.objects.items) c.self.invariant
    ∙ ap length (sym (c.in_ok-acts.ensures.items ∙ c.as_slice.ensures.value))

pub with_sources-job-requires-clause-unnamed : goal.with_sources-job-requires-clause-unnamed
with_sources-job-requires-clause-unnamed c =
    let f = c.self.inside in
    subst AreUnnamed (sym (c.in_ok-acts.ensures.items ∙ c.as_slice.ensures.value)) (draft_unnamed (draft_of f.job f.blocks f.acts.items f.sources.items f.objects.items) c.self.invariant)

pub with_objects-requires : goal.with_objects-requires
with_objects-requires c =
    let f = c.self.inside in
    let acts = c.with_sources-job.ensures.acts ∙ c.in_ok-acts.ensures.items ∙ c.as_slice.ensures.value in
    let objects = ap (map named_in) c.as_slice-3.ensures.value in
    let numbers = c.in_ok-numbers.ensures.numbers ∙ ap numbers_of objects in
    let names = c.in_ok-numbers.ensures.names ∙ ap names_of objects in
    subst (λ xs. AreNumbered xs c.in_ok-numbers.field-0.numbers.items (map (λ name. spelling name) c.in_ok-numbers.field-0.names.items)) (sym acts)
    (subst (λ ns. AreNumbered f.acts.items ns (map (λ name. spelling name) c.in_ok-numbers.field-0.names.items)) (sym numbers)
    (subst (AreNumbered f.acts.items (numbers_of (map named_in f.objects.items))) (sym names)
    (draft_numbered (draft_of f.job f.blocks f.acts.items f.sources.items f.objects.items) c.self.invariant)))
