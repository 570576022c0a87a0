-- An injective encoding of drafts, by which proofs compare them.
use Rattle.std.specs.Prelude.{ℕ, List, Option, refl}
use Rattle.std.specs.Coded.{Coded, code_by, coded×, coded_list, coded_option, coded_ℕ}
use Rattle.seq_objects.specs.declared.act.Act.{Act}
use Rattle.seq_objects.specs.contracts.act.Act as act
use Rattle.seq_objects.specs.declared.kind.Kind.{Kind}
use Rattle.seq_objects.specs.contracts.kind.Kind as kind
use Rattle.job_names.specs.declared.name.Name.{Name}
use Rattle.job_names.specs.contracts.name.Name as name
use Rattle.joined_shapes.specs.Blocks.{Blocks}
use Rattle.joined_shapes.specs.Codes.{coded_blocks}
use Rattle.named_objects.specs.Objects.{NamedObject}
use Rattle.job_builder.specs.Drafts.{Draft}

abbrev pub coded_object : Coded NamedObject
coded_object =
    code_by (Kind × Name) (coded× kind.the_row.coded name.the_row.coded) (λ object. (object.kind, object.name)) (λ parts. record { kind = parts.0; name = parts.1 }) (λ _. refl)

abbrev pub coded_draft : Coded Draft
coded_draft =
    code_by (ℕ × (Blocks × (List Act × (List (Option ℕ) × List (Option NamedObject)))))
    (coded× coded_ℕ (coded× coded_blocks (coded× (coded_list act.the_row.coded) (coded× (coded_list (coded_option coded_ℕ)) (coded_list (coded_option coded_object))))))
    (λ draft. (draft.job, (draft.blocks, (draft.acts, (draft.sources, draft.objects)))))
    (λ parts. record { job = parts.0; blocks = parts.1.0; acts = parts.1.1.0; sources = parts.1.1.1.0; objects = parts.1.1.1.1 })
    (λ _. refl)
