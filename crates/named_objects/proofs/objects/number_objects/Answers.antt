use Rattle.std.proofs.Common.{map, ap, ◌∙◌}
use Rattle.job_names.specs.Names.{spelling}
use Rattle.job_lang.specs.Objects.{NamedObject}
use Rattle.named_objects.specs.Objects.{object_in}
use Rattle.job_lang.proofs.ExpandLemmas.Keys.{spellings_kept}
use Rattle.named_objects.proofs.Numbers.{numbers_done, objects_done}
use Rattle.named_objects.proofs.objects.number_objects.Goals as goal

pub returns-clause-numbers : goal.returns-clause-numbers
returns-clause-numbers c =
    numbers_done c.loop-leaf.numbers.items (map object_in c.loop-leaf.objects.keys) c.args.leaves.now c.loop-leaf.leaf-index c.loop-leaf-test.false c.loop-leaf.invariant.so_far

pub returns-clause-names : goal.returns-clause-names
returns-clause-names c =
    ap (map (λ name. spelling name)) c.in_ok-names.ensures ∙ spellings_kept object_in c.loop-leaf.objects.keys
    ∙ ap (map (λ (object : NamedObject). spelling object.name))
    (objects_done c.loop-leaf.numbers.items (map object_in c.loop-leaf.objects.keys) c.args.leaves.now c.loop-leaf.leaf-index c.loop-leaf-test.false c.loop-leaf.invariant.so_far)
