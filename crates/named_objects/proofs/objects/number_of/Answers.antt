use Rattle.std.proofs.Common.{◌+◌, ◌≤◌, length, map, ap, sym, ◌∙◌, subst}
use Rattle.named_objects.specs.Objects.{object_in}
use Rattle.job_lang.proofs.ExpandLemmas.Keys.{place_kept, keys_kept}
use Rattle.named_objects.proofs.Keys.{same_test, few_kept}
use Rattle.named_objects.specs.contracts.objects.ObjectPartialEq as test
use Rattle.named_objects.proofs.objects.number_of.Goals as goal

pub returns : goal.returns
returns c = record {
  number = ap (λ place. place + 1) (c.in_ok-index.ensures.index ∙ place_kept object_in test.TheImpl.ghosts.eq same_test c.args.objects.now.keys c.args.object);
  objects = ap (map object_in) c.in_ok-index.ensures.keys ∙ keys_kept object_in test.TheImpl.ghosts.eq same_test c.args.objects.now.keys c.args.object;
  few = subst (λ keys. length keys ≤ length c.args.objects.now.keys + 1) (sym c.in_ok-index.ensures.keys) (few_kept test.TheImpl.ghosts.eq c.args.objects.now.keys c.args.object);
}
