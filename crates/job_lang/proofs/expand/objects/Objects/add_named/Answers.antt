use Rattle.std.proofs.Common.{◌+◌, ◌∷◌, ◌++◌, [], ◌≡◌, map, refl, ap, ◌∙◌}
use Rattle.job_lang.specs.declared.expand.objects.Object.{Object}
use Rattle.std.specs.Prelude.{◌&&◌}
use Rattle.job_names.specs.Names.{same_name}
use Rattle.seq_objects.proofs.Verbs.{same_test_of_kinds}
use Rattle.job_lang.specs.contracts.expand.objects.ObjectPartialEq as test
use Rattle.job_lang.specs.Objects.{same_object}
use Rattle.job_lang.specs.Code.Numbered.{object_in, numbers_in}
use Rattle.job_lang.proofs.ExpandLemmas.Keys.{place_kept, keys_kept}
use Rattle.job_lang.proofs.expand.objects.Objects.add_named.Goals as goal

-- the test of the set is that of the objects
same_test : (x y : Object) → test.TheImpl.ghosts.eq x y ≡ same_object (object_in x) (object_in y)
same_test x y = ap (λ same. same && same_name x.name y.name) (same_test_of_kinds x.kind y.kind)

pub returns : goal.returns
returns c = record {
  numbers = c.in_ok-push.ensures.items ∙ ap (λ numbers. numbers ++ (c.in_ok-index.index + 1) ∷ []) c.in_ok-fill.ensures
      ∙ ap (λ place. numbers_in c.args.self.now c.args.place ++ (place + 1) ∷ []) (c.in_ok-index.ensures.index ∙ place_kept object_in test.TheImpl.ghosts.eq same_test c.args.self.now.named.keys c.args.object);
  named = ap (λ keys. map object_in keys) c.in_ok-index.ensures.keys ∙ keys_kept object_in test.TheImpl.ghosts.eq same_test c.args.self.now.named.keys c.args.object;
}
