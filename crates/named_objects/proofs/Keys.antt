-- The set of objects that the code keeps.
use Rattle.std.proofs.Common.{◌≡◌, ◌+◌, ◌≤◌, List, [], ◌∷◌, ◌++◌, length, Bool, true, false, ap, arith, length-append}
use Rattle.std.specs.Prelude.{◌&&◌, if◌then◌else◌}
use Rattle.std.specs.List.{list_any}
use Rattle.indexmap.specs.IndexSet.{insert_key}
use Rattle.job_names.specs.Names.{same_name}
use Rattle.seq_objects.proofs.Verbs.{same_test_of_kinds}
use Rattle.job_lang.specs.Objects.{same_object}
use Rattle.named_objects.specs.declared.objects.Object.{Object}
use Rattle.named_objects.specs.contracts.objects.ObjectPartialEq as test
use Rattle.named_objects.specs.Objects.{object_in}

-- the test of the set is that of the objects
pub same_test : (x y : Object) → test.TheImpl.ghosts.eq x y ≡ same_object (object_in x) (object_in y)
same_test x y = ap (λ same. same && same_name x.name y.name) (same_test_of_kinds x.kind y.kind)

few_by : (b : Bool) (keys : List Object) (x : Object) → length (if b then keys else keys ++ x ∷ []) ≤ length keys + 1
few_by true keys x = omega arith
few_by false keys x = let long = length-append keys (x ∷ []) in omega (arith, long)

pub few_kept : (eq : Object → Object → Bool) (keys : List Object) (x : Object) → length (insert_key eq keys x) ≤ length keys + 1
few_kept eq keys x = few_by (list_any (eq x) keys) keys x
