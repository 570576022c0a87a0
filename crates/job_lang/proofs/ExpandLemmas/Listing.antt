-- The objects that leaves name, one list of leaves after another.
use Rattle.std.proofs.Common.{◌≡◌, ℕ, ◌+◌, List, ◌++◌, length, Option, ◌∙◌, arith, append_assoc, length-append, subst}
use Rattle.job_lang.specs.declared.expand.objects.Objects.{Objects}
use Rattle.job_lang.specs.Objects.{NamedObject}
use Rattle.job_lang.specs.Code.Numbered.{AreListed, NamesBehind}

pub behind_both : (count next : ℕ) (old now new : Objects) (xs ys : List (Option NamedObject)) → next ≡ count + length xs → NamesBehind count old now xs → NamesBehind next now new ys → NamesBehind count old new (xs ++ ys)
behind_both count next old now new xs ys e f g leaves long listed =
    subst (AreListed new) (append_assoc leaves xs ys) (g (leaves ++ xs) (length-append leaves xs ∙ omega (arith, long, e)) (f leaves long listed))
