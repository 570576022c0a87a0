-- Where no leaf names an object, all numbers are 0, and the acts stay.
use Rattle.std.proofs.Common.{◌≡◌, List, [], ◌∷◌, map, Option, Some, None, refl, sym, ap, ◌∙◌}
use Rattle.std.specs.List.{AllByRecursion}
use Rattle.job_names.specs.Names.{spelling}
use Rattle.seq_objects.specs.declared.act.Act.{Act}
use Rattle.seq_objects.specs.declared.act.Act.TheVariants.{Work, Call}
use Rattle.seq_objects.specs.Parts.{with_number}
use Rattle.seq_objects.proofs.Parts.{whole}
use Rattle.sp_order.specs.Objects.{AreUnnamed, number_in, numbered, with_numbers}
use Rattle.job_lang.specs.Objects.{NamedObject, named_by, names_of, number_among, numbers_of}

act_stays : (act : Act) → number_in act ≡ 0 → numbered act 0 ≡ act
act_stays (Work steps) none = refl
act_stays (Call op) none = ap (λ op. Call op) (ap (with_number op) (sym none) ∙ whole op)

stay_among : (others : List NamedObject) (acts : List Act) (objects : List (Option NamedObject)) → AreUnnamed acts → AllByRecursion (λ object. object ≡ None) objects
    → with_numbers acts (map (number_among others) objects) ≡ acts
stay_among others [] objects unnamed none = refl
stay_among others (act ∷ acts) [] unnamed none = refl
stay_among others (act ∷ acts) (object ∷ objects) unnamed none =
    let first : numbered act (number_among others object) ≡ act = ap (λ o. numbered act (number_among others o)) none.0 ∙ act_stays act unnamed.0 in
    let rest = stay_among others acts objects unnamed.1 none.1 in
    λ i. first i ∷ rest i

pub acts_stay : (acts : List Act) (objects : List (Option NamedObject)) → AreUnnamed acts → AllByRecursion (λ object. object ≡ None) objects → with_numbers acts (numbers_of objects) ≡ acts
acts_stay acts objects unnamed none = stay_among (named_by objects) acts objects unnamed none

named_none : (objects : List (Option NamedObject)) → AllByRecursion (λ object. object ≡ None) objects → named_by objects ≡ []
named_none [] none = refl
named_none (None ∷ objects) none = named_none objects none.1
named_none (Some object ∷ objects) none = absurd cc

pub no_names : (objects : List (Option NamedObject)) → AllByRecursion (λ object. object ≡ None) objects → names_of objects ≡ []
no_names objects none = ap (λ (named : List NamedObject). map (λ (object : NamedObject). spelling object.name) named) (named_none objects none)
