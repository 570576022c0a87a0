use Rattle.std.proofs.Common.{Result, Ok, Err, ◌∷◌, [], sym, subst}
use Rattle.std.specs.Prelude.{OnOk}
use Rattle.std.specs.Option.{option_map}
use Rattle.job_lang.specs.Code.Numbered.{object_in, NamesBehind}
use Rattle.job_lang.proofs.ExpandLemmas.Kept.{listed_none, listed_some}
use Rattle.job_lang.proofs.expand.objects.Objects.add.Goals as goal

both_ok : {X E : Type 0} (r : Result X E) (A B C : Type 0) → (A → B → C) → OnOk r A → OnOk r B → OnOk r C
both_ok (Ok x) A B C f a b = f a b
both_ok (Err e) A B C f a b = tt

pub returns-in-Some-clause-listed : goal.returns-in-Some-clause-listed
returns-in-Some-clause-listed c =
    both_ok c.add_named.result _ _ _
    (λ numbers named.
    subst (λ object. NamesBehind c.args.place c.args.self.now c.add_named.new.self (option_map object_in object ∷ [])) (sym c.in-Some.is)
    (listed_some c.args.place c.args.self.now c.add_named.new.self (object_in c.in-Some.object) numbers named))
    c.add_named.ensures.numbers c.add_named.ensures.named

pub returns-in-None-clause-listed : goal.returns-in-None-clause-listed
returns-in-None-clause-listed c =
    subst (λ object. NamesBehind c.args.place c.args.self.now c.args.self.now (option_map object_in object ∷ [])) (sym c.in-None.is) (listed_none c.args.place c.args.self.now)
