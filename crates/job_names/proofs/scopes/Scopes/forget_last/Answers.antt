use Rattle.std.proofs.Common.{◌∙◌, ap}
use Rattle.job_names.specs.Code.Places.{list_of, places_from}
use Rattle.job_names.proofs.ScopeLemmas.{dropped_places}
use Rattle.job_names.proofs.scopes.Scopes.forget_last.Goals as goal

pub returns-in-Some-clause-placed : goal.returns-in-Some-clause-placed
returns-in-Some-clause-placed c =
    dropped_places (list_of c.pop-in-Some.new.self) (list_of c.args.self.now.places) c.in-Some.last c.pop.new.self.items
    (λ y. c.requires.placed y ∙ ap (places_from y 0) c.in-Some.ensures.items) c.pop-in-Some.ensures.others c.pop-in-Some.ensures.own
