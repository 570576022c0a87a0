use Rattle.std.proofs.Common.{◌≡◌, ◌∙◌, ◌++◌, ◌∷◌, [], sym, ap, subst, length, reverse, arith, length-append}
use Rattle.job_names.specs.declared.name.Name.{Name}
use Rattle.job_names.specs.declared.scopes.Let.{Let}
use Rattle.job_names.specs.Code.Places.{list_of, places_from}
use Rattle.job_names.specs.Code.Kept.{AreStarts, scope_of}
use Rattle.job_names.proofs.ScopeLemmas.{starts_grow, with_lets_scope, bound_places}
use Rattle.job_names.proofs.scopes.Scopes.bind.Goals as goal

pub returns-clause-kept : goal.returns-clause-kept
returns-clause-kept c =
    let bound : Let = record { name = c.args.name; number = c.args.number } in
    let xs = c.args.self.now.lets.items in
    let items : c.push.new.self.items ≡ xs ++ bound ∷ [] = c.in_ok-push.ensures.items in
    let place : c.len-place.result ≡ length xs = omega arith in
    let long = length-append xs (bound ∷ []) in
    record {
      starts = subst (λ l. AreStarts (reverse c.args.self.now.blocks.items) (length l)) (sym items)
          (starts_grow (reverse c.args.self.now.blocks.items) (length xs) (length (xs ++ bound ∷ [])) c.requires.starts (omega (arith, long)));
      placed = subst (λ l. (x : Name) → list_of c.push-2.new.self x ≡ places_from x 0 l) (sym items)
          (bound_places (list_of c.push-2.new.self) (list_of c.args.self.now.places) bound xs c.requires.placed c.in_ok-push-2.ensures.others
          (c.in_ok-push-2.ensures.own ∙ ap (λ n. list_of c.args.self.now.places c.args.name ++ n ∷ []) place));
    }

pub returns-clause-view : goal.returns-clause-view
returns-clause-view c =
    let bound : Let = record { name = c.args.name; number = c.args.number } in
    ap (scope_of (reverse c.args.self.now.blocks.items)) c.in_ok-push.ensures.items
    ∙ sym (with_lets_scope (reverse c.args.self.now.blocks.items) c.args.self.now.lets.items (bound ∷ []) c.requires.starts)
