use Rattle.std.proofs.Common.{◌≡◌, refl, sym, subst, ◌∙◌}
use Rattle.std.specs.List.{AllByRecursion}
use Rattle.seq_objects.specs.declared.call.Call.{Call}
use Rattle.seq_objects.specs.Objects.{number_of}
use Rattle.seq_objects.proofs.Numbers.{are_at}
use Rattle.object_rows.proofs.open.open_one.Goals as goal

pub begin-requires-clause-one : goal.begin-requires-clause-one
begin-requires-clause-one g c =
    (c.args.number, subst (AllByRecursion (λ (call : Call). number_of call.op ≡ c.args.number)) c.requires.one (are_at c.args.number c.args.own.now))

pub begin-requires-clause-may : goal.begin-requires-clause-may
begin-requires-clause-may g c = c.requires.may c.in_ok-structure.structure c.in_ok-structure.ensures.content

pub returns-clause-cut : goal.returns-clause-cut
returns-clause-cut g c = λ calls own. record {
  before = c.in_ok-structure.structure;
  contains = c.in_ok-structure.ensures.content;
  pieces = rw (sym own) at c.in_ok-rest.ensures.cut;
}

pub returns-clause-opens : goal.returns-clause-opens
returns-clause-opens g c = λ calls own. record {
  called = _;
  opened = c.in_ok-push.ensures.items;
  numbered = refl;
  context = record {
    before = c.in_ok-structure.structure;
    contains = c.in_ok-structure.ensures.content;
    count = c.len.ensures ∙ c.in_ok-rest.ins.ok.0;
    context = rw (sym own) at c.in_ok-rest.ensures.remembers;
  };
  others = c.in_ok-structure.ensures.others;
}
