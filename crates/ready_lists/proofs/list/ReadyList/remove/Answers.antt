use Rattle.std.proofs.Common.{refl, sym}
use Rattle.ready_lists.proofs.ListLemmas.Ends.{newest_taken, oldest_taken, none_there, newest_stands, oldest_stands}
use Rattle.core_model.proofs.ChoiceLemmas.Ready.{without_none}
use Rattle.ready_lists.proofs.list.ReadyList.remove.Goals as goal

pub returns-then-is_newest-clause-list : goal.returns-then-is_newest-clause-list
returns-then-is_newest-clause-list c = newest_taken c.args.node _ c.args.self.now _ c.requires (c.is_newest.ensures.0 c.if-is_newest.true) refl c.drop_newest.ensures

pub returns-then-is_newest-clause-found : goal.returns-then-is_newest-clause-found
returns-then-is_newest-clause-found c = λ _. newest_stands c.args.node c.args.self.now (c.is_newest.ensures.0 c.if-is_newest.true)

pub returns-then-is_oldest-clause-list : goal.returns-then-is_oldest-clause-list
returns-then-is_oldest-clause-list c = oldest_taken c.args.node c.args.self.now _ c.requires (c.is_oldest.ensures.0 c.if-is_oldest.true) c.drop_oldest.ensures

pub returns-then-is_oldest-clause-found : goal.returns-then-is_oldest-clause-found
returns-then-is_oldest-clause-found c = λ _. oldest_stands c.args.node c.args.self.now (c.is_oldest.ensures.0 c.if-is_oldest.true)

pub returns-clause-list : goal.returns-clause-list
returns-clause-list c =
    let none = none_there c.args.node c.args.self.now c.requires c.is_newest.result c.is_oldest.result c.is_newest.ensures.1 c.is_oldest.ensures.1 c.if-is_newest.false c.if-is_oldest.false in
    sym (without_none c.args.node c.args.self.now none)

pub returns-clause-absent : goal.returns-clause-absent
returns-clause-absent c = λ _.
    none_there c.args.node c.args.self.now c.requires c.is_newest.result c.is_oldest.result c.is_newest.ensures.1 c.is_oldest.ensures.1 c.if-is_newest.false c.if-is_oldest.false
