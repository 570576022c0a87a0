use Rattle.batched_tree.proofs.Law.{law_replies, law_content, law_can_join, law_groups, law_single}
use Rattle.batched_tree.proofs.tree_set.TreeSetBatched.end.Goals as goal

pub join_outs-requires-clause-can : goal.join_outs-requires-clause-can
join_outs-requires-clause-can c = law_can_join c.args.rest c.requires.0 c.args.outs.items c.requires.1 c.requires.2

pub join_outs-requires-clause-groups : goal.join_outs-requires-clause-groups
join_outs-requires-clause-groups c = rw c.deref.ensures.value (law_groups c.args.rest c.requires.0 c.args.outs.items c.requires.1 c.requires.2)

pub join_outs-requires-clause-single : goal.join_outs-requires-clause-single
join_outs-requires-clause-single c = rw c.deref.ensures.value (law_single c.args.rest c.requires.0 c.args.outs.items c.requires.1 c.requires.2)

pub returns-clause-replies : goal.returns-clause-replies
returns-clause-replies c = λ o r m. rw (c.in_ok-forest.ensures.replies, c.deref.ensures.value) (law_replies c.args.rest o c.args.outs.items r m)

pub returns-clause-content : goal.returns-clause-content
returns-clause-content c = λ o r m. rw (c.in_ok-compact.ensures.keys, c.in_ok-forest.ensures.keys) (law_content c.args.rest o c.args.outs.items r m)
