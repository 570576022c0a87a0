-- Siblings, one of which may be underfull.
use Rattle.std.proofs.Common.{◌≡◌, true, false}
use Rattle.rank_nodes.specs.declared.node.Tree.{Tree}
use Rattle.rank_nodes.specs.declared.node.Tree.TheVariants.{Empty, Underfull'}
use Rattle.rank_nodes.specs.Nodes.{IsTree, IsLoose}
use Rattle.rank_nodes.proofs.EntryLemmas.Beside.{around}
use Rattle.rank_nodes.specs.Code.Removals.{has_one_side, IsPair, IsTriple}

pub loose_of_tree : (a : Tree) → IsTree a → IsLoose a
loose_of_tree Empty t = tt
loose_of_tree (Underfull' p size x k y m z) t = absurd t
loose_of_tree _ t = t

tree_of_loose : (a : Tree) → IsLoose a → has_one_side a ≡ false → IsTree a
tree_of_loose Empty l whole = tt
tree_of_loose (Underfull' p size x k y m z) l whole = absurd (cc)
tree_of_loose _ l whole = l

pub pair_of_first : (a b : Tree) → IsLoose a → IsTree b → IsPair a b
pair_of_first Empty b l t = loose_of_tree b t
pair_of_first (Underfull' p size x k y m z) b l t = (l, t)
pair_of_first _ b l t = (l, loose_of_tree b t)

pub pair_of_second : (a b : Tree) → IsTree a → IsLoose b → IsPair a b
pair_of_second Empty b t l = l
pair_of_second (Underfull' p size x k y m z) b t l = absurd t
pair_of_second _ b t l = (t, l)

pub triple_of_pair : (a b c : Tree) → IsPair a b → IsTree c → IsTriple a b c
triple_of_pair a b Empty p t = p
triple_of_pair a b (Underfull' p size x k y m z) q t = absurd t
triple_of_pair a b _ q t = (q, t)

pub triple_of_first : (a b c : Tree) → IsLoose a → IsTree b → IsTree c → IsTriple a b c
triple_of_first a b c l t t' = triple_of_pair a b c (pair_of_first a b l t) t'

pub triple_of_second : (a b c : Tree) → IsTree a → IsLoose b → IsTree c → IsTriple a b c
triple_of_second a b c t l t' = triple_of_pair a b c (pair_of_second a b t l) t'

pub triple_of_third : (a b c : Tree) → IsTree a → IsTree b → IsLoose c → IsTriple a b c
triple_of_third a b Empty t t' l = pair_of_second a b t (loose_of_tree b t')
triple_of_third a b (Underfull' p size x k y m z) t t' l = (t, t', l)
triple_of_third a b _ t t' l = (pair_of_second a b t (loose_of_tree b t'), l)

-- siblings that are not underfull are trees
pub trees_of_pair : (a b : Tree) → IsPair a b → has_one_side a ≡ false → has_one_side b ≡ false → IsTree a × IsTree b
trees_of_pair Empty b p whole whole' = (tt, tree_of_loose b p whole')
trees_of_pair (Underfull' p size x k y m z) b q whole whole' = absurd (cc)
trees_of_pair _ b q whole whole' = (q.0, tree_of_loose b q.1 whole')

pub pair_of_triple : (a b c : Tree) → IsTriple a b c → has_one_side c ≡ false → IsPair a b × IsTree c
pair_of_triple a b Empty p whole = (p, tt)
pair_of_triple a b (Underfull' p size x k y m z) q whole = absurd (cc)
pair_of_triple a b _ q whole = q

pub third_of_triple : (a b c : Tree) → IsTriple a b c → has_one_side c ≡ true → IsTree a × IsPair b c
third_of_triple a b (Underfull' p size x k y m z) q one = (q.0, pair_of_second b (Underfull' p size x k y m z) q.1 q.2)
third_of_triple a b _ q one = absurd (cc)

pub ruleset short = (pair_of_first, pair_of_second, triple_of_first, triple_of_second, triple_of_third, loose_of_tree)

pub ruleset whole = (trees_of_pair, pair_of_triple, third_of_triple, loose_of_tree, around)
