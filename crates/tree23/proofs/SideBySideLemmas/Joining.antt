-- Joining entries one after another preserves the sequence of all keys.
use Rattle.std.proofs.Common.{◌≡◌, ℕ, ◌+◌, ◌<◌, List, [], ◌∷◌, ◌++◌, length, reverse, sym, ap, ◌∙◌, append_assoc, arith, length-append}
use Rattle.std.proofs.lemmas.List.{reverse-append}
use Rattle.tree23.specs.declared.trees.KeyedTree.{KeyedTree}
use Rattle.tree_nodes.specs.Nodes.{keys}
use Rattle.tree23.specs.SideBySide.{entry_keys}
use Rattle.tree23.proofs.SideBySideLemmas.KeyedTrees.{entry_keys_push}

-- two entries were taken off, and one with the keys of both was pushed
pub together : (old others rest new : List KeyedTree) (low high : KeyedTree) → entry_keys old ≡ entry_keys others ++ high.key ∷ keys high.rooted.tree → entry_keys others ≡ entry_keys rest ++ low.key ∷ keys low.rooted.tree
    → entry_keys new ≡ entry_keys rest ++ low.key ∷ (keys low.rooted.tree ++ high.key ∷ keys high.rooted.tree) → entry_keys new ≡ entry_keys old
together old others rest new low high is is' is'' =
    is'' ∙ sym (append_assoc (entry_keys rest) (low.key ∷ keys low.rooted.tree) (high.key ∷ keys high.rooted.tree)) ∙ ap (λ z. z ++ high.key ∷ keys high.rooted.tree) (sym is') ∙ sym is

-- the same, from the key and the tree of the new entry
pub put_back : (old others rest new : List KeyedTree) (low high e : KeyedTree) → entry_keys old ≡ entry_keys others ++ high.key ∷ keys high.rooted.tree → entry_keys others ≡ entry_keys rest ++ low.key ∷ keys low.rooted.tree
    → new ≡ rest ++ e ∷ [] → e.key ≡ low.key → keys e.rooted.tree ≡ keys low.rooted.tree ++ high.key ∷ keys high.rooted.tree → entry_keys new ≡ entry_keys old
put_back old others rest new low high e is is' at key merged =
    together old others rest new low high is is'
    (ap entry_keys at ∙ entry_keys_push rest e ∙ ap (λ z. entry_keys rest ++ z ∷ keys e.rooted.tree) key ∙ ap (λ z. entry_keys rest ++ low.key ∷ z) merged)

-- the last entry is the first of the reversed ones
pub turned : (entries left : List KeyedTree) (e : KeyedTree) → entries ≡ left ++ e ∷ [] → reverse entries ≡ e ∷ reverse left
turned entries left e is = ap reverse is ∙ reverse-append left (e ∷ [])

-- the next entry still fits below the limit
pub still_fits : (limit : ℕ) (low whole : List ℕ) (e : KeyedTree) (all rest : List KeyedTree) → all ≡ e ∷ rest → low ++ entry_keys all ≡ whole → length whole < limit → length low + length (keys e.rooted.tree) < limit
still_fits limit low whole e all rest is is' fits = omega (arith, ap length is', length-append low (entry_keys all), ap (λ z. length (entry_keys z)) is, length-append (keys e.rooted.tree) (entry_keys rest), fits)

-- the last of reversed entries was appended to a tree
pub gone_after : (front new : List ℕ) (entries left : List KeyedTree) (e : KeyedTree) → entries ≡ left ++ e ∷ [] → new ≡ front ++ e.key ∷ keys e.rooted.tree
    → new ++ entry_keys (reverse left) ≡ front ++ entry_keys (reverse entries)
gone_after front new entries left e is is' =
    ap (λ z. z ++ entry_keys (reverse left)) is'
    ∙ append_assoc front (e.key ∷ keys e.rooted.tree) (entry_keys (reverse left))
    ∙ ap (λ z. front ++ entry_keys z) (sym (turned entries left e is))
