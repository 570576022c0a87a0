-- Merging entries one after another preserves the sequence of all keys.
use Rattle.std.proofs.Common.{◌≡◌, ℕ, ◌+◌, ◌<◌, ◌^◌, List, [], ◌∷◌, ◌++◌, length, reverse, sym, ap, ◌∙◌, append_assoc, arith, length-append}
use Rattle.tree23.specs.declared.trees.KeyedTree.{KeyedTree}
use Rattle.tree_nodes.specs.Nodes.{keys}
use Rattle.tree23.specs.SideBySide.{entry_keys}
use Rattle.tree23.proofs.SideBySideLemmas.KeyedTrees.{entry_keys_push}
use Rattle.tree23.proofs.SideBySideLemmas.Joining.{turned}

-- the last keys of a list moved in front of the tree that comes after it
pub gone_before : (front others old high part : List ℕ) (m k : ℕ) → old ≡ others ++ m ∷ high → (front ++ others) ++ m ∷ (high ++ k ∷ part) ≡ (front ++ old) ++ k ∷ part
gone_before front others old high part m k is = rw is (simp append_assoc)

-- the trees to be merged next have fewer than 2 ^ 61 keys
pub in_hand : (front back part whole added : List ℕ) (k j : ℕ) → (front ++ back) ++ k ∷ part ≡ whole ++ j ∷ added → length whole + length added < 2 ^ 61 → length back + length part < 2 ^ 61
in_hand front back part whole added k j is fits = omega (arith, ap length is, length-append (front ++ back) (k ∷ part), length-append front back, length-append whole (j ∷ added), fits)

-- keys appended to the last entry
pub entry_keys_last : (front old new rest last more : List ℕ) → old ≡ rest ++ last → new ≡ rest ++ (last ++ more) → front ++ new ≡ (front ++ old) ++ more
entry_keys_last front old new rest last more is is' = ap (λ z. front ++ z) (is' ∙ sym (append_assoc rest last more) ∙ ap (λ z. z ++ more) (sym is)) ∙ sym (append_assoc front old more)

-- the last of reversed entries is appended to the row, after it was merged with others
pub gone_over : (front front' : List ℕ) (forest forest' forest'' new entries left : List KeyedTree) (e e' : KeyedTree)
    → (front' ++ entry_keys forest') ++ e'.key ∷ keys e'.rooted.tree ≡ (front ++ entry_keys forest) ++ e.key ∷ keys e.rooted.tree
    → entry_keys forest'' ≡ entry_keys forest' → new ≡ forest'' ++ e' ∷ [] → entries ≡ left ++ e ∷ []
    → (front' ++ entry_keys new) ++ entry_keys (reverse left) ≡ (front ++ entry_keys forest) ++ entry_keys (reverse entries)
gone_over front front' forest forest' forest'' new entries left e e' merged same put taken =
    let back = ap entry_keys put ∙ entry_keys_push forest'' e' ∙ ap (λ z. z ++ e'.key ∷ keys e'.rooted.tree) same in
    let whole = ap (λ z. front' ++ z) back ∙ sym (append_assoc front' (entry_keys forest') (e'.key ∷ keys e'.rooted.tree)) ∙ merged in
    ap (λ z. z ++ entry_keys (reverse left)) whole
    ∙ append_assoc (front ++ entry_keys forest) (e.key ∷ keys e.rooted.tree) (entry_keys (reverse left))
    ∙ ap (λ z. (front ++ entry_keys forest) ++ entry_keys z) (sym (turned entries left e taken))
