-- Serving operations with keys range by range.
use Rattle.std.proofs.Common.{◌≡◌, ℕ, inl, inr, true, false, nat_lt, List, [], ◌∷◌, ◌++◌, map, get_or, set, drop, refl, ap, sym, ◌∙◌, append-nil, arith}
use Rattle.std.proofs.lemmas.Bool.Decides.{nat_tests}
use Rattle.key_sets.specs.Groups.{group_of}
use Rattle.std.proofs.lemmas.Bool.{cases_lt}
use Rattle.keyed_pieces.specs.Keyed.{AscendsBy, AreKeyed, after_each, replies_to_each}
use Rattle.keyed_pieces.specs.Ranges.{below, from, ranges, side_by_side, after_by_range, replies_by_range, merged}
use Rattle.keyed_pieces.proofs.Sides.{all_below, all_from, both_sides, ascends_from}
use Rattle.keyed_pieces.proofs.Halves.{shared, halves_after, halves_replies}

-- merging splits at the first start: the operations below it get the first range's replies
merged_split : {O R : Type 0} (none : R) (key : O → ℕ) (b : ℕ) (starts : List ℕ) (ops : List O) (q : List R) (qs : List (List R))
    → merged none (map (λ op. group_of (key op) (b ∷ starts)) ops) (q ∷ qs) ≡ shared none key b ops q (merged none (map (λ op. group_of (key op) starts) (from key b ops)) qs)
merged_split none key b starts [] q qs = refl
merged_split none key b starts (op ∷ ops) q qs = elim (cases_lt (key op) b) [
  | inl less ↦
      let test : nat_lt (key op) b ≡ true = grind (arith, nat_tests) in
      rw test (ap (λ rs. get_or q 0 none ∷ rs) (merged_split none key b starts ops (drop 1 q) qs))
  | inr le ↦
      let test : nat_lt (key op) b ≡ false = grind (arith, nat_tests) in
      let group = group_of (key op) starts in
      rw test (ap (λ rs. get_or (get_or qs group []) 0 none ∷ rs) (merged_split none key b starts ops q (set qs group (drop 1 (get_or qs group [])))))
]

merged_alone : {E O R : Type 0} (none : R) (key : O → ℕ) (after : List E → O → List E) (reply : List E → O → R) (entries : List E) (ops : List O)
    → merged none (map (λ op. group_of (key op) []) ops) (replies_to_each after reply entries ops ∷ []) ≡ replies_to_each after reply entries ops
merged_alone none key after reply entries [] = refl
merged_alone none key after reply entries (op ∷ ops) = ap (λ rs. reply entries op ∷ rs) (merged_alone none key after reply (after entries op) ops)

pub ranges_after : {E O R : Type 0} (at : E → ℕ) (key : O → ℕ) (after : List E → O → List E) (reply : List E → O → R) → AreKeyed at key after reply
    → (starts : List ℕ) (entries : List E) (ops : List O) → AscendsBy at entries
    → side_by_side (after_by_range after (ranges at starts entries) (ranges key starts ops)) ≡ after_each after entries ops
ranges_after at key after reply laws [] entries ops up = append-nil (after_each after entries ops)
ranges_after at key after reply laws (b ∷ starts) entries ops up =
    let rest = ranges_after at key after reply laws starts (from at b entries) (from key b ops) (ascends_from at b entries up) in
    let law = halves_after at key after reply laws b ops (below at b entries) (from at b entries) (all_below at b entries) (all_from at b entries) in
    ap (λ high. after_each after (below at b entries) (below key b ops) ++ high) rest ∙ sym law ∙ ap (λ all. after_each after all ops) (sym (both_sides at b entries up))

pub ranges_replies : {E O R : Type 0} (at : E → ℕ) (key : O → ℕ) (after : List E → O → List E) (reply : List E → O → R) → AreKeyed at key after reply
    → (none : R) (starts : List ℕ) (entries : List E) (ops : List O) → AscendsBy at entries
    → merged none (map (λ op. group_of (key op) starts) ops) (replies_by_range after reply (ranges at starts entries) (ranges key starts ops)) ≡ replies_to_each after reply entries ops
ranges_replies at key after reply laws none [] entries ops up = merged_alone none key after reply entries ops
ranges_replies at key after reply laws none (b ∷ starts) entries ops up =
    let low = below at b entries in
    let high = from at b entries in
    let rest = ranges_replies at key after reply laws none starts high (from key b ops) (ascends_from at b entries up) in
    let law = halves_replies at key after reply laws none b ops low high (all_below at b entries) (all_from at b entries) in
    merged_split none key b starts ops (replies_to_each after reply low (below key b ops)) (replies_by_range after reply (ranges at starts high) (ranges key starts (from key b ops)))
    ∙ ap (λ highs. shared none key b ops (replies_to_each after reply low (below key b ops)) highs) rest
    ∙ sym law ∙ ap (λ all. replies_to_each after reply all ops) (sym (both_sides at b entries up))

-- questions as operations that change nothing
abbrev unchanged : {O : Type 0} → List ℕ → O → List ℕ
unchanged entries op = entries

abbrev answered : {O R : Type 0} → (O → R) → List ℕ → O → R
answered answer entries op = answer op

questions_are_keyed : {O R : Type 0} (key : O → ℕ) (answer : O → R) → AreKeyed (λ k. k) key unchanged (answered answer)
questions_are_keyed key answer = record {
  low_after = λ cut low high op less down up. refl;
  low_reply = λ cut low high op less down up. refl;
  high_after = λ cut low high op le down up. refl;
  high_reply = λ cut low high op le down up. refl;
  keeps_low = λ cut low op less down. down;
  keeps_high = λ cut high op le up. up;
}

replies_are_answers : {O R : Type 0} (answer : O → R) (entries : List ℕ) (ops : List O) → replies_to_each unchanged (answered answer) entries ops ≡ map answer ops
replies_are_answers answer entries [] = refl
replies_are_answers answer entries (op ∷ ops) = ap (λ rs. answer op ∷ rs) (replies_are_answers answer entries ops)

by_range : {O R : Type 0} (key : O → ℕ) (answer : O → R) (starts : List ℕ) (ops : List O)
    → replies_by_range unchanged (answered answer) (ranges (λ k. k) starts []) (ranges key starts ops) ≡ map (map answer) (ranges key starts ops)
by_range key answer [] ops = ap (λ rs. rs ∷ []) (replies_are_answers answer [] ops)
by_range key answer (b ∷ starts) ops = rw (replies_are_answers answer [] (below key b ops), by_range key answer starts (from key b ops)) refl

pub questions_merged : {O R : Type 0} (key : O → ℕ) (answer : O → R) (none : R) (starts : List ℕ) (ops : List O)
    → merged none (map (λ op. group_of (key op) starts) ops) (map (map answer) (ranges key starts ops)) ≡ map answer ops
questions_merged key answer none starts ops =
    ap (merged none (map (λ op. group_of (key op) starts) ops)) (sym (by_range key answer starts ops))
    ∙ ranges_replies (λ k. k) key unchanged (answered answer) (questions_are_keyed key answer) none starts [] ops tt
    ∙ replies_are_answers answer [] ops
