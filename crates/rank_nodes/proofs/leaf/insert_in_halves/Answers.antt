use Rattle.std.proofs.Common.{◌≡◌, ℕ, ◌∙◌, ◌-◌, ◌<◌, List, [], ◌++◌, sym, ap, arith, take, drop, length, get_or}
use Rattle.std.proofs.lemmas.List.{get_or_read, take_rest}
use Rattle.rank_nodes.specs.declared.entry.Entry.{Entry}
use Rattle.rank_nodes.proofs.EntryLemmas.Places.{around_place}
use Rattle.rank_nodes.proofs.leaf.insert_in_halves.Goals as goal

rest_copied : (n : ℕ) (new old from xs : List Entry) → new ≡ old ++ take (length from - n) (drop n from) → old ≡ [] → from ≡ xs → new ≡ drop n xs
rest_copied n new old from xs is none same = is ∙ ap (λ z. z ++ take (length from - n) (drop n from)) none ∙ take_rest from n ∙ ap (drop n) same

pub returns-clause-entries : goal.returns-clause-entries
returns-clause-entries c =
    let wide : 32 < length c.insert.new.self.items = omega (arith, c.in_ok-insert.ensures.len) in
    let middle : c.index-middle.result.now ≡ get_or c.insert.new.self.items 32 c.args.entry = get_or_read _ 32 _ wide c.index-middle.ensures c.args.entry in
    let none : c.deref_mut.result.now.items ≡ [] = rw c.deref_mut.ensures.value c.in_ok-after.ensures.empty in
    let after : c.extend_from_slice.new.self.items ≡ drop 33 c.insert.new.self.items = rest_copied 33 _ _ _ _ c.in_ok-extend_from_slice.ensures.items none c.deref.ensures.value in
    rw (c.truncate.ensures.items, middle, after) (sym (around_place 32 _ c.args.entry wide) ∙ c.in_ok-insert.ensures.items)
