use Rattle.std.proofs.Common.{◌≡◌, ℕ, ◌+◌, ap, ◌∙◌, arith}
use Rattle.std.proofs.lemmas.Grind.{common_steps}
use Rattle.std.specs.BTreeMap.{insert_entry}
use Rattle.word_counts.specs.Counts.{entries_of, count_in}
use Rattle.word_counts.proofs.Entries.{by, view, found, inserted}
use Rattle.word_counts.proofs.counts.WordCounts.add.Goals as goal

count_is : (c : goal.In_ok-insert) → c.in-Some.count ≡ count_in (entries_of c.args.self.now) c.args.word.items + 1
count_is c =
    let there = found c.args.word c.args.self.now.map.entries c.insert.ensures.was_ordered in
    grind (arith, common_steps, there, c.get.ensures.value, c.copied.ensures, c.unwrap_or-before.ensures, c.checked_add.ensures, c.in-Some.ensures, c.in-Some.is)

pub returns-clause-added : goal.returns-clause-added
returns-clause-added c =
    let es = c.args.self.now.map.entries in
    ap view c.in_ok-insert.ensures.entries ∙ (ap (λ (n : ℕ). view (insert_entry by es c.args.word n)) (count_is c) ∙ inserted c.args.word es)

pub returns-clause-count : goal.returns-clause-count
returns-clause-count c = count_is c
