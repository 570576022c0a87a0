use Rattle.std.proofs.Common.{ℕ, sym, ap, ◌∙◌, subst}
use Rattle.std.specs.Mem.Slots.{slots_items}
use mathlib.Core.Option.{some-injective}
use Rattle.atomic_table.specs.Table.{Final, Seen}
use Rattle.shared_calls.specs.Rule.{Keeps}
use Rattle.shared_calls.proofs.InHand.{same_whole}
use Rattle.shared_calls.proofs.Closings.{word_at, all_calls, structure_there, structure_lost, some_lost, none_lost}
use Rattle.shared_calls.proofs.shared.Shared.close.Goals as goal

pub returns-then-flag-ne0-clause-lost : goal.returns-then-flag-ne0-clause-lost
returns-then-flag-ne0-clause-lost g c =
    let s = c.args.self in
    let seat = c.gather-seat.result in
    let ws = slots_items c.close_with-closed.result.words in
    let xs = slots_items c.close_with-closed.result.slots in
    let final = subst (λ (q : ℕ). Final (Seen (Keeps g.T.Combined.object g.T.Combined.content g.T.Combined.fails q) seat.id seat.me.0) ws xs) (c.into_table.ensures.1 ∙ s.key) c.close_with-closed.ensures.values.2 in
    let held = word_at ws s.callers c.word-flag.result c.word-flag.ensures in (
      _,
      all_calls g.T.Combined.object g.T.Combined.content g.T.Combined.fails s.callers seat.id c.args.callers.items seat.me.0 ws xs c.requires.callers.count c.gather-seat.ensures.gathers final,
      structure_lost g.T.Combined.object g.T.Combined.content g.T.Combined.fails s.callers seat.id c.args.callers.items seat.me.0 ws xs c.requires.callers.count c.gather-seat.ensures.gathers final
          (λ free. c.if-flag-ne0.true (sym held ∙ free)) s.some.0,
    )

pub returns-then-flag-ne0-clause-told : goal.returns-then-flag-ne0-clause-told
returns-then-flag-ne0-clause-told g c =
    let s = c.args.self in
    let seat = c.gather-seat.result in
    let ws = slots_items c.close_with-closed.result.words in
    let xs = slots_items c.close_with-closed.result.slots in
    let final = subst (λ (q : ℕ). Final (Seen (Keeps g.T.Combined.object g.T.Combined.content g.T.Combined.fails q) seat.id seat.me.0) ws xs) (c.into_table.ensures.1 ∙ s.key) c.close_with-closed.ensures.values.2 in
    let held = word_at ws s.callers c.word-flag.result c.word-flag.ensures in
    some_lost g.T.Combined.object g.T.Combined.content g.T.Combined.fails s.callers seat.id c.args.callers.items seat.me.0 ws xs c.requires.callers.count c.gather-seat.ensures.gathers final
    (λ free. c.if-flag-ne0.true (sym held ∙ free)) s.some.0

pub unreachable-requires : goal.unreachable-requires
unreachable-requires g c =
    let s = c.args.self in
    let seat = c.gather-seat.result in
    let ws = slots_items c.close_with-closed.result.words in
    let xs = slots_items c.close_with-closed.result.slots in
    let final = subst (λ (q : ℕ). Final (Seen (Keeps g.T.Combined.object g.T.Combined.content g.T.Combined.fails q) seat.id seat.me.0) ws xs) (c.into_table.ensures.1 ∙ s.key) c.close_with-closed.ensures.values.2 in
    let there = structure_there g.T.Combined.object g.T.Combined.content g.T.Combined.fails s.callers seat.id c.args.callers.items seat.me.0 ws xs c.requires.callers.count c.gather-seat.ensures.gathers final
    (word_at ws s.callers c.word-flag.result c.word-flag.ensures ∙ c.if-flag-ne0.false) in
    c.in_default.not-Whole there.0 there.1 (some-injective _ _ (sym c.take-last.ensures.value ∙ there.2))

pub returns-clause-kept : goal.returns-clause-kept
returns-clause-kept g c =
    let s = c.args.self in
    let seat = c.gather-seat.result in
    let ws = slots_items c.close_with-closed.result.words in
    let xs = slots_items c.close_with-closed.result.slots in
    let final = subst (λ (q : ℕ). Final (Seen (Keeps g.T.Combined.object g.T.Combined.content g.T.Combined.fails q) seat.id seat.me.0) ws xs) (c.into_table.ensures.1 ∙ s.key) c.close_with-closed.ensures.values.2 in
    let there = structure_there g.T.Combined.object g.T.Combined.content g.T.Combined.fails s.callers seat.id c.args.callers.items seat.me.0 ws xs c.requires.callers.count c.gather-seat.ensures.gathers final
    (word_at ws s.callers c.word-flag.result c.word-flag.ensures ∙ c.if-flag-ne0.false) in
    let last = some-injective _ _ (sym c.take-last.ensures.value ∙ there.2) in
    let same = same_whole c.in-Whole.structure there.0 c.in-Whole.field-1 there.1 (sym c.in-Whole.is ∙ last) in (
      _,
      all_calls g.T.Combined.object g.T.Combined.content g.T.Combined.fails s.callers seat.id c.args.callers.items seat.me.0 ws xs c.requires.callers.count c.gather-seat.ensures.gathers final,
      ap g.T.Combined.content same.0 ∙ there.3,
    )

pub returns-clause-sound : goal.returns-clause-sound
returns-clause-sound g c =
    let s = c.args.self in
    let seat = c.gather-seat.result in
    let ws = slots_items c.close_with-closed.result.words in
    let xs = slots_items c.close_with-closed.result.slots in
    let final = subst (λ (q : ℕ). Final (Seen (Keeps g.T.Combined.object g.T.Combined.content g.T.Combined.fails q) seat.id seat.me.0) ws xs) (c.into_table.ensures.1 ∙ s.key) c.close_with-closed.ensures.values.2 in
    none_lost g.T.Combined.object g.T.Combined.content g.T.Combined.fails s.callers seat.id c.args.callers.items seat.me.0 ws xs c.requires.callers.count c.gather-seat.ensures.gathers final
    (word_at ws s.callers c.word-flag.result c.word-flag.ensures ∙ c.if-flag-ne0.false)
