use Rattle.std.proofs.Common.{◌≡◌, ℕ, ap, ◌∙◌, ◌∷◌, [], ◌++◌, List, append_assoc, replicate, arith}
use Rattle.batch_history.specs.declared.batch.Entry.{Entry}
use Rattle.batch_history.specs.Reserved.{ReservedView}
use Rattle.table_rule.specs.declared.slot.Slot.{Slot}
use Rattle.table_rule.specs.declared.slot.Slot.TheVariants as Slots
use Rattle.core_table.proofs.make.opening_slots.Goals as goal

pub returns : goal.returns
returns c =
    let shop : List (List Entry) = [] in
    let all : c.loop.counter ≡ c.args.layout.workers = omega arith in
    c.push_reserved-3.ensures.items
    ∙ (ap (λ (l : List Slot). l ++ Slots.Book c.in_ok-book.book ∷ [])
    (c.push_reserved-2.ensures.items ∙ ap (λ (l : List Slot). l ++ Slots.Shop c.in_ok-shop.shop ∷ []) (c.loop.invariant.items ∙ ap (λ (n : ℕ). replicate n Slots.Vacant) all))
    ∙ (append_assoc (replicate c.args.layout.workers Slots.Vacant) (Slots.Shop c.in_ok-shop.shop ∷ []) (Slots.Book c.in_ok-book.book ∷ [])
    ∙ (ap (λ (s : List (List Entry)). replicate c.args.layout.workers Slots.Vacant ++ Slots.Shop s ∷ Slots.Book c.in_ok-book.book ∷ []) c.in_ok-shop.ensures
    ∙ ap (λ (b : ReservedView). replicate c.args.layout.workers Slots.Vacant ++ Slots.Shop shop ∷ Slots.Book b ∷ []) c.in_ok-book.ensures)))
