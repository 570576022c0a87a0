-- Appending one more reply.
use Rattle.std.proofs.Common.{◌≡◌, ℕ, ◌+◌, ◌-◌, List, [], ◌∷◌, ◌++◌, sym, ap, ◌∙◌, append_assoc, arith}
use Rattle.std.proofs.lemmas.List.FromFn.{map-range_with_len_more}
use Rattle.seq_objects.specs.declared.reply.Reply.{Reply}
use Rattle.seq_objects.specs.declared.reply.Reply.TheVariants as reply
use Rattle.batched_stack.specs.Code.End.{popped_item, number_replies}

pub one_reply_more : (popped : List (List ℕ)) (total i : ℕ) (before : List Reply)
    → (before ++ number_replies popped total i) ++ reply.Number (popped_item popped total (total - 1 - i)) ∷ [] ≡ before ++ number_replies popped total (i + 1)
one_reply_more popped total i before =
    append_assoc before (number_replies popped total i) (reply.Number (popped_item popped total (total - 1 - i)) ∷ []) ∙ ap (λ rs. before ++ rs) (sym (map-range_with_len_more (λ i. reply.Number (popped_item popped total (total - 1 - i))) 0 i i (omega arith)))
