use Rattle.std.proofs.Common.{◌≡◌, false, take}
use Rattle.std.specs.List.{list_any}
use Rattle.job_lang.specs.Limits.{range_flags}
use Rattle.job_syntax.specs.Views.{items_of}
use Rattle.job_lang.proofs.text_limits.argument_range.+testing.Given as goal

abbrev pub invariant-any_out_of_range-loop-item : goal.invariant-any_out_of_range-loop-item
invariant-any_out_of_range-loop-item l = list_any (λ flag. flag) (range_flags l.copies (items_of (take l.item-index l.items))) ≡ false
