use Rattle.std.proofs.Common.{take, None}
use Rattle.job_lang.specs.Limits.{range_flags}
use Rattle.job_lang.specs.Code.Searches.{Finds}
use Rattle.job_syntax.specs.Views.{items_of}
use Rattle.job_lang.proofs.text_limits.argument_range.+scanning.Given as goal

abbrev pub invariant-out_of_range_in_items-loop-item : goal.invariant-out_of_range_in_items-loop-item
invariant-out_of_range_in_items-loop-item l = Finds (range_flags l.copies (items_of (take l.item-index l.items))) l.initial.words None l.words
