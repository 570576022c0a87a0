use Rattle.std.proofs.Common.{◌≡◌, ◌++◌, ◌+◌, ◌<◌, ◌^◌, drop}
use Rattle.std.specs.List.{AllByRecursion}
use Rattle.batched_counter.specs.Code.End.{number_replies}
use Rattle.batched_counter.proofs.end.push_numbers.Given as goal

abbrev pub invariant-loop-prefix : goal.invariant-loop-prefix
invariant-loop-prefix l = record {
  told : l.replies.items ++ number_replies l.base (drop l.prefix-index l.prefixes) ≡ l.fn.replies.items ++ number_replies l.base l.prefixes;
  fits : AllByRecursion (λ p. l.base + p < 2 ^ 64) (drop l.prefix-index l.prefixes);
}
