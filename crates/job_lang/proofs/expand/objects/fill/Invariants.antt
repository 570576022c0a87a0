use Rattle.std.proofs.Common.{◌≡◌, ◌<◌, ◌++◌, ◌-◌, length, replicate}
use Rattle.job_lang.proofs.expand.objects.fill.Given as goal

abbrev pub invariant-loop : goal.invariant-loop
invariant-loop l = record {
  zeros : l.numbers.items ≡ l.initial.numbers.items ++ replicate (l.counter - length l.initial.numbers.items) 0;
  stays : l.count < length l.initial.numbers.items → l.counter ≡ length l.initial.numbers.items;
}
