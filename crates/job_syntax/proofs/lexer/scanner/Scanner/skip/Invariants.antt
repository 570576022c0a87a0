use Rattle.std.proofs.Common.{◌≡◌, ◌+◌, ◌<◌, ◌^◌, length}
use Rattle.job_syntax.specs.Code.Scanners.{tokens_left}
use Rattle.job_syntax.proofs.lexer.scanner.Scanner.skip.Given as goal

abbrev pub invariant-loop-self : goal.invariant-loop-self
invariant-loop-self l = record {
  left : tokens_left l.self ≡ tokens_left l.initial.self;
  fits : l.self.line + length l.self.text.now < 2 ^ 32;
}

abbrev pub decreases-loop-self : goal.decreases-loop-self
decreases-loop-self l = length l.self.text.now
