use Rattle.std.proofs.Common.{◌∙◌, sym, arith}
use Rattle.job_syntax.proofs.LexerLemmas.Skips.{pass_hash}
use Rattle.job_syntax.proofs.lexer.scanner.Scanner.skip.Goals as goal

pub loop-self-preserved-in-35 : goal.loop-self-preserved-in-35
loop-self-preserved-in-35 c = record {
  left = rw c.behind_comment-self.ensures.left (sym (pass_hash _ _ c.in-len1-up.len_at_least c.in-35.is) ∙ c.loop-self.invariant.left);
  fits = omega (arith, c.behind_comment-self.ensures.within, c.loop-self.invariant.fits);
}
