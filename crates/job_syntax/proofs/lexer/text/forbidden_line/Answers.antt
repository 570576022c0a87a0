use Rattle.std.proofs.Common.{◌∙◌, sym, arith}
use Rattle.job_syntax.proofs.LexerLemmas.Skips.{hash_is_allowed}
use Rattle.job_syntax.proofs.lexer.text.forbidden_line.Goals as goal

pub loop-left-preserved-in-35 : goal.loop-left-preserved-in-35
loop-left-preserved-in-35 c = record {
  fits = omega (arith, c.behind_comment-left.ensures.within, c.loop-left.invariant.fits);
  left = rw c.behind_comment-left.ensures.left (sym (hash_is_allowed _ _ c.in-len1-up.len_at_least c.in-35.is) ∙ c.loop-left.invariant.left);
}
