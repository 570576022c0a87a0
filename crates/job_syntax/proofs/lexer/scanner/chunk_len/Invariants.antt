use Rattle.std.proofs.Common.{◌≡◌, ◌+◌, drop}
use Rattle.std.specs.List.{prefix_len}
use Rattle.job_syntax.specs.Text.{is_in_chunk}
use Rattle.job_syntax.proofs.lexer.scanner.chunk_len.Given as goal

abbrev pub invariant-loop-len : goal.invariant-loop-len
invariant-loop-len l = l.len + prefix_len (λ byte. is_in_chunk byte) (drop l.len l.text) ≡ prefix_len (λ byte. is_in_chunk byte) l.text
