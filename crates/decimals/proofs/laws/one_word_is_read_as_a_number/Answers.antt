use Rattle.std.proofs.Common.{arith}
use Rattle.decimals.proofs.Ranges.{number_found, found_written}
use Rattle.decimals.proofs.laws.one_word_is_read_as_a_number.Goals as goal

pub returns : goal.returns
returns c least most number word small from to = (found_written least most number word, λ is. number_found least most number word (omega (arith, small, to)) is from to)
