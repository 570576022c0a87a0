use Rattle.std.proofs.Common.{◌≡◌, ◌+◌, ◌∷◌, take, arith}
use Rattle.batch_script.specs.Scripts.{words, lines_from}
use Rattle.batch_script.proofs.WordLemmas.{few_lines}
use Rattle.batch_script.proofs.ScriptLemmas.{read_whole}
use Rattle.batch_script.proofs.reader.read_script.Goals as goal

pub loop-line-init : goal.loop-line-init
loop-line-init g c = record {
  fits = rw c.new-lines.ensures (omega (arith, few_lines c.args.bytes.now));
  few = rw c.new-reading.ensures (omega arith);
  left = rw (c.new-reading.ensures, c.new-lines.ensures) (read_whole g.F.Form.call_of c.args.bytes.now);
}

pub returns-in-Err : goal.returns-in-Err
returns-in-Err g c =
    let more = lines_from (c.loop-line.number + 1) c.next.new.self in
    let lines : c.loop-line.lines ≡ c.in-Some.line.now ∷ c.next.new.self = c.in-Some.ensures in
    let said : take c.in-Ok.count c.deref.result.now ≡ words c.in-Some.line.now = rw c.deref.ensures.value c.in-Ok.ensures.words in
    let left = rw lines at c.loop-line.invariant.left in
    rw (← left, ← said) (c.in-Err.ensures.err more)
