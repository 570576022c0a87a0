use Rattle.std.proofs.Common.{◌≡◌, ◌++◌, drop, string_bytes}
use Rattle.batch_script.specs.Texts.{batches_text}
use Rattle.batch_script.proofs.run.text.text_of.Given as goal

abbrev pub invariant-loop-b : goal.invariant-loop-b
invariant-loop-b g l =
    string_bytes l.text ++ batches_text g.T.Serves.lines g.T.Serves.after l.b (g.T.Serves.state l.object) (drop l.b l.script)
    ≡ batches_text g.T.Serves.lines g.T.Serves.after 0 g.T.Serves.opening l.script
