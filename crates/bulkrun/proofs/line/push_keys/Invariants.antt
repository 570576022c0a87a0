use Rattle.std.proofs.Common.{◌≡◌, ◌++◌, drop, string_bytes}
use Rattle.bulkrun.specs.Text.{key_words}
use Rattle.bulkrun.proofs.line.push_keys.Given as goal

abbrev pub invariant-loop-key : goal.invariant-loop-key
invariant-loop-key l = string_bytes l.text ++ key_words (drop l.key-index l.keys) ≡ string_bytes l.fn.text ++ key_words l.keys
