use Rattle.std.proofs.Common.{◌≡◌, ◌++◌, ◌≤◌, false, map, drop}
use Rattle.std.specs.List.{between}
use Rattle.shared_calls.specs.Views.{IsCallerOf, number_of, made, is_lost}
use Rattle.word_counts.specs.Words.{words_behind, words_of}
use Rattle.word_counts.proofs.count.count_words.Given as goal

-- the words so far, followed by those behind the run that goes on, are all words
abbrev pub invariant-loop-i : goal.invariant-loop-i
invariant-loop-i g l = record {
  caller : IsCallerOf l.counts l.caller;
  number : number_of l.caller ≡ number_of l.fn.caller;
  sound : is_lost l.caller ≡ false;
  within : l.start ≤ l.i;
  words : map (λ e. e.op.items) (made l.caller) ++ words_behind (between l.start l.i l.text) (drop l.i l.text) ≡ words_of l.text;
}
