use Rattle.std.proofs.Common.{rules, ◌≡◌, length, true, ap, sym, ◌∙◌}
use Rattle.std.proofs.lemmas.List.{length-map}
use Rattle.job_names.specs.Names.{spelling}
use Rattle.test_texts.proofs.Within.{all_within}
use Rattle.test_texts.proofs.text_of.Goals as goal

-- each number that was tested is at most the count of the job's names
pub text-requires-clause-numbers : goal.text-requires-clause-numbers
text-requires-clause-numbers c =
    let names = c.names.result.now in
    let long : length c.args.job.now.names ≡ length names = ap length (sym c.names.ensures.names) ∙ length-map names (λ name. spelling name) in
    let all : c.are_all_within.result ≡ true = search rules in
    rw (long, sym c.batches.ensures.batches) (all_within (length names) c.batches.result.now (sym c.are_all_within.ensures ∙ all))
