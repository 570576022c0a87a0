use Rattle.std.proofs.Common.{◌≡◌, ◌++◌, length}
use Rattle.std.proofs.lemmas.List.{drop-replicate}
use Rattle.limits.specs.declared.TheConstants.{MOST_NAME_BYTES}
use Rattle.job_names.proofs.name.name_of.Goals as goal

pub returns : goal.returns
returns c =
    let text = c.args.text.now in
    let copied : c.copy_from_slice.new.self ≡ text = c.copy_from_slice.ensures.after in
    λ i. record { bytes = copied i ++ drop-replicate (length text) MOST_NAME_BYTES 0 i; len = length text }
