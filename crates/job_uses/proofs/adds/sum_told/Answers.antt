use Rattle.job_results.specs.Results.{calls_of}
use Rattle.seq_objects.specs.Spin.{spin_of}
use Rattle.job_uses.proofs.TwoAdds.{told_number}
use Rattle.job_uses.proofs.adds.sum_told.Goals as goal

pub unreachable-requires : goal.unreachable-requires
unreachable-requires c =
    let ran = c.args.ran.now in
    let told = told_number spin_of ran.job (calls_of ran) c.args.leaf.leaf c.requires.adds.0 c.reply_of.result c.requires.plain c.requires.adds.1 c.is_serial.ensures c.reply_of.ensures in
    c.in_default.not-Number told.0 told.1
