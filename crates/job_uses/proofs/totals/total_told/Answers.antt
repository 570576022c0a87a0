use Rattle.std.proofs.Common.{◌≡◌, length}
use Rattle.std.specs.Prelude.{sum}
use Rattle.std.specs.Int.{div_ceil}
use Rattle.seq_objects.specs.declared.reply.Reply.TheVariants.{Number}
use Rattle.job_results.specs.Results.{calls_of}
use Rattle.job_uses.specs.Chunks.{chunk_of}
use Rattle.job_uses.proofs.TotalReplies.{last_calls, told_sum}
use Rattle.job_uses.proofs.totals.total_told.Goals as goal

pub reply_of-requires : goal.reply_of-requires
reply_of-requires c =
    let ran = c.args.ran.now in
    last_calls (λ number. sum (chunk_of ran.work.width ran.work.items.now number)) (div_ceil (length ran.work.items.now) ran.work.width) ran.job c.args.last.leaf c.requires.chunks

pub unreachable-requires : goal.unreachable-requires
unreachable-requires c =
    let ran = c.args.ran.now in
    c.in_default.not-Number _
    (told_sum ran.work.items.now ran.work.width c.requires.width ran.work.small ran.job c.args.last.leaf c.requires.chunks (calls_of ran) c.reply_of.result c.is_serial.ensures c.reply_of.ensures)

pub returns : goal.returns
returns c =
    let ran = c.args.ran.now in
    let said : c.reply_of.result ≡ Number (sum ran.work.items.now) =
    told_sum ran.work.items.now ran.work.width c.requires.width ran.work.small ran.job c.args.last.leaf c.requires.chunks (calls_of ran) c.reply_of.result c.is_serial.ensures c.reply_of.ensures in
    let is = c.in-Number.is in
    cc
