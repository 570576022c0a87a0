use Rattle.reply_order.proofs.Pairing.{paired}
use Rattle.reply_order.proofs.laws.calls_keep_their_replies.Goals as goal

pub returns : goal.returns
returns g c = paired
