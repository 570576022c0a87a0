use Rattle.report_picture.proofs.Wording.{one_picture}
use Rattle.report_picture.proofs.laws.texts_have_one_picture.Goals as goal

pub returns : goal.returns
returns c text named named' is is' = one_picture named named' (c.texts_have_one_wording.ensures.alike text named named' is is')
