use Rattle.job_lang.proofs.ReaderLemmas.Answering.{one_job}
use Rattle.leaf_places.proofs.Reading.{same_places, same_rows}
use Rattle.leaf_places.proofs.laws.texts_have_one_list_of_rows.Goals as goal

pub returns-clause-places : goal.returns-clause-places
returns-clause-places c = same_places

pub returns-clause-rows : goal.returns-clause-rows
returns-clause-rows c text rows rows' job job' are also = same_rows text rows rows' job job' (one_job text job job' are.is also.is) are also
