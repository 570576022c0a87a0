use Rattle.seq_objects.specs.Spin.{spin_of}
use Rattle.batch_history.specs.Book.{flat}
use Rattle.batch_history.proofs.NameLemmas.{all_named}
use Rattle.batch_history.proofs.laws.lawful_reports_name_their_objects.Goals as goal

pub returns : goal.returns
returns c job workers report is lawful =
    all_named c.arguments_keep_objects.ensures.number spin_of job report.history (flat report.history)
    (c.named_numbers_are_by_first_use.ensures.most job.acts job.names is.objects) lawful.calls.operations
