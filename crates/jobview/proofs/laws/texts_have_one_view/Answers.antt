use Rattle.std.proofs.Common.{◌≡◌, ℕ, List, sym, ap, ◌∙◌}
use Rattle.sp_order.specs.Jobs.{JobValue}
use Rattle.job_lang.specs.Language.{IsJobOf}
use Rattle.job_writer.specs.Canonical.{canonical_text}
use Rattle.leaf_places.specs.Rows.{AreRowsOf}
use Rattle.jobview.specs.Outcomes.{Shows}
use Rattle.jobview.specs.declared.words.Form.{Form}
use Rattle.jobview.specs.declared.words.Form.TheVariants.{Rows, Text}
use Rattle.jobview.proofs.laws.texts_have_one_view.Goals as goal

one_view : ((text : List ℕ) (job job' : JobValue) → IsJobOf text job → IsJobOf text job' → job ≡ job')
    → ((text rows rows' : List ℕ) (job job' : JobValue) → AreRowsOf text job rows → AreRowsOf text job' rows' → rows ≡ rows')
    → (form : Form) (bytes shown shown' : List ℕ) → Shows form bytes shown → Shows form bytes shown' → shown ≡ shown'
one_view one_job one_rows Rows bytes shown shown' is also = one_rows bytes shown shown' is.0 also.0 is.1 also.1
one_view one_job one_rows Text bytes shown shown' is also =
    is.are ∙ ap canonical_text (one_job bytes is.job also.job is.accepted also.accepted) ∙ sym also.are

pub returns : goal.returns
returns c = one_view c.texts_have_one_job_or_fault.ensures.one_job c.texts_have_one_list_of_rows.ensures.rows
