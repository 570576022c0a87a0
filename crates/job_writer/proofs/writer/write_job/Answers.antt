use Rattle.std.proofs.Common.{rules, ◌≡◌, ◌<◌, length, sym, subst}
use Rattle.job_lang.specs.Language.{IsJobOf}
use Rattle.job_writer.specs.Canonical.{canonical_text}
use Rattle.job_writer.proofs.WriterLemmas.Jobs.{canonical_is_job, canonical_is_short, plain_is_short}
use Rattle.job_writer.proofs.writer.write_job.Goals as goal

pub returns-clause-short : goal.returns-clause-short
returns-clause-short c = λ nameless.
    (let text : c.into_bytes.result.items ≡ canonical_text c.args.job.now = search rules in
    subst (λ t. length t < 1000000) (sym text) (canonical_is_short c.args.job.now c.in_ok-push_job.ensures.job c.in_ok-push_job.ensures.small nameless))

pub returns-clause-plain : goal.returns-clause-plain
returns-clause-plain c = λ nameless none.
    (let text : c.into_bytes.result.items ≡ canonical_text c.args.job.now = search rules in
    subst (λ t. length t < 700000) (sym text) (plain_is_short c.args.job.now c.in_ok-push_job.ensures.job c.in_ok-push_job.ensures.small nameless none))

pub returns-clause-reads_back : goal.returns-clause-reads_back
returns-clause-reads_back c =
    let text : c.into_bytes.result.items ≡ canonical_text c.args.job.now = search rules in
    subst (λ t. IsJobOf t c.args.job.now) (sym text) (canonical_is_job c.args.job.now c.in_ok-push_job.ensures.job c.requires.replies c.requires.depth c.in_ok-push_job.ensures.small)
