use Rattle.std.proofs.Common.{sym, subst}
use Rattle.std.specs.Str.{IsUtf8}
use Rattle.job_names.specs.Names.{spelling}
use Rattle.job_names.proofs.Spellings.{spelled_is_text}
use Rattle.job_names.proofs.name.Name.as_str.Goals as goal

pub returns-in-Err : goal.returns-in-Err
returns-in-Err c =
    absurd (c.in-Err.ensures.cases.0 (subst IsUtf8 (sym c.bytes.ensures) (spelled_is_text (spelling c.args.self.now) c.requires)))
