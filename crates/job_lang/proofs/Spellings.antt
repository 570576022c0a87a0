-- Texts that are spelled as names: their names spell them, and no two have one name.
use Rattle.std.proofs.Common.{◌≡◌, ℕ, List, true, sym, ap, ◌∙◌}
use Rattle.job_names.specs.Names.{is_spelled, name_of}
use Rattle.job_lang.specs.Code.Numbered.{IsSpelledName}
use Rattle.job_names.proofs.Spellings.{spelling_back}

-- a name of a spelled text
pub spelled_name : (text : List ℕ) → is_spelled text ≡ true → IsSpelledName (name_of text)
spelled_name text h = record {
  spelled = ap is_spelled (spelling_back text) ∙ h;
  made = ap name_of (sym (spelling_back text));
}
