-- The words of the names of objects.
use Rattle.std.proofs.Common.{◌≡◌, ℕ, zero, suc, ◌-◌, ◌<◌, List, [], ◌∷◌, ◌++◌, true, sym, ap, ◌∙◌, arith, length, map, get_or, append_assoc, Result, Ok, Err, OnOk, if◌then◌else◌}
use Rattle.std.specs.Result.{is_ok}
use Rattle.std.proofs.Math.ListN.{get_or-map}
use Rattle.job_names.specs.declared.name.Name.{Name}
use Rattle.job_names.specs.Names.{AreSpelled, is_spelled, spelling}
use Rattle.seq_objects.specs.Words.{name_words}

-- behind a colon stands the spelling of the name at the place before the number
pub named_words : (names : List Name) (number : ℕ) (none : Name) → 0 < number → spelling none ≡ []
    → name_words (map (λ name. spelling name) names) number ≡ 58 ∷ spelling (get_or names (number - 1) none)
named_words names zero none above blank = absurd (omega (arith, above))
named_words names (suc number) none above blank =
    let place : number ≡ suc number - 1 = omega arith in
    ap (λ words. 58 ∷ words)
    (ap (λ d. get_or (map (λ name. spelling name) names) number d) (sym blank)
    ∙ get_or-map (λ name. spelling name) names number none
    ∙ ap (λ n. spelling (get_or names n none)) place)

-- a text behind which a colon was appended, and then a name
pub appended : {T E : Type 0} (r : Result T E) (before colon after name words : List ℕ) → colon ≡ before ++ 58 ∷ [] → words ≡ 58 ∷ name
    → after ≡ (if is_ok r then colon ++ name else colon) → OnOk r (after ≡ before ++ words)
appended (Ok x) before colon after name words behind is then' =
    then' ∙ ap (λ text. text ++ name) behind ∙ append_assoc before (58 ∷ []) name ∙ ap (λ text. before ++ text) (sym is)
appended (Err e) before colon after name words behind is then' = tt

pub spelled_at : (names : List Name) (place : ℕ) (none : Name) → place < length names → AreSpelled (map (λ name. spelling name) names)
    → is_spelled (spelling (get_or names place none)) ≡ true
spelled_at [] place none within spelled = absurd (omega (arith, within))
spelled_at (name ∷ names) zero none within spelled = spelled.0
spelled_at (name ∷ names) (suc place) none within spelled = spelled_at names place none (omega (arith, within)) spelled.1
