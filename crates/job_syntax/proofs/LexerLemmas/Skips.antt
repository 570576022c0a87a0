-- Skipping blanks and comments at the front keeps the tokens.
use Rattle.std.proofs.Common.{◌≡◌, ◌≢◌, ℕ, ◌-◌, ◌≤◌, [], ◌∷◌, List, length, get_or, take, drop, Bool, true, false, refl, ◌∙◌, arith, eqb-true}
use Rattle.std.proofs.lemmas.Bool.{ne_eqb}
use Rattle.std.proofs.Math.Seq.{take-length}
use Rattle.std.specs.Prelude.{IsTrue, ◌==◌}
use Rattle.job_syntax.specs.Text.{tokens_from, forbidden_line_from, bare}
use Rattle.job_syntax.specs.Code.Fronts.{begins_token, behind_comment}

-- the rest of a slice, as the pattern's length gives it
rest_is : (byte : ℕ) (text : List ℕ) → take (length (byte ∷ text) - 1) text ≡ text
rest_is byte text = let same : length (byte ∷ text) - 1 ≡ length text = omega arith in rw same (take-length text)

-- a reading that skips a space skips a comment

comment_step : {A : Type 0} (read : List ℕ → A) → ((text : List ℕ) → read (32 ∷ text) ≡ read text) → (byte : ℕ) (text : List ℕ) (feed : Bool) → read (bare true text) ≡ read (bare false (behind_comment text)) → (byte == 10) ≡ feed
    → read (bare true (byte ∷ text)) ≡ read (bare false (behind_comment (byte ∷ text)))
comment_step read blank byte text true again is = rw (eqb-true byte 10 is) refl
comment_step read blank byte text false again is = rw is (blank (bare true text) ∙ again)

comment_passed : {A : Type 0} (read : List ℕ → A) → ((text : List ℕ) → read (32 ∷ text) ≡ read text) → (text : List ℕ) → read (bare true text) ≡ read (bare false (behind_comment text))
comment_passed read blank [] = refl
comment_passed read blank (byte ∷ text) = comment_step read blank byte text (byte == 10) (comment_passed read blank text) refl

pub hash_is_allowed : (line : ℕ) (text : List ℕ) → 1 ≤ length text → get_or text 0 0 ≡ 35 → forbidden_line_from line (bare false text) ≡ forbidden_line_from line (bare false (behind_comment (take (length text - 1) (drop 1 text))))
hash_is_allowed line [] some hash = absurd (omega (arith, some))
hash_is_allowed line (byte ∷ text) some hash = rw (hash, rest_is byte text) (comment_passed (forbidden_line_from line) (λ _. refl) text)

pub pass_hash : (line : ℕ) (text : List ℕ) → 1 ≤ length text → get_or text 0 0 ≡ 35 → tokens_from line (bare false text) ≡ tokens_from line (bare false (behind_comment (take (length text - 1) (drop 1 text))))
pass_hash line [] some hash = absurd (omega (arith, some))
pass_hash line (byte ∷ text) some hash = rw (hash, rest_is byte text) (comment_passed (tokens_from line) (λ _. refl) text)

pub pass_space : (line : ℕ) (text : List ℕ) → tokens_from line (bare false (32 ∷ text)) ≡ tokens_from line (bare false text)
pass_space line text = refl

pub pass_tab : (line : ℕ) (text : List ℕ) → tokens_from line (bare false (9 ∷ text)) ≡ tokens_from line (bare false text)
pass_tab line text = refl

pub pass_return : (line : ℕ) (text : List ℕ) → tokens_from line (bare false (13 ∷ text)) ≡ tokens_from line (bare false text)
pass_return line text = refl

pub begins_when : (byte : ℕ) (text : List ℕ) → byte ≢ 10 → byte ≢ 35 → byte ≢ 32 → byte ≢ 9 → byte ≢ 13 → IsTrue (begins_token (byte ∷ text))
begins_when byte text feed hash space tab return = rw (ne_eqb byte 9 tab, ne_eqb byte 10 feed, ne_eqb byte 13 return, ne_eqb byte 32 space, ne_eqb byte 35 hash) refl

pub ruleset passes = (pass_hash, pass_space, pass_tab, pass_return, begins_when)
