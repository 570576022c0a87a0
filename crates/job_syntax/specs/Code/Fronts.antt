-- The front of a text: tokens and comments there.
use Rattle.std.specs.Prelude.{ℕ, List, [], ◌∷◌, Bool, true, ◌&&◌, not, if◌then◌else◌}
use Rattle.std.specs.List.{prefix_len}
use Rattle.job_syntax.specs.Text.{is_line_feed, is_blank, is_brace, is_hash, is_in_chunk}

-- the text is empty, or its first byte is neither a blank nor a `#`
abbrev pub begins_token : List ℕ → Bool
begins_token [] = true
begins_token (byte ∷ text) = not (is_blank byte) && not (is_hash byte)

-- the length of the token at such a front
abbrev pub token_len : List ℕ → ℕ
token_len [] = 0
token_len (byte ∷ text) = if is_brace byte then 1 else prefix_len (λ byte. is_in_chunk byte) (byte ∷ text)

-- the text behind a comment that is open at its front: from the first line feed on, which ends the comment
abbrev pub behind_comment : List ℕ → List ℕ
behind_comment [] = []
behind_comment (byte ∷ text) = if is_line_feed byte then byte ∷ text else behind_comment text
