-- Replies at the front of a text.
use Rattle.std.specs.Prelude.{◌≡◌, ℕ, ◌<◌, ◌^◌, List, ◌++◌, codes, ⊤}
use Rattle.seq_objects.specs.Objects.{value_of}
use Rattle.seq_objects.specs.Words.{reply_words}
use Rattle.seq_objects.specs.declared.reply.Reply.{Reply}
use Rattle.seq_objects.specs.declared.reply.Reply.TheVariants.{Number}

-- the reply is written as a word, not as a number
abbrev pub IsWord : Reply → Type 0
IsWord (Number number) = ⊥
IsWord _ = ⊤

-- the text is the word of the reply, and then the rest
pub record IsWordThen (text : List ℕ) (reply : Reply) (rest : List ℕ) : Type 0 where
  pub written : reply_words reply ++ rest ≡ text
  pub word : IsWord reply

-- the text is the words of the reply, a line feed, and then the rest
pub record IsReplyThen (text : List ℕ) (reply : Reply) (rest : List ℕ) : Type 0 where
  pub written : reply_words reply ++ (codes "\n" ++ rest) ≡ text
  pub fits : value_of reply < 2 ^ 64
