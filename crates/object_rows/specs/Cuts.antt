-- The pieces that the calls of each number are cut into.
use Rattle.std.specs.Prelude.{◌≡◌, ℕ, max, List, [], ◌∷◌, length}
use Rattle.seq_objects.specs.declared.call.Call.{Call}
use Rattle.seq_objects.specs.Objects.{Objects}
use Rattle.seq_objects.specs.Stores.{Store}
use Rattle.seq_objects.specs.Batches.{calls_at}
use Rattle.seq_objects.specs.Pieces.{AllMeet}
use Rattle.object_rows.specs.declared.members.Members.{Members}
use Rattle.object_rows.specs.Numbers.{numbers_of}

-- the length of the longest list; 0 without lists
abbrev pub longest : {X : Type 0} → List (List X) → ℕ
longest [] = 0
longest (list ∷ lists) = max (length list) (longest lists)

-- the pieces are those that a structure with the content of the number cuts the number's calls into
pub record IsCutOf {T In : Type 0} (content : T → Objects) (cut : T → List Call → List In → Type 0) (store : Store)
    (calls : List Call) (number : ℕ) (ins : List In) : Type 0 where
  pub before : T
  pub contains : content before ≡ store number
  pub pieces : cut before (calls_at number calls) ins

-- the calls of each number are cut into pieces, and there are as many places as the most pieces of a number
pub record AreCut {T In : Type 0} (content : T → Objects) (cut : T → List Call → List In → Type 0) (store : Store)
    (calls : List Call) (ins : List (Members In)) : Type 0 where
  pub lists : List (List In)
  pub each : AllMeet (IsCutOf content cut store calls) (numbers_of calls) lists
  pub count : length ins ≡ longest lists
