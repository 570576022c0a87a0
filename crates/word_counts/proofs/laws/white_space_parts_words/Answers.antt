use Rattle.std.proofs.Common.{[], ◌∷◌}
use Rattle.word_counts.proofs.Cuts.{parted, one_word}
use Rattle.word_counts.proofs.laws.white_space_parts_words.Goals as goal

pub returns-clause-parts : goal.returns-clause-parts
returns-clause-parts c front byte rest space = parted [] front byte rest space

pub returns-clause-one : goal.returns-clause-one
returns-clause-one c byte bytes all = one_word [] (byte ∷ bytes) all
