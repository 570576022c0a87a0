-- What a block gives, copy by copy.
use Rattle.std.proofs.Common.{◌≡◌, ℕ, zero, suc, ◌+◌, ◌*◌, List, length, ◌∙◌, arith, length-append}
use Rattle.job_syntax.specs.Grammar.{BlockKind, seq_block, par_block, for_loop, pfor_loop}
use Rattle.job_syntax.specs.Blocks.{word_number, copies_of}
use Rattle.job_lang.specs.Meaning.{each_copy, in_block, in_block_from}

pub each_length : {X : Type 0} (n m : ℕ) (g : ℕ → List X) → ((k : ℕ) → length (g k) ≡ m) → length (each_copy n g) ≡ n * m
each_length zero m g h = omega arith
each_length (suc n) m g h = simp length-append (omega (arith, each_length n m g h, h n))

pub block_length : {X : Type 0} (kind : BlockKind) (c m : ℕ) (g : ℕ → List X) → ((k : ℕ) → length (g k) ≡ m) → length (in_block kind c g) ≡ copies_of kind * m
block_length seq_block c m g h = h c ∙ omega arith
block_length par_block c m g h = h c ∙ omega arith
block_length (for_loop n) c m g h = each_length (word_number n) m g h
block_length (pfor_loop n) c m g h = each_length (word_number n) m g h

pub block_length_from : {X : Type 0} (kind : BlockKind) (first m : ℕ) (g : ℕ → List X) → ((at : ℕ) → length (g at) ≡ m) → length (in_block_from kind first m g) ≡ copies_of kind * m
block_length_from seq_block first m g h = h first ∙ omega arith
block_length_from par_block first m g h = h first ∙ omega arith
block_length_from (for_loop n) first m g h = each_length (word_number n) m (λ k. g (first + k * m)) (λ k. h (first + k * m))
block_length_from (pfor_loop n) first m g h = each_length (word_number n) m (λ k. g (first + k * m)) (λ k. h (first + k * m))
