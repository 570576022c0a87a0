-- Maps that multiply and add modulo 2^32, applied a number of times.
use Rattle.std.specs.Prelude.{ℕ, zero, suc, ◌+◌, ◌*◌, ◌%◌, ◌^◌}

-- the number, multiplied by the factor and with the addend added, modulo 2^32
abbrev pub mapped : ℕ → ℕ → ℕ → ℕ
mapped factor addend x = (factor * x + addend) % 2 ^ 32

-- the number after this many applications of a map
abbrev pub times : ℕ → ℕ → ℕ → ℕ → ℕ
times factor addend zero x = x
times factor addend (suc count) x = times factor addend count (mapped factor addend x)
