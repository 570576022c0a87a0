-- The serial object of a counter of 64 bits.
use Rattle.std.specs.Prelude.{ℕ, ◌+◌, ◌%◌, ◌^◌}
use Rattle.shared_calls.specs.Serial.{SerialObject}

-- an operation adds to the number, modulo 2^64, and its reply is the new number
abbrev pub counter : SerialObject ℕ ℕ
counter = record {
  State = ℕ;
  opening = 0;
  after = λ number addend. (number + addend) % 2 ^ 64;
  reply = λ number addend. (number + addend) % 2 ^ 64;
}
