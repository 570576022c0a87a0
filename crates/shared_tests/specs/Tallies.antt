-- The serial objects of the tests: a tally adds up numbers, and answers each with its square; an echo answers each with
-- itself.
use Rattle.std.specs.Prelude.{ℕ, ◌+◌, ◌*◌, ◌%◌, ◌^◌}
use Rattle.shared_calls.specs.Serial.{SerialObject}

abbrev pub tally : SerialObject ℕ ℕ
tally = record {
  State = ℕ;
  opening = 0;
  after = λ sum number. (sum + number) % 2 ^ 64;
  reply = λ sum number. number * number;
}

abbrev pub echo : SerialObject ℕ ℕ
echo = record {
  State = ℕ;
  opening = 0;
  after = λ state number. state;
  reply = λ state number. number;
}
