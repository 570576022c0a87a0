-- A tally's replies are the squares of its numbers, and an echo's are its numbers.
use Rattle.std.proofs.Common.{◌≡◌, ℕ, ◌*◌, ◌∷◌, [], List, map, refl, ap, ◌∙◌}
use Rattle.shared_calls.specs.Serial.{replies_to_all, after_all, IsServedInSomeOrder}
use Rattle.shared_calls.proofs.InOrder.{in_order}
use Rattle.shared_pieces.specs.Batches.{AllMeet}
use Rattle.shared_tests.specs.Tallies.{tally, echo}

abbrev pub square : ℕ → ℕ
square number = number * number

squares : (sum : ℕ) (numbers : List ℕ) → map square numbers ≡ replies_to_all tally sum numbers
squares sum [] = refl
squares sum (n ∷ numbers) = ap (λ l. square n ∷ l) (squares (tally.after sum n) numbers)

met_squares : (numbers outs : List ℕ) → AllMeet (λ number out. out ≡ number * number) numbers outs → outs ≡ map square numbers
met_squares [] [] met = refl
met_squares [] (o ∷ outs) met = absurd met
met_squares (n ∷ numbers) [] met = absurd met
met_squares (n ∷ numbers) (o ∷ outs) met = ap (λ x. x ∷ outs) met.0 ∙ ap (λ l. square n ∷ l) (met_squares numbers outs met.1)

-- squares of the numbers, and the sum after them, are a service in their order
pub squares_serve : (before after : ℕ) (numbers replies : List ℕ) → replies ≡ map square numbers → after ≡ after_all tally before numbers
    → IsServedInSomeOrder tally before numbers replies after
squares_serve before after numbers replies are is = in_order tally before after numbers replies (are ∙ squares before numbers) is

pub pieces_serve : (before after : ℕ) (numbers ins outs : List ℕ) → after ≡ after_all tally before numbers → ins ≡ numbers
    → AllMeet (λ number out. out ≡ number * number) ins outs → IsServedInSomeOrder tally before numbers outs after
pieces_serve before after numbers ins outs is same met = squares_serve before after numbers outs (met_squares ins outs met ∙ ap (map square) same) is

echoes : (numbers : List ℕ) → numbers ≡ replies_to_all echo 0 numbers
echoes [] = refl
echoes (n ∷ numbers) = ap (λ l. n ∷ l) (echoes numbers)

stays : (numbers : List ℕ) → 0 ≡ after_all echo 0 numbers
stays [] = refl
stays (n ∷ numbers) = stays numbers

pub echoes_serve : (numbers replies : List ℕ) → replies ≡ numbers → IsServedInSomeOrder echo 0 numbers replies 0
echoes_serve numbers replies same = in_order echo 0 0 numbers replies (same ∙ echoes numbers) (stays numbers)
