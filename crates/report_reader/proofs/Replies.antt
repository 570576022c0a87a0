-- How a text tells replies apart.
use Rattle.std.proofs.Common.{◌≡◌, ℕ, ◌<◌, ◌^◌, true, false, List, ◌++◌, get_or, refl, sym, ap, ◌∙◌, codes, arith}
use Rattle.std.specs.Prelude.{◌==◌, if◌then◌else◌}
use Rattle.std.specs.Char.{is_ascii_digit}
use Rattle.std.specs.Fmt.{decimal}
use Rattle.std.proofs.lemmas.Fmt.{decimal_injective}
use Rattle.std.proofs.lemmas.List.{append_cancel_left}
use Rattle.decimals.specs.Texts.{IsDecimalThen}
use Rattle.seq_objects.specs.Objects.{value_of}
use Rattle.seq_objects.specs.Words.{reply_words}
use Rattle.seq_objects.specs.declared.reply.Reply.{Reply}
use Rattle.seq_objects.specs.declared.reply.Reply.TheVariants.{Number, Unit as Done, Empty, Yes, No}
use Rattle.report_reader.specs.Code.Replies.{IsWord, IsReplyThen}
use Rattle.report_reader.proofs.Digits.{decimal_begins}
use Rattle.report_reader.proofs.Fields.{big, apart}
use Rattle.decimals.proofs.Decimals.{one_way}

-- the word that begins with this byte
word_with : ℕ → Reply
word_with byte = if byte == 111 then Done else if byte == 101 then Empty else if byte == 121 then Yes else No

word_told : (reply : Reply) (rest : List ℕ) → IsWord reply → word_with (get_or (reply_words reply ++ rest) 0 0) ≡ reply
unfolding word_with
word_told (Number number) rest word = absurd word
word_told Done rest word = refl
word_told Empty rest word = refl
word_told Yes rest word = refl
word_told No rest word = refl

-- two words at the front of one text are one, with one rest
word_way : (reply reply' : Reply) (r s : List ℕ) → IsWord reply → IsWord reply' → reply_words reply ++ r ≡ reply_words reply' ++ s → (reply ≡ reply') × (r ≡ s)
word_way reply reply' r s word word' is =
    let same : reply ≡ reply' = sym (word_told reply r word) ∙ ap (λ (text : List ℕ). word_with (get_or text 0 0)) is ∙ word_told reply' s word' in
    (same, append_cancel_left (reply_words reply) r s (is ∙ ap (λ w. reply_words w ++ s) (sym same)))

word_begins : (reply : Reply) (rest : List ℕ) → IsWord reply → is_ascii_digit (get_or (reply_words reply ++ rest) 0 0) ≡ false
word_begins (Number number) rest word = absurd word
word_begins Done rest word = refl
word_begins Empty rest word = refl
word_begins Yes rest word = refl
word_begins No rest word = refl

-- a word is no number
word_or_number : (reply : Reply) (n : ℕ) (r s : List ℕ) → IsWord reply → reply_words reply ++ r ≡ decimal n ++ s → ⊥
word_or_number reply n r s word is =
    let begins : is_ascii_digit (get_or (reply_words reply ++ r) 0 0) ≡ is_ascii_digit (get_or (decimal n ++ s) 0 0) = ap (λ (text : List ℕ). is_ascii_digit (get_or text 0 0)) is in
    let wrong : false ≡ true = sym (word_begins reply r word) ∙ begins ∙ decimal_begins n s in
    cc (wrong)

reply_way : (reply reply' : Reply) (r s : List ℕ) → value_of reply < 2 ^ 64 → value_of reply' < 2 ^ 64
    → reply_words reply ++ (codes "\n" ++ r) ≡ reply_words reply' ++ (codes "\n" ++ s) → (reply ≡ reply') × (codes "\n" ++ r ≡ codes "\n" ++ s)
reply_way (Number m) (Number n) r s a b is =
    let parts = apart m n (codes "\n" ++ r) (codes "\n" ++ s) refl refl is in
    (ap Number (decimal_injective m n a b parts.0), parts.1)
reply_way (Number m) Done r s a b is = absurd (word_or_number Done m (codes "\n" ++ s) (codes "\n" ++ r) tt (sym is))
reply_way (Number m) Empty r s a b is = absurd (word_or_number Empty m (codes "\n" ++ s) (codes "\n" ++ r) tt (sym is))
reply_way (Number m) Yes r s a b is = absurd (word_or_number Yes m (codes "\n" ++ s) (codes "\n" ++ r) tt (sym is))
reply_way (Number m) No r s a b is = absurd (word_or_number No m (codes "\n" ++ s) (codes "\n" ++ r) tt (sym is))
reply_way Done (Number n) r s a b is = absurd (word_or_number Done n (codes "\n" ++ r) (codes "\n" ++ s) tt is)
reply_way Empty (Number n) r s a b is = absurd (word_or_number Empty n (codes "\n" ++ r) (codes "\n" ++ s) tt is)
reply_way Yes (Number n) r s a b is = absurd (word_or_number Yes n (codes "\n" ++ r) (codes "\n" ++ s) tt is)
reply_way No (Number n) r s a b is = absurd (word_or_number No n (codes "\n" ++ r) (codes "\n" ++ s) tt is)
reply_way reply reply' r s a b is = word_way reply reply' (codes "\n" ++ r) (codes "\n" ++ s) tt tt is

-- two replies at the front of one text are one, with one rest
pub one_reply : (text : List ℕ) (reply reply' : Reply) (rest rest' : List ℕ) → IsReplyThen text reply rest → IsReplyThen text reply' rest' → (reply ≡ reply') × (rest ≡ rest')
one_reply text reply reply' rest rest' a b =
    let way = reply_way reply reply' rest rest' a.fits b.fits (a.written ∙ sym b.written) in
    (way.0, append_cancel_left (codes "\n") rest rest' way.1)

-- behind a number that was read stands a line feed, where there is a reply
pub no_end : (text : List ℕ) (n : ℕ) (t1 : List ℕ) → IsDecimalThen 18446744073709551615 text n t1 → ((rest : List ℕ) → codes "\n" ++ rest ≡ t1 → ⊥) → (reply : Reply) (rest : List ℕ) → IsReplyThen text reply rest → ⊥
no_end text n t1 read none (Number m) rest is =
    none rest (one_way 18446744073709551615 text m n (codes "\n" ++ rest) t1 big (record { written = is.written; ends = refl; within = omega (arith, is.fits) }) read).1
no_end text n t1 read none Done rest is = word_or_number Done n (codes "\n" ++ rest) t1 tt (is.written ∙ sym read.written)
no_end text n t1 read none Empty rest is = word_or_number Empty n (codes "\n" ++ rest) t1 tt (is.written ∙ sym read.written)
no_end text n t1 read none Yes rest is = word_or_number Yes n (codes "\n" ++ rest) t1 tt (is.written ∙ sym read.written)
no_end text n t1 read none No rest is = word_or_number No n (codes "\n" ++ rest) t1 tt (is.written ∙ sym read.written)
