-- The words of a text are those of its parts, one after another, where parts end at line ends.
use Rattle.std.proofs.Common.{◌≡◌, ℕ, zero, suc, ◌+◌, ◌-◌, ◌<◌, ◌≤◌, Bool, true, false, List, [], ◌∷◌, ◌++◌, take, drop, length, get_or, sym, refl, ap, ◌∙◌, subst, inl, inr, append_assoc, append-nil, arith}
use Rattle.std.specs.Prelude.{if◌then◌else◌}
use Rattle.std.specs.List.{between, AllByRecursion}
use Rattle.std.proofs.lemmas.List.{drop-take, drop_more}
use Rattle.std.proofs.lemmas.List.Edits.{between_none, between_more}
use Rattle.word_counts.specs.Words.{is_white_space, ended, words_behind, words_of}
use Rattle.word_counts.specs.Parts.{IsLineEnd}
use Rattle.word_counts.specs.declared.parts.Part.{Part}
use Rattle.word_counts.specs.Parts.{AreParts}

take_all : {X : Type 0} (l : List X) → take (length l) l ≡ l
take_all [] = refl
take_all (x ∷ l) = ap (λ m. x ∷ m) (take_all l)

pub drop_all : {X : Type 0} (l : List X) → drop (length l) l ≡ []
drop_all [] = refl
drop_all (x ∷ l) = drop_all l

pub at_space : (run : List ℕ) (b : ℕ) (text : List ℕ) → is_white_space b ≡ true → words_behind run (b ∷ text) ≡ ended run ++ words_of text
at_space run b text is = ap (λ (s : Bool). if s then ended run ++ words_behind [] text else words_behind (run ++ b ∷ []) text) is

pub at_letter : (run : List ℕ) (b : ℕ) (text : List ℕ) → is_white_space b ≡ false → words_behind run (b ∷ text) ≡ words_behind (run ++ b ∷ []) text
at_letter run b text is = ap (λ (s : Bool). if s then ended run ++ words_behind [] text else words_behind (run ++ b ∷ []) text) is

-- white space parts the words
pub parted : (run front : List ℕ) (byte : ℕ) (rest : List ℕ) → is_white_space byte ≡ true → words_behind run (front ++ byte ∷ rest) ≡ words_behind run front ++ words_of rest
parted run [] byte rest space = at_space run byte rest space
parted run (b ∷ front) byte rest space = step (is_white_space b) refl (λ (r : List ℕ). parted r front byte rest space)
  where
    step : (s : Bool) → is_white_space b ≡ s → ((r : List ℕ) → words_behind r (front ++ byte ∷ rest) ≡ words_behind r front ++ words_of rest)
        → words_behind run (b ∷ (front ++ byte ∷ rest)) ≡ words_behind run (b ∷ front) ++ words_of rest
    step true here more =
        at_space run b (front ++ byte ∷ rest) here ∙ (ap (λ l. ended run ++ l) (more []) ∙ (sym (append_assoc (ended run) (words_of front) (words_of rest))
        ∙ ap (λ l. l ++ words_of rest) (sym (at_space run b front here))))
    step false here more =
        at_letter run b (front ++ byte ∷ rest) here ∙ (more (run ++ b ∷ []) ∙ ap (λ l. l ++ words_of rest) (sym (at_letter run b front here)))

-- bytes without white space belong to one word
pub one_word : (run bytes : List ℕ) → AllByRecursion (λ b. is_white_space b ≡ false) bytes → words_behind run bytes ≡ ended (run ++ bytes)
one_word run [] all = ap ended (sym (append-nil run))
one_word run (b ∷ bytes) all = at_letter run b bytes all.0 ∙ (one_word (run ++ b ∷ []) bytes all.1 ∙ ap ended (append_assoc run (b ∷ []) bytes))

-- behind a line feed the words begin anew
behind_line_feed : (run text : List ℕ) (n : ℕ) → n < length text → get_or text n 0 ≡ 10 → words_behind run text ≡ words_behind run (take (suc n) text) ++ words_of (drop (suc n) text)
behind_line_feed run [] n less is = absurd (omega (arith, less))
behind_line_feed run (b ∷ text) zero less is =
    let space : is_white_space b ≡ true = ap is_white_space is in
    at_space run b text space ∙ (ap (λ l. l ++ words_of text) (sym (append-nil (ended run))) ∙ ap (λ l. l ++ words_of text) (sym (at_space run b [] space)))
behind_line_feed run (b ∷ text) (suc n) less is = step (is_white_space b) refl (λ (r : List ℕ). behind_line_feed r text n (omega (arith, less)) is)
  where
    step : (s : Bool) → is_white_space b ≡ s → ((r : List ℕ) → words_behind r text ≡ words_behind r (take (suc n) text) ++ words_of (drop (suc n) text))
        → words_behind run (b ∷ text) ≡ words_behind run (b ∷ take (suc n) text) ++ words_of (drop (suc n) text)
    step true space rest =
        at_space run b text space ∙ (ap (λ l. ended run ++ l) (rest [])
        ∙ (sym (append_assoc (ended run) (words_of (take (suc n) text)) (words_of (drop (suc n) text)))
        ∙ ap (λ l. l ++ words_of (drop (suc n) text)) (sym (at_space run b (take (suc n) text) space))))
    step false letter rest =
        at_letter run b text letter ∙ (rest (run ++ b ∷ [])
        ∙ ap (λ l. l ++ words_of (drop (suc n) text)) (sym (at_letter run b (take (suc n) text) letter)))

-- a text that is cut at a line end
cut : (text : List ℕ) (a t : ℕ) → a ≤ t → t ≤ length text → IsLineEnd text t → words_of (drop a text) ≡ words_of (drop a (take t text)) ++ words_of (drop t text)
cut text zero zero rise within ends = refl
cut text zero (suc t) rise within (inl none) = absurd (omega (arith, none))
cut text zero (suc t) rise within (inr (inl whole)) =
    sym (ap (λ (n : ℕ). words_of (take n text) ++ words_of (drop n text)) whole
    ∙ (ap (λ l. words_of l ++ words_of (drop (length text) text)) (take_all text) ∙ (ap (λ l. words_of text ++ words_of l) (drop_all text) ∙ append-nil (words_of text))))
cut text zero (suc t) rise within (inr (inr feed)) = behind_line_feed [] text t (omega (arith, within)) (let same : suc t - 1 ≡ t = omega arith in subst (λ (n : ℕ). get_or text n 0 ≡ 10) same feed)
cut [] (suc a) t rise within ends = absurd (omega (arith, rise, within))
cut (b ∷ text) (suc a) zero rise within ends = absurd (omega (arith, rise))
cut (b ∷ text) (suc a) (suc t) rise within ends = cut text a t (omega (arith, rise)) (omega (arith, within)) (less_one t ends)
  where
    less_one : (t : ℕ) → IsLineEnd (b ∷ text) (suc t) → IsLineEnd text t
    less_one t (inl none) = absurd (omega (arith, none))
    less_one t (inr (inl whole)) = inr (inl (omega (arith, whole)))
    less_one zero (inr (inr feed)) = inl refl
    less_one (suc t) (inr (inr feed)) =
        let here : suc (suc t) - 1 ≡ suc t = omega arith in
        let there : t ≡ suc t - 1 = omega arith in
        inr (inr (subst (λ (n : ℕ). get_or text n 0 ≡ 10) there (subst (λ (n : ℕ). get_or (b ∷ text) n 0 ≡ 10) here feed)))

pub words_cut : (text : List ℕ) (a t : ℕ) → a ≤ t → t ≤ length text → IsLineEnd text t → words_of (drop a text) ≡ words_of (between a t text) ++ words_of (drop t text)
words_cut text a t rise within ends =
    let end : a + (t - a) ≡ t = omega (arith, rise) in
    cut text a t rise within ends ∙ ap (λ l. words_of l ++ words_of (drop t text)) (ap (λ (n : ℕ). drop a (take n text)) (sym end) ∙ drop-take a (t - a) text)

-- a space ends the run, which is called
pub space_step : (text : List ℕ) (start i : ℕ) (before now all : List (List ℕ)) → i < length text → is_white_space (get_or text i 0) ≡ true → now ≡ before ++ ended (between start i text)
    → before ++ words_behind (between start i text) (drop i text) ≡ all → now ++ words_behind (between (i + 1) (i + 1) text) (drop (i + 1) text) ≡ all
space_step text start i before now all less space called is =
    let run : List ℕ = between start i text in
    let rest : List ℕ = drop (i + 1) text in
    ap (λ l. l ++ words_behind (between (i + 1) (i + 1) text) rest) called
    ∙ (ap (λ r. (before ++ ended run) ++ words_behind r rest) (between_none text (i + 1))
    ∙ (append_assoc before (ended run) (words_of rest)
    ∙ (ap (λ l. before ++ l) (sym (at_space run (get_or text i 0) rest space))
    ∙ (ap (λ l. before ++ words_behind run l) (sym (drop_more text i 0 less)) ∙ is))))

-- another byte belongs to the run
pub letter_step : (text : List ℕ) (start i : ℕ) (before all : List (List ℕ)) → start ≤ i → i < length text → is_white_space (get_or text i 0) ≡ false
    → before ++ words_behind (between start i text) (drop i text) ≡ all → before ++ words_behind (between start (i + 1) text) (drop (i + 1) text) ≡ all
letter_step text start i before all within less letter is =
    let run : List ℕ = between start i text in
    let rest : List ℕ = drop (i + 1) text in
    ap (λ r. before ++ words_behind r rest) (between_more text start i 0 within less)
    ∙ (ap (λ l. before ++ l) (sym (at_letter run (get_or text i 0) rest letter))
    ∙ (ap (λ l. before ++ words_behind run l) (sym (drop_more text i 0 less)) ∙ is))

-- one part more
pub parts_more : {C : Type 0} (f : Part → C) (text : List ℕ) (a b : ℕ) (parts : List Part) (cs : List C) (part : Part) → AreParts f text a b parts cs → part.from ≡ b → b ≤ part.to → IsLineEnd text part.to
    → AreParts f text a part.to (parts ++ part ∷ []) (cs ++ f part ∷ [])
parts_more f text a b [] [] part are from to ends = (from ∙ sym are, (let from' = are in omega (arith, from', to)), ends, refl, refl)
parts_more f text a b [] (c ∷ cs) part are from to ends = absurd are
parts_more f text a b (p ∷ parts) [] part are from to ends = absurd are
parts_more f text a b (p ∷ parts) (c ∷ cs) part are from to ends = (are.0, are.1, are.2, are.3, parts_more f text p.to b parts cs part are.4 from to ends)

pub parts_rise : {C : Type 0} (f : Part → C) (text : List ℕ) (a b : ℕ) (parts : List Part) (cs : List C) → AreParts f text a b parts cs → a ≤ b
parts_rise f text a b [] [] are = let e = are in omega (arith, e)
parts_rise f text a b [] (c ∷ cs) are = absurd are
parts_rise f text a b (p ∷ parts) [] are = absurd are
parts_rise f text a b (p ∷ parts) (c ∷ cs) are = let first = are.1 in let rest = parts_rise f text p.to b parts cs are.4 in omega (arith, first, rest)

pub parts_long : {C : Type 0} (f : Part → C) (text : List ℕ) (a b : ℕ) (parts : List Part) (cs : List C) → AreParts f text a b parts cs → length parts ≡ length cs
parts_long f text a b [] [] are = refl
parts_long f text a b [] (c ∷ cs) are = absurd are
parts_long f text a b (p ∷ parts) [] are = absurd are
parts_long f text a b (p ∷ parts) (c ∷ cs) are = ap suc (parts_long f text p.to b parts cs are.4)

-- the part at a place has the caller at this place
pub part_at : {C : Type 0} (f : Part → C) (text : List ℕ) (a b : ℕ) (parts : List Part) (cs : List C) → AreParts f text a b parts cs → (i : ℕ) (p : Part) → i < length parts → p ≡ get_or parts i p
    → (f p ≡ get_or cs i (f p)) × (p.from ≤ p.to) × (p.to ≤ b)
part_at f text a b [] cs are i p less is = absurd (omega (arith, less))
part_at f text a b (x ∷ parts) [] are i p less is = absurd are
part_at f text a b (x ∷ parts) (c ∷ cs) are zero p less is =
    let from = are.0 in
    let first = are.1 in
    let rest = parts_rise f text x.to b parts cs are.4 in
    let p_from = ap (λ (y : Part). y.from) is in
    let p_to = ap (λ (y : Part). y.to) is in
    (ap f is ∙ are.3, omega (arith, from, first, p_from, p_to), omega (arith, rest, p_to))
part_at f text a b (x ∷ parts) (c ∷ cs) are (suc i) p less is = part_at f text x.to b parts cs are.4 i p (omega (arith, less)) is
