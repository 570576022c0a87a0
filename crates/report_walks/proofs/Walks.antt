-- Walks over a list that stop at the first element that fails: what is left has a fact exactly where the list has it.
use Rattle.std.proofs.Common.{◌≡◌, ℕ, ◌+◌, ◌<◌, ◌≤◌, true, false, IsTrue, List, [], ◌∷◌, ◌++◌, length, get_or, drop, refl, sym, subst, ◌∙◌}
use Rattle.std.specs.Prelude.{◌↔◌}
use Rattle.std.specs.List.{AllByRecursion}
use Rattle.std.proofs.lemmas.List.{drop_more, drop_all}
use Rattle.seq_objects.proofs.Elements.{each_append, each_front}
use Rattle.batch_history.specs.Book.{flat}
use Rattle.batch_history.specs.declared.batch.Entry.{Entry}
use Rattle.batch_history.specs.declared.row.Row.{Row}
use Rattle.seq_objects.specs.declared.op.Op.TheVariants.{CounterAdd}
use Rattle.seq_objects.specs.declared.reply.Reply.TheVariants as reply
use Rattle.batch_history.proofs.BookLemmas.Books.{each_in_batch}

-- the answer true for what holds, and false for what does not
pub holds : (P : Type 0) → P → (IsTrue true ↔ P)
holds P p = (λ _. p, λ _. refl)

pub fails : (P : Type 0) → (P → ⊥) → (IsTrue false ↔ P)
fails P never = (λ is. absurd (let wrong : false ≡ true = is in cc (wrong)), λ p. absurd (never p))

pub denied : (P : Type 0) → (P → IsTrue false) → (IsTrue false ↔ P)
denied P wrong = (λ is. absurd (let wrong' : false ≡ true = is in cc (wrong')), wrong)

-- what is left of a list, with its first element, and back
pub opened : {X : Type 0} (F : List X → Type 0) (xs : List X) (i : ℕ) (d : X) → i < length xs → F (drop i xs) → F (get_or xs i d ∷ drop (i + 1) xs)
opened F xs i d low f = subst F (drop_more xs i d low) f

pub closed : {X : Type 0} (F : List X → Type 0) (xs : List X) (i : ℕ) (d : X) → i < length xs → F (get_or xs i d ∷ drop (i + 1) xs) → F (drop i xs)
closed F xs i d low f = subst F (sym (drop_more xs i d low)) f

pub ended : {X : Type 0} (F : List X → Type 0) (xs : List X) (i : ℕ) → length xs ≤ i → F (drop i xs) → F []
ended F xs i far f = subst F (drop_all i xs far) f

pub begun : {X : Type 0} (F : List X → Type 0) (xs : List X) (i : ℕ) → length xs ≤ i → F [] → F (drop i xs)
begun F xs i far f = subst F (sym (drop_all i xs far)) f

-- a walk that looks at each element
module _ {X : Type 0} (P : X → Type 0) (xs : List X) (i : ℕ) (d : X) (left : AllByRecursion P (drop i xs) ↔ AllByRecursion P xs) where
  pub each_more : i < length xs → P (get_or xs i d) → (AllByRecursion P (drop (i + 1) xs) ↔ AllByRecursion P xs)
  each_more low here = (
    λ rest. left.0 (closed (AllByRecursion P) xs i d low (here, rest)),
    λ all. (opened (AllByRecursion P) xs i d low (left.1 all)).1,
  )

  pub each_not : i < length xs → (P (get_or xs i d) → ⊥) → AllByRecursion P xs → ⊥
  each_not low never all = never (opened (AllByRecursion P) xs i d low (left.1 all)).0

  pub each_done : length xs ≤ i → AllByRecursion P xs
  each_done far = left.0 (begun (AllByRecursion P) xs i far tt)

-- a walk that looks at each batch, where `entries` are those of the batch at hand
module _ (book : List (List Entry)) (i : ℕ) (item entries : List Entry) (low : i < length book) (is : item ≡ get_or book i item) (same : entries ≡ item) where
  -- the entries that are left, with those of the batch at hand, and back
  pub flat_opened : (F : List Entry → Type 0) → F (flat (drop i book)) → F (entries ++ flat (drop (i + 1) book))
  flat_opened F f = subst (λ (es : List Entry). F (es ++ flat (drop (i + 1) book))) (sym (same ∙ is)) (opened (λ b. F (flat b)) book i item low f)

  pub flat_closed : (F : List Entry → Type 0) → F (entries ++ flat (drop (i + 1) book)) → F (flat (drop i book))
  flat_closed F f = closed (λ b. F (flat b)) book i item low (subst (λ (es : List Entry). F (es ++ flat (drop (i + 1) book))) (same ∙ is) f)

  pub batch_each : (P : Entry → Type 0) → AllByRecursion P (flat book) → AllByRecursion P entries
  batch_each P all = subst (AllByRecursion P) (sym (same ∙ is)) (each_in_batch P book i item low all)

  module _ (P : Entry → Type 0) (left : AllByRecursion P (flat (drop i book)) ↔ AllByRecursion P (flat book)) where
    pub batch_more : AllByRecursion P entries → (AllByRecursion P (flat (drop (i + 1) book)) ↔ AllByRecursion P (flat book))
    batch_more here = (
      λ rest. left.0 (flat_closed (AllByRecursion P) (each_append P entries (flat (drop (i + 1) book)) here rest)),
      λ all. (each_front P entries (flat (drop (i + 1) book)) (flat_opened (AllByRecursion P) (left.1 all))).1,
    )

pub batch_done : (P : Entry → Type 0) (book : List (List Entry)) (i : ℕ) → (AllByRecursion P (flat (drop i book)) ↔ AllByRecursion P (flat book)) → length book ≤ i → AllByRecursion P (flat book)
batch_done P book i left far = left.0 (begun (λ b. AllByRecursion P (flat b)) book i far tt)

-- an entry and a row, for what is read past the end of a list
abbrev pub no_entry : Entry
no_entry = record { leaf = 0; worker = 0; op = CounterAdd 0 0; reply = reply.Number 0 }

abbrev pub no_row : Row
no_row = record { leaf = 0; worker = 0; start = 0; end = 0; value = 0 }
