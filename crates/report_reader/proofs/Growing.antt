-- Tables that grow by a name, and what they keep.
use Rattle.std.proofs.Common.{◌≡◌, ℕ, ◌+◌, ◌-◌, ◌<◌, ◌≤◌, ◌⊎◌, inl, inr, true, List, [], ◌∷◌, ◌++◌, length, map, get_or, Some, None, refl, sym, ap, subst, ◌∙◌, append-nil, length-append, arith}
use Rattle.std.specs.Prelude.{◌==◌}
use Rattle.std.specs.List.{list_all}
use Rattle.std.proofs.lemmas.Bool.{ltb-true}
use Rattle.std.proofs.lemmas.Bool.Decides.{nat_tests}
use Rattle.std.proofs.lemmas.List.{map-append, length-map, get_or_append_left}
use Rattle.std.proofs.Math.Seq.{get_or-append_seam}
use Rattle.limits.specs.declared.TheConstants.{MOST_NAME_BYTES}
use Rattle.job_names.specs.Names.{AreSpelled, is_letter, is_in_name, is_spelled, name_of, spelling}
use Rattle.job_names.specs.declared.name.Name.{Name}
use Rattle.sp_order.specs.Objects.{name_of_number}
use Rattle.report_reader.specs.Code.Objects.{is_mark, names_in, number_in, found, IsKept, Extends}
use Rattle.seq_objects.specs.declared.kind.Kind.{Kind}
use Rattle.report_reader.specs.declared.table.Table.{Table}
use Rattle.job_names.proofs.SameNames.{and_left, and_right}
use Rattle.job_names.proofs.Spellings.{spelling_back, one_spelling}
use Rattle.seq_objects.proofs.Elements.{each_append}

-- a name has at most `MOST_NAME_BYTES` bytes, and is the spelling of itself
pub spelled_short : (text : List ℕ) → is_spelled text ≡ true → length text ≤ MOST_NAME_BYTES
spelled_short [] is = omega arith
spelled_short (byte ∷ text) is = let few = ltb-true (length text) MOST_NAME_BYTES (and_left _ (list_all (λ byte. is_in_name byte) text) (and_right (is_letter byte) _ is)) in omega (arith, few)

-- the new table has one name more, under the next number
pub record AddsName (old new : Table) (kind : Kind) (name : List ℕ) (number : ℕ) : Type 0 where
  pub names : new.names.items ≡ old.names.items ++ name_of name ∷ []
  pub next : number ≡ length old.names.items + 1
  pub grows : new.grows ≡ old.grows
  pub own : number_in new kind (name_of name) ≡ Some number
  pub others : (k : Kind) (n : Name) → ((k ≡ kind) × (n ≡ name_of name)) ⊎ (number_in new k n ≡ number_in old k n)

module _ (old new : Table) (kind : Kind) (name : List ℕ) (number : ℕ) (spelled : is_spelled name ≡ true) (adds : AddsName old new kind name number) where
  pub names_more : names_in new ≡ names_in old ++ name ∷ []
  names_more =
      ap (λ (ns : List Name). map spelling ns) adds.names ∙ map-append spelling old.names.items (name_of name ∷ []) ∙ ap (λ (n : List ℕ). names_in old ++ n ∷ []) (spelling_back name)

  count : length (names_in old) ≡ length old.names.items
  count = length-map old.names.items spelling

  many : length (names_in new) ≡ length (names_in old) + 1
  many = ap length names_more ∙ omega (arith, length-append (names_in old) (name ∷ []))

  last : name_of_number (names_in new) number ≡ name
  last =
      ap (λ (ns : List (List ℕ)). get_or ns (number - 1) []) names_more
      ∙ (let at : number - 1 ≡ length (names_in old) = omega (arith, adds.next, count) in ap (λ (i : ℕ). get_or (names_in old ++ name ∷ []) i []) at)
      ∙ get_or-append_seam (names_in old) name [] []

  earlier : (n : ℕ) → 0 < n → n ≤ length (names_in old) → name_of_number (names_in new) n ≡ name_of_number (names_in old) n
  earlier n some low = ap (λ (ns : List (List ℕ)). get_or ns (n - 1) []) names_more ∙ get_or_append_left (names_in old) (name ∷ []) [] (n - 1) (omega (arith, some, low))

  Numbered : (name' : List ℕ) (n : ℕ) → Type 0
  Numbered name' n = (0 < n) × (n ≤ length (names_in new)) × (name_of_number (names_in new) n ≡ name')

  pub kept_more : IsKept old → IsKept new
  kept_more kept = record {
    spelled = subst AreSpelled (sym names_more) (each_append (λ text. is_spelled text ≡ true) (names_in old) (name ∷ []) kept.spelled (spelled, tt));
    numbers = λ k name' n spelled' is. elim (adds.others k (name_of name')) [
      | inl same ↦
          let is_own : number_in new kind (name_of name) ≡ Some n = subst (λ (q : Kind). number_in new q (name_of name) ≡ Some n) same.0 (subst (λ (m : Name). number_in new k m ≡ Some n) same.1 is) in
          let at : n ≡ number = cc (is_own, adds.own) in
          (omega (arith, at, adds.next), omega (arith, at, adds.next, count, many), ap (name_of_number (names_in new)) at ∙ last ∙ sym (one_spelling name' name same.1))
      | inr stays ↦
          let before = kept.numbers k name' n spelled' (sym stays ∙ is) in
          (before.0, omega (arith, before.1, many), earlier n before.0 before.1 ∙ before.2)
    ];
  }

  found_more : number_in old kind (name_of name) ≡ None → (k : Kind) (mark : List ℕ) (n : ℕ) → found old k mark ≡ Some n → found new k mark ≡ Some n
  found_more absent k [] n is = is
  found_more absent k (byte ∷ name') n is = elim (adds.others k (name_of name')) [
    | inl same ↦
        let was : number_in old kind (name_of name) ≡ Some n = subst (λ (q : Kind). number_in old q (name_of name) ≡ Some n) same.0 (subst (λ (m : Name). number_in old k m ≡ Some n) same.1 is) in
        cc (was, absent)
    | inr stays ↦ stays ∙ is
  ]

  pub extends_more : old.grows ≡ true → number_in old kind (name_of name) ≡ None → Extends old new
  extends_more growing absent = record {
    grows = adds.grows;
    more = name ∷ [];
    names = names_more;
    numbers = found_more absent;
    same = λ closed. cc (closed, growing);
  }

pub extends_none : (table : Table) → Extends table table
extends_none table = record { grows = refl; more = []; names = sym (append-nil (names_in table)); numbers = λ k mark n is. is; same = λ closed. refl }

-- the mark that is no colon and name is empty
pub mark_parts : (mark : List ℕ) → is_mark mark ≡ true → (mark ≡ []) ⊎ ((name : List ℕ) × (mark ≡ 58 ∷ name) × (is_spelled name ≡ true))
mark_parts [] is = inl refl
mark_parts (byte ∷ name) is =
    let colon : byte ≡ 58 = (let test : (byte == 58) ≡ true = and_left (byte == 58) (is_spelled name) is in grind (arith, nat_tests, test)) in
    inr (name, ap (λ (b : ℕ). b ∷ name) colon, and_right (byte == 58) (is_spelled name) is)

-- what stands behind the colon of a mark is a name
pub mark_name : (mark : List ℕ) (byte : ℕ) (name : List ℕ) → mark ≡ byte ∷ name → is_mark mark ≡ true → is_spelled name ≡ true
mark_name mark byte name is marked = and_right (byte == 58) (is_spelled name) (subst (λ (m : List ℕ). is_mark m ≡ true) is marked)

-- one name more, by the name that was made of it
pub adds_name : (old new : Table) (kind : Kind) (name : List ℕ) (number : ℕ) (made : Name) → made ≡ name_of name → new.names.items ≡ old.names.items ++ made ∷ [] → number ≡ length old.names.items + 1
    → new.grows ≡ old.grows → number_in new kind made ≡ Some number → ((k : Kind) (n : Name) → ((k ≡ kind) × (n ≡ made)) ⊎ (number_in new k n ≡ number_in old k n)) → AddsName old new kind name number
adds_name old new kind name number made is names next grows own others = record {
  names = subst (λ (m : Name). new.names.items ≡ old.names.items ++ m ∷ []) is names;
  next = next;
  grows = grows;
  own = subst (λ (m : Name). number_in new kind m ≡ Some number) is own;
  others = subst (λ (m : Name). (k : Kind) (n : Name) → ((k ≡ kind) × (n ≡ m)) ⊎ (number_in new k n ≡ number_in old k n)) is others;
}
