-- The numbers that leaves get one after another.
use Rattle.std.proofs.Common.{◌≡◌, ℕ, ◌≤◌, List, [], ◌∷◌, ◌++◌, length, map, drop, Option, Some, None, refl, sym, ◌∙◌, append_assoc, append-nil}
use Rattle.std.proofs.lemmas.List.{at_drop_all}
use Rattle.job_lang.specs.Objects.{NamedObject, with_object, named_behind, named_by, number_among, numbers_of}
use Rattle.job_lang.specs.Code.Numbered.{numbers_behind}
use Rattle.job_lang.proofs.ExpandLemmas.Places.{same_numbers}
use Rattle.named_objects.specs.declared.objects.Object.{Object}
use Rattle.named_objects.specs.Objects.{named_in}

-- The numbers so far and the objects that they are of, where `rest` are the leaves to come: they lead to those of all
-- leaves.
pub record AreSoFar (numbers : List ℕ) (objects : List NamedObject) (rest all : List (Option NamedObject)) : Type 0 where
  pub numbers_are : numbers ++ numbers_behind objects rest ≡ numbers_behind [] all
  pub objects_are : named_behind objects rest ≡ named_behind [] all

pub none_so_far : (all : List (Option NamedObject)) → AreSoFar [] [] all all
none_so_far all = record { numbers_are = refl; objects_are = refl }

pub one_more : (numbers : List ℕ) (objects : List NamedObject) (object : NamedObject) (rest all : List (Option NamedObject)) → AreSoFar numbers objects (Some object ∷ rest) all
    → AreSoFar (numbers ++ number_among objects (Some object) ∷ []) (with_object objects object) rest all
one_more numbers objects object rest all are = record {
  numbers_are = append_assoc numbers (number_among objects (Some object) ∷ []) (numbers_behind (with_object objects object) rest) ∙ are.numbers_are;
  objects_are = are.objects_are;
}

pub zero_more : (numbers : List ℕ) (objects : List NamedObject) (rest all : List (Option NamedObject)) → AreSoFar numbers objects (None ∷ rest) all → AreSoFar (numbers ++ 0 ∷ []) objects rest all
zero_more numbers objects rest all are = record {
  numbers_are = append_assoc numbers (0 ∷ []) (numbers_behind objects rest) ∙ are.numbers_are;
  objects_are = are.objects_are;
}

-- with no leaf to come

pub numbers_done : (numbers : List ℕ) (objects : List NamedObject) (leaves : List (Option Object)) (i : ℕ) → length leaves ≤ i
    → AreSoFar numbers objects (map named_in (drop i leaves)) (map named_in leaves) → numbers ≡ numbers_of (map named_in leaves)
numbers_done numbers objects leaves i none are =
    sym (append-nil numbers) ∙ sym (at_drop_all (λ rest. numbers ++ numbers_behind objects (map named_in rest)) leaves i none)
    ∙ are.numbers_are ∙ same_numbers (map named_in leaves) []

pub objects_done : (numbers : List ℕ) (objects : List NamedObject) (leaves : List (Option Object)) (i : ℕ) → length leaves ≤ i
    → AreSoFar numbers objects (map named_in (drop i leaves)) (map named_in leaves) → objects ≡ named_by (map named_in leaves)
objects_done numbers objects leaves i none are = sym (at_drop_all (λ rest. named_behind objects (map named_in rest)) leaves i none) ∙ are.objects_are
