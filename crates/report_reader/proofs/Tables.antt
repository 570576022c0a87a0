-- How a table's numbers change.
use Rattle.std.proofs.Common.{◌≡◌, ℕ, ◌⊎◌, inl, inr, Bool, true, false, Option, Some, refl, sym}
use Rattle.std.specs.Prelude.{cond, ◌&&◌}
use denote.Enum.Bare.{sameb, same_true, true_same}
use Rattle.job_names.specs.Names.{same_name}
use Rattle.job_names.specs.declared.name.Name.{Name}
use Rattle.job_names.proofs.SameNames.{and_left, and_right, same_from, same_to}
use Rattle.seq_objects.specs.contracts.kind.Kind.{the_type}
use Rattle.seq_objects.specs.declared.kind.Kind.{Kind}
use Rattle.report_reader.specs.Code.Objects.{same_object, number_in, Inserts}
use Rattle.report_reader.specs.declared.table.Table.{Table}

-- `same_object` decides that kinds and names are the same
same_from_object : (kind k : Kind) (name n : Name) → same_object (kind, name) (k, n) ≡ true → (k ≡ kind) × (n ≡ name)
same_from_object kind k name n is =
    (sym (same_true the_type tt kind k (and_left (sameb the_type kind k) (same_name name n) is)), sym (same_from name n (and_right (sameb the_type kind k) (same_name name n) is)))

both : (a b : Bool) → a ≡ true → b ≡ true → (a && b) ≡ true
both a b x y = cc (x, y)

same_own : (kind : Kind) (name : Name) → same_object (kind, name) (kind, name) ≡ true
same_own kind name = both (sameb the_type kind kind) (same_name name name) (true_same the_type kind kind refl) (same_to name name refl)

own_of : (b : Bool) (number : ℕ) (old new : Option ℕ) → b ≡ true → new ≡ cond b (Some number) old → new ≡ Some number
own_of true number old new is same = same
own_of false number old new is same = cc

chosen : (b : Bool) (P : Type 0) (old : Option ℕ) (number : ℕ) (new : Option ℕ) → (b ≡ true → P) → new ≡ cond b (Some number) old → P ⊎ (new ≡ old)
chosen true P old number new is same = inl (is refl)
chosen false P old number new is same = inr same

-- after an insert under a kind and a name, each object is this one, or has the number that it had
pub inserted : (old new : Table) (kind : Kind) (name : Name) (number : ℕ) → new.names ≡ old.names → new.grows ≡ old.grows
    → ((k : Kind) (n : Name) → number_in new k n ≡ cond (same_object (kind, name) (k, n)) (Some number) (number_in old k n)) → Inserts old new kind name number
inserted old new kind name number names grows updates = record {
  names = names;
  grows = grows;
  own = own_of (same_object (kind, name) (kind, name)) number (number_in old kind name) (number_in new kind name) (same_own kind name) (updates kind name);
  others = λ k n. chosen (same_object (kind, name) (k, n)) ((k ≡ kind) × (n ≡ name)) (number_in old k n) number (number_in new k n) (same_from_object kind k name n) (updates k n);
}
