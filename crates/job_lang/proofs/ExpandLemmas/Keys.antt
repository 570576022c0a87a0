-- Sets of keys that stand for named objects.
use Rattle.std.proofs.Common.{◌≡◌, ◌+◌, List, [], ◌∷◌, ◌++◌, map, Bool, true, false, not, refl, ap, ◌∙◌}
use Rattle.std.specs.Prelude.{◌||◌, if◌then◌else◌}
use Rattle.std.specs.List.{list_any, position_or_len}
use Rattle.std.proofs.lemmas.List.{map-append}
use Rattle.indexmap.specs.IndexSet.{insert_key}
use Rattle.job_lang.specs.Objects.{NamedObject, same_object, with_object}
use Rattle.job_names.specs.Names.{spelling}

module _ {A : Type 0} (object : A → NamedObject) where
  pub spellings_kept : (keys : List A) → map (λ name. spelling name) (map (λ key. (object key).name) keys) ≡ map (λ (named : NamedObject). spelling named.name) (map object keys)
  spellings_kept [] = refl
  spellings_kept (key ∷ keys) = ap (λ names. spelling (object key).name ∷ names) (spellings_kept keys)

  -- where the test of the set is that of the objects
  module _ (eq : A → A → Bool) (same : (x y : A) → eq x y ≡ same_object (object x) (object y)) where
    any_kept : (keys : List A) (x : A) → list_any (eq x) keys ≡ list_any (same_object (object x)) (map object keys)
    any_kept [] x = refl
    any_kept (y ∷ keys) x = (λ i. same x y i || any_kept keys x i)

    pub place_kept : (keys : List A) (x : A) → position_or_len (eq x) keys ≡ position_or_len (same_object (object x)) (map object keys)
    place_kept [] x = refl
    place_kept (y ∷ keys) x = (λ i. if not (same x y i) then 1 + place_kept keys x i else 0)

    kept_by : (b : Bool) (keys : List A) (x : A) → map object (if b then keys else keys ++ x ∷ []) ≡ (if b then map object keys else map object keys ++ object x ∷ [])
    kept_by true keys x = refl
    kept_by false keys x = map-append object keys (x ∷ [])

    pub keys_kept : (keys : List A) (x : A) → map object (insert_key eq keys x) ≡ with_object (map object keys) (object x)
    keys_kept keys x = kept_by (list_any (eq x) keys) keys x ∙ ap (λ b. if b then map object keys else map object keys ++ object x ∷ []) (any_kept keys x)
