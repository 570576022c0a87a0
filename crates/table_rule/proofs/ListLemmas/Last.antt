-- What is among the members of a list that has one more at its end.
use Rattle.std.proofs.Common.{ℕ, ◌≡◌, ◌≢◌, ◌==◌, if◌then◌else◌, Bool, true, Some, List, [], ◌∷◌, ◌++◌, ◌⊎◌, map, arith, refl, sym, ◌∙◌, subst, inl, inr, ⊎_elim}
use Rattle.std.specs.List.{AllByRecursion}
use Rattle.std.proofs.lemmas.List.{map-append}
use Rattle.std.proofs.lemmas.Bool.{cases_eq}
use Rattle.seq_objects.specs.declared.call.Call.{Call}
use Rattle.seq_objects.specs.Pairs.{AreDistinct}
use Rattle.core_model.specs.State.{put}
use Rattle.table_rule.specs.declared.slot.OpRecord.{OpRecord}
use Rattle.table_rule.specs.Passes.{record_of}
use Rattle.table_rule.specs.Shows.{took_in, record_in, among}
use Rattle.seq_objects.proofs.Elements.{each_append, each_so}
use Rattle.core_model.proofs.BookLemmas.OwnEntries.{if_other, if_same}

-- two tests, in the one order as in the other
swapped : (a b c : Bool) → (if a then true else (if b then true else c)) ≡ (if b then true else (if a then true else c))
swapped a b c = grind arith

pub took_put : (taken : List Call) (call : Call) (x : ℕ) → took_in (taken ++ call ∷ []) x ≡ put (took_in taken) call.worker true x
took_put [] call x = refl
took_put (t ∷ taken) call x =
    (λ i. if x == t.worker then true else took_put taken call x i) ∙ swapped (x == t.worker) (x == call.worker) (took_in taken x)

pub among_put : (xs : List ℕ) (u x : ℕ) → among (xs ++ u ∷ []) x ≡ put (among xs) u true x
among_put [] u x = refl
among_put (y ∷ xs) u x =
    (λ i. if x == y then true else among_put xs u x i) ∙ swapped (x == y) (x == u) (among xs x)

-- the record of a worker is one from before, or that of the last call, which is the worker's then
pub record_last : (taken : List Call) (call : Call) (x : ℕ) (c : OpRecord) → record_in (taken ++ call ∷ []) x ≡ Some c
    → (record_in taken x ≡ Some c) ⊎ ((x ≡ call.worker) × (record_of call ≡ c))
record_last [] call x c e = elim (cases_eq x call.worker) [
  | inl is ↦ let f : Some (record_of call) ≡ Some c = sym (if_same x call.worker (Some (record_of call)) (record_in [] x) is) ∙ e in inr (is, (cc))
  | inr ne ↦ inl (sym (if_other x call.worker (Some (record_of call)) (record_in [] x) ne) ∙ e)
]
record_last (t ∷ taken) call x c e = elim (cases_eq x t.worker) [
  | inl is ↦ inl (if_same x t.worker (Some (record_of t)) (record_in taken x) is ∙ (sym (if_same x t.worker (Some (record_of t)) (record_in (taken ++ call ∷ []) x) is) ∙ e))
  | inr ne ↦ ⊎_elim
      (λ f. inl (if_other x t.worker (Some (record_of t)) (record_in taken x) ne ∙ f))
      (λ f. inr f)
      (record_last taken call x c (sym (if_other x t.worker (Some (record_of t)) (record_in (taken ++ call ∷ []) x) ne) ∙ e))
]

pub distinct_last : (ns : List ℕ) (n : ℕ) → AreDistinct ns → AllByRecursion (λ m. m ≢ n) ns → AreDistinct (ns ++ n ∷ [])
distinct_last [] n distinct apart = (tt, tt)
distinct_last (m ∷ ns) n distinct apart = (each_append (λ y. m ≢ y) ns (n ∷ []) distinct.0 (apart.0, tt), distinct_last ns n distinct.1 apart.1)

-- no worker was taken twice, also with a call of one more worker
pub workers_last : (taken : List Call) (call : Call) → AreDistinct (map (λ (c : Call). c.worker) taken) → AllByRecursion (λ y. call.worker ≢ y) (map (λ (c : Call). c.worker) taken)
    → AreDistinct (map (λ (c : Call). c.worker) (taken ++ call ∷ []))
workers_last taken call distinct apart =
    subst AreDistinct (sym (map-append (λ (c : Call). c.worker) taken (call ∷ [])))
    (distinct_last (map (λ (c : Call). c.worker) taken) call.worker distinct (each_so (λ y. call.worker ≢ y) (λ m. m ≢ call.worker) (λ m ne e. ne (sym e)) (map (λ (c : Call). c.worker) taken) apart))
