-- Entries on objects without names: the objects of number 0 serve them alone.
use Rattle.std.proofs.Common.{◌≡◌, List, [], ◌∷◌, refl, ap, subst, ◌∙◌}
use Rattle.seq_objects.specs.declared.op.Op.{Op}
use Rattle.seq_objects.specs.Objects.{Objects, after, reply_to, number_of}
use Rattle.seq_objects.specs.Stores.{Store, store_after}
use Rattle.sp_order.specs.Objects.{AreUnnamed}
use Rattle.batch_history.specs.Book.{IsLegalFrom}
use Rattle.batch_history.specs.Serving.{served, acts_in}
use Rattle.batch_history.specs.declared.batch.Entry.{Entry}

-- the objects of one number, after the entries
abbrev pub served_alone : Objects → List Entry → Objects
served_alone objects [] = objects
served_alone objects (entry ∷ entries) = served_alone (after objects entry.op) entries

-- each reply is that of these objects
abbrev pub IsLegalAlone : Objects → List Entry → Type 0
IsLegalAlone objects [] = Unit {0}
IsLegalAlone objects (entry ∷ entries) = (entry.reply ≡ reply_to objects entry.op) × IsLegalAlone (after objects entry.op) entries

step : (store : Store) (op : Op) → number_of op ≡ 0 → store_after store op 0 ≡ after (store 0) op
step store op unnamed = rw unnamed refl

pub served_is : (store : Store) (entries : List Entry) → AreUnnamed (acts_in entries) → served store entries 0 ≡ served_alone (store 0) entries
served_is store [] unnamed = refl
served_is store (entry ∷ entries) unnamed =
    served_is (store_after store entry.op) entries unnamed.1 ∙ ap (λ objects. served_alone objects entries) (step store entry.op unnamed.0)

pub legal_alone : (store : Store) (entries : List Entry) → AreUnnamed (acts_in entries) → IsLegalFrom store entries → IsLegalAlone (store 0) entries
legal_alone store [] unnamed legal = legal
legal_alone store (entry ∷ entries) unnamed legal = (
  legal.0 ∙ ap (λ number. reply_to (store number) entry.op) unnamed.0,
  subst (λ objects. IsLegalAlone objects entries) (step store entry.op unnamed.0) (legal_alone (store_after store entry.op) entries unnamed.1 legal.1),
)
