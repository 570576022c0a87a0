-- The holders of nodes, as a worker's task changes.
use Rattle.std.proofs.Common.{ℕ, ◌≡◌, ◌≢◌, Option, Some, None, arith}
use Rattle.std.proofs.lemmas.Bool.Decides.{nat_tests}
use Rattle.core_model.proofs.Words.{Task, put, names}
use Rattle.core_model.proofs.Inductive.Nodes.{HoldersFit}

-- two workers hold no one node
pub apart : (task : ℕ → Task) (holder : ℕ → Option ℕ) → HoldersFit task holder
    → (v w n : ℕ) → names (task w) ≡ Some n → v ≢ w → names (task v) ≢ Some n
apart task holder h v w n mine other e = grind (arith, h.named v n e, h.named w n mine)

-- a worker takes a task
pub take_task : (task : ℕ → Task) (holder : ℕ → Option ℕ) (w n : ℕ) (t : Task) → HoldersFit task holder
    → names (task w) ≡ None → names t ≡ Some n → holder n ≡ None → HoldersFit (put task w t) (put holder n (Some w))
take_task task holder w n t h idle name free = record {
  named = λ v m e. grind (arith, nat_tests, h.named);
  holds = λ v m e. grind (arith, nat_tests, h.holds);
}

-- its task goes on with the same node
pub keep_task : (task : ℕ → Task) (holder : ℕ → Option ℕ) (w : ℕ) (t : Task) → HoldersFit task holder
    → names (task w) ≡ names t → HoldersFit (put task w t) holder
keep_task task holder w t h same = record {
  named = λ v m e. grind (arith, nat_tests, h.named);
  holds = λ v m e. grind (arith, nat_tests, h.holds);
}

-- its task gives up the node
pub drop_task : (task : ℕ → Task) (holder : ℕ → Option ℕ) (w n : ℕ) (t : Task) → HoldersFit task holder
    → names (task w) ≡ Some n → names t ≡ None → HoldersFit (put task w t) (put holder n None)
drop_task task holder w n t h name idle = record {
  named = λ v m e. grind (arith, nat_tests, h.named);
  holds = λ v m e. grind (arith, nat_tests, h.holds);
}

-- its task gives up one node and takes another
pub move_task : (task : ℕ → Task) (holder : ℕ → Option ℕ) (w m n : ℕ) (t : Task) → HoldersFit task holder
    → names (task w) ≡ Some m → names t ≡ Some n → holder n ≡ None → HoldersFit (put task w t) (put (put holder m None) n (Some w))
move_task task holder w m n t h name next free = record {
  named = λ v k e. grind (arith, nat_tests, h.named);
  holds = λ v k e. grind (arith, nat_tests, h.holds);
}
