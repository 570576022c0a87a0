-- The objects of a lawful report have names of its job.
use Rattle.std.proofs.Common.{◌≡◌, ℕ, ◌≤◌, ◌%◌, ◌^◌, List, [], ◌∷◌, length, inl, inr, ap, ◌∙◌, arith}
use Rattle.std.specs.List.{AllByRecursion}
use Rattle.std.specs.Prelude.{Some}
use Rattle.seq_objects.specs.declared.op.Op.{Op}
use Rattle.seq_objects.specs.Objects.{number_of}
use Rattle.sp_order.specs.Jobs.{JobValue}
use Rattle.sp_order.specs.Objects.{number_in}
use Rattle.sp_order.specs.Sources.{with_argument}
use Rattle.batch_history.specs.Operations.{op_of}
use Rattle.batch_history.specs.Text.{HaveNames}
use Rattle.batch_history.specs.declared.batch.Entry.{Entry}
use Rattle.batch_history.proofs.ActLemmas.{IsGiven, at_leaf, called_as}

module _ (keeps : (op : Op) (argument : ℕ) → number_of (with_argument op argument) ≡ number_of op) where
  -- an operation has the number of its act's
  same_number : (op given : Op) → IsGiven op given → number_of op ≡ number_of given
  same_number op given (inl same) = ap number_of same
  same_number op given (inr value) = ap number_of value.1 ∙ keeps given (value.0 % 2 ^ 32)

  pub all_named : (work : ℕ → ℕ) (job : JobValue) (book : List (List Entry)) (entries : List Entry) → AllByRecursion (λ act. number_in act ≤ length job.names) job.acts
      → AllByRecursion (λ entry. op_of work job book entry.leaf ≡ Some entry.op) entries → HaveNames job.names entries
  all_named work job book [] within operations = tt
  all_named work job book (entry ∷ entries) within operations =
      let given = called_as work job book entry.leaf entry.op operations.0 in
      let own : number_of given.0 ≤ length job.names =
      at_leaf (λ act. number_in act ≤ length job.names) job.acts entry.leaf given.0 within given.1.0 in
      (omega (arith, own, same_number entry.op given.0 given.1.1), all_named work job book entries within operations.1)
