-- The leaves of a job of a text take replies alone.
use Rattle.std.proofs.Common.{ℕ, zero, suc, ◌≡◌, List, [], ◌∷◌, length, Option, Some, true, arith, refl, sym, subst}
use Rattle.std.specs.Prelude.{slice_get}
use Rattle.seq_objects.specs.declared.act.Act.{Act}
use Rattle.seq_objects.specs.declared.act.Act.TheVariants.{Work, Call}
use Rattle.seq_objects.specs.declared.op.Op.{Op}
use Rattle.sp_order.specs.Jobs.{JobValue}
use Rattle.sp_order.specs.Objects.{with_number, with_numbers}
use Rattle.sp_order.specs.Sources.{IsCallLeaf, TakeReplies}
use Rattle.job_lang.specs.Language.{IsJobOf}
use Rattle.job_lang.specs.Meaning.{acts_in, objects_in, sources_in}
use Rattle.job_lang.specs.Objects.{numbers_of}
use Rattle.job_lang.proofs.ExpandLemmas.Numbering.{items_name, are_numbered}
use Rattle.job_lang.proofs.ExpandLemmas.Sourcing.{items_take_replies}
use Rattle.job_lang.proofs.ReaderLemmas.Spelled.{objects_spelled}

-- a leaf that calls calls with another number too
call_numbered : (acts : List Act) (numbers : List ℕ) (leaf : ℕ) (op : Op) → length numbers ≡ length acts → slice_get acts leaf ≡ Some (Call op) → IsCallLeaf (with_numbers acts numbers) leaf
call_numbered [] numbers leaf op as_many at = cc
call_numbered (act ∷ acts) [] leaf op as_many at = absurd (omega (arith, as_many))
call_numbered (Work steps ∷ acts) (number ∷ numbers) zero op as_many at = cc
call_numbered (Call first ∷ acts) (number ∷ numbers) zero op as_many at = (with_number first number, refl)
call_numbered (act ∷ acts) (number ∷ numbers) (suc leaf) op as_many at = call_numbered acts numbers leaf op (omega (arith, as_many)) at

-- leaves that take replies alone do so with other numbers too
replies_numbered : (acts : List Act) (numbers : List ℕ) (sources : List (Option ℕ)) → length numbers ≡ length acts → TakeReplies acts sources → TakeReplies (with_numbers acts numbers) sources
replies_numbered acts numbers sources as_many take leaf source at =
    let are = take leaf source at in
    (call_numbered acts numbers leaf are.0.0 as_many are.0.1, call_numbered acts numbers source are.1.0 as_many are.1.1)

pub accepted_replies : (text : List ℕ) (job : JobValue) → IsJobOf text job → TakeReplies job.acts job.sources
accepted_replies text job is =
    let items = is.items in
    let acts = acts_in 0 items in
    let called = objects_in items in
    let numbered = are_numbered acts called (items_name items 0) (objects_spelled text items is.read) in
    subst (λ (job : JobValue). TakeReplies job.acts job.sources) (sym is.means)
    (replies_numbered acts (numbers_of called) (sources_in true [] 0 items) numbered.as_many (items_take_replies items is.read.derives.fits))
