-- The values and operations of leaves under a book: a longer book keeps them; each value comes from an entry of the book,
-- if it comes from a reply; and each operation is that of a call whose source, if it has one, has a value.
use Rattle.std.proofs.Common.{ℕ, ◌≡◌, ◌≢◌, Option, Some, None, List, [], ◌∷◌, ◌++◌, refl, sym, ap, ◌∙◌}
use Rattle.std.specs.Option.{option_map}
use Rattle.sp_order.specs.Sources.{low_bits, with_value}
use Rattle.batch_history.specs.Operations.{op_with}
use Rattle.batch_history.proofs.ActLemmas.{from_calls, from_kept, value_stays}
use Rattle.core_model.proofs.Words.{Act, Work, Call, Op, Entry, CoreJob}
use Rattle.core_model.specs.Operations.{op_in, op_from, op_of, origin_from, origin_of, number_from, reply_at, value_from, value_under, IsCall, Place, place_of}

-- the value of a leaf stays the same in a longer book
pub value_kept : (job : CoreJob) (book : List (List Entry)) (b : List Entry) (u v : ℕ) → value_under job book u ≡ Some v → value_under job (book ++ b ∷ []) u ≡ Some v
value_kept job book b u v is = value_stays job.work book b (job.act u) (job.source u) u v is

-- the operation of a leaf stays the same in a longer book
pub op_kept : (job : CoreJob) (book : List (List Entry)) (b : List Entry) (u : ℕ) (op : Op) → op_of job book u ≡ Some op → op_of job (book ++ b ∷ []) u ≡ Some op
op_kept job book b u op is =
    from_kept (value_under job book) (value_under job (book ++ b ∷ [])) (op_in (job.act u)) (job.source u) op (λ leaf v at. value_kept job book b leaf v at) is

with_act : (act : Act) (value : Option ℕ) (op : Op) → op_with (op_in act) value ≡ Some op
    → (v : ℕ) × (value ≡ Some v) × (own : Op) × (act ≡ Call own) × (op ≡ with_value own v)
with_act (Work steps) value op is = absurd cc
with_act (Call own) None op is = absurd cc
with_act (Call own) (Some v) op is = let same : with_value own v ≡ op = cc in (v, refl, own, refl, sym same)

-- the operation of a leaf with a source: the source has a value under the book, which is the argument
pub of_source : (job : CoreJob) (book : List (List Entry)) (u r : ℕ) (op : Op) → op_of job book u ≡ Some op → job.source u ≡ Some r
    → (v : ℕ) × (value_under job book r ≡ Some v) × (own : Op) × (job.act u ≡ Call own) × (op ≡ with_value own v)
of_source job book u r op is source = with_act (job.act u) (value_under job book r) op (ap (op_from (value_under job book) (op_in (job.act u))) (sym source) ∙ is)

-- a reply that is there has a place
reply_place : (p : Option Place) (v : ℕ) → reply_at p ≡ Some v → (place : Place) × (p ≡ Some place)
reply_place None v is = absurd cc
reply_place (Some place) v is = (place, refl)

mapped : (f : ℕ → ℕ) (x : Option ℕ) (y : ℕ) → option_map f x ≡ Some y → (z : ℕ) × (x ≡ Some z)
mapped f None y is = absurd cc
mapped f (Some z) y is = (z, refl)

origin_there : (work : ℕ → ℕ) (book : List (List Entry)) (act : Act) (source : Option ℕ) (leaf v origin : ℕ)
    → value_from work book act source leaf ≡ Some v → origin_from act source leaf ≡ Some origin → (place : Place) × (place_of book origin ≡ Some place)
origin_there work book (Work steps) None leaf v origin is from = absurd cc
origin_there work book (Work steps) (Some source) leaf v origin is from =
    let number = mapped work (number_from book steps (Some source)) v is in
    let reply = mapped low_bits (reply_at (place_of book source)) number.0 number.1 in
    let place = reply_place (place_of book source) reply.0 reply.1 in
    let same : source ≡ origin = cc in
    (place.0, ap (place_of book) (sym same) ∙ place.1)
origin_there work book (Call op) source leaf v origin is from =
    let place = reply_place (place_of book leaf) v is in
    let same : leaf ≡ origin = cc in
    (place.0, ap (place_of book) (sym same) ∙ place.1)

-- a value that comes from a reply comes from an entry of the book
pub of_origin : (job : CoreJob) (book : List (List Entry)) (u v origin : ℕ) → value_under job book u ≡ Some v → origin_of job u ≡ Some origin
    → (place : Place) × (place_of book origin ≡ Some place)
of_origin job book u v origin is from = origin_there job.work book (job.act u) (job.source u) u v origin is from

-- a leaf that has an operation calls
pub is_call : (job : CoreJob) (book : List (List Entry)) (u : ℕ) (op : Op) → op_of job book u ≡ Some op → IsCall job u
is_call job book u op is = from_calls (value_under job book) (op_in (job.act u)) (job.source u) op is

from_some : (value : ℕ → Option ℕ) (own : Op) (source : Option ℕ) → ((r : ℕ) → source ≡ Some r → (v : ℕ) × (value r ≡ Some v))
    → (op : Op) × (op_from value (Some own) source ≡ Some op)
from_some value own None there = (own, refl)
from_some value own (Some r) there =
    let at = there r refl in
    (with_value own at.0, ap (op_with (Some own)) at.1)

-- a leaf that calls has an operation where its source has a value
pub some_op : (job : CoreJob) (book : List (List Entry)) (u : ℕ) → IsCall job u → ((r : ℕ) → job.source u ≡ Some r → (v : ℕ) × (value_under job book r ≡ Some v))
    → (op : Op) × (op_of job book u ≡ Some op)
some_op job book u call there =
    elim (job.act u) as (λ act. op_in act ≢ None → (op : Op) × (op_from (value_under job book) (op_in act) (job.source u) ≡ Some op)) [
      | Work steps ↦ λ some. absurd (some refl)
      | Call own ↦ λ some. from_some (value_under job book) own (job.source u) there
    ] call

-- a leaf that calls has the value of its reply
pub call_value : (job : CoreJob) (book : List (List Entry)) (u : ℕ) (op : Op) → job.act u ≡ Call op → value_under job book u ≡ reply_at (place_of book u)
call_value job book u op act = ap (λ (a : Act). value_from job.work book a (job.source u) u) act

reply_for : (job : CoreJob) (book : List (List Entry)) (r v : ℕ) (act : Act) → job.act r ≡ act → IsCall job r → value_under job book r ≡ Some v → reply_at (place_of book r) ≡ Some v
reply_for job book r v (Work k) at calls is = absurd (calls (ap op_in at))
reply_for job book r v (Call op) at calls is = sym (call_value job book r op at) ∙ is

-- the value of a leaf that calls is that of its reply
pub reply_of : (job : CoreJob) (book : List (List Entry)) (r v : ℕ) → IsCall job r → value_under job book r ≡ Some v → reply_at (place_of book r) ≡ Some v
reply_of job book r v calls is = reply_for job book r v (job.act r) refl calls is

-- a leaf of work has a value where its source, if it has one, calls and has one
pub work_value : (job : CoreJob) (book : List (List Entry)) (u steps : ℕ) → job.act u ≡ Work steps
    → ((r : ℕ) → job.source u ≡ Some r → IsCall job r × ((v : ℕ) × (value_under job book r ≡ Some v))) → (v : ℕ) × (value_under job book u ≡ Some v)
work_value job book u steps act there =
    let given : (source : Option ℕ) → job.source u ≡ source → (v : ℕ) × (value_from job.work book (Work steps) source u ≡ Some v) = λ source is. by_source source is in
    let found = given (job.source u) refl in
    (found.0, ap (λ (a : Act). value_from job.work book a (job.source u) u) act ∙ found.1)
  where
    by_source : (source : Option ℕ) → job.source u ≡ source → (v : ℕ) × (value_from job.work book (Work steps) source u ≡ Some v)
    by_source None is = (job.work steps, refl)
    by_source (Some r) is =
        let at = there r is in
        let reply = reply_of job book r at.1.0 at.0 at.1.1 in
        (job.work (low_bits at.1.0), ap (λ (x : Option ℕ). option_map job.work (option_map low_bits x)) reply)
