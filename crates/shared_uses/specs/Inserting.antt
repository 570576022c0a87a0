-- Distinct keys, which insertions into a set count.
use Rattle.std.specs.Prelude.{ℕ, ◌≡◌, ◌<◌, ◌^◌, Bool, false, List, [], length, map, count_by, IfSome, None}
use Rattle.std.specs.List.{AllByRecursion}
use Rattle.std.specs.Option.{unwrap_or}
use Rattle.key_sets.specs.Keys.{StrictlyAscends, has}
use Rattle.shared_calls.specs.declared.view.Entry.{Entry}
use Rattle.shared_calls.specs.Views.{IsCallerOf, number_of, made, is_lost}
use Rattle.shared_structures.specs.declared.set.SharedSet.{SharedSet}
use Rattle.shared_structures.specs.declared.set.SetOp.{SetOp}
use Rattle.shared_structures.specs.declared.set.SetOp.TheVariants.{Insert}
use Rattle.shared_structures.specs.declared.set.SetReply.{SetReply}
use Rattle.shared_structures.specs.declared.set.SetReply.TheVariants.{Answer}
use Rattle.shared_uses.specs.declared.keys.Inserter.{Inserter}

-- The number of distinct keys of a list: a strictly ascending list has the same keys, and is so long.
pub record IsDistinctCount (keys : List ℕ) (count : ℕ) : Type 0 where
  pub distinct : List ℕ
  pub ascends : StrictlyAscends distinct
  pub same : (key : ℕ) → has key distinct ≡ has key keys
  pub long : length distinct ≡ count

-- What only the code and its proofs cite, from here on.

-- whether a reply says that the key is new
abbrev pub is_new : SetReply → Bool
is_new (Answer new) = new
is_new _ = false

-- the calls are insertions of these keys, in their order, and so many replies say that the key is new
pub record HaveInserted (keys : List ℕ) (calls : List (Entry SetOp SetReply)) (new : ℕ) : Type 0 where
  pub ops : map (λ e. e.op) calls ≡ map Insert keys
  pub found : count_by (λ e. is_new e.reply) calls ≡ new
  pub small : AllByRecursion (λ key. key < 2 ^ 32) keys

-- how many keys an inserter found new, and 0 where an insertion failed
abbrev pub new_in : Inserter → ℕ
new_in inserter = unwrap_or inserter.count 0

-- the inserter of thread n, which has yet to begin
pub record IsReady (set : SharedSet) (n : ℕ) (inserter : Inserter) : Type 0 where
  pub caller : IsCallerOf set.shared inserter.caller × (number_of inserter.caller ≡ n)
  pub new : (is_lost inserter.caller ≡ false) × (made inserter.caller ≡ [])
  pub none : inserter.count ≡ None

-- the inserter of thread n, which had these keys: it has inserted all of them, unless an insertion failed
pub record IsDone (set : SharedSet) (n : ℕ) (keys : List ℕ) (inserter : Inserter) : Type 0 where
  pub caller : IsCallerOf set.shared inserter.caller × (number_of inserter.caller ≡ n)
  pub inserted : IfSome inserter.count (λ new. HaveInserted keys (made inserter.caller) new)
