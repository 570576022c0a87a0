-- The lengths of a stored state's lists, the presence of its shop, and what each step preserves.
use Rattle.core_state.specs.declared.state.State.{State as StoredState}
use Rattle.std.specs.Prelude.{IsSome, length, ℕ, ◌≡◌}

-- the lengths of the lists
pub record Sizes (t : StoredState) (nodes workers : ℕ) : Type 0 where
  pub nodes_len : length t.nodes.items ≡ nodes
  pub marks_len : length t.marks.items ≡ nodes
  pub values_len : length t.values.items ≡ nodes
  pub tasks_len : length t.tasks.items ≡ workers
  pub statuses_len : length t.statuses.items ≡ workers
  pub calls_len : length t.calls.items ≡ workers
  pub ready_len : length t.ready ≡ workers

-- the shop is present: no allocation has failed in a batch
abbrev pub HasShop : StoredState → Type 0
HasShop t = IsSome t.shop

-- the lists keep their lengths, and a shop that is present stays
pub record SameSizes (old new : StoredState) : Type 0 where
  pub nodes_same : length new.nodes.items ≡ length old.nodes.items
  pub marks_same : length new.marks.items ≡ length old.marks.items
  pub values_same : length new.values.items ≡ length old.values.items
  pub tasks_same : length new.tasks.items ≡ length old.tasks.items
  pub statuses_same : length new.statuses.items ≡ length old.statuses.items
  pub calls_same : length new.calls.items ≡ length old.calls.items
  pub ready_same : length new.ready ≡ length old.ready
  pub shop_same : HasShop old → HasShop new
