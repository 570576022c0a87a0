-- The hold of the worker that has the flag: whether its calls can be served as one batch, and whether they are.
use Rattle.std.specs.Prelude.{ℕ, ◌≡◌, ◌≢◌, ◌<◌, true, false, List, [], ◌∷◌, ◌++◌, map}
use Rattle.std.specs.List.{AllByRecursion}
use Rattle.core_model.specs.Words.{Entry}
use Rattle.table_rule.specs.declared.view.HoldView.{HoldView}
use Rattle.launch_batch.specs.Calls.{MayServe, IsServiceOf}

-- the workers of a batch's entries, in batch order
abbrev pub workers_in : List Entry → List ℕ
workers_in batch = map (λ entry. entry.worker) batch

-- Each call taken is of a worker that was looked at. If there are any, they can be served as one batch after the book.
pub record AreFit (h : HoldView) : Type 0 where
  pub below : AllByRecursion (λ call. call.worker < h.looks) h.taken
  pub serve : h.taken ≢ [] → MayServe h.book h.taken

-- The calls taken were served as `batch`, which was published: the book is now `before` with `batch` behind it.
pub record IsPublished (before : List (List Entry)) (batch : List Entry) (h : HoldView) : Type 0 where
  pub published : h.published ≡ true
  pub book : h.book ≡ before ++ batch ∷ []
  pub may : MayServe before h.taken
  pub service : IsServiceOf before h.taken batch

-- no call was taken, and nothing is published
pub record TookNone (h : HoldView) : Type 0 where
  pub none : h.taken ≡ []
  pub early : h.published ≡ false

-- the calls taken were served as `batch`, which was published after `before`, and all its workers are answered
pub record ServedAll (before : List (List Entry)) (batch : List Entry) (h : HoldView) : Type 0 where
  pub published : IsPublished before batch h
  pub answered : h.answered ≡ workers_in batch
