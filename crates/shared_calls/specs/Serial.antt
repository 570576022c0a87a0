-- A serial object, and what a list of calls does to it, one after another.
use Rattle.std.specs.Prelude.{◌≡◌, List, [], ◌∷◌, map, zip, length, IsPermutation}

-- its states, the first of which is the opening; the state after an operation, and the reply to it
pub record SerialObject (O R : Type 0) : Type 1 where
  pub State : Type 0
  pub opening : State
  pub after : State → O → State
  pub reply : State → O → R

module _ {O R : Type 0} (object : SerialObject O R) where
  abbrev pub after_all : object.State → List O → object.State
  after_all s [] = s
  after_all s (op ∷ ops) = after_all (object.after s op) ops

  abbrev pub replies_to_all : object.State → List O → List R
  replies_to_all s [] = []
  replies_to_all s (op ∷ ops) = object.reply s op ∷ replies_to_all (object.after s op) ops

  -- A batch was served as if its operations came one after another in some order: `served` has each of them, with its
  -- reply, in that order.
  pub record IsServedInSomeOrder (before : object.State) (ops : List O) (replies : List R) (after : object.State) : Type 0 where
    pub served : List (O × R)
    pub order : IsPermutation (zip ops replies) served
    pub count : length replies ≡ length ops
    pub replies_are : map (λ x. x.1) served ≡ replies_to_all before (map (λ x. x.0) served)
    pub after_is : after ≡ after_all before (map (λ x. x.0) served)
