-- What a pass that is not trapped and a hold say, and what is seen of a pass by its seat's view.
use Rattle.std.proofs.Common.{◌≡◌, ◌≢◌, true, false, refl, ap, subst}
use Rattle.std.specs.Prelude.{Option, Some}
use Rattle.table_rule.specs.declared.view.HoldView.{HoldView}
use Rattle.table_rule.specs.declared.view.View.{View}
use Rattle.worker_crew.specs.Words.{CallState, NotCalled, Out, Got}
use Rattle.worker_crew.specs.Passes.{is_trapped}
use Rattle.worker_turns.specs.Code.Serving.{Holds}

-- a call that is not outstanding, and one that is
pub not_out : (call : CallState) → is_trapped call ≡ false → call ≢ Out
not_out call free out = let e : is_trapped call ≡ true = ap is_trapped out in absurd (cc)

pub is_out : (call : CallState) → is_trapped call ≡ true → call ≡ Out
is_out NotCalled trapped = absurd (cc)
is_out Out trapped = refl
is_out (Got receipt) trapped = absurd (cc)

-- the hold, where it is known
pub held_at : (P : HoldView → Type 0) (hold : Option HoldView) (h : HoldView) → Holds P hold → hold ≡ Some h → P h
held_at P hold h is at = subst (Holds P) at is

-- what is seen of a pass, by its seat's view
pub own_of : (a b : View) → a ≡ b → a.own ≡ b.own
own_of a b is = ap (λ (v : View). v.own) is
