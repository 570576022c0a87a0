-- The workers are put together one by one, each of its pass, its hand, its desk and its tries.
use Rattle.std.proofs.Common.{◌≡◌, ◌≢◌, ℕ, ◌+◌, ◌<◌, ◌==◌, List, [], ◌∷◌, ◌++◌, sym, ap, ◌∙◌, subst, arith, refl, true, false, Bool, if◌then◌else◌}
use Rattle.std.proofs.lemmas.List.{get_or_append_left, get_or_push, length_push}
use mathlib.Core.Logic.{dite}
use native.Mathlib.Decide.{ℕ_discrete}
use Rattle.two_deques.specs.Hands.{Held, held, fresh_hand, IsHandOf}
use Rattle.two_deques.specs.Tries.{TriesView, first_tries}
use Rattle.piece_board.specs.declared.view.DeskView.{DeskView}
use Rattle.piece_board.specs.Boards.{desk_view, IsDeskOf}
use Rattle.piece_board.specs.Desks.{fresh_desk}
use Rattle.launch_batch.specs.declared.piece.PieceIn.{PieceIn}
use Rattle.core_table.specs.Passes.{IsPassOf, pass_view}
use Rattle.leaf_work.specs.declared.brand.WorkBrand.{Ghosts as BrandOf}
use Rattle.leaf_work.specs.declared.function.LeafWork.{Ghosts as WorkOf}
use Rattle.worker_crew.specs.declared.crew.Crew.{Crew}
use Rattle.worker_crew.specs.declared.crew.Me.{Me}
use Rattle.worker_crew.specs.Opening.{with_root, opening_hand, IsAtStart, AreAtStartUpTo}
use Rattle.worker_crew.specs.Passes.{IsFree}
use Rattle.table_rule.specs.declared.view.PassView.{PassView}
use Rattle.table_rule.specs.Passes.{unused}

worker_by : (b : Bool) (h : Held) → (if b then with_root h else h).worker ≡ h.worker
worker_by true h = refl
worker_by false h = refl

module _ {G B W : Type 0} {b : BrandOf B} {w : WorkOf W} (crew : Crew G B W b w) where
  pub at_start : (worker : ℕ) (me : Me) → IsPassOf crew.table me.pass × (pass_view me.pass ≡ unused worker) → IsHandOf crew.decks me.hand → held me.hand ≡ opening_hand worker crew.workers
      → IsDeskOf crew.board me.desk → desk_view me.desk ≡ fresh_desk worker → me.tries ≡ first_tries worker crew.workers
      → IsAtStart crew worker me
  at_start worker me pass hand opening desk fresh tries =
      let own : (held me.hand).worker ≡ worker =
      ap (λ (h : Held). h.worker) opening ∙ worker_by (worker == 0) (fresh_hand worker crew.workers) in record {
        ready = record {
          own = record {
            pass = pass.0;
            hand = hand;
            desk = desk;
            worker = ap (λ (p : PassView). p.worker) pass.1 ∙ sym own;
            row = ap (λ (d : DeskView PieceIn). d.row) fresh ∙ sym own;
            tries = ap (λ (t : TriesView). t.worker) tries ∙ sym own;
            workers = ap (λ (t : TriesView). t.workers) tries ∙ crew.each.0;
          };
          free = subst IsFree (sym pass.1) (refl, refl);
          idle = ap (λ (p : PassView). p.task) pass.1;
          row = ap (λ (d : DeskView PieceIn). d.posted) fresh;
        };
        pass = pass.1;
        hand = opening;
        desk = fresh;
        tries = tries;
      }

  pub one_more : (n : ℕ) (mes : List Me) (me : Me) → AreAtStartUpTo crew n mes
      → IsAtStart crew n me
      → AreAtStartUpTo crew (n + 1) (mes ++ me ∷ [])
  one_more n mes me so_far start = record {
    count = omega (arith, length_push mes me, so_far.count);
    each = λ w other lt at. dite (ℕ_discrete w n)
        (λ (is : w ≡ n).
        let same : me ≡ other = sym (at ∙ get_or_push mes me other w (so_far.count ∙ sym is)) in
        subst (λ (q : Me). IsAtStart crew w q) same
        (subst (λ (k : ℕ). IsAtStart crew k me) (sym is) start))
        (λ (ne : w ≢ n).
        let less : w < n = omega (arith, lt, ne) in
        so_far.each w other less (at ∙ get_or_append_left mes (me ∷ []) other w (omega (arith, so_far.count, less))));
  }
