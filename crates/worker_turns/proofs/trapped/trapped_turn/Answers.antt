use Rattle.std.proofs.Common.{rules, ◌≡◌, ap, ◌∙◌, subst, inr}
use Rattle.table_rule.specs.declared.view.PassView.{PassView}
use Rattle.table_rule.specs.Passes.{refusing_win, refusing_leave, winning}
use Rattle.core_table.specs.Passes.{job_in, pass_view}
use Rattle.table_rule.specs.Shows.{IsPrefix}
use Rattle.worker_crew.specs.Workers.{WorkerView, me_seen}
use Rattle.worker_turns.specs.Pieces.{IsOwnPiece, IsOtherPiece}
use Rattle.worker_turns.specs.declared.attempts.PieceAttempt.{PieceAttempt}
use Rattle.worker_turns.specs.declared.trapped.Trapped.TheVariants.{Piece, Launched, Nothing}
use Rattle.worker_turns.specs.Launches.{Launches}
use Rattle.worker_turns.specs.Trapped.{IsTrappedTurn, refused_both, won_after}
use Rattle.worker_turns.proofs.MeaningLemmas.Stays.{call_after, trapped_helps}
use Rattle.worker_turns.proofs.MeaningLemmas.Events.{trapped_looked}
use Rattle.worker_turns.proofs.PieceLemmas.Working.{own_works, other_works}
use Rattle.worker_turns.proofs.CarryLemmas.Steps.{helps_then, helps_works}
use Rattle.worker_turns.proofs.HoldLemmas.Passes.{own_of}
use Rattle.worker_turns.proofs.trapped.trapped_turn.Goals as goal

pub returns : goal.returns
returns g c =
    let old = me_seen c.args.me.now in
    let tried = me_seen c.pop_own_piece.new.me in
    let own = subst (λ (p : PassView). IsOwnPiece c.in_ok-own.own (record old { pass = p }) tried) (own_of _ _ (c.stopped.ensures.unset c.if-stopped.false).2) c.in_ok-own.ensures.path in
    let refused : pass_view c.win.new.pass ≡ refusing_win (refusing_leave (pass_view c.pop_own_piece.new.me.pass)) = search rules in
    let other = subst (λ (p : PassView). IsOtherPiece c.in_ok-other.other (record tried { pass = p }) (me_seen c.steal_other_piece.new.me)) refused c.in_ok-other.ensures.path in
    let path : IsTrappedTurn (job_in c.args.crew.now.table).workers Nothing old (me_seen c.steal_other_piece.new.me) =
    (c.in_ok-own.own, c.in_ok-other.other, tried, search rules, search rules, own, other) in record {
      pass = search rules;
      me = c.in_ok-other.ensures.me;
      path = path;
      own = tt;
      looked = trapped_looked (job_in c.args.crew.now.table).workers Nothing old (me_seen c.steal_other_piece.new.me) path;
      stays = (call_after (job_in c.args.crew.now.table).workers Nothing old (me_seen c.steal_other_piece.new.me) c.requires.trapped path).same;
      free = search rules;
      core = search rules;
      helps = helps_then _ _ _ (helps_works _ _ (own_works _ _ _ own)) (helps_works _ _ (other_works _ _ _ other));
      stopped = search rules;
    }

pub returns-in-Ran-other : goal.returns-in-Ran-other
returns-in-Ran-other g c =
    let workers = (job_in c.args.crew.now.table).workers in
    let old = me_seen c.args.me.now in
    let tried = me_seen c.pop_own_piece.new.me in
    let new = me_seen c.steal_other_piece.new.me in
    let own = subst (λ (p : PassView). IsOwnPiece c.in_ok-own.own (record old { pass = p }) tried) (own_of _ _ (c.stopped.ensures.unset c.if-stopped.false).2) c.in_ok-own.ensures.path in
    let refused : pass_view c.win.new.pass ≡ refusing_win (refusing_leave (pass_view c.pop_own_piece.new.me.pass)) = search rules in
    let other = subst (λ (p : PassView). IsOtherPiece c.in_ok-other.other (record tried { pass = p }) new) refused c.in_ok-other.ensures.path in
    let path : IsTrappedTurn workers Piece old new =
    inr (c.in_ok-own.own, c.in-Ran-other.field-0, tried, search rules, own, subst (λ (t : PieceAttempt). IsOtherPiece t (refused_both tried) new) c.in-Ran-other.is other) in record {
      pass = search rules;
      me = search rules;
      path = path;
      own = tt;
      looked = trapped_looked workers Piece old new path;
      stays = (call_after workers Piece old new c.requires.trapped path).same;
      free = search rules;
      core = search rules;
      helps = trapped_helps workers Piece old new path;
      stopped = search rules;
    }

pub returns-in-Some-win : goal.returns-in-Some-win
returns-in-Some-win g c =
    let workers = (job_in c.args.crew.now.table).workers in
    let old = me_seen c.args.me.now in
    let tried = me_seen c.pop_own_piece.new.me in
    let new = me_seen c.launch.new.me in
    let own = subst (λ (p : PassView). IsOwnPiece c.in_ok-own.own (record old { pass = p }) tried) (own_of _ _ (c.stopped.ensures.unset c.if-stopped.false).2) c.in_ok-own.ensures.path in
    let shop = c.in-Some-win.shop in
    let stay : pass_view c.leave.new.pass ≡ refusing_leave tried.pass = search rules in
    let won = c.in-Some-win.ensures.won in
    let now : pass_view c.win.new.pass ≡ winning shop (refusing_leave tried.pass) = own_of _ _ won.0 ∙ ap (winning shop) stay in
    let launches : Launches workers shop (won_after shop tried) new = subst (λ (p : PassView). Launches workers shop (record tried { pass = p }) new) now c.in_ok-launch.ensures.launched in
    let front : IsPrefix tried.pass.book_seen shop = subst (λ (p : PassView). IsPrefix p.book_seen shop) stay won.1 in
    let path : IsTrappedTurn workers Launched old new = (c.in_ok-own.own, tried, shop, search rules, own, launches, front) in record {
      pass = c.in_ok-launch.ensures.pass;
      me = c.in_ok-launch.ensures.me;
      path = path;
      own = tt;
      looked = trapped_looked workers Launched old new path;
      stays = (call_after workers Launched old new c.requires.trapped path).same;
      free = launches.desk.free;
      core = launches.core ∙ ap (λ (m : WorkerView). m.core) own.same;
      helps = trapped_helps workers Launched old new path;
      stopped = search rules;
    }
