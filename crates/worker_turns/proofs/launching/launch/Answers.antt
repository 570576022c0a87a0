use Rattle.std.proofs.Common.{rules, ℕ, ◌≡◌, ◌≢◌, [], length, ap, subst}
use Rattle.table_rule.specs.declared.view.PassView.{PassView}
use Rattle.core_table.specs.Passes.{job_in, pass_view}
use Rattle.worker_crew.specs.Workers.{me_seen}
use Rattle.worker_turns.specs.Code.Serving.{HasLooked}
use Rattle.worker_turns.proofs.HoldLemmas.Passes.{own_of}
use Rattle.worker_turns.proofs.LaunchLemmas.Launched.{taken_serve, has_taken, none_release, none_launched, no_call, served_release, served_launched}
use Rattle.worker_turns.proofs.launching.launch.Goals as goal

pub release-requires-clause-due : goal.release-requires-clause-due
release-requires-clause-due g c =
    let workers = (job_in c.args.crew.now.table).workers in
    let calls = c.in_ok-calls.calls.items in
    let old = pass_view c.args.me.now.pass in
    let mid = pass_view c.collect_pending.new.pass in
    let is : HasLooked workers calls old mid = subst (λ (n : ℕ). HasLooked n calls old mid) c.args.crew.now.job c.in_ok-calls.ensures.looked in
    let none : length calls ≡ 0 = search (rules, c.is_empty.ensures, c.if-is_empty.true) in
    rw (c.keep_calls.ensures, c.spare_calls-room.ensures.same) (none_release old mid workers calls c.args.shop c.requires.won is (no_call calls none))

pub release-requires-2-clause-due : goal.release-requires-2-clause-due
release-requires-2-clause-due g c =
    let workers = (job_in c.args.crew.now.table).workers in
    let calls = c.in_ok-calls.calls.items in
    let old = pass_view c.args.me.now.pass in
    let mid = pass_view c.collect_pending.new.pass in
    let is : HasLooked workers calls old mid = subst (λ (n : ℕ). HasLooked n calls old mid) c.args.crew.now.job c.in_ok-calls.ensures.looked in
    let some : calls ≢ [] = search rules in
    let may = taken_serve old mid workers calls c.args.shop c.requires.won is c.in_ok-calls.ensures.fit some in
    served_release (record (me_seen c.args.me.now) { pass = mid }) _ workers calls c.args.shop c.in_ok-shop.shop
    (has_taken old mid workers calls c.args.shop c.requires.won is) may (rw c.spare_calls-room.ensures.same at c.in_ok-shop.ensures.batch)

pub returns-clause-launched : goal.returns-clause-launched
returns-clause-launched g c =
    let workers = (job_in c.args.crew.now.table).workers in
    let calls = c.in_ok-calls.calls.items in
    let old = pass_view c.args.me.now.pass in
    let mid = pass_view c.collect_pending.new.pass in
    let is : HasLooked workers calls old mid = subst (λ (n : ℕ). HasLooked n calls old mid) c.args.crew.now.job c.in_ok-calls.ensures.looked in
    let some : calls ≢ [] = search rules in
    let may = taken_serve old mid workers calls c.args.shop c.requires.won is c.in_ok-calls.ensures.fit some in
    served_launched (me_seen c.args.me.now) _ mid (pass_view c.serve_batch.new.me.pass) workers calls c.args.shop c.in_ok-shop.shop c.requires.won may
    is (rw c.spare_calls-room.ensures.same at c.in_ok-shop.ensures.batch) (own_of _ _ c.release-2.ensures.released)

pub returns-then-is_empty-clause-launched : goal.returns-then-is_empty-clause-launched
returns-then-is_empty-clause-launched g c =
    let workers = (job_in c.args.crew.now.table).workers in
    let calls = c.in_ok-calls.calls.items in
    let old = me_seen c.args.me.now in
    let mid = pass_view c.collect_pending.new.pass in
    let is : HasLooked workers calls old.pass mid = subst (λ (n : ℕ). HasLooked n calls old.pass mid) c.args.crew.now.job c.in_ok-calls.ensures.looked in
    let none : length calls ≡ 0 = search (rules, c.is_empty.ensures, c.if-is_empty.true) in
    none_launched old _ mid workers calls c.args.shop c.requires.won is (no_call calls none) (ap (λ (p : PassView). record old { pass = p }) (own_of _ _ c.release.ensures.released)) c.requires.free
