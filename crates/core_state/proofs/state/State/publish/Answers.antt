use Rattle.std.proofs.Common.{refl}
use Rattle.core_state.specs.Abstraction.{book_of, state_of, ready_of}
use Rattle.core_state.proofs.CodeLemmas.CoreFits.{looks}
use Rattle.batch_history.proofs.BookLemmas.Books.{served_then}
use Rattle.core_state.proofs.BatchLemmas.Publishing.{at_call, taken_owed, can_serve, served_batch, no_hold}
use Rattle.core_state.proofs.state.State.publish.Goals as goal

pub unreachable-requires : goal.unreachable-requires
unreachable-requires g c = no_hold c.args.self.now c.requires.needs.0 c.in_default.is c.requires.needs.1.0

-- the calls of the last batch are no part of what the state represents
pub put_taken_calls-requires-clause-fits : goal.put_taken_calls-requires-clause-fits
unfolding state_of ready_of
put_taken_calls-requires-clause-fits g c =
    let fits = c.requires.fits in record {
      some = fits.some;
      few = fits.few;
      shape = fits.shape;
      laws = fits.laws;
      most = fits.most;
      leaves = fits.leaves;
      leaves_in = fits.leaves_in;
      calls_in = fits.calls_in;
      sources = fits.sources;
      sizes = record {
        nodes_len = fits.sizes.nodes_len;
        marks_len = fits.sizes.marks_len;
        values_len = fits.sizes.values_len;
        tasks_len = fits.sizes.tasks_len;
        statuses_len = fits.sizes.statuses_len;
        calls_len = fits.sizes.calls_len;
        ready_len = fits.sizes.ready_len;
      };
      few_acts = fits.few_acts;
      shop = fits.shop;
      inv = fits.inv;
    }

pub put_taken_calls-requires-clause-started : goal.put_taken_calls-requires-clause-started
unfolding state_of
put_taken_calls-requires-clause-started g c = λ v below took.
    (looks c.args.setting.now c.args.self.now c.requires.fits).owed v (taken_owed c.args.worker c.requires.fits c.requires.needs c.in-Some.is v took)

pub put_taken_calls-requires-clause-at_call : goal.put_taken_calls-requires-clause-at_call
unfolding state_of
put_taken_calls-requires-clause-at_call g c = λ v below took. at_call c.args.worker c.requires.fits c.requires.needs c.in-Some.is v took

pub serve_taken-requires : goal.serve_taken-requires
unfolding state_of
serve_taken-requires g c = record {
  there = rw c.take.ensures.value c.requires.fits.shop;
  may = rw c.take.ensures.value (can_serve c.args.worker c.requires.fits c.requires.needs c.in-Some.is c.in_ok-put_taken_calls.ensures);
}

pub returns-clause-event : goal.returns-clause-event
unfolding state_of
returns-clause-event g c =
    let served = rw c.take.ensures.value at c.in_ok-shop.ensures in
    let batch = served_batch c.args.worker c.requires.fits c.requires.needs c.in-Some.is c.in_ok-put_taken_calls.ensures served.0 served.1 in
    (served.0, batch, rw (c.in-Some.is, c.publish.ensures, c.put_back.ensures, served.2, served_then (book_of c.args.self.now.shop) served.0) refl)

pub returns-clause-lists : goal.returns-clause-lists
unfolding ready_of
returns-clause-lists g c = refl
