use Rattle.std.proofs.Common.{ℕ, ◌∙◌, subst, arith}
use Rattle.shared_uses.proofs.Adds.{Added, job_at, jobs_long, backs_long, all_added, are_callers, sum_is}
use Rattle.shared_uses.proofs.sums.sum_in_threads.Goals as goal

pub add_each-requires-clause-jobs : goal.add_each-requires-clause-jobs
add_each-requires-clause-jobs g c κs within i j less is =
    let news = c.in_ok-counter.ensures.callers in
    let jobs = c.in_ok-jobs.ensures in
    let long = jobs_long (λ h. h.caller) 0 _ c.in_ok-jobs.jobs.items c.in_ok-counter.callers.items jobs in
    let count = news.count in
    let at = job_at (λ h. h.caller) 0 _ c.in_ok-jobs.jobs.items c.in_ok-counter.callers.items jobs i j less is in
    let new = news.each i j.caller (omega (arith, less, long, count)) at.0 in
    (new.0, new.4, new.2, at.1, at.2)

pub close-requires : goal.close-requires
close-requires g c =
    let s = c.in_ok-counter.counter.shared in
    let news = c.in_ok-counter.ensures.callers in
    let first = c.in_ok-counter.callers.items in
    let jobs = c.in_ok-jobs.jobs.items in
    let are = c.in_ok-jobs.ensures in
    let backs = c.in_ok-backs.backs.items in
    let callers = c.in_ok-callers.callers.items in
    let long = jobs_long (λ h. h.caller) 0 _ jobs first are in
    let count = news.count in
    let all = all_added s c.args.numbers.now (λ h. h.caller) 0 0 jobs first callers backs are c.in_ok-callers.ensures c.in_ok-backs.ensures.count (λ i j b less is there.
    let at = job_at (λ h. h.caller) 0 _ jobs first are i j less is in
    let new = news.each i j.caller (omega (arith, less, long, count)) at.0 in
    subst (λ (n : ℕ). Added s c.args.numbers.now n j.from j.to b) (new.1 ∙ omega arith) (c.in_ok-backs.ensures.each i j b less is there)) in
    let same = backs_long callers backs c.in_ok-callers.ensures in
    let more = c.in_ok-backs.ensures.count in
    let whole = c.in_ok-counter.ensures.all in record {
      callers = are_callers s c.args.numbers.now jobs callers all (omega (arith, same, more, long, count, whole));
    }

pub returns : goal.returns
returns g c =
    let s = c.in_ok-counter.counter.shared in
    let news = c.in_ok-counter.ensures.callers in
    let first = c.in_ok-counter.callers.items in
    let jobs = c.in_ok-jobs.jobs.items in
    let are = c.in_ok-jobs.ensures in
    let backs = c.in_ok-backs.backs.items in
    let callers = c.in_ok-callers.callers.items in
    let long = jobs_long (λ h. h.caller) 0 _ jobs first are in
    let count = news.count in
    let all = all_added s c.args.numbers.now (λ h. h.caller) 0 0 jobs first callers backs are c.in_ok-callers.ensures c.in_ok-backs.ensures.count (λ i j b less is there.
    let at = job_at (λ h. h.caller) 0 _ jobs first are i j less is in
    let new = news.each i j.caller (omega (arith, less, long, count)) at.0 in
    subst (λ (n : ℕ). Added s c.args.numbers.now n j.from j.to b) (new.1 ∙ omega arith) (c.in_ok-backs.ensures.each i j b less is there)) in
    let log = c.close.ensures.sum in
    log.2 ∙ sum_is s c.args.numbers.now jobs callers log.0 all log.1
