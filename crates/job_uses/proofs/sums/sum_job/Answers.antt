use Rattle.std.proofs.Common.{◌≡◌, ◌+◌, ◌<◌, ◌++◌, ◌∷◌, [], length, ◌∙◌, ap, sym, subst, arith, length-append}
use Rattle.std.specs.Prelude.{sum, None}
use Rattle.std.specs.Int.{div_ceil}
use Rattle.std.proofs.lemmas.Grind.{common_steps}
use Rattle.std.proofs.lemmas.List.{length-map}
use Rattle.std.proofs.lemmas.Result.{err_from_is_err_and}
use Rattle.leaf_handles.specs.Handles.{HandleValue}
use Rattle.job_builder.specs.Drafts.{Draft, built, closed, with_leaf}
use Rattle.job_uses.specs.Sums.{add_of, IsSumJob}
use Rattle.job_uses.proofs.Chunking.{all_in, more_behind, no_more}
use Rattle.job_uses.proofs.Refusals.{no_leaf}
use Rattle.job_uses.proofs.SumJobs.{adding, adding_more, sum_built, sum_push, sum_parts, none_left}
use Rattle.job_uses.proofs.sums.sum_job.Goals as goal

pub loop-rest-preserved : goal.loop-rest-preserved
loop-rest-preserved c =
    let before = c.loop-rest.invariant in
    let part = c.sum_of.result in
    let parts = sum_parts c.loop-rest.rest.now c.min.result c.split_at.result.0.now c.split_at.result.1.now c.split_at.ensures.front c.split_at.ensures.back in
    let own = c.sum_of.ensures in
    let pushed = sum_push before.numbers part in
    let was = before.comes_to in
    let count = length-append before.numbers (part ∷ []) in
    let some : 0 < length c.loop-rest.rest.now = first_of (omega arith, grind (arith, common_steps)) in
    let whole = before.whole some in
    let cut = c.min.ensures in
    let left = c.split_at.ensures.back_len in
    record {
      numbers = before.numbers ++ part ∷ [];
      added = c.in_ok-call.ensures.ok ∙ ap (λ (draft : Draft). with_leaf draft (add_of part) None None) before.added ∙ adding_more before.numbers part;
      comes_to = omega (arith, parts, own, pushed, was);
      covered = rw count (omega (arith, whole, cut, left));
      last = rw count (omega (arith, whole, some));
      whole = λ more. rw count (omega (arith, whole, cut, left, more));
    }

pub returns-clause-job : goal.returns-clause-job
returns-clause-job c =
    let before = c.loop-rest.invariant in
    let draft : c.call-2.new.self ≡ with_leaf (closed (adding before.numbers)) (add_of 0) None None =
    c.in_ok-last.ensures.ok ∙ ap (λ (draft : Draft). with_leaf draft (add_of 0) None None) (c.in_ok-close.ensures.ok ∙ ap closed before.added) in
    let job : c.in_ok-finish.field-0 ≡ built (with_leaf (closed (adding before.numbers)) (add_of 0) None None) = c.in_ok-finish.ensures.ok ∙ ap built draft in
    let leaf : c.in_ok-last.last.leaf ≡ length before.numbers =
    ap (λ (handle : HandleValue). handle.leaf) c.in_ok-last.ensures.handle
    ∙ ap (λ (draft : Draft). length draft.acts) (c.in_ok-close.ensures.ok ∙ ap closed before.added) ∙ length-map before.numbers add_of in
    let empty : length c.loop-rest.rest.now ≡ 0 = first_of (omega arith, grind (arith, common_steps)) in
    let none = none_left c.loop-rest.rest.now empty in
    let comes = before.comes_to in
    let total : sum before.numbers ≡ sum c.args.items.now = omega (arith, comes, none) in
    subst (λ j. IsSumJob (sum c.args.items.now) j c.in_ok-last.last.leaf) (sym job)
    (subst (λ n. IsSumJob (sum c.args.items.now) (built (with_leaf (closed (adding before.numbers)) (add_of 0) None None)) n) (sym leaf)
    (sum_built before.numbers (sum c.args.items.now) total))

pub returns-clause-room : goal.returns-clause-room
returns-clause-room c =
    let before = c.loop-rest.invariant in
    let empty : length c.loop-rest.rest.now ≡ 0 = first_of (omega arith, grind (arith, common_steps)) in
    let covered = before.covered in
    let chunks = all_in (length c.args.items.now) c.args.width c.requires.width (length before.numbers) (omega (arith, covered, empty)) in
    let count = ap (λ (draft : Draft). length draft.acts) (c.in_ok-close.ensures.ok ∙ ap closed before.added) ∙ length-map before.numbers add_of in
    let room = c.in_ok-last.ensures.room in
    omega (arith, chunks, count, room)

pub returns-in_err-call-clause-cause : goal.returns-in_err-call-clause-cause
returns-in_err-call-clause-cause c =
    let before = c.loop-rest.invariant in
    let p = err_from_is_err_and c.from_residual-in_err-call.result c.from_residual-in_err-call.ensures.1 in
    let some : 0 < length c.loop-rest.rest.now = first_of (omega arith, grind (arith, common_steps)) in
    let whole = before.whole some in
    let chunks = more_behind (length c.args.items.now) c.args.width c.requires.width (length before.numbers) (omega (arith, whole, some)) in
    let count = ap (λ (draft : Draft). length draft.acts) before.added ∙ length-map before.numbers add_of in
    rw (p.1, p.2) (no_leaf (div_ceil (length c.args.items.now) c.args.width + 1) c.loop-rest.job _ (omega (arith, chunks, count)) c.in_err-call.ensures.cause)

pub returns-in_err-last-clause-cause : goal.returns-in_err-last-clause-cause
returns-in_err-last-clause-cause c =
    let before = c.loop-rest.invariant in
    let p = err_from_is_err_and c.from_residual-in_err-last.result c.from_residual-in_err-last.ensures.1 in
    let chunks = no_more (length c.args.items.now) c.args.width c.requires.width (length before.numbers) before.last in
    let count = ap (λ (draft : Draft). length draft.acts) (c.in_ok-close.ensures.ok ∙ ap closed before.added) ∙ length-map before.numbers add_of in
    rw (p.1, p.2) (no_leaf (div_ceil (length c.args.items.now) c.args.width + 1) c.close.new.self _ (omega (arith, chunks, count)) c.in_err-last.ensures.cause)
