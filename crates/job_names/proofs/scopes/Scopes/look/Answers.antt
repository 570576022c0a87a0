use Rattle.std.proofs.Common.{◌≡◌, ◌+◌, ◌-◌, ◌∙◌, ◌∷◌, ap, subst, length, take, drop, reverse, get_or, arith}
use Rattle.job_names.specs.Code.Kept.{AreStarts, scope_of, view}
use Rattle.job_names.specs.Scopes.{last_of, lets_shown}
use Rattle.job_names.proofs.ScopeLemmas.{next_block, found_here, found_outside}
use Rattle.job_names.proofs.scopes.Scopes.look.Goals as goal

pub last_in_block-requires-clause-order : goal.last_in_block-requires-clause-order
last_in_block-requires-clause-order c =
    let blocks = c.args.self.now.blocks.items in
    let block = c.index-block.result.now in
    let i = c.loop-i.i in
    let n : c.len-open.result ≡ length blocks = omega arith in
    let step : drop i (reverse blocks) ≡ block ∷ drop (i + 1) (reverse blocks) =
    next_block blocks i block (omega (arith, n)) (c.index-block.ensures ∙ ap (λ m. get_or blocks (m - 1 - i) block) n) in
    let starts : AreStarts (block ∷ drop (i + 1) (reverse blocks)) c.loop-i.end = subst (λ bs. AreStarts bs c.loop-i.end) step c.loop-i.invariant.starts in
    starts.0

pub returns-in-Some : goal.returns-in-Some
returns-in-Some c =
    let blocks = c.args.self.now.blocks.items in
    let block = c.index-block.result.now in
    let i = c.loop-i.i in
    let n : c.len-open.result ≡ length blocks = omega arith in
    let step : drop i (reverse blocks) ≡ block ∷ drop (i + 1) (reverse blocks) =
    next_block blocks i block (omega (arith, n)) (c.index-block.ensures ∙ ap (λ m. get_or blocks (m - 1 - i) block) n) in
    let starts : AreStarts (block ∷ drop (i + 1) (reverse blocks)) c.loop-i.end = subst (λ bs. AreStarts bs c.loop-i.end) step c.loop-i.invariant.starts in
    let same : last_of c.args.name (lets_shown (scope_of (block ∷ drop (i + 1) (reverse blocks)) (take c.loop-i.end c.args.self.now.lets.items))) ≡ last_of c.args.name (lets_shown (view c.args.self.now)) =
    subst (λ bs. last_of c.args.name (lets_shown (scope_of bs (take c.loop-i.end c.args.self.now.lets.items))) ≡ last_of c.args.name (lets_shown (view c.args.self.now))) step c.loop-i.invariant.same in
    found_here c.args.name c.in-Some.number c.loop-i.end block (drop (i + 1) (reverse blocks)) c.args.self.now.lets.items (last_of c.args.name (lets_shown (view c.args.self.now))) c.in-Some.ensures same

pub loop-i-preserved : goal.loop-i-preserved
loop-i-preserved c =
    let blocks = c.args.self.now.blocks.items in
    let block = c.index-block.result.now in
    let i = c.loop-i.i in
    let n : c.len-open.result ≡ length blocks = omega arith in
    let step : drop i (reverse blocks) ≡ block ∷ drop (i + 1) (reverse blocks) =
    next_block blocks i block (omega (arith, n)) (c.index-block.ensures ∙ ap (λ m. get_or blocks (m - 1 - i) block) n) in
    let starts : AreStarts (block ∷ drop (i + 1) (reverse blocks)) c.loop-i.end = subst (λ bs. AreStarts bs c.loop-i.end) step c.loop-i.invariant.starts in
    let same : last_of c.args.name (lets_shown (scope_of (block ∷ drop (i + 1) (reverse blocks)) (take c.loop-i.end c.args.self.now.lets.items))) ≡ last_of c.args.name (lets_shown (view c.args.self.now)) =
    subst (λ bs. last_of c.args.name (lets_shown (scope_of bs (take c.loop-i.end c.args.self.now.lets.items))) ≡ last_of c.args.name (lets_shown (view c.args.self.now))) step c.loop-i.invariant.same in
    let lower = starts.0 in
    record {
      within = omega (arith, lower);
      starts = starts.1;
      same = found_outside c.args.name c.loop-i.end block (drop (i + 1) (reverse blocks)) c.args.self.now.lets.items (last_of c.args.name (lets_shown (view c.args.self.now))) c.in_default.ensures starts.0 same;
    }
