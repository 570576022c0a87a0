use Rattle.std.proofs.Common.{◌≡◌, ◌∙◌, ap, length, get_or, arith}
use Rattle.shared_pieces.proofs.Places.{pair_at, pairs_long}
use Rattle.shared_pieces.proofs.sharing.share_in_pieces.Goals as goal

pub returns-clause-all : goal.returns-clause-all
returns-clause-all g c =
    let news = c.in_ok-shared.ensures.callers.count in
    let workers = c.in_ok-board.ensures.workers in
    let desks = c.in_ok-board.ensures.desks.count in
    let long : length c.in_ok-shared.all.items ≡ length c.in_ok-board.desks.items = omega (arith, news, workers, desks) in
    (c.in_ok-shared.ensures.all, ap (λ l. length l) c.in_ok-pairs.ensures ∙ (pairs_long c.in_ok-shared.all.items c.in_ok-board.desks.items long ∙ news))

pub returns-clause-callers : goal.returns-clause-callers
returns-clause-callers g c k s less is =
    let news = c.in_ok-shared.ensures.callers.count in
    let workers = c.in_ok-board.ensures.workers in
    let desks = c.in_ok-board.ensures.desks.count in
    let long : length c.in_ok-shared.all.items ≡ length c.in_ok-board.desks.items = omega (arith, news, workers, desks) in
    let at = pair_at c.in_ok-shared.all.items c.in_ok-board.desks.items k s long (omega (arith, less, news)) (is ∙ ap (λ l. get_or l k s) c.in_ok-pairs.ensures) in
    c.in_ok-shared.ensures.callers.each k s.0 less at.0

pub returns-clause-desks : goal.returns-clause-desks
returns-clause-desks g c k s less is =
    let news = c.in_ok-shared.ensures.callers.count in
    let workers = c.in_ok-board.ensures.workers in
    let desks = c.in_ok-board.ensures.desks.count in
    let long : length c.in_ok-shared.all.items ≡ length c.in_ok-board.desks.items = omega (arith, news, workers, desks) in
    let at = pair_at c.in_ok-shared.all.items c.in_ok-board.desks.items k s long (omega (arith, less, news)) (is ∙ ap (λ l. get_or l k s) c.in_ok-pairs.ensures) in
    c.in_ok-board.ensures.desks.each k s.1 (omega (arith, less, workers)) at.1
