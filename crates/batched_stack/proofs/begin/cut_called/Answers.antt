use Rattle.std.proofs.Common.{◌≡◌, ◌+◌, ◌<◌, [], length, get_or, ◌∙◌, refl, sym, ap, arith}
use Rattle.batched_stack.specs.Lists.{lists}
use Rattle.batched_stack.specs.Stripes.{stripe_length, stripe}
use Rattle.batched_stack.specs.Pieces.{pushes_to, pops_from, is_called}
use Rattle.batched_stack.proofs.StripeLemmas.Striped.{length_stripe}
use Rattle.batched_stack.proofs.BeginLemmas.Parts.{few_pops, pushes_to_is}
use Rattle.batched_stack.proofs.BeginLemmas.Cutting.{skip, take_out}
use Rattle.batched_stack.proofs.begin.cut_called.Goals as goal
use Rattle.batched_stack.proofs.begin.cut_called.Goals.{then-has_calls+in_ok-mine+in_ok-add_piece, else-has_calls}

pub add_piece-requires-clause-few : goal.add_piece-requires-clause-few
add_piece-requires-clause-few c =
    let number = c.loop-number.number in
    let low : number < 16 = c.loop-number-test.true in
    let long : length (get_or (lists c.loop-number.stripes.items) number []) ≡ stripe_length number c.args.count = ap length (c.loop-number.invariant.cut.kept number (λ less. absurd (omega (arith, less)))).items ∙ c.requires.stripes.lengths number low in
    rw (long, c.pops_of_stripe-taken.ensures, c.in_ok-mine.ensures, c.first_push-first.ensures) (few_pops number c.args.count c.args.pops c.args.pushes.now low)

pub loop-number-preserved : goal.loop-number-preserved
loop-number-preserved c =
    let old = c.args.stripes.items in
    let count = c.args.count in
    let pushes = c.args.pushes.now in
    let pops = c.args.pops in
    let number = c.loop-number.number in
    let now = c.loop-number.stripes.items in
    let pieces = c.loop-number.pieces.items in
    let low : number < 16 = c.loop-number-test.true in
    let first = c.first_push-first.result in
    let mine : stripe first pushes ≡ pushes_to number count pushes = ap (λ k. stripe k pushes) c.first_push-first.ensures ∙ sym (pushes_to_is number count pushes low) in
    let long : stripe_length first (length pushes) ≡ length (pushes_to number count pushes) = sym (length_stripe first pushes) ∙ ap length mine in
    let taken : c.pops_of_stripe-taken.result ≡ pops_from number (count + length pushes) pops = c.pops_of_stripe-taken.ensures in
    let test : c.has_calls.result ≡ is_called count pushes pops number = c.has_calls.ensures ∙ rw (long, taken) refl in
    elim c.if-has_calls.branch [
      | then-has_calls+in_ok-mine+in_ok-add_piece w ↦
          let made = w.in_ok-add_piece.ensures in
          let cut = take_out old now w.add_piece.new.stripes.items count pushes pops number pieces w.add_piece.new.pieces.items w.in_ok-mine.mine.items c.pops_of_stripe-taken.result c.loop-number.invariant.cut (sym test ∙ w.if-has_calls.true) (w.in_ok-mine.ensures ∙ mine) taken made.lists made.rooms made.piece in
          rw (w.stripes-is, w.pieces-is) (record { cut = cut; sixteen = made.sixteen })
      | else-has_calls w ↦
          let cut = skip old now count pushes pops number pieces c.loop-number.invariant.cut (sym test ∙ w.if-has_calls.false) in
          rw (w.stripes-is, w.pieces-is) (record { cut = cut; sixteen = c.loop-number.invariant.sixteen })
    ]
