use Rattle.std.proofs.Common.{rules, ◌≡◌, ◌<◌, ◌∷◌, ◌++◌, [], length, map, sym, ap, ◌∙◌, subst, arith, ℕ, List, length-append}
use Rattle.limits.specs.declared.TheConstants.{PLACES}
use Rattle.std.proofs.lemmas.Grind.{common_steps}
use Rattle.std.proofs.lemmas.List.{map-append, length-map}
use Rattle.std.specs.List.{AllByRecursion}
use Rattle.seq_objects.specs.Orders.{StrictlyAscends}
use Rattle.seq_objects.proofs.Elements.{each_right}
use Rattle.launch_batch.specs.declared.piece.PieceIn.{PieceIn}
use Rattle.launch_batch.specs.Pieces.{place_of}
use Rattle.two_deques.specs.declared.spot.Spot.{Spot}
use Rattle.two_deques.specs.Hands.{Held, held}
use Rattle.two_deques.specs.Ends.{after_push}
use Rattle.piece_board.specs.Boards.{desk_view}
use Rattle.worker_turns.proofs.PieceLemmas.Working.{posted_more, free_next}
use Rattle.worker_turns.proofs.PieceLemmas.Handing.{pushed_more}
use Rattle.worker_turns.proofs.pieces.serving.post_all.Goals as goal

pub post-requires-clause-place : goal.post-requires-clause-place
post-requires-clause-place g c =
    let i = c.loop-input.invariant in
    let all : c.args.ins.items ≡ c.loop-input.yielded ++ c.in-Some.input ∷ c.next.new.self.rest.items = grind (arith, common_steps, c.in-Some.ensures.steps, i.all, c.into_iter-input-iterator.ensures.into_iter_gives) in
    let below = each_right (λ input. place_of input < PLACES) c.loop-input.yielded (c.in-Some.input ∷ c.next.new.self.rest.items) (subst (λ (l : List PieceIn). AllByRecursion (λ input. place_of input < PLACES) l) all c.requires.below) in
    let is = c.place-place.ensures in
    omega (arith, below.0, is)

pub post-requires-clause-free : goal.post-requires-clause-free
post-requires-clause-free g c =
    let i = c.loop-input.invariant in
    let all : c.args.ins.items ≡ c.loop-input.yielded ++ c.in-Some.input ∷ c.next.new.self.rest.items = grind (arith, common_steps, c.in-Some.ensures.steps, i.all, c.into_iter-input-iterator.ensures.into_iter_gives) in
    let up = subst (λ (l : List PieceIn). StrictlyAscends (map place_of l)) all c.requires.ascend in
    let free = free_next (desk_view c.args.me.now.desk) (desk_view c.loop-input.me.desk) c.loop-input.yielded c.next.new.self.rest.items c.place-place.result c.in-Some.input up c.place-place.ensures i.desk in
    search (rules, free)

pub push-requires : goal.push-requires
push-requires g c =
    let i = c.loop-input.invariant in
    let all : c.args.ins.items ≡ c.loop-input.yielded ++ c.in-Some.input ∷ c.next.new.self.rest.items = grind (arith, common_steps, c.in-Some.ensures.steps, i.all, c.into_iter-input-iterator.ensures.into_iter_gives) in
    let whole = ap length all in
    let parts = length-append c.loop-input.yielded (c.in-Some.input ∷ c.next.new.self.rest.items) in
    let places = ap length i.places ∙ length-map c.loop-input.yielded place_of in
    omega (arith, c.requires.few, whole, parts, places)

pub loop-input-preserved : goal.loop-input-preserved
loop-input-preserved g c =
    let i = c.loop-input.invariant in
    let spot : Spot = record { row = c.worker-row.result; place = c.place-place.result } in
    let pushed : held c.push_piece.new.hand ≡ record (held c.loop-input.me.hand) { batch = after_push spot (held c.loop-input.me.hand).batch } = search rules in record {
      me = search rules;
      batch = rw c.push.ensures.items (pushed_more c.worker-row.result c.place-place.result c.loop-input.places.items (held c.args.me.now.hand).batch (held c.loop-input.me.hand).batch
          (held c.push_piece.new.hand).batch i.batch (ap (λ (h : Held). h.batch) pushed));
      core = search rules;
      pass = i.pass;
      all = grind (arith, common_steps, c.in-Some.ensures.steps, i.all);
      places = c.push.ensures.items ∙ ap (λ l. l ++ c.place-place.result ∷ []) i.places ∙ ap (λ (n : ℕ). map place_of c.loop-input.yielded ++ n ∷ []) c.place-place.ensures ∙ sym (map-append place_of c.loop-input.yielded (c.in-Some.input ∷ []));
      desk = posted_more (desk_view c.args.me.now.desk) (desk_view c.loop-input.me.desk) (desk_view c.post.new.desk) c.loop-input.yielded _ c.in-Some.input c.place-place.ensures i.desk c.post.ensures.posted;
      row = i.row;
    }

pub returns-clause-places : goal.returns-clause-places
returns-clause-places g c =
    let i = c.loop-input.invariant in
    let yielded : c.loop-input.yielded ≡ c.args.ins.items = grind (arith, common_steps, c.in-None.ensures.steps, i.all, c.into_iter-input-iterator.ensures.into_iter_gives) in
    rw yielded at i.places

pub returns-clause-desk : goal.returns-clause-desk
returns-clause-desk g c =
    let i = c.loop-input.invariant in
    let yielded : c.loop-input.yielded ≡ c.args.ins.items = grind (arith, common_steps, c.in-None.ensures.steps, i.all, c.into_iter-input-iterator.ensures.into_iter_gives) in
    rw yielded at i.desk
