use Rattle.std.proofs.Common.{rules, ◌≡◌, List, [], ◌∷◌, length, map, refl, ap, ◌∙◌, arith, length-append}
use Rattle.core_model.specs.Words.{Entry}
use Rattle.seq_objects.specs.Pieces.{BatchContext}
use Rattle.launch_batch.specs.declared.piece.PieceIn.{PieceIn}
use Rattle.launch_batch.specs.Pieces.{place_of}
use Rattle.core_table.specs.Passes.{pass_view}
use Rattle.worker_crew.specs.Workers.{me_seen}
use Rattle.worker_turns.proofs.HoldLemmas.Passes.{own_of}
use Rattle.worker_turns.proofs.PieceLemmas.Handing.{waits_same}
use Rattle.worker_turns.proofs.LaunchLemmas.Batches.{few_before, publishable, answerable, pass_looks, pass_served, served_looks, last_at}
use Rattle.worker_turns.proofs.launching.serve_batch.Goals as goal

pub overflow_cast-number : goal.overflow_cast-number
overflow_cast-number g c =
    let book : c.batches-number.result.now ≡ c.args.shop = search rules in
    let few = few_before c.args.shop c.args.calls.items (search rules) c.requires.may in
    let long = ap (λ (l : List (List Entry)). length l) book in
    omega (arith, few, long)

pub end-requires : goal.end-requires
end-requires g c =
    let o : BatchContext (List (List Entry)) PieceIn = record { before = c.args.shop; calls = c.args.calls.items; ins = c.in_ok-opened.ins.items } in
    (o, c.spare_outs-room.ensures.same o c.in_ok-opened.ensures.context, c.in_ok-outs.ensures.meet)

pub publish-requires-clause-due : goal.publish-requires-clause-due
publish-requires-clause-due g c =
    let o : BatchContext (List (List Entry)) PieceIn = record { before = c.args.shop; calls = c.args.calls.items; ins = c.in_ok-opened.ins.items } in
    publishable (pass_view c.args.me.now.pass) _ _ c.args.calls.items c.args.shop c.in_ok-shop.batch c.requires.hold c.requires.may
    (c.in_ok-shop.ensures.batch o (c.spare_outs-room.ensures.same o c.in_ok-opened.ensures.context) c.in_ok-outs.ensures.meet) c.in_ok-outs.ensures.seen

pub bounds-batches-number : goal.bounds-batches-number
bounds-batches-number g c =
    let o : BatchContext (List (List Entry)) PieceIn = record { before = c.args.shop; calls = c.args.calls.items; ins = c.in_ok-opened.ins.items } in
    let book : c.batches-number.result.now ≡ c.args.shop = search rules in
    let grown = c.in_ok-shop.ensures.history o (c.spare_outs-room.ensures.same o c.in_ok-opened.ensures.context) c.in_ok-outs.ensures.meet in
    let after : c.batches.result.now ≡ c.in_ok-shop.shop = search rules in
    let long = ap (λ (l : List (List Entry)). length l) book in
    let longer = ap (λ (l : List (List Entry)). length l) (after ∙ grown) in
    omega (arith, long, longer, length-append c.args.shop (c.in_ok-shop.batch ∷ []))

pub answer_all-requires-clause-published : goal.answer_all-requires-clause-published
answer_all-requires-clause-published g c =
    let o : BatchContext (List (List Entry)) PieceIn = record { before = c.args.shop; calls = c.args.calls.items; ins = c.in_ok-opened.ins.items } in
    let book : c.batches-number.result.now ≡ c.args.shop = search rules in
    let grown = c.in_ok-shop.ensures.history o (c.spare_outs-room.ensures.same o c.in_ok-opened.ensures.context) c.in_ok-outs.ensures.meet in
    let all : c.entries-entries.result.now ≡ c.in_ok-shop.batch = search (rules, last_at, book, grown) in
    answerable (pass_view c.args.me.now.pass) _ _ _ _ c.args.calls.items c.args.shop c.in_ok-shop.batch _ c.requires.hold c.requires.may
    (c.in_ok-shop.ensures.batch o (c.spare_outs-room.ensures.same o c.in_ok-opened.ensures.context) c.in_ok-outs.ensures.meet) c.in_ok-outs.ensures.seen (own_of _ _ c.publish.ensures.published)
    (ap (λ (l : List (List Entry)). length l) book) all

pub returns-clause-batch : goal.returns-clause-batch
returns-clause-batch g c =
    let o : BatchContext (List (List Entry)) PieceIn = record { before = c.args.shop; calls = c.args.calls.items; ins = c.in_ok-opened.ins.items } in
    let book : c.batches-number.result.now ≡ c.args.shop = search rules in
    let grown = c.in_ok-shop.ensures.history o (c.spare_outs-room.ensures.same o c.in_ok-opened.ensures.context) c.in_ok-outs.ensures.meet in
    let all : c.entries-entries.result.now ≡ c.in_ok-shop.batch = search (rules, last_at, book, grown) in record {
      batch = c.in_ok-shop.batch;
      posted = map place_of c.in_ok-opened.ins.items;
      service = c.in_ok-shop.ensures.batch o (c.spare_outs-room.ensures.same o c.in_ok-opened.ensures.context) c.in_ok-outs.ensures.meet;
      places = c.in_ok-opened.ensures.places;
      grown = grown;
      pass = pass_served (pass_view c.args.me.now.pass) _ _ _ _ c.args.shop c.in_ok-shop.batch _ c.in_ok-outs.ensures.seen (own_of _ _ c.publish.ensures.published) c.answer_all.ensures.answered (ap (λ (l : List (List Entry)). length l) book) all;
      looks = served_looks (pass_view c.args.me.now.pass) _ _ _ _ c.args.shop c.in_ok-shop.batch _ c.in_ok-outs.ensures.seen (own_of _ _ c.publish.ensures.published) c.answer_all.ensures.answered;
      waits = waits_same (me_seen c.args.me.now) (me_seen c.serve_pieces.new.me) (record (me_seen c.serve_pieces.new.me) { pass = pass_view c.answer_all.new.pass }) c.in_ok-outs.ensures.waits refl
          (pass_looks (pass_view c.args.me.now.pass) _ _ _ _ c.args.shop c.in_ok-shop.batch _ c.in_ok-outs.ensures.seen (own_of _ _ c.publish.ensures.published) c.answer_all.ensures.answered);
      desk = c.in_ok-outs.ensures.desk;
      handed = c.in_ok-outs.ensures.handed;
      core = c.in_ok-outs.ensures.core;
    }
