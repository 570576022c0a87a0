use Rattle.std.proofs.Common.{◌≡◌, ◌+◌, ◌<◌, [], ◌∷◌, length, drop, get_or, set, append_assoc, ◌∙◌, ap, sym, arith}
use Rattle.std.proofs.lemmas.List.{length-map, map-set, get_or-map, drop_more}
use Rattle.keyed_pieces.specs.Ranges.{merged}
use Rattle.keyed_pieces.specs.Dealing.{queued}
use Rattle.keyed_pieces.proofs.dealing.merge.Goals as goal
use Rattle.keyed_pieces.proofs.dealing.merge.Goals.{in-Some+in_ok-push, in_default}

pub loop-group-preserved : goal.loop-group-preserved
loop-group-preserved g c =
    let groups = c.args.groups.now in
    let at = c.loop-group.group-index in
    let replies = c.loop-group.replies.items in
    let lists = queued replies in
    let group = get_or groups at 0 in
    let rest = drop (at + 1) groups in
    let next = drop_more groups at 0 c.loop-group-test.true in
    let i = c.loop-group.invariant in
    let have = rw next at i.have in
    let below : group < length replies = rw (length-map replies (λ q. q.items)) at have.0 in
    let own : get_or lists group [] ≡ c.index_mut.result.now.items = get_or-map (λ q. q.items) replies group c.index_mut.result.now [] below ∙ sym (ap (λ q. q.items) c.index_mut.ensures.value) in
    elim c.match-pop_front.branch [
      | in-Some+in_ok-push w ↦
          let popped : queued (set replies group c.pop_front.new.self) ≡ set lists group (drop 1 (get_or lists group [])) = map-set (λ q. q.items) replies group c.pop_front.new.self ∙ ap (set lists group) (w.in-Some.ensures.rest ∙ ap (drop 1) (sym own)) in
          record {
            have = rw popped have.2;
            all = λ none.
                let first : get_or (get_or lists group []) 0 none ≡ w.in-Some.reply = ap (λ xs. get_or xs 0 none) (own ∙ w.in-Some.ensures.items) in
                let before = rw (next, first) at (i.all none) in
                rw (w.all-is, w.in_ok-push.ensures.items, popped) (append_assoc c.loop-group.all.items (w.in-Some.reply ∷ []) (merged none rest (set lists group (drop 1 (get_or lists group [])))) ∙ before);
          }
      | in_default w ↦
          let long : 0 < length c.index_mut.result.now.items = rw own at have.1 in
          absurd (omega (arith, long, c.index_mut.result.now.ok.0, w.in_default.ensures.cases.0))
    ]
