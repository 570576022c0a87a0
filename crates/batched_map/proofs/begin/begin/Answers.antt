use Rattle.std.proofs.Common.{◌≡◌, length, ◌∙◌, sym, arith}
use Rattle.batched_map.specs.Code.Pieces.{groups_in}
use Rattle.batched_map.proofs.Service.{range_total, groups_within, pieces_total}
use Rattle.batched_map.proofs.begin.begin.Goals as goal

pub groups_of-requires-clause-some : goal.groups_of-requires-clause-some
groups_of-requires-clause-some c =
    let total = range_total c.args.tree c.deref.result.now c.in_ok-ranges.ranges.items c.in_ok-ranges.ensures in
    rw c.deref-3.ensures.value (omega (arith, total))

pub deal-requires-clause-below : goal.deal-requires-clause-below
deal-requires-clause-below c =
    let all = c.in_ok-ranges.ranges.items in
    let count : c.len.result ≡ length all = c.len.ensures ∙ c.in_ok-ranges.ranges.ok.0 in
    let cut = rw c.deref.ensures.value at c.in_ok-ranges.ensures in
    rw (c.deref-4.ensures.value, c.in_ok-groups.ensures, c.deref-3.ensures.value, c.deref-2.ensures.value, count)
    (groups_within c.args.tree c.in_ok-starts.starts.items all c.args.operations.now cut)

pub pieces_of-requires : goal.pieces_of-requires
pieces_of-requires c =
    let count : c.len.result ≡ length c.in_ok-ranges.ranges.items = c.len.ensures ∙ c.in_ok-ranges.ranges.ok.0 in
    sym (pieces_total c.len.result c.deref-4.result.now c.args.operations.now c.in_ok-dealt.dealt.items c.in_ok-dealt.ensures ∙ count)

pub returns : goal.returns
returns c =
    let all = c.in_ok-ranges.ranges.items in
    let starts = c.in_ok-starts.starts.items in
    let cut = rw c.deref.ensures.value at c.in_ok-ranges.ensures in
    let groups : c.in_ok-groups.groups.items ≡ groups_in starts all c.args.operations.now = rw (c.deref-3.ensures.value, c.deref-2.ensures.value) at c.in_ok-groups.ensures in
    let count = c.len.ensures ∙ c.in_ok-ranges.ranges.ok.0 ∙ range_total c.args.tree starts all cut in
    record {
      starts = starts;
      by_rule = c.in_ok-starts.ensures.starts;
      all = all;
      cut = record {
        ranges_are = cut;
        each_has = c.in_ok-pieces.ensures.ranges;
        dealt_are = c.in_ok-pieces.ensures.operations ∙ (rw (count, c.deref-4.ensures.value, groups) at c.in_ok-dealt.ensures);
      };
      groups_are = groups;
    }
