use Rattle.std.proofs.Common.{◌≡◌, ◌++◌, ◌∙◌, ap, string_bytes}
use Rattle.bulkrun.specs.Text.{served_lines}
use Rattle.bulkrun.specs.Code.{call_lines}
use Rattle.bulkrun.proofs.LineLemmas.{lines_served, replies_counted}
use Rattle.bulkrun.proofs.server.SetServerServes.serve.Goals as goal

pub push_lines-requires-clause-replies : goal.push_lines-requires-clause-replies
push_lines-requires-clause-replies g c =
    rw (c.deref-3.ensures.value, c.deref-2.ensures.value, c.in_ok-set.ensures.replies, c.deref.ensures.value) (replies_counted c.args.self.set c.in_ok-calls.calls.items)

pub returns-clause-text : goal.returns-clause-text
returns-clause-text g c =
    let served : call_lines c.args.number 0 c.deref-2.result.now c.deref-3.result.now ≡ served_lines c.args.number 0 c.args.self.set c.in_ok-calls.calls.items =
    rw (c.deref-2.ensures.value, c.deref-3.ensures.value, c.in_ok-set.ensures.replies, c.deref.ensures.value) (lines_served c.args.number 0 c.args.self.set c.in_ok-calls.calls.items) in
    c.in_ok-push_lines.ensures
    ∙ ap (λ lines. string_bytes c.args.text.now ++ lines) (served ∙ ap (λ calls. served_lines c.args.number 0 c.args.self.set calls) c.in_ok-calls.ensures.order)
