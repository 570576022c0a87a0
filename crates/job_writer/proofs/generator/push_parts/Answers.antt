use Rattle.std.proofs.Common.{rules, ◌≡◌, ◌++◌, map, ap, ◌∙◌}
use Rattle.std.proofs.lemmas.Result.{on_ok_weaker}
use Rattle.seq_objects.specs.declared.act.Act.TheVariants.{Call}
use Rattle.sp_order.specs.Precedence.{tree_of, seq, par}
use Rattle.job_writer.specs.Generator.{calls, part, finds_for, pops_for, takes_for}
use Rattle.job_writer.proofs.GeneratorLemmas.Assembly.{in_a_row, map_in_a_row}
use Rattle.job_writer.proofs.generator.push_parts.Goals as goal

pub returns-clause-acts : goal.returns-clause-acts
returns-clause-acts c =
    let ops = c.args.ops.now in
    let finds : c.deref.result.now ≡ finds_for ops = search rules in
    let pops : c.deref-2.result.now ≡ pops_for ops = search rules in
    let takes : c.deref-3.result.now ≡ takes_for ops = search rules in
    on_ok_weaker c.push_part-4.result
    (λ last.
    in_a_row (calls ops) (calls (finds_for ops)) (calls (pops_for ops)) (calls (takes_for ops)) _ _ _ _ _
    c.in_ok-push_part.ensures.acts
    (c.in_ok-push_part-2.ensures.acts ∙ ap (λ xs. c.push_part.new.acts.items ++ calls xs) finds)
    (c.in_ok-push_part-3.ensures.acts ∙ ap (λ xs. c.push_part-2.new.acts.items ++ calls xs) pops)
    (last ∙ ap (λ xs. c.push_part-3.new.acts.items ++ calls xs) takes)
    ∙ ap (λ xs. c.args.acts.now.items ++ xs) (map_in_a_row (λ op. Call op) ops (finds_for ops) (pops_for ops) (takes_for ops)))
    c.push_part-4.ensures.acts

pub returns-clause-parts : goal.returns-clause-parts
returns-clause-parts c =
    let ops = c.args.ops.now in
    let finds : c.deref.result.now ≡ finds_for ops = search rules in
    let pops : c.deref-2.result.now ≡ pops_for ops = search rules in
    let takes : c.deref-3.result.now ≡ takes_for ops = search rules in
    on_ok_weaker c.push_part-4.result
    (λ last.
    in_a_row (part par ops) (part par (finds_for ops)) (part seq (pops_for ops)) (part seq (takes_for ops)) _ _ _ _ _
    c.in_ok-push_part.ensures.parts
    (c.in_ok-push_part-2.ensures.parts ∙ ap (λ xs. map tree_of c.push_part.new.parts.items ++ part par xs) finds)
    (c.in_ok-push_part-3.ensures.parts ∙ ap (λ xs. map tree_of c.push_part-2.new.parts.items ++ part seq xs) pops)
    (last ∙ ap (λ xs. map tree_of c.push_part-3.new.parts.items ++ part seq xs) takes))
    c.push_part-4.ensures.parts
