use Rattle.std.proofs.Common.{rules, arith, ◌≡◌, ◌≤◌, ◌++◌, length, get_or, map, codes, sym, ap, subst}
use Rattle.std.specs.Prelude.{string_bytes}
use Rattle.std.proofs.lemmas.Grind.{common_steps}
use Rattle.job_names.specs.Names.{spelling}
use Rattle.seq_objects.specs.declared.act.Act.TheVariants.{Work}
use Rattle.sp_order.specs.Objects.{number_in}
use Rattle.leaf_places.specs.Rows.{place_at}
use Rattle.leaf_places.proofs.Writing.{number_within, source_within, row_pushed}
use Rattle.leaf_places.proofs.rows.push_row.Goals as goal

pub push_act-requires-clause-number : goal.push_act-requires-clause-number
push_act-requires-clause-number c =
    subst (λ acts. number_in (get_or acts c.args.leaf (Work 0)) ≤ length c.names.result.now) (sym c.acts.ensures.acts)
    (number_within c.args.job.now c.names.result.now c.args.leaf (Work 0) c.acts.ensures.job c.names.ensures.names c.requires.leaf)

pub push_act-requires-clause-source : goal.push_act-requires-clause-source
push_act-requires-clause-source c =
    source_within c.args.job.now c.args.places.now c.args.leaf c.source-source.result c.acts.ensures.job c.requires.places c.source-source.ensures

pub returns : goal.returns
returns c =
    let copies : c.copies.result.now ≡ (place_at c.args.places.now c.args.leaf).copies = grind (arith, common_steps) in
    let blank : string_bytes c.push_str.new.self ≡ string_bytes c.push_copies.new.text ++ codes " " = search rules in
    row_pushed c.push_str-2.result c.args.job.now c.args.places.now c.args.leaf (map (λ name. spelling name) c.names.result.now) (get_or c.acts.result.now c.args.leaf (Work 0)) c.source-source.result
    c.copies.result.now (string_bytes c.args.text.now) (string_bytes c.push_leaf.new.text) (string_bytes c.push_copies.new.text) (string_bytes c.push_str.new.self) (string_bytes c.push_act.new.text)
    (string_bytes c.push_str-2.new.self) c.names.ensures.names (ap (λ acts. get_or acts c.args.leaf (Work 0)) c.acts.ensures.acts) c.source-source.ensures copies
    c.in_ok-push_leaf.ensures c.in_ok-push_copies.ensures blank c.in_ok-push_act.ensures c.push_str-2.ensures.bytes
