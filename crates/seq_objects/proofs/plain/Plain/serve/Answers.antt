use Rattle.std.proofs.Common.{◌≡◌, ◌≢◌, OnErr, IsSome, cond, Some, Result, Ok, Err, refl, sym, ap, ◌∙◌, arith, subst}
use Rattle.std.proofs.lemmas.Result.{IfOk-weaker, on_ok_weaker, on_err_weaker}
use Rattle.std.proofs.lemmas.Bool.{false≢true}
use Rattle.std.specs.Map.{lookup}
use Rattle.std.specs.BTreeMap.{get, is_at}
use Rattle.std.specs.Ordering.{nat_cmp}
use Rattle.seq_objects.specs.Objects.{number_of, after, reply_to}
use Rattle.seq_objects.specs.Kept.{store_in}
use Rattle.seq_objects.proofs.Kept.{opening_stays, may_allocate, first_kept, some_kept, none_kept, all_stay, same_written, first_served, other_served, none_served}
use Rattle.seq_objects.proofs.plain.Plain.serve.Goals as goal

any_err : {T E A : Type 0} (r : Result T E) → A → OnErr r A
any_err (Ok value) a = tt
any_err (Err error) a = a

pub serve-requires : goal.serve-requires
serve-requires c =
    let zero : number_of c.args.op ≡ 0 = omega arith in
    let found = first_kept c.args.self.now (number_of c.args.op) zero in
    rw found at c.requires

pub returns-then-number-eq0-clause-reply : goal.returns-then-number-eq0-clause-reply
returns-then-number-eq0-clause-reply c =
    let zero : number_of c.args.op ≡ 0 = omega arith in
    let found = first_kept c.args.self.now (number_of c.args.op) zero in
    IfOk-weaker c.serve.result _ _ (λ reply is. is ∙ ap (λ o. reply_to o c.args.op) (sym found)) c.serve.ensures.reply

pub returns-then-number-eq0-clause-after : goal.returns-then-number-eq0-clause-after
returns-then-number-eq0-clause-after c =
    let zero : number_of c.args.op ≡ 0 = omega arith in
    on_ok_weaker c.serve.result (λ is. first_served c.args.self.now (record c.args.self.now { first = c.serve.new.self }) c.args.op zero is (λ number. refl)) c.serve.ensures.after

pub serve-requires-in-Some : goal.serve-requires-in-Some
serve-requires-in-Some c =
    let found = some_kept c.args.self.now c.number-number.result (number_of c.args.op) c.if-number-eq0.false c.number-number.ensures c.in-Some.objects.now c.in-Some.ensures.value in
    rw found at c.requires

pub returns-in-Some-clause-reply : goal.returns-in-Some-clause-reply
returns-in-Some-clause-reply c =
    let found = some_kept c.args.self.now c.number-number.result (number_of c.args.op) c.if-number-eq0.false c.number-number.ensures c.in-Some.objects.now c.in-Some.ensures.value in
    IfOk-weaker c.serve-in-Some.result _ _ (λ reply is. is ∙ ap (λ o. reply_to o c.args.op) (sym found)) c.serve-in-Some.ensures.reply

pub returns-in-Some-clause-after : goal.returns-in-Some-clause-after
returns-in-Some-clause-after c =
    let some = c.in-Some.ensures.value in
    let found = some_kept c.args.self.now c.number-number.result (number_of c.args.op) c.if-number-eq0.false c.number-number.ensures c.in-Some.objects.now some in
    let now = c.serve-in-Some.new.self in
    let written = ((c.get_mut.follows.holds now).3 (subst IsSome some refl)).0 in
    on_ok_weaker c.serve-in-Some.result (λ is. other_served c.args.self.now (record c.args.self.now { others = c.get_mut.follows.lender now }) c.args.op
    c.number-number.result c.if-number-eq0.false c.number-number.ensures refl
    (λ number. written number ∙ ap (λ o. cond (is_at (nat_cmp c.number-number.result) number) (Some o) (get nat_cmp c.args.self.now.others number)) (is ∙ ap (λ o. after o c.args.op) (sym found)))) c.serve-in-Some.ensures.after

pub returns-in-Some-clause-err : goal.returns-in-Some-clause-err
returns-in-Some-clause-err c =
    let some = c.in-Some.ensures.value in
    let now = c.serve-in-Some.new.self in
    let others = c.get_mut.follows.lender now in
    let written = ((c.get_mut.follows.holds now).3 (subst IsSome some refl)).0 in
    on_err_weaker c.serve-in-Some.result (λ is. all_stay c.args.self.now (record c.args.self.now { others = others }) refl
    (same_written c.args.self.now others c.number-number.result c.in-Some.objects.now now some is written)) c.serve-in-Some.ensures.err

pub returns-in_err-insert-clause-err : goal.returns-in_err-insert-clause-err
returns-in_err-insert-clause-err c =
    let same = c.in_err-insert.ensures.err in let none = c.get_mut.follows.holds-at-none in
    any_err c.from_residual-in_err-insert.result (all_stay c.args.self.now (record c.args.self.now { others = c.insert.new.self }) refl
    (λ number. ap (lookup (is_at (nat_cmp number))) (same ∙ ap (λ others. others.entries) none)))

pub returns-in_err-insert-clause-sure : goal.returns-in_err-insert-clause-sure
returns-in_err-insert-clause-sure c none =
    let found = none_kept c.args.self.now c.number-number.result (number_of c.args.op) c.if-number-eq0.false c.number-number.ensures (sym c.in_default.ensures.value) in
    let above : number_of c.args.op ≢ 0 = omega arith in
    absurd (may_allocate (store_in c.args.self.now) c.args.op found above (λ nothing. false≢true (c.if-not-inserts_nothing.ensures.1 nothing)) none)

pub returns-in_ok-insert-clause-reply : goal.returns-in_ok-insert-clause-reply
returns-in_ok-insert-clause-reply c =
    let found = none_kept c.args.self.now c.number-number.result (number_of c.args.op) c.if-number-eq0.false c.number-number.ensures (sym c.in_default.ensures.value) in
    c.in_ok-reply.ensures.reply ∙ ap (λ o. reply_to o c.args.op) (c.new-objects.ensures ∙ sym found)

pub returns-in_ok-insert-clause-after : goal.returns-in_ok-insert-clause-after
returns-in_ok-insert-clause-after c =
    let found = none_kept c.args.self.now c.number-number.result (number_of c.args.op) c.if-number-eq0.false c.number-number.ensures (sym c.in_default.ensures.value) in
    let is : c.serve-2.new.self ≡ after (store_in c.args.self.now (number_of c.args.op)) c.args.op = c.in_ok-reply.ensures.after ∙ ap (λ o. after o c.args.op) (c.new-objects.ensures ∙ sym found) in
    other_served c.args.self.now (record c.args.self.now { others = c.insert.new.self }) c.args.op c.number-number.result c.if-number-eq0.false c.number-number.ensures refl
    (λ number. c.in_ok-insert.ensures.updates.0 number ∙ (λ i. cond (is_at (nat_cmp c.number-number.result) number) (Some (is i)) (get nat_cmp (c.get_mut.follows.holds-at-none i) number)))

pub returns-else-not-inserts_nothing-clause-reply : goal.returns-else-not-inserts_nothing-clause-reply
returns-else-not-inserts_nothing-clause-reply c =
    let found = none_kept c.args.self.now c.number-number.result (number_of c.args.op) c.if-number-eq0.false c.number-number.ensures (sym c.in_default.ensures.value) in
    c.in_ok-reply.ensures.reply ∙ ap (λ o. reply_to o c.args.op) (c.new-objects.ensures ∙ sym found)

pub returns-else-not-inserts_nothing-clause-after : goal.returns-else-not-inserts_nothing-clause-after
returns-else-not-inserts_nothing-clause-after c =
    let found = none_kept c.args.self.now c.number-number.result (number_of c.args.op) c.if-number-eq0.false c.number-number.ensures (sym c.in_default.ensures.value) in
    let same = opening_stays c.args.op (c.if-not-inserts_nothing.ensures.0 refl) in
    let none = c.get_mut.follows.holds-at-none in
    none_served c.args.self.now (record c.args.self.now { others = c.get_mut.follows.lender-at-none }) c.args.op (rw found same) (ap (λ others. store_in (record c.args.self.now { others = others })) none)
