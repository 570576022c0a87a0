use Rattle.std.proofs.Common.{◌≡◌, [], length, map, sym, ap, subst, ◌∙◌}
use Rattle.job_names.specs.Names.{spelling}
use Rattle.sp_order.specs.Objects.{AreNumbered, with_numbers}
use Rattle.job_lang.specs.Code.Numbered.{object_in, names_in, numbers_in}
use Rattle.job_lang.proofs.ExpandLemmas.Kept.{acts_stay, no_names}
use Rattle.job_lang.proofs.ExpandLemmas.Keys.{spellings_kept}
use Rattle.job_lang.proofs.expand.objects.Objects.called_in.Goals as goal

pub with_objects-requires : goal.with_objects-requires
with_objects-requires c =
    let job = c.args.job in
    let filled : c.fill.new.numbers.items ≡ numbers_in c.args.self (length job.acts) = c.in_ok-fill.ensures ∙ ap (λ acts. numbers_in c.args.self (length acts)) c.acts.ensures.acts in
    let named : map (λ name. spelling name) c.in_ok-names.names.items ≡ names_in c.args.self = ap (λ names. map (λ name. spelling name) names) c.in_ok-names.ensures ∙ spellings_kept object_in c.args.self.named.keys in
    subst (λ numbers. AreNumbered job.acts numbers (map (λ name. spelling name) c.in_ok-names.names.items)) (sym filled)
    (subst (AreNumbered job.acts (numbers_in c.args.self (length job.acts))) (sym named) c.requires.numbered)

pub returns-then-is_empty : goal.returns-then-is_empty
returns-then-is_empty c =
    let none : names_in c.args.self ≡ [] = no_names c.args.self.named.keys (c.is_empty.ensures.0 c.if-is_empty.true) in
    let acts = acts_stay c.args.job.acts (numbers_in c.args.self (length c.args.job.acts)) (names_in c.args.self) c.requires.unnamed c.requires.numbered none in
    λ i. record { shape = c.args.job.shape; acts = sym acts i; sources = c.args.job.sources; names = (c.requires.nameless ∙ sym none) i }

pub returns : goal.returns
returns c =
    let job = c.args.job in
    let made = c.with_objects.ensures in
    let filled : c.fill.new.numbers.items ≡ numbers_in c.args.self (length job.acts) = c.in_ok-fill.ensures ∙ ap (λ acts. numbers_in c.args.self (length acts)) c.acts.ensures.acts in
    let named : map (λ name. spelling name) c.in_ok-names.names.items ≡ names_in c.args.self = ap (λ names. map (λ name. spelling name) names) c.in_ok-names.ensures ∙ spellings_kept object_in c.args.self.named.keys in
    let acts = made.acts ∙ ap (with_numbers job.acts) filled in
    let names = made.names ∙ named in
    λ i. record { shape = made.shape i; acts = acts i; sources = made.sources i; names = names i }
