use Rattle.std.proofs.Common.{rules, ℕ, ◌≡◌, ◌-◌, ◌<◌, sym, subst, arith, length, get_or}
use Rattle.std.specs.List.Sorted.{IsNonDecreasingBy}
use Rattle.job_names.specs.Code.Places.{places_from}
use Rattle.job_names.proofs.PlaceLemmas.{places_ascend, places_within}
use Rattle.job_names.proofs.Search.{outcome, none, some}
use Rattle.job_names.proofs.scopes.Scopes.last_in.Goals as goal

pub count_below-count-requires : goal.count_below-count-requires
count_below-count-requires c =
    subst (λ l. IsNonDecreasingBy (λ (place : ℕ). place) l) (sym c.requires.places) (places_ascend c.args.name c.args.self.now.lets.items)

pub returns-then-count-eq0 : goal.returns-then-count-eq0
returns-then-count-eq0 c =
    elim (outcome c.args.name c.args.start c.args.end c.count_below-count.result c.args.self.now.lets.items c.args.places.now c.requires.places c.requires.order c.requires.within c.count_below-count.ensures.most c.count_below-count.ensures.below c.count_below-count.ensures.above)
    [ none e h ↦ sym e | some pos le e ↦ absurd (omega arith) ]

pub returns-then-place-start : goal.returns-then-place-start
returns-then-place-start c =
    elim (outcome c.args.name c.args.start c.args.end c.count_below-count.result c.args.self.now.lets.items c.args.places.now c.requires.places c.requires.order c.requires.within c.count_below-count.ensures.most c.count_below-count.ensures.below c.count_below-count.ensures.above)
    [ none e h ↦ sym e | some pos le e ↦ absurd (omega (arith, le)) ]

pub index-requires : goal.index-requires
index-requires c =
    let n = c.count_below-count.result in
    let same : c.args.places.now ≡ places_from c.args.name 0 c.args.self.now.lets.items = c.requires.places in
    let most = c.count_below-count.ensures.most in
    let pos : n - 1 < length c.args.places.now = omega (arith, most) in
    let within : get_or c.args.places.now (n - 1) 0 < length c.args.self.now.lets.items =
    subst (λ l. get_or l (n - 1) 0 < length c.args.self.now.lets.items) (sym same)
    (let w = (places_within c.args.name 0 c.args.self.now.lets.items (n - 1) (subst (λ l. n - 1 < length l) same pos)).1 in omega (arith, w)) in
    search (rules, within)

pub returns : goal.returns
returns c =
    elim (outcome c.args.name c.args.start c.args.end c.count_below-count.result c.args.self.now.lets.items c.args.places.now c.requires.places c.requires.order c.requires.within c.count_below-count.ensures.most c.count_below-count.ensures.below c.count_below-count.ensures.above)
    [ none e h ↦ absurd (let p = h (omega arith) in omega (arith, p)) | some pos le e ↦ let q = e c.index.result.now in cc ]
