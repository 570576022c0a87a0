use Rattle.core_model.specs.Settings.{job_with}
use Rattle.std.proofs.Common.{arith, refl}
use Rattle.table_rule.specs.Shows.{room_of}
use Rattle.table_rule.proofs.StepLemmas.NodeSteps.{claims}
use Rattle.table_rule.proofs.StepLemmas.LookSteps.{strays}
use Rattle.std.proofs.Common.{ℕ, ◌≡◌, sym, ap, ◌∙◌}
use Rattle.table_rule.specs.Passes.{refusing}
use Rattle.table_rule.specs.Plays.{SeatState}
use Rattle.table_rule.specs.Views.{with_miss}
use Rattle.table_rule.specs.Words.{node_at}
use Rattle.core_table.proofs.PassLemmas.Refused.{miss_told}
use Rattle.core_table.proofs.PassLemmas.PassKept.{known_with}
use Rattle.core_table.proofs.table.CoreTable.claim.Goals as goal

pub compare_exchange-requires : goal.compare_exchange-requires
compare_exchange-requires g c =
    let self = c.args.self.now in let pass = c.args.pass.now in let job = job_with g.B.WorkBrand.work self.setting in
    let laws = c.laws_hold.ensures self.setting refl in (
      c.requires.pass.0,
      omega (arith, self.sized.0),
      rw self.key.0 (λ a b d e f. let x = (strays job (room_of self.setting) laws _ _ pass.seat.me.0 pass.seat.me.1 pass.worker pass.number.0 pass.number.1 c.args.node (omega (arith, c.if-node-self.true, c.requires.pass.3, self.key.1)) self.few.0 (known_with g.B.WorkBrand.work c.args.pass.now.seat.me.0 c.args.self.now.setting c.requires.pass.9) c.requires.pass.6) a b d e f in (x.0, x.1, x.2, x.3.0, x.4)),
    )

pub compare_exchange-requires-2 : goal.compare_exchange-requires-2
compare_exchange-requires-2 g c =
    let self = c.args.self.now in let pass = c.args.pass.now in let job = job_with g.B.WorkBrand.work self.setting in
    let laws = c.laws_hold.ensures self.setting refl in
    let below = c.if-node-self.false in (
      c.requires.pass.0,
      omega (arith, self.sized.0, c.node-at.ensures, c.layout.ensures.workers, below),
      rw (self.key.0, c.node-at.ensures, c.layout.ensures.workers)
          (λ a b d e f. let x = (claims job (room_of self.setting) laws _ _ pass.seat.me.0 pass.seat.me.1 pass.worker pass.number.0 pass.number.1 c.requires.pass.2 c.requires.pass.4 (known_with g.B.WorkBrand.work c.args.pass.now.seat.me.0 c.args.self.now.setting c.requires.pass.9)
          c.requires.pass.6 c.args.node (omega (arith, below, self.key.1)) c.requires.idle c.requires.free) a b d e f in (x.0, x.1, x.2, x.3.0, x.4)),
    )

pub returns-then-node-self-clause-refused : goal.returns-then-node-self-clause-refused
returns-then-node-self-clause-refused g c denied =
    let (node, is, t, far) = c.compare_exchange.ensures.2 in
    let self = c.args.self.now in
    let past = c.if-node-self.true in
    let same : c.args.node ≡ node = omega (arith, is) in (
      t.0,
      ((λ low. absurd (omega (arith, past, low, self.key.1))), (λ _. miss_told g.B.WorkBrand.work self c.args.pass.now _ _ t.0 c.requires.pass refl t.1)),
      ap (λ (m : SeatState). m.0) t.3 ∙ ap (λ (n : ℕ). with_miss t.0 (refusing n) c.args.pass.now.seat.me.0) (sym same),
    )

pub returns-then-compare_exchange-ne-READY-clause-refused : goal.returns-then-compare_exchange-ne-READY-clause-refused
returns-then-compare_exchange-ne-READY-clause-refused g c denied =
    let self = c.args.self.now in let pass = c.args.pass.now in
    let ne = c.if-compare_exchange-ne-READY.true in
    let place = c.node-at.ensures ∙ ap (λ (w : ℕ). node_at w c.args.node) c.layout.ensures.workers in
    let (node, is, won, lost) = c.compare_exchange-2.ensures.2 in
    let t = lost ne in
    let same : c.args.node ≡ node = omega (arith, is, place, c.requires.pass.2) in (
      t.0,
      ((λ _. ((λ e. ne (sym t.2 ∙ e)), miss_told g.B.WorkBrand.work self pass _ _ t.0 c.requires.pass place t.1)), (λ past. absurd (omega (arith, c.if-node-self.false, past, self.key.1)))),
      ap (λ (m : SeatState). m.0) t.3 ∙ ap (λ (n : ℕ). with_miss t.0 (refusing n) pass.seat.me.0) (sym same),
    )
