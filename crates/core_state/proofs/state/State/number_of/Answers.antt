use Rattle.std.proofs.Common.{Some, None, refl, sym, ◌∙◌, ap}
use Rattle.std.specs.Option.{option_map}
use Rattle.sp_order.specs.Sources.{low_bits}
use Rattle.core_model.specs.Operations.{number_from, op_in}
use Rattle.core_model.specs.Settings.{job_with}
use Rattle.core_model.proofs.BookLemmas.Operations.{reply_of}
use Rattle.core_state.specs.Abstraction.{state_of}
use Rattle.core_state.proofs.BatchLemmas.Due.{source_is, source_at, source_in, source_within, has_value, kept_under, none_is}
use Rattle.core_state.proofs.state.State.number_of.Goals as goal

pub value_at-requires : goal.value_at-requires
value_at-requires g c =
    let st = c.requires.works.1.0 in
    let w = c.requires.works.0 in
    let setting = c.args.setting.now in
    let is = source_is setting.job c.args.leaf c.in-Some.source c.in-Some.ensures in
    record {
      fits = c.requires.fits;
      leaf_in = source_in setting c.args.self.now c.requires.fits w st.0 c.args.leaf st.1 c.in-Some.source is;
      within = source_within setting c.args.self.now c.requires.fits w st.0 c.args.leaf st.1 c.in-Some.source is;
      valued = has_value (job_with g.B.WorkBrand.work setting) (state_of c.args.self.now) c.in-Some.source
          (c.started_leaf_has_its_source.ensures (job_with g.B.WorkBrand.work setting) (state_of c.args.self.now) w st.0 c.args.leaf c.in-Some.source c.requires.fits.sources c.requires.fits.inv.parts st.1 is);
    }

pub returns-in-None : goal.returns-in-None
returns-in-None g c = ap (number_from (state_of c.args.self.now).book c.args.steps) (none_is c.args.setting.now.job c.args.leaf c.in-None.ensures)

pub returns-in-Some : goal.returns-in-Some
returns-in-Some g c =
    let st = c.requires.works.1.0 in
    let w = c.requires.works.0 in
    let setting = c.args.setting.now in
    let job = job_with g.B.WorkBrand.work setting in
    let s = state_of c.args.self.now in
    let is = source_is setting.job c.args.leaf c.in-Some.source c.in-Some.ensures in
    let has = c.started_leaf_has_its_source.ensures job s w st.0 c.args.leaf c.in-Some.source c.requires.fits.sources c.requires.fits.inv.parts st.1 is in
    let calls = (source_at setting c.args.self.now c.requires.fits w st.0 c.args.leaf st.1 c.in-Some.source is).calls (ap op_in c.requires.works.1.1) in
    let reply = reply_of job s.book c.in-Some.source c.value_at.result calls (kept_under job s c.in-Some.source c.value_at.result has c.value_at.ensures) in
    ap (number_from s.book c.args.steps) is ∙ (ap (option_map low_bits) reply ∙ ap Some (sym c.low_bits.ensures))
