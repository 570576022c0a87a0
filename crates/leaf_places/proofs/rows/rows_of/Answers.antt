use Rattle.std.proofs.Common.{Vec, Global, ℕ, ◌≡◌, subst, sym}
use Rattle.std.proofs.lemmas.Result.{IfOk-weaker}
use Rattle.leaf_places.specs.Places.{ArePlacesIn}
use Rattle.leaf_places.specs.Rows.{rows_text, AreRowsOf}
use Rattle.leaf_places.proofs.Reading.{as_many, rows_by}
use Rattle.leaf_places.proofs.rows.rows_of.Goals as goal

pub rows-requires : goal.rows-requires
rows-requires c =
    as_many c.args.text.now c.args.job.now c.as_slice.result.now c.requires.accepted (subst (ArePlacesIn c.args.text.now) (sym c.as_slice.ensures.value) c.in_ok-places.ensures)

pub returns : goal.returns
returns c =
    let text = c.args.text.now in
    let job = c.args.job.now in
    let places = c.as_slice.result.now in
    let are = subst (ArePlacesIn text) (sym c.as_slice.ensures.value) c.in_ok-places.ensures in
    IfOk-weaker c.rows.result (λ (rows : Vec ℕ Global). rows.items ≡ rows_text job places) (λ (rows : Vec ℕ Global). AreRowsOf text job rows.items)
    (λ rows same. rows_by text job places rows.items c.requires.accepted are same) c.rows.ensures
