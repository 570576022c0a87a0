use Rattle.report_picture.specs.Picture.{drawing}
use Rattle.report_picture.proofs.Reading.{one_reading}
use Rattle.report_picture.proofs.WellFormed.{elements_in, texts_are_contents, pictures_are_contents}
use Rattle.report_picture.proofs.laws.pictures_are_well_formed.Goals as goal

pub returns : goal.returns
returns c = record {
  markup = λ markup differ. (elements_in markup, texts_are_contents markup differ);
  picture = λ names report. (elements_in (drawing names report), pictures_are_contents names report);
  one = one_reading;
}
