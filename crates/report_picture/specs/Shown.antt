-- What a reader of XML finds in the document of a picture.
use Rattle.std.specs.Prelude.{◌≡◌, ℕ, List, [], ◌∷◌, ◌++◌, Some, codes}
use Rattle.std.specs.List.{AllZip}
use Rattle.std.specs.Fmt.{decimal}
use Rattle.report_picture.specs.Boxes.{Box}
use Rattle.report_picture.specs.Elements.{Given, Elements, NoElements, An, Found, value_of, all_called, all_with}

-- one element `svg`, and nothing beside it
pub record IsSvg (elements : Elements) : Type 0 where
  pub attributes : List Given
  pub inside : Elements
  pub is : elements ≡ An (codes "svg") attributes inside NoElements

-- the element has the four numbers of the box
pub record HasNumbers (box : Box) (found : Found) : Type 0 where
  pub x : value_of (codes "x") found.attributes ≡ Some (decimal box.left)
  pub y : value_of (codes "y") found.attributes ≡ Some (decimal box.top)
  pub width : value_of (codes "width") found.attributes ≡ Some (decimal box.width)
  pub height : value_of (codes "height") found.attributes ≡ Some (decimal box.height)

-- One element is moved: the group of the boxes, in which a tick takes `scale` pixels. Inside it stands for each box one
-- `rect` with the four numbers of the box, in the order of the boxes, and no other.
pub record ShowsBoxes (boxes : List Box) (scale : ℕ) (elements : Elements) : Type 0 where
  pub group : Found
  pub one : all_with (codes "transform") elements ≡ group ∷ []
  pub moved : value_of (codes "transform") group.attributes ≡ Some (codes "translate(96 0) scale(" ++ (decimal scale ++ codes " 1)"))
  pub rects : AllZip HasNumbers boxes (all_called (codes "rect") group.inside)
