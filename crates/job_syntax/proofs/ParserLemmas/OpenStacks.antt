-- The view of the code's `BlockStack` after each change.
use Rattle.std.proofs.Common.{◌≡◌, ◌+◌, List, [], ◌∷◌, ◌++◌, length, Bool, true, false, Some, refl, sym, ap, ◌∙◌, arith, Vec, Global, vec_len, eqb-true, eq-eqb}
use Rattle.std.specs.Prelude.{◌==◌, IsTrue, ◌||◌}
use Rattle.std.specs.List.{list_any}
use Rattle.job_syntax.specs.declared.item.Item.{Item, Leaf as LeafItem, Let as LetItem, Block}
use Rattle.job_syntax.specs.declared.item.Leaf.{Leaf}
use Rattle.job_syntax.specs.declared.item.Leaf.TheVariants as leaf
use Rattle.job_names.specs.declared.name.Name.{Name}
use Rattle.job_syntax.specs.Code.Shown.{lets_of}
use Rattle.job_syntax.specs.declared.parser.blocks.OpenBlock.{OpenBlock}
use Rattle.job_syntax.specs.Grammar.{bound, nothing, leaf_then, block_then, ◌then◌, is_loop}
use Rattle.job_syntax.specs.Code.Machine.{are_looped, after_close, at, an_item}
use Rattle.job_syntax.specs.Code.Machine as machine
use Rattle.job_syntax.specs.Views.{items_of, block_kind_of, leaf_of}
use Rattle.job_syntax.specs.Code.OpenBlocks.{block_view, blocks_on}
use Rattle.job_syntax.proofs.ParserLemmas.Levels.{items_of_push, item_of_leaf, item_of_let, item_of_block}

pub blocks_on_push : (under : List machine.OpenBlock) (blocks : List OpenBlock) (block : OpenBlock) → blocks_on under (blocks ++ block ∷ []) ≡ block_view block ∷ blocks_on under blocks
blocks_on_push under [] block = refl
blocks_on_push under (first ∷ blocks) block = blocks_on_push (block_view first ∷ under) blocks block

length-blocks_on : (under : List machine.OpenBlock) (blocks : List OpenBlock) → length (blocks_on under blocks) ≡ length under + length blocks
length-blocks_on under [] = omega arith
length-blocks_on under (first ∷ blocks) = let h = length-blocks_on (block_view first ∷ under) blocks in omega (arith, h)

pub or_assoc : (a b c : Bool) → ((a || b) || c) ≡ (a || (b || c))
or_assoc true b c = refl
or_assoc false b c = refl

or_false : (a : Bool) → a ≡ (a || false)
or_false true = refl
or_false false = refl

looped-blocks_on : (under : List machine.OpenBlock) (blocks : List OpenBlock) → are_looped (blocks_on under blocks) ≡ (are_looped under || list_any (λ block. is_loop (block_kind_of block.kind)) blocks)
looped-blocks_on under [] = or_false (are_looped under)
looped-blocks_on under (first ∷ blocks) =
    looped-blocks_on (block_view first ∷ under) blocks
    ∙ or_assoc (are_looped under) (is_loop (block_kind_of first.kind)) (list_any (λ block. is_loop (block_kind_of block.kind)) blocks)

pub are_looped_now : (blocks : List OpenBlock) → are_looped (blocks_on [] blocks) ≡ list_any (λ block. is_loop (block_kind_of block.kind)) blocks
are_looped_now blocks = looped-blocks_on [] blocks

pub depth_now : (blocks : List OpenBlock) → length (blocks_on [] blocks) ≡ length blocks
depth_now blocks = let h = length-blocks_on [] blocks in omega (arith, h)

none_when_none_seen : (blocks : List OpenBlock) → blocks_on [] blocks ≡ [] → blocks ≡ []
none_when_none_seen [] h = refl
none_when_none_seen (first ∷ blocks) h =
    let e = depth_now (first ∷ blocks) in
    let f = ap length h in
    absurd (omega (arith, e, f))

none_when_empty : (blocks : List OpenBlock) → length blocks ≡ 0 → blocks ≡ []
none_when_empty [] h = refl
none_when_empty (first ∷ blocks) h = absurd (omega (arith, h))

-- no block is open where the stack is empty
pub outside_now : (blocks : Vec OpenBlock Global) (empty : Bool) → empty ≡ (vec_len blocks == 0) →
    (IsTrue empty → blocks_on [] blocks.items ≡ []) × (blocks_on [] blocks.items ≡ [] → IsTrue empty)
outside_now blocks empty e = (
  (λ h.
      let z : vec_len blocks ≡ 0 = eqb-true (vec_len blocks) 0 (sym e ∙ h) in
      ap (blocks_on []) (none_when_empty blocks.items (sym blocks.ok.0 ∙ z))),
  (λ h. e ∙ eq-eqb (vec_len blocks) 0 (blocks.ok.0 ∙ ap length (none_when_none_seen blocks.items h))),
)

-- the view after the innermost block is closed
pub closing : (old rest : List OpenBlock) (block : OpenBlock) (body : Vec Item Global) (new : List Item) → old ≡ rest ++ block ∷ [] → new ≡ block.before.items ++ Block block.kind body ∷ [] → after_close (blocks_on [] old) (items_of body.items) ≡ Some (at (blocks_on [] rest) (items_of new) an_item)
closing old rest block body new e f =
    ap (λ blocks. after_close (blocks_on [] blocks) (items_of body.items)) e
    ∙ ap (λ blocks. after_close blocks (items_of body.items)) (blocks_on_push [] rest block)
    ∙ ap (λ items. Some (at (blocks_on [] rest) items an_item))
    (ap (λ item. items_of block.before.items then item) (sym (item_of_block block.kind body))
    ∙ sym (items_of_push block.before.items (Block block.kind body))
    ∙ ap items_of (sym f))

-- the items after the innermost block is closed
pub closed_items : (block : OpenBlock) (body : Vec Item Global) (new : List Item) → new ≡ block.before.items ++ Block block.kind body ∷ [] →
    items_of new ≡ items_of block.before.items then block_then (block_kind_of block.kind) (items_of body.items) nothing
closed_items block body new f =
    ap items_of f ∙ items_of_push block.before.items (Block block.kind body) ∙ ap (λ item. items_of block.before.items then item) (item_of_block block.kind body)

pub leaf_added : (items : List Item) (leaf : Leaf) → items_of (items ++ LeafItem leaf ∷ []) ≡ items_of items then leaf_then (leaf_of leaf) nothing
leaf_added items leaf = items_of_push items (LeafItem leaf) ∙ ap (λ item. items_of items then item) (item_of_leaf leaf)

pub let_added : (items : List Item) (name : Name) (call : Leaf) → items_of (items ++ LetItem name call ∷ []) ≡ items_of items then leaf_then (bound name (leaf_of call)) nothing
let_added items name call = items_of_push items (LetItem name call) ∙ ap (λ item. items_of items then item) (item_of_let name call)

-- a leaf of the code that is no let makes none
pub plain_leaf : (leaf : Leaf) → lets_of (leaf_of leaf) ≡ []
plain_leaf (leaf.Work argument) = refl
plain_leaf (leaf.Call verb object argument) = refl
