-- An injective encoding of open blocks, by which proofs compare them.
use Rattle.std.specs.Prelude.{ℕ, Bool, true, false, List, refl, ◌≡◌}
use Rattle.std.specs.Coded.{Coded, code_by, coded×, coded_list, coded_ℕ, coded_bool}
use Rattle.sp_order.specs.Precedence.{Tree}
use Rattle.sp_order.specs.TreeEncoding.{coded_tree}
use Rattle.job_lang.specs.declared.join.Order.{Order}
use Rattle.job_lang.specs.declared.join.Order.TheVariants.{Series, Parallel}
use Rattle.joined_shapes.specs.Blocks.{Block, Blocks, is_series}

abbrev order_by : Bool → Order
order_by true = Series
order_by false = Parallel

abbrev order_again : (order : Order) → order_by (is_series order) ≡ order
order_again Series = refl
order_again Parallel = refl

abbrev coded_order : Coded Order
coded_order = code_by Bool coded_bool is_series order_by order_again

abbrev pub coded_block : Coded Block
coded_block =
    code_by (Order × (ℕ × List Tree)) (coded× coded_order (coded× coded_ℕ (coded_list coded_tree)))
    (λ block. (block.order, (block.first, block.items)))
    (λ parts. record { order = parts.0; first = parts.1.0; items = parts.1.1 })
    (λ _. refl)

abbrev pub coded_blocks : Coded Blocks
coded_blocks =
    code_by (Block × (List Block × ℕ)) (coded× coded_block (coded× (coded_list coded_block) coded_ℕ))
    (λ blocks. (blocks.inner, (blocks.around, blocks.leaves)))
    (λ parts. record { inner = parts.0; around = parts.1.0; leaves = parts.1.1 })
    (λ _. refl)
