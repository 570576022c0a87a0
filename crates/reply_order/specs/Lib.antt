-- The specification of replies in the order of the calls.
pub mod Order
