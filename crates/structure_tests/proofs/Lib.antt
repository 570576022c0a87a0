mod Batches
mod Shops
