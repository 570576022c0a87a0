mod Every
mod Shares
mod Serial
mod Cutting
mod Service
mod OneBatch
