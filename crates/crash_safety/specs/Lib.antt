-- Demand 3: the ledger and the world, the claim; and beside it that memory and disk stay in order.
pub mod Ledger
pub mod World
pub mod Statement
pub mod InOrder
pub mod CommitCost
pub mod RevokeAlone
pub mod Reservations
