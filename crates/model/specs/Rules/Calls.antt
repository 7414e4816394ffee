-- The fourteen calls: for each the first error that holds, over exactly the causes that name it, and, refused or not, its
-- answer and the memory, list and disk after it.
pub mod Format
pub mod Open
pub mod Start
pub mod Allocate
pub mod AllocateExtent
pub mod Deallocate
pub mod Precommit
pub mod Commit
pub mod Drop
pub mod Revoke
pub mod Store
pub mod Status
pub mod CommitCost
pub mod Reserve
