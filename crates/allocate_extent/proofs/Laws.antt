-- By which error the call is refused, and what the search and taking the blocks need.
pub mod AllocateExtent
