-- Lines; what is printed; what leads from one state to another; a line in a piece of input; the loop over lines.
pub mod Lines
pub mod Output
pub mod Leads
pub mod Cut
pub mod Turn
