-- What saving and loading tell, in the paper's words.
pub mod Saving
pub mod Loading
