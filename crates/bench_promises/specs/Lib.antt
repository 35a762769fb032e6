pub mod Replies
pub mod State
pub mod Machine
pub mod Promises
pub mod Chains
pub mod Impostors
