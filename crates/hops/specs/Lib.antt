pub mod Access
