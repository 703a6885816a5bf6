pub mod Accounts
pub mod Given
