pub mod Fields
pub mod Digits
pub mod ReplyBack
pub mod RequestBack
pub mod OwnRequests
pub mod KeptAddresses
