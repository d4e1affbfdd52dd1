pub mod ChangeText
pub mod ChangedText
pub mod StateText
pub mod RefusedText
pub mod StateLaw
pub mod Laws
