pub mod AuditReply
pub mod Known
