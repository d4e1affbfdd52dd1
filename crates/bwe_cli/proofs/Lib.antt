mod Legal
mod RunReply
