-- Document 02's C-19: where the bytes go.
pub mod OwnBytes
pub mod Adding
pub mod Files
-- Not to be believed, only used: how the code finds the place of the next tag.
pub mod Places
