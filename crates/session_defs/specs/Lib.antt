pub mod Files
pub mod Lines
pub mod Meant
pub mod Points
pub mod Replies
pub mod LaneEnds
pub mod Transcripts
