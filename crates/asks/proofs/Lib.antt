-- Laws of the questions about one carrier of a whole job: how the job's faults and those of one carrier's
-- move hang together; the answers put together. Last what those above need: jobs with too many carriers are
-- refused alike, one outcome fits each promise, and what each answer tells exactly.
pub mod OneOfJob
pub mod Answers
pub mod Crowded
pub mod Unique
pub mod Exactly
