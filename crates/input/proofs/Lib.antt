-- What a read puts behind what was filled before (Filling), and one outcome for each input (Unique).
mod Filling
pub mod Unique
