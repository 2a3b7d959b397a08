-- What the plan program prints (section 10 of the rules).
pub mod Printed
pub mod Printing
pub mod Answer
