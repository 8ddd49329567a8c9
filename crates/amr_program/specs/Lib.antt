pub mod Words
pub mod Answer
pub mod Lines
pub mod Lasting
pub mod Outcome
pub mod Origins
pub mod Exit
