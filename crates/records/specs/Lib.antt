pub mod BigEndian
pub mod Record
