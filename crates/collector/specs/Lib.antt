-- What the program's loop and its last line come to, of the bytes that its reads handed over.
pub mod Running
