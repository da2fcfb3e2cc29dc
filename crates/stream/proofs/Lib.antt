-- Laws of a stream: the stream of some bytes record by record, the counts of the last line, and demands 2 and 3.
pub mod Counting
pub mod Streams
mod Taking
pub mod Demands
