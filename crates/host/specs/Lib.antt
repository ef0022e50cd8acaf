-- What a host gets: answers as numbers, the calls on a guidance that it holds, records, and the reports. `Code` has the code's own steps.
pub mod Mode
pub mod Reading
pub mod Run
pub mod Writing
pub mod Code
