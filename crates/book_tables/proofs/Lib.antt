-- Laws of the loops that read and write records.
pub mod RecordsRead
pub mod RecordsWritten
-- Laws of a book that is written part by part, and of the records of one that was read.
pub mod BookWritten
pub mod Records
pub mod Managed
