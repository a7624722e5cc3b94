-- Who is party to a trade that was cut.
pub mod Flags
