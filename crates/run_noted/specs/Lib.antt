-- A run that notes its reductions: where the own sales stand among the trades, and what the run gives.
pub mod Noted
