-- A run, for any engine. To read in this order:
-- Workers, Acts: drivers and applications as callers of a setting. Sent, Figures, HistoryFigures: what a run comes to. For code: Amounts.
pub mod Acts
pub mod Amounts
pub mod HistoryFigures
pub mod Figures
pub mod Sent
pub mod Workers
