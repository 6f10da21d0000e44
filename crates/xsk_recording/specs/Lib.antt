-- The text of a recording. To read in this order:
-- Text: its lines. Header, Line: a line of each kind. Verdict: what a text deserves. Laws.
-- For code: HeaderFields, Views, Readers, Feeding, Counts.
pub mod Line
pub mod Views
pub mod Header
pub mod HeaderFields
pub mod Text
pub mod Feeding
pub mod Readers
pub mod Verdict
pub mod Laws
pub mod Counts
