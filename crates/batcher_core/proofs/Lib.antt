pub mod CodeLemmas
pub mod RunLemmas
pub mod ReportLemmas
