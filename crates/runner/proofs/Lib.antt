pub mod SubmittingLaws
pub mod TicketLaws
