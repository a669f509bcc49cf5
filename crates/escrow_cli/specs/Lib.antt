pub use Rattle.certificate_answers.specs.Stopping
pub mod Complaint
