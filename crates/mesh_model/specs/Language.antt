-- The script language.
pub mod Words
pub mod Forms
pub mod Declarations
pub mod Actions
pub mod Grammar
pub mod Commands
pub mod Reasons
pub mod Sample
