-- What a reader goes by at an operand that is no group, and at one sign after an operand.
pub mod ClassLeads
pub mod OneSign
