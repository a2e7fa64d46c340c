-- What a class is: its bytes one after the other as the scanner takes them, its form as the prose has it, and its
-- record.
pub mod Class
pub mod ClassGrammar
pub mod ClassRecord
pub mod ClassRun
pub mod ClassAt
pub mod ClassComplete
pub mod ClassSound
pub mod ClassRecordLaws
pub mod ClassReading
pub mod Members
pub mod ClassItems
