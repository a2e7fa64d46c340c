-- What is printed, line by line.
-- First the definitions that the contract rests on.
pub mod OutputLimits
pub mod Digits
pub mod ReportLines
pub mod Printing
pub mod Printer
-- how the code comes to its answer
pub mod DigitLaws
pub mod PrintingLaws
pub mod PrinterLaws
