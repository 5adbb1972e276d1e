-- Definitions that contracts cite.
pub mod Records
pub mod Faults
pub mod FaultLaws
pub mod Tables
pub mod ReaderInside
pub mod Standing
pub mod Pieces
pub mod Places
pub mod CutterInside
pub mod Texts
pub mod PrinterInside
