pub mod ByNumber
pub mod SentencesByNumber
pub mod TextLengths
pub mod HandedReady
pub mod FoundTexts
pub mod TablesKnown
pub mod WaysOut
pub mod ReadFiles
