-- What a PAG file means. The section files are named after document 01's sections and follow their sentences.
pub mod Tests
pub mod Bits
pub mod Reading
pub mod Formats
-- The sections.
pub mod Items
pub mod Bodies
pub mod FileAndTags
pub mod TableOfNumbers
pub mod Reasons
-- What is demanded of two levels of one file.
pub mod Levels
-- What blanking opaque bodies may change.
pub mod Blanking
-- Not to be believed, only used: how the bytes of a table are found. Contracts of the writer's inner functions cite these; those of `write` and of the exports do not.
pub mod Possible
pub mod WritingItems
pub mod WritingFormats
pub mod WritingBodies
pub mod WritingFiles
