-- The promise of specs/, proved; each file uses only those above it.

-- Items that follow each other so far, and how they could go on
pub mod Prefixes
-- The first bad item of a section
pub mod Sectional
-- Good files, made of items
pub mod Goods
-- The place of the first bad item
pub mod Could
pub mod FirstBad
