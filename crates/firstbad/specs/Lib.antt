pub mod FirstBad
