-- The bench program as one definition, from the bytes in to the bytes out.
pub mod Program
