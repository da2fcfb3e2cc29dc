-- Laws of a withdrawal's repaint.
pub mod Unpainting
