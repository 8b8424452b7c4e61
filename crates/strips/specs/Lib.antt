-- What a rider asks for, and which strip a question is to draw.
pub mod Riding
