-- Laws about the stripes that x lies in.
pub mod Heights
