-- What a walk gives on a sound pool (Asked), and the ways out that the questions share (Ways).
pub mod Asked
pub mod Ways
