-- Where a pool's numbers stand (Cells), when it is sound (Sound, and Test as a test), and what stands in its cells after a change (Laid).
-- Links serves the code.
pub mod Cells
pub mod Links
pub mod Sound
pub mod Test
pub mod Laid
