-- The laws that the proofs share.
mod Sections
mod Appended
mod Numbered
mod Turning
