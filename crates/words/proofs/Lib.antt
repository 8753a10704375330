pub mod Table
pub mod Tables
pub mod Laws
pub mod Numbers
