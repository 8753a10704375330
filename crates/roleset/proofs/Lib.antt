pub mod BoundedLaws
pub mod Laws
pub mod MembersLaws
pub mod Taking
mod Machine
