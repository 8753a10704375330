mod Finding
mod Gone
mod Grants
