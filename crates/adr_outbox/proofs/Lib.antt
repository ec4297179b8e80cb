mod Waiting
mod Failing
mod Leases
mod Further
mod Lost
