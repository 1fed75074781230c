mod Least
mod Keeping
mod Links
mod Chains
mod Lookup
mod Removal
mod FreeAddress
