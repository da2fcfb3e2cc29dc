-- What a site's octets are charged to.
pub mod Charges
