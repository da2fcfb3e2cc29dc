-- That every accepted octet is charged to the hop of the longest live prefix.
pub mod Charging
