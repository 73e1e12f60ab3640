-- What is promised of the definitions, each file opening with its statement
pub mod Promises
-- What the promises rest on
pub mod Laws
