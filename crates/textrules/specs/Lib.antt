-- The rules of docs/RULES.md about texts as definitions, in its order.
pub mod Text
pub mod Programs
pub mod Dump
pub mod Factory
